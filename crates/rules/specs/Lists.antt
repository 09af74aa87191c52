-- What holds of every entry of a list or of some entry, and lists made from lists.
use Rattle.std.specs.Coded.{×_prop, Unit-prop}
use Rattle.std.specs.List.{list_all, list_any}
use Rattle.std.specs.Prelude.{ℕ, zero, suc, ◌+◌, List, [], ◌∷◌, ◌++◌, Bool, true, false, ◌&&◌, ◌||◌, ◌⊎◌, ◌≢◌, length, drop}

module _ {A : Type 0} where
  abbrev pub All : (A → Type 0) → List A → Type 0
  All P [] = Unit {0}
  All P (x ∷ xs) = P x × All P xs

  abbrev pub Any : (A → Type 0) → List A → Type 0
  Any P [] = ⊥
  Any P (x ∷ xs) = P x ⊎ Any P xs

  -- no entry twice
  abbrev pub Distinct : List A → Type 0
  Distinct [] = Unit {0}
  Distinct (x ∷ xs) = All (λ y. x ≢ y) xs × Distinct xs

  pub All-prop : {P : A → Type 0} → ((x : A) → IsProp (P x)) → (xs : List A) → IsProp (All P xs)
  All-prop h [] = Unit-prop
  All-prop h (x ∷ xs) = ×_prop (h x) (All-prop h xs)

  pub Distinct-prop : (xs : List A) → IsProp (Distinct xs)
  Distinct-prop [] = Unit-prop
  Distinct-prop (x ∷ xs) = ×_prop (All-prop (λ y. Prim.hlevel) xs) (Distinct-prop xs)

  -- the tests
  abbrev pub every : (A → Bool) → List A → Bool
  every p xs = list_all p xs

  abbrev pub some : (A → Bool) → List A → Bool
  some p xs = list_any p xs

  abbrev pub is_empty : List A → Bool
  is_empty [] = true
  is_empty (x ∷ xs) = false

  abbrev pub keep : Bool → A → List A → List A
  keep true x xs = x ∷ xs
  keep false x xs = xs

  abbrev pub filter : (A → Bool) → List A → List A
  filter p [] = []
  filter p (x ∷ xs) = keep (p x) x (filter p xs)

  abbrev pub sum : (A → ℕ) → List A → ℕ
  sum f [] = 0
  sum f (x ∷ xs) = f x + sum f xs

abbrev pub flat : {A B : Type 0} → (A → List B) → List A → List B
flat f [] = []
flat f (x ∷ xs) = f x ++ flat f xs

-- s, s + 1, ..: c of them
abbrev pub from : ℕ → ℕ → List ℕ
from s zero = []
from s (suc c) = s ∷ from (suc s) c

-- what is written stands at the front; the entries past it keep their content
abbrev pub over : List ℕ → List ℕ → List ℕ
over w before = w ++ drop (length w) before
