-- Rules, models and the reduct (document 01, "Verdicts"; document 000, Definition 1). Atoms may be of any type.
use Rattle.std.specs.Prelude.{ℕ, suc, ◌+◌, ◌<◌, List, [], ◌∷◌, map, Bool, true, false, not, ◌&&◌, ◌||◌, length, get_or, take}
use Rattle.rules.specs.Lists.{All, Any, every, some, keep}
use Rattle.rules.specs.Sets.{In, Out}

pub record Rule (A : Type 0) : Type 0 where
  pub head : List A
  pub body : List A
  pub nots : List A

abbrev pub count_if : Bool → ℕ → ℕ
count_if true n = suc n
count_if false n = 0

module _ {A : Type 0} where
  abbrev pub rule : List A → List A → List A → Rule A
  rule h b n = record { head = h; body = b; nots = n }

  -- atom occurrences
  abbrev pub occurrences : Rule A → ℕ
  occurrences r = length r.head + length r.body + length r.nots

  -- a rule with its whole body in and no `not` atom in has some head atom in
  abbrev pub Holds : (A → Bool) → Rule A → Type 0
  Holds m r = All (In m) r.body → All (Out m) r.nots → Any (In m) r.head

  abbrev pub Model : List (Rule A) → (A → Bool) → Type 0
  Model rs m = All (Holds m) rs

  -- i is the number, from 0, of the first rule that does not hold
  pub record FirstBroken (rs : List (Rule A)) (m : A → Bool) (i : ℕ) : Type 0 where
    pub inside : i < length rs
    pub earlier : Model (take i rs) m
    pub broken : Holds m (get_or rs i (rule [] [] [])) → ⊥

  -- the reduct drops each rule with a `not` atom in m and empties the other `not` lists
  abbrev pub reduct : List (Rule A) → (A → Bool) → List (Rule A)
  reduct [] m = []
  reduct (r ∷ rs) m = keep (not (some m r.nots)) (rule r.head r.body []) (reduct rs m)

  -- the tests
  abbrev pub is_holding : (A → Bool) → Rule A → Bool
  is_holding m r = not (every m r.body && not (some m r.nots)) || some m r.head

  abbrev pub is_model : List (Rule A) → (A → Bool) → Bool
  is_model rs m = every (is_holding m) rs

  -- the rules before the first broken one: all of them in a model
  abbrev pub first_broken : List (Rule A) → (A → Bool) → ℕ
  first_broken [] m = 0
  first_broken (r ∷ rs) m = count_if (is_holding m r) (first_broken rs m)

-- a rule with other atoms
abbrev pub rename : {A B : Type 0} → (A → B) → Rule A → Rule B
rename f r = rule (map f r.head) (map f r.body) (map f r.nots)
