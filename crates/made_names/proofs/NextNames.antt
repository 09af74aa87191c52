-- The next names, looked up one by one.
use Prim.Native.Nat.{ℕ, zero, suc, ◌+◌, ◌-◌, ◌^◌, ◌≤◌, ◌<◌, min}
use native.Mathlib.Numerals.{add-one}
use native.Mathlib.Omega.{arith}
use mathlib.Core.Path.{◌≡◌, refl, sym, ap, ap₂, ◌∙◌, subst}
use mathlib.Core.Bool.{Bool, true, false, ◌||◌}
use mathlib.Core.List.{List, [], ◌∷◌}
use lib.Dec.{T}
use lib.ListN.{length, take}
use Rattle.kinds.specs.Limits.{atom_limit}
use Rattle.kinds.specs.declared.limits.Kind.TheVariants.{Preference}
use Rattle.rules.specs.Lists.{All, some, from}
use Rattle.rules.proofs.Booleans.{is_true_lem, is_false, or-false, T-not-out}
use Rattle.rules.proofs.Lists.{some_app, from_append}
use Rattle.names.specs.Names.{made_name, takes, allowed}
use Rattle.names.proofs.MadeNames.{made_past}
use Rattle.name_store.specs.NameStore.{same_bytes, among}
use Rattle.name_store.specs.NameIndex.{found}
use Rattle.std.specs.Prelude.{Option, Some, None, is_some}
use Rattle.name_store.proofs.NameStores.{same_equal, not_seen}
use Rattle.name_store.proofs.NameChains.{missing_differs, found_among}
use Rattle.output.specs.Emitted.{Emitted}
use Rattle.output.proofs.Emitting.{front_inside, front_is}
use Rattle.made_names.proofs.NamesPut.{name_short}

-- one name

module _ (t : ℕ) {d after : List ℕ} {size : ℕ} (e : Emitted d 0 (made_name t) after size) (room : length d ≡ 22) where
  pub name_inside : size ≤ length after
  name_inside = front_inside e (omega (arith, name_short t))

  module _ (names : List (List ℕ)) {r : Option ℕ} (is : r ≡ found (take size after) names) where
    looked_up : r ≡ found (made_name t) names
    looked_up = is ∙ ap (λ x. found x names) (front_is e (omega (arith, name_short t)))

    declared : {j : ℕ} → r ≡ Some j → true ≡ among names (made_name t)
    declared f = sym (is_true_lem (among names (made_name t)) (found_among (made_name t) 0 names (sym looked_up ∙ f)))

    undeclared : r ≡ None → false ≡ among names (made_name t)
    undeclared f = sym (is_false (among names (made_name t)) (T-not-out (among names (made_name t)) ((not_seen (made_name t) names).1 (missing_differs (made_name t) 0 names (sym looked_up ∙ f)))))

    pub looked : is_some r ≡ among names (made_name t)
    looked = go r refl
      where
        go : (o : Option ℕ) → r ≡ o → is_some o ≡ among names (made_name t)
        go (Some j) f = declared f
        go None f = undeclared f

-- the numbers after those made

pub record Looking (p : ℕ → Bool) (made count last number : ℕ) : Type 0 where
  pub past : number ≤ suc last
  pub left : some p (from number (suc last - number)) ≡ some p (from (suc made) count)

module _ {p : ℕ → Bool} {made count last number : ℕ} (h : Looking p made count last number) where
  pub none_found : last < number → false ≡ some p (from (suc made) count)
  none_found l = let e : 0 ≡ suc last - number = omega arith in ap (λ k. some p (from number k)) e ∙ h.left

  module _ (l : number ≤ last) where
    ahead : (p number || some p (from (number + 1) (suc last - (number + 1)))) ≡ some p (from (suc made) count)
    ahead =
        let e : suc (suc last - (number + 1)) ≡ suc last - number = omega arith in
        ap (λ k. p number || some p (from k (suc last - (number + 1)))) (add-one number) ∙ ap (λ k. some p (from number k)) e ∙ h.left

    pub one_found : p number ≡ true → true ≡ some p (from (suc made) count)
    one_found e = ap (λ b. b || some p (from (number + 1) (suc last - (number + 1)))) (sym e) ∙ ahead

    pub look_again : p number ≡ false → Looking p made count last (number + 1)
    look_again e = record { past = omega arith; left = ap (λ b. b || some p (from (number + 1) (suc last - (number + 1)))) (sym e) ∙ ahead }

none_from : (p : ℕ → Bool) (s c : ℕ) → ((t : ℕ) → s ≤ t → t < s + c → p t ≡ false) → some p (from s c) ≡ false
none_from p s zero f = refl
none_from p s (suc c) f = ap₂ ◌||◌ (f s (omega arith) (omega arith)) (none_from p (suc s) c (λ t l u. f t (omega arith) (omega arith)))

-- no number past the limit is looked for
pub look_first : {p : ℕ → Bool} {made count last : ℕ} → last ≡ min (made + count) (atom_limit Preference) → made ≤ atom_limit Preference
    → ((t : ℕ) → atom_limit Preference < t → t ≤ made + count → p t ≡ false) → Looking p made count last (made + 1)
look_first {p} {made} {count} {last} e m f =
    let c : suc last - (made + 1) ≡ last - made = omega arith in
    let all : last - made + (made + count - last) ≡ count = omega arith in
    record {
      past = omega arith;
      left =
          ap₂ (λ k j. some p (from k j)) (add-one made) c
          ∙ sym (or-false (some p (from (suc made) (last - made))))
          ∙ ap (λ b. some p (from (suc made) (last - made)) || b) (sym (none_from p (suc made + (last - made)) (made + count - last) (λ t l u. f t (omega arith) (omega arith))))
          ∙ sym (some_app p (from (suc made) (last - made)) (from (suc made + (last - made)) (made + count - last)))
          ∙ ap (some p) (from_append (suc made) (last - made) (made + count - last) ∙ ap (from (suc made)) all);
    }

-- a name that is not allowed is not declared
pub not_among : (x : List ℕ) → (T (allowed Preference x) → ⊥) → (names : List (List ℕ)) → All (λ y. T (allowed Preference y)) names → among names x ≡ false
not_among x f [] h = refl
not_among x f (y ∷ names) h = ap₂ ◌||◌ (is_false (same_bytes x y) (λ t. f (subst (λ z. T (allowed Preference z)) (sym (same_equal x y t)) h.0))) (not_among x f names h.1)

-- no name has a number past the limit
pub past_limit : (names : List (List ℕ)) {made count : ℕ} → All (λ x. T (allowed Preference x)) names → made ≤ atom_limit Preference → count < 2 ^ 32
    → (t : ℕ) → atom_limit Preference < t → t ≤ made + count → among names (made_name t) ≡ false
unfolding allowed
past_limit names h m c t l u = not_among (made_name t) (λ a. subst (λ k. T (takes Preference k)) (made_past t l (omega arith)) a) names h
