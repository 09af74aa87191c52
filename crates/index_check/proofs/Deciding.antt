-- The answer of each test, for the question whether the words are the index of the rules.
use Prim.Native.Nat.{ℕ, zero, suc, ◌+◌, ◌≤◌, ◌<◌}
use native.Mathlib.Omega.{arith}
use mathlib.Core.Path.{◌≡◌, sym, ap, subst, ◌∙◌}
use mathlib.Core.Logic.{◌↔◌}
use mathlib.Core.Bool.{Bool, true, false, not}
use mathlib.Core.List.{List}
use lib.Dec.{T, eqb, eqb→eq}
use lib.ListN.{length, get_or, drop}
use borrow.Author.Tests.{not-true, not-false}
use Rattle.rules.specs.Lists.{All}
use Rattle.rules.specs.Rules.{Rule}
use Rattle.rules.proofs.Booleans.{T_of, bool_ext, is_false, eq_to_eqb}
use Rattle.rules.proofs.Lists.{every_from}
use Rattle.stores.specs.RuleStore.{places, rules_from}
use Rattle.stores.specs.StoredRules.{StoredRules}
use Rattle.stores.proofs.RuleStores.{rules_count}
use Rattle.name_store.specs.NameStore.{same_bytes as same_words}
use Rattle.restriction.specs.Atoms.{atoms_of}
use Rattle.restriction.proofs.RuleAtoms.{front_below}
use Rattle.rule_index.specs.Index.{index}
use Rattle.rule_index.specs.Places.{list_at, Placed}
use Rattle.index_check.specs.Lists.{entry_at, are_all_listed, is_all_read, Lists, Read}
use Rattle.index_check.proofs.Passing.{apart}
use Rattle.index_check.proofs.SameIndex.{same_whole, same_listed, same_read, tests_same}

rules_below : (n count : ℕ) (words : List ℕ) → StoredRules n count words → All (λ r. All (λ a. a < n) (atoms_of r)) (rules_from count words)
unfolding rules_from
rules_below n zero words s = tt
rules_below n (suc c) words s = (front_below s.0, rules_below n c (drop (3 + places words) words) s.1)

read_law : (next ends : List ℕ) → T (is_all_read next ends) ↔ ((a : ℕ) → 0 ≤ a → a < 0 + length next → get_or next a 0 ≡ get_or ends a 0)
unfolding is_all_read
read_law next ends = every_from (λ a. eqb (get_or next a 0) (get_or ends a 0)) (λ a. get_or next a 0 ≡ get_or ends a 0) (λ a. (eqb→eq (get_or next a 0) (get_or ends a 0), eq_to_eqb (get_or next a 0) (get_or ends a 0))) 0 (length next)

-- a test that the index passes fails
fails : {r t : Bool} (q : Bool) → r ≡ t → not r ≡ true → (T q → T t) → false ≡ q
fails {r} q e f g = sym (is_false q (λ h. T_of (sym e ∙ not-true r f) (g h)))

module _ (words : List ℕ) (count : ℕ) (ws next₀ : List ℕ) where
  abbrev n : ℕ
  n = length next₀

  abbrev rs : List (Rule ℕ)
  rs = rules_from count words

  -- what is answered, and the places that the rules then have
  abbrev Answer : List ℕ → Bool → Type 0
  Answer starts r = (r ≡ same_words ws (index n rs)) × (r ≡ true → Placed n count words starts)

  pub not_found : {r : Bool} {starts : List ℕ} → r ≡ eqb (list_at ws n) (length ws) → not r ≡ true → Answer starts false
  not_found e f = (fails (same_words ws (index n rs)) e f (λ h. eq_to_eqb (list_at ws n) (length ws) (same_whole ws n rs h)), λ t. absurd (apart t))

  pub not_listed : StoredRules n count words → {r : Bool} {starts : List ℕ} → r ≡ are_all_listed ws rs → not r ≡ true → Answer starts false
  not_listed s e f = (fails (same_words ws (index n rs)) e f (λ h. same_listed ws n rs h (rules_below n count words s)), λ t. absurd (apart t))

  module _ {next₁ ends : List ℕ} (l₁ : length next₁ ≡ n) where
    pub listed_ready : StoredRules n count words × (count < 65535) → {r : Bool} → not r ≡ false → (r ≡ true → Lists ws next₁ ends) → StoredRules (length next₁) count words × (count < 65535) × Lists ws next₁ ends
    listed_ready s {r} f k = (subst (λ (m : ℕ). StoredRules m count words) (sym l₁) s.0, s.1, k (not-false r f))

    pub all_decided : {next₂ starts : List ℕ} → length next₂ ≡ length next₁ → {x y r : Bool}
        → not x ≡ false → (x ≡ true → Lists ws next₁ ends) → not y ≡ false → y ≡ are_all_listed ws rs → (y ≡ true → Read ws rs count next₂) × (y ≡ true → Placed (length next₁) count words starts) → r ≡ is_all_read next₂ ends → Answer starts r
    all_decided {next₂} {starts} l₂ {x} {y} {r} fx kx fy ey ky e = (
      e ∙ bool_ext (is_all_read next₂ ends) (same_words ws (index n rs)) there back,
      λ t. subst (λ (m : ℕ). Placed m count words starts) l₁ (ky.1 (not-false y fy)),
    )
      where
        lists : Lists ws next₁ ends
        lists = kx (not-false x fx)

        next : (a : ℕ) → a < n → get_or next₂ a 0 ≡ entry_at ws rs (length rs) a
        next a u = (ky.0 (not-false y fy)).place a (omega arith) ∙ ap (λ (i : ℕ). entry_at ws rs i a) (sym (rules_count count words))

        end : (a : ℕ) → a < n → get_or ends a 0 ≡ list_at ws (suc a)
        end a u = lists.end a (omega arith)

        there : T (is_all_read next₂ ends) → T (same_words ws (index n rs))
        there h = tests_same ws n rs (ap (list_at ws) (sym l₁) ∙ lists.whole) (T_of (sym (not-false y fy) ∙ ey) tt) (λ a u. sym (next a u) ∙ (read_law next₂ ends).0 h a (omega arith) (omega arith) ∙ end a u)

        back : T (same_words ws (index n rs)) → T (is_all_read next₂ ends)
        back h = (read_law next₂ ends).1 (λ a o u. let v : a < n = omega arith in next a v ∙ same_read ws n rs h a v ∙ sym (end a v))
