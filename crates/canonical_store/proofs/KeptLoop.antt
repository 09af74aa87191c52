-- The loop that writes the rules of sorted entries, one of equal ones.
use Prim.Native.Nat.{ℕ, suc, ◌+◌, ◌-◌, ◌<◌, ◌≤◌}
use mathlib.Core.Path.{◌≡◌, refl, sym, ap, ap₂, ◌∙◌, subst}
use mathlib.Core.Bool.{Bool, true, false, not}
use mathlib.Core.List.{List, [], ◌∷◌, ◌++◌, map}
use native.Mathlib.Omega.{arith}
use native.Mathlib.Numerals.{add-one}
use lib.ListN.{length, get_or, take, drop, drop_of_length-le, length-append, length-drop}
use lib.Seq.{drop-cons, drop-drop, take-add, length-take-le}
use Rattle.rules.specs.Lists.{keep, flat}
use Rattle.rules.specs.Rules.{Rule}
use Rattle.rules.proofs.Lists.{all_at}
use Rattle.stores.specs.RuleStore.{rule_words}
use Rattle.output.specs.Emitted.{Emitted, InRange}
use Rattle.output.proofs.Emitting.{Ahead, Emitting, start, then, renamed, turn, finish, range_here}
use Rattle.canonical.specs.Order.{unless, once}
use Rattle.canonical.specs.Canonical.{compare_rules}
use Rattle.std.specs.Bool.{◌==◌}
use Rattle.std.specs.Ordering.{ordering_index}
use Rattle.std.specs.declared.cmp.Ordering.{Ordering}
use Rattle.std.specs.declared.cmp.Ordering.TheVariants.{Less, Equal, Greater}
use Rattle.rule_sort.specs.declared.comparing.Parts.{Parts}
use Rattle.rule_sort.specs.RuleOrder.{entry_rule, parts_rule, PartsOf}
use Rattle.digit_sort.specs.Digits.{key_of}
use Rattle.rule_keys.specs.RuleKey.{Keyed}
use Rattle.entry_sort.specs.EqualKeys.{KeyedEntries}
use Rattle.entry_sort.proofs.EqualRuns.{keys_tell}
use Rattle.canonical_store.specs.KeptRules.{kept_rules, is_kept, differs, WrittenRules}

-- one entry

kept_step : (ws : List ℕ) (x : ℕ) (l : List ℕ) → kept_rules ws (x ∷ l) ≡ keep (is_kept ws (x ∷ l)) (entry_rule ws x) (kept_rules ws l)
unfolding kept_rules is_kept
kept_step ws x [] = refl
kept_step ws x (y ∷ l) = step (compare_rules (entry_rule ws x) (entry_rule ws y))
  where
    step : (q : Ordering) → unless q (entry_rule ws x) (once compare_rules (map (entry_rule ws) (y ∷ l))) ≡ keep (differs q) (entry_rule ws x) (once compare_rules (map (entry_rule ws) (y ∷ l)))
    step Less = refl
    step Equal = refl
    step Greater = refl

pub kept_fewer : (ws l : List ℕ) → length (kept_rules ws l) ≤ length l
unfolding kept_rules
kept_fewer ws [] = omega arith
kept_fewer ws (x ∷ []) = omega arith
kept_fewer ws (x ∷ y ∷ l) = step (compare_rules (entry_rule ws x) (entry_rule ws y)) (kept_fewer ws (y ∷ l))
  where
    step : (q : Ordering) → length (once compare_rules (map (entry_rule ws) (y ∷ l))) ≤ suc (length l) → length (unless q (entry_rule ws x) (once compare_rules (map (entry_rule ws) (y ∷ l)))) ≤ suc (suc (length l))
    step Less h = omega arith
    step Equal h = omega arith
    step Greater h = omega arith

-- what the library's `!=` answers
ne_differs : (c : Ordering) → not (ordering_index c == 1) ≡ differs c
ne_differs Less = refl
ne_differs Equal = refl
ne_differs Greater = refl

module _ (ws order : List ℕ) (i : ℕ) where
  pub last_kept : i < length order → length order ≤ i + 1 → true ≡ is_kept ws (drop i order)
  unfolding is_kept
  last_kept h k =
      let l : length order ≤ suc i = omega arith in
      sym (ap (is_kept ws) (drop-cons order i 0 h ∙ ap (λ (r : List ℕ). get_or order i 0 ∷ r) (drop_of_length-le order l)))

  module _ (h : i + 1 < length order) where
    two_left : drop i order ≡ get_or order i 0 ∷ get_or order (i + 1) 0 ∷ drop (suc (suc i)) order
    two_left =
        let l : i < length order = omega arith in
        let k : suc i < length order = omega arith in
        drop-cons order i 0 l
        ∙ ap (λ (r : List ℕ). get_or order i 0 ∷ r) (drop-cons order (suc i) 0 k)
        ∙ ap (λ (n : ℕ). get_or order i 0 ∷ get_or order n 0 ∷ drop (suc (suc i)) order) (sym (add-one i))

    pub told : {c : Ordering} → c ≡ compare_rules (entry_rule ws (get_or order i 0)) (entry_rule ws (get_or order (i + 1) 0)) → not (ordering_index c == 1) ≡ is_kept ws (drop i order)
    unfolding is_kept
    told {c} e = ne_differs c ∙ ap differs e ∙ sym (ap (is_kept ws) two_left)

    pub keys_differ : KeyedEntries ws order → (key_of (get_or order i 0) ≡ key_of (get_or order (i + 1) 0) → ⊥) → true ≡ is_kept ws (drop i order)
    unfolding is_kept
    keys_differ k f = sym (apart (compare_rules (entry_rule ws (get_or order i 0)) (entry_rule ws (get_or order (i + 1) 0))) (keys_tell (at i (omega arith)) (at (i + 1) h) f)) ∙ sym (ap (is_kept ws) two_left)
      where
        at : (j : ℕ) → j < length order → Keyed k.digits ws (get_or order j 0)
        at j l = all_at (Keyed k.digits ws) 0 order k.all j l

        apart : (c : Ordering) → (c ≡ Equal → ⊥) → differs c ≡ true
        apart Less g = refl
        apart Equal g = absurd (g refl)
        apart Greater g = refl

-- the words of one rule: its counts and its lists
pub rule_ahead : {ws : List ℕ} {r : Rule ℕ} {p : Parts} → PartsOf ws r p → Ahead (rule_words r) (p.heads ∷ p.bodies ∷ p.nots ∷ []) (take (p.at + p.heads + p.bodies + p.nots - p.at) (drop p.at ws))
unfolding parts_rule
rule_ahead {ws} {r} {p} h =
    let l = drop p.at ws in
    let b : ℕ = p.at + p.heads in
    let n : ℕ = b + p.bodies in
    let inside = h.inside in
    let one : length (take p.heads l) ≡ p.heads = length-take-le p.heads l (omega (arith, length-drop p.at ws)) in
    let two : length (take p.bodies (drop b ws)) ≡ p.bodies = length-take-le p.bodies (drop b ws) (omega (arith, length-drop b ws)) in
    let three : length (take p.nots (drop n ws)) ≡ p.nots = length-take-le p.nots (drop n ws) (omega (arith, length-drop n ws)) in
    let sum : p.heads + (p.bodies + p.nots) ≡ n + p.nots - p.at = omega arith in
    let lists : take p.heads l ++ (take p.bodies (drop b ws) ++ take p.nots (drop n ws)) ≡ take (n + p.nots - p.at) l =
    ap₂ (λ (x y : List ℕ). take p.heads l ++ (take p.bodies x ++ take p.nots y)) (sym (drop-drop p.heads p.at ws)) (sym (drop-drop p.bodies b ws) ∙ ap (drop p.bodies) (sym (drop-drop p.heads p.at ws)))
    ∙ ap (λ (x : List ℕ). take p.heads l ++ x) (sym (take-add p.bodies p.nots (drop p.heads l)))
    ∙ sym (take-add p.heads (p.bodies + p.nots) l)
    ∙ ap (λ (k : ℕ). take k l) sum in
    record { is = sym (ap rule_words h.gives) ∙ (λ i. one i ∷ two i ∷ three i ∷ lists i) }

-- two runs that are the whole
module _ {whole run rest : List ℕ} (a : Ahead whole run rest) {d d₁ : List ℕ} {at at₁ : ℕ} (p : Emitted d at run d₁ at₁) where
  pub rest_range : InRange at whole → InRange at₁ rest
  rest_range r = record { below = omega (arith, r.below, p.place, ap length a.is ∙ length-append run rest) }

  pub both_runs : {d₂ : List ℕ} {at₂ : ℕ} → Emitted d₁ at₁ rest d₂ at₂ → Emitted d at whole d₂ at₂
  both_runs q = renamed (then p q) (sym a.is)

-- all entries from i on are left
pub record Keeping (ws order before : List ℕ) (at : ℕ) (now : List ℕ) (next rules i : ℕ) : Type 0 where
  pub few : i ≤ length order
  pub so : Emitting (flat rule_words (kept_rules ws order)) before at (flat rule_words (kept_rules ws (drop i order))) now next
  pub count : rules + length (kept_rules ws (drop i order)) ≡ length (kept_rules ws order)

pub begins : (ws order before : List ℕ) (at : ℕ) → InRange at (flat rule_words (kept_rules ws order)) → Keeping ws order before at before at 0 0
begins ws order before at h = record { few = omega arith; so = start h; count = omega arith }

module _ {ws order before : List ℕ} {at : ℕ} {now : List ℕ} {next rules i : ℕ} (h : Keeping ws order before at now next rules i) where
  module _ (l : i < length order) {b : Bool} (k : b ≡ is_kept ws (drop i order)) where
    here : kept_rules ws (drop i order) ≡ keep b (entry_rule ws (get_or order i 0)) (kept_rules ws (drop (i + 1) order))
    here =
        let e : drop i order ≡ get_or order i 0 ∷ drop (suc i) order = drop-cons order i 0 l in
        ap (kept_rules ws) e
        ∙ kept_step ws (get_or order i 0) (drop (suc i) order)
        ∙ ap₂ (λ (t : Bool) (n : ℕ). keep t (entry_rule ws (get_or order i 0)) (kept_rules ws (drop n order))) (sym (k ∙ ap (is_kept ws) e)) (sym (add-one i))

    ahead : b ≡ true → Ahead (flat rule_words (kept_rules ws (drop i order))) (rule_words (entry_rule ws (get_or order i 0))) (flat rule_words (kept_rules ws (drop (i + 1) order)))
    ahead t = record { is = ap (flat rule_words) (here ∙ ap (λ (s : Bool). keep s (entry_rule ws (get_or order i 0)) (kept_rules ws (drop (i + 1) order))) t) }

    pub range : b ≡ true → InRange next (rule_words (entry_rule ws (get_or order i 0)))
    range t = range_here h.so (ahead t)

    pub keeps : b ≡ true → {now' : List ℕ} {next' : ℕ} → Emitted now next (rule_words (entry_rule ws (get_or order i 0))) now' next' → Keeping ws order before at now' next' (rules + 1) (i + 1)
    keeps t p = record {
      few = omega arith;
      so = turn h.so (ahead t) p;
      count = let e = ap length (here ∙ ap (λ (s : Bool). keep s (entry_rule ws (get_or order i 0)) (kept_rules ws (drop (i + 1) order))) t) in let f = h.count in omega arith;
    }

    pub skips : b ≡ false → Keeping ws order before at now next rules (i + 1)
    skips t =
        let e = here ∙ ap (λ (s : Bool). keep s (entry_rule ws (get_or order i 0)) (kept_rules ws (drop (i + 1) order))) t in
        record {
          few = omega arith;
          so = subst (λ (left : List (Rule ℕ)). Emitting (flat rule_words (kept_rules ws order)) before at (flat rule_words left) now next) e h.so;
          count = ap (λ (left : List (Rule ℕ)). rules + length left) (sym e) ∙ h.count;
        }

  pub counted : rules ≤ length order
  counted = let e = h.count in omega (arith, kept_fewer ws order)

  pub ended : length order ≤ i → WrittenRules before at (kept_rules ws order) now (record { next = next; rules = rules })
  unfolding kept_rules
  ended l =
      let none : drop i order ≡ [] = drop_of_length-le order l in
      record {
        words = finish h.so (ap (λ (left : List ℕ). flat rule_words (kept_rules ws left)) none);
        count = let e = ap (λ (left : List ℕ). length (kept_rules ws left)) none in let f = h.count in omega arith;
      }
