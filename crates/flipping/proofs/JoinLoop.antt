-- Two rising lists of rules joined, rule by rule.
use Prim.Native.Nat.{ℕ, suc, ◌-◌, ◌≤◌, ◌<◌, min}
use native.Mathlib.Omega.{arith}
use mathlib.Core.Path.{◌≡◌, refl, sym, ap, ap₂, ◌∙◌, subst}
use mathlib.Core.Bool.{Bool, true, false, not, cond}
use mathlib.Core.List.{List, [], ◌∷◌, ◌++◌}
use lib.ListN.{length, get_or, take, drop, length-drop}
use borrow.Author.Tests.{not-true, not-false}
use Rattle.kinds.specs.Limits.{walk_atoms, rule_limit}
use Rattle.kinds.specs.declared.limits.Kind.TheVariants.{Plain}
use Rattle.rules.specs.Lists.{keep}
use Rattle.rules.specs.Rules.{Rule}
use Rattle.rules.proofs.Lists.{part_rest}
use Rattle.stores.specs.RuleStore.{rule_at}
use Rattle.stores.specs.StoredRules.{StoredRule}
use Rattle.output.specs.Emitted.{Emitted, InRange}
use Rattle.output.proofs.Emitting.{none, renamed, range_renamed, Ahead, Emitting, start, turn, finish, range_here}
use Rattle.restriction.specs.Atoms.{is_member}
use Rattle.rule_index.specs.Flip.{is_broken, is_rising}
use Rattle.rule_index.specs.Meanings.{numbered}
use Rattle.rule_index.specs.Places.{PlaceOf}
use Rattle.rule_index.proofs.RuleNumbers.{numbers_few}
use Rattle.flipping.specs.Joined.{is_kept, joined, is_leading, behind}
use Rattle.flipping.proofs.RuleRuns.{numbers_from, numbers_step, numbers_end, numbers_gap}
use Rattle.flipping.proofs.RisingTails.{Tail, whole_tail, tail_low, tail_high, tail_none, tail_from, tail_leads, tail_behind, first_left, first_leads, not_first}

-- a rule's number where it is kept
module _ (m : ℕ) {at : ℕ} {b : Bool} where
  pub put_range : b ≡ true → InRange at (keep b m []) → InRange at (m ∷ [])
  put_range e h = range_renamed h (ap (λ (t : Bool). keep t m []) e)

  pub put_there : {d d' : List ℕ} {next : ℕ} → b ≡ true → Emitted d at (m ∷ []) d' next → Emitted d at (keep b m []) d' next
  put_there e p = renamed p (ap (λ (t : Bool). keep t m []) (sym e))

  pub put_nothing : {d : List ℕ} → b ≡ false → Emitted d at (keep b m []) d at
  put_nothing e = renamed none (ap (λ (t : Bool). keep t m []) (sym e))

-- the rule at its place
module _ {ws : List ℕ} {r : Rule ℕ} {at : ℕ} (p : PlaceOf walk_atoms ws r at) where
  pub place_inside : at < length ws
  place_inside = omega (arith, p.stored.inside, length-drop at ws)

  pub rule_stored : StoredRule walk_atoms (take (length ws - at) (drop at ws))
  rule_stored = subst (StoredRule walk_atoms) (sym (part_rest at ws)) p.stored

  module _ (set m : ℕ) (own : List ℕ) {b : Bool} (e : b ≡ is_leading m own) where
    pub not_own : not b ≡ true → true ≡ cond (is_leading m own) (is_broken set r) true
    not_own n = ap (λ (t : Bool). cond t (is_broken set r) true) (sym (not-true b n) ∙ e)

    pub own_kept : not b ≡ false → {y : Bool} → y ≡ is_broken set (rule_at (take (length ws - at) (drop at ws))) → y ≡ cond (is_leading m own) (is_broken set r) true
    own_kept n q =
        q ∙ ap (λ (l : List ℕ). is_broken set (rule_at l)) (part_rest at ws) ∙ ap (is_broken set) p.is
        ∙ ap (λ (t : Bool). cond t (is_broken set r) true) (sym (not-false b n) ∙ e)

-- of r rules those before b are passed
pub record Passed (rs : List (Rule ℕ)) (list own : List ℕ) (set r : ℕ) (before now : List ℕ) (i j at b : ℕ) : Type 0 where
  pub count : length rs ≡ r
  pub few : r ≤ rule_limit Plain
  pub bound : b ≤ r
  pub listed : Tail r b list (drop i list)
  pub owned : Tail r b own (drop j own)
  pub so : Emitting (joined rs list own set) before 0 (numbers_from (is_kept list own set) rs b) now at

-- and the next rule is the first of either list
pub record Joining (rs : List (Rule ℕ)) (list own : List ℕ) (set r : ℕ) (before now : List ℕ) (i j at m : ℕ) : Type 0 where
  pub here : Passed rs list own set r before now i j at m
  pub least : m ≡ min (get_or list i r) (get_or own j r)

pub begins : {rs : List (Rule ℕ)} {list own : List ℕ} {set r : ℕ} {before : List ℕ} → length rs ≡ r → r ≤ rule_limit Plain → is_rising 0 r list ≡ true → is_rising 0 r own ≡ true
    → Passed rs list own set r before before 0 0 0 0
unfolding joined
begins {rs} {list} {own} {set} count few l o =
    record { count = count; few = few; bound = omega arith; listed = whole_tail l; owned = whole_tail o; so = start (record { below = omega (arith, numbers_few (is_kept list own set) 0 rs) }) }

module _ {rs : List (Rule ℕ)} {list own : List ℕ} {set r : ℕ} {before now : List ℕ} {i j at b : ℕ} (h : Passed rs list own set r before now i j at b)
    {m : ℕ} (e : m ≡ min (get_or list i r) (get_or own j r)) where
  listed_first : m ≤ get_or (drop i list) 0 r
  listed_first = omega (arith, first_left list i r)

  owned_first : m ≤ get_or (drop j own) 0 r
  owned_first = omega (arith, first_left own j r)

  pub not_before : b ≤ m
  not_before = omega (arith, first_left list i r, first_left own j r, tail_low h.listed h.bound, tail_low h.owned h.bound)

  none_between : (k : ℕ) → b ≤ k → k < m → is_kept list own set k (numbered rs k) ≡ false
  none_between k l u =
      ap (λ (t : Bool). cond t (is_broken set (numbered rs k)) (is_member list k)) (tail_none h.owned k l (omega (arith, owned_first)))
      ∙ tail_none h.listed k l (omega (arith, listed_first))

  inside : m ≤ r
  inside = omega (arith, listed_first, tail_high h.listed)

  pub reached : Joining rs list own set r before now i j at m
  reached = record {
    here = record {
      count = h.count;
      few = h.few;
      bound = inside;
      listed = tail_from h.listed m not_before listed_first;
      owned = tail_from h.owned m not_before owned_first;
      so =
          subst (λ (left : List ℕ). Emitting (joined rs list own set) before 0 left now at)
          (numbers_gap (is_kept list own set) rs (m - b) b m (omega (arith, not_before)) (omega (arith, inside, h.count)) none_between) h.so;
    };
    least = e;
  }

keep_front : (t : Bool) (x : ℕ) (xs : List ℕ) → keep t x xs ≡ keep t x [] ++ xs
keep_front true x xs = refl
keep_front false x xs = refl

module _ {rs : List (Rule ℕ)} {list own : List ℕ} {set r : ℕ} {before now : List ℕ} {i j at m : ℕ} (h : Joining rs list own set r before now i j at m) where
  pub ended : r ≤ m → Emitted before 0 (joined rs list own set) now at
  ended l = finish h.here.so (numbers_end (is_kept list own set) rs m (omega (arith, h.here.count)))

  module _ (l : m < r) {b : Bool} (e : b ≡ cond (is_leading m (drop j own)) (is_broken set (numbered rs m)) true) where
    -- the first of either list that is no own one is the list's
    test_is : is_kept list own set m (numbered rs m) ≡ b
    test_is =
        ap₂ (λ (s t : Bool). cond s (is_broken set (numbered rs m)) t) (tail_leads h.here.owned) (tail_leads h.here.listed)
        ∙ step (is_leading m (drop j own)) (is_leading m (drop i list)) refl refl ∙ sym e
      where
        step : (o s : Bool) → is_leading m (drop j own) ≡ o → is_leading m (drop i list) ≡ s → cond o (is_broken set (numbered rs m)) s ≡ cond o (is_broken set (numbered rs m)) true
        step true s p q = refl
        step false s p q =
            let other = not_first m r (drop j own) l p in
            sym q ∙ first_leads m r (drop i list) l (omega (arith, h.least, first_left list i r, first_left own j r, other))

    ahead : Ahead (numbers_from (is_kept list own set) rs m) (keep b m []) (numbers_from (is_kept list own set) rs (suc m))
    ahead = record {
      is =
          numbers_step (is_kept list own set) rs m (omega (arith, h.here.count))
          ∙ ap (λ (t : Bool). keep t m (numbers_from (is_kept list own set) rs (suc m))) test_is
          ∙ keep_front b m (numbers_from (is_kept list own set) rs (suc m));
    }

    pub put_ready : (m < 65536) × InRange at (keep b m [])
    put_ready = (omega (arith, h.here.few), range_here h.here.so ahead)

    pub goes_past : {now' : List ℕ} {at' : ℕ} → Emitted now at (keep b m []) now' at' → (i' j' : ℕ) → drop i' list ≡ behind m (drop i list) → drop j' own ≡ behind m (drop j own)
        → Passed rs list own set r before now' i' j' at' (suc m)
    goes_past p i' j' f g =
        record { count = h.here.count; few = h.here.few; bound = omega arith; listed = tail_behind h.here.listed f; owned = tail_behind h.here.owned g; so = turn h.here.so ahead p }
