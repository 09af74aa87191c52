-- A call without fault: an atom's own rules in the index, and the joined lists are the answer.
use Prim.Native.Nat.{ℕ, suc, ◌+◌, ◌-◌, ◌^◌, ◌≤◌, ◌<◌}
use native.Mathlib.Omega.{arith}
use mathlib.Core.Path.{◌≡◌, sym, ap, ap₂, ◌∙◌, subst}
use mathlib.Core.Bool.{Bool, true, cond}
use mathlib.Core.List.{List, ◌++◌}
use lib.Pow.{pow_mono}
use lib.ListN.{length, get_or, take, drop}
use lib.Seq.{take_at, drop-append-add, get_or-append_seam}
use Rattle.kinds.specs.Limits.{walk_atoms, rule_limit}
use Rattle.kinds.specs.declared.limits.Kind.TheVariants.{Plain}
use Rattle.rules.specs.Lists.{flat, from}
use Rattle.rules.specs.Rules.{Rule}
use Rattle.rules.proofs.Booleans.{bool_ext, is_true_lem}
use Rattle.rules.proofs.Lists.{all_imp, part_rest}
use Rattle.stores.specs.RuleStore.{decode, rules_from}
use Rattle.stores.specs.declared.rule_store.Header.{Header}
use Rattle.output.specs.Emitted.{Emitted}
use Rattle.output.proofs.Emitting.{renamed}
use Rattle.restriction.specs.Atoms.{is_member}
use Rattle.rule_index.specs.Index.{is_standing, rules_with, counted, index as index_of}
use Rattle.rule_index.specs.Flip.{is_broken, flipped, after_flip, is_rising}
use Rattle.rule_index.specs.Answers.{store_index, flip_list}
use Rattle.rule_index.specs.Meanings.{numbered}
use Rattle.rule_index.specs.Places.{list_at, Placed}
use Rattle.rule_index.proofs.RuleNumbers.{numbers_within}
use Rattle.rule_index.proofs.Segments.{flat_split, flat_inside}
use Rattle.rule_index.proofs.ListPlaces.{index_places}
use Rattle.rule_index.proofs.RulePlaces.{placed_more}
use Rattle.rule_index.proofs.RisingLists.{rising_iff, numbers_rising}
use Rattle.rule_index.proofs.BrokenRules.{listed, numbers_same}
use Rattle.flipping.specs.Joined.{joined, is_kept}
use Rattle.flipping.specs.Places.{Counts}
use Rattle.flipping.specs.Checked.{Checked}

-- the index of n atoms, and the list of one of them
module _ (n : ℕ) (rs : List (Rule ℕ)) (a : ℕ) (l : a < n) where
  abbrev part : ℕ → List ℕ
  part b = counted (rules_with b rs)

  abbrev before : List ℕ
  before = flat part (from 0 a)

  abbrev rest : List ℕ
  rest = flat part (from (suc a) (n - suc a))

  abbrev start : ℕ
  start = list_at (index_of n rs) a

  split : index_of n rs ≡ before ++ (part a ++ rest)
  unfolding index_of
  split = flat_split part n a l

  start_is : start ≡ length before
  start_is = index_places n rs a (omega arith)

  count_is : get_or (index_of n rs) start 0 ≡ length (rules_with a rs)
  count_is = ap₂ (λ (ws : List ℕ) (k : ℕ). get_or ws k 0) split start_is ∙ get_or-append_seam before (length (rules_with a rs)) (rules_with a rs ++ rest) 0

  part_inside : start + 1 + get_or (index_of n rs) start 0 ≤ length (index_of n rs)
  unfolding index_of
  part_inside = omega (arith, start_is, count_is, flat_inside part n a l)

  own_part : take (start + 1 + get_or (index_of n rs) start 0 - (start + 1)) (drop (start + 1) (index_of n rs)) ≡ rules_with a rs
  own_part =
      let size = start + 1 + get_or (index_of n rs) start 0 - (start + 1) in
      ap₂ (λ (ws : List ℕ) (k : ℕ). take size (drop (k + 1) ws)) split start_is
      ∙ ap (take size) (drop-append-add before (part a ++ rest) 1) ∙ take_at (rules_with a rs) rest size (omega (arith, count_is))

-- an atom's own rules
module _ (rs : List (Rule ℕ)) (a : ℕ) where
  own_rises : is_rising 0 (length rs) (rules_with a rs) ≡ true
  unfolding rules_with
  own_rises =
      let t : ℕ → Rule ℕ → Bool = λ i r. is_standing a r in
      is_true_lem (is_rising 0 (length rs) (rules_with a rs)) ((rising_iff (length rs) (rules_with a rs)).1 (
        numbers_rising t 0 rs,
        all_imp (λ i. (0 ≤ i) × (i < 0 + length rs)) (λ i. i < length rs) (λ i h. omega (arith, h.1)) (rules_with a rs) (numbers_within t 0 rs),
      ))

  is_own : (k : ℕ) → k < length rs → is_member (rules_with a rs) k ≡ is_standing a (numbered rs k)
  unfolding rules_with
  is_own k l = let law = listed (λ i r. is_standing a r) rs k in bool_ext (is_member (rules_with a rs) k) (is_standing a (numbered rs k)) (λ h. (law.0 h).1) (λ h. law.1 (l, h))

  joined_flip : (list : List ℕ) (x : ℕ) → joined rs list (rules_with a rs) (flipped x a) ≡ after_flip rs list x a
  unfolding joined after_flip
  joined_flip list x =
      numbers_same (is_kept list (rules_with a rs) (flipped x a)) (λ i r. cond (is_standing a r) (is_broken (flipped x a) r) (is_member list i)) 0 rs
      (λ k l. let z : 0 + k ≡ k = omega arith in rw z (ap (λ (t : Bool). cond t (is_broken (flipped x a) (numbered rs k)) (is_member list k)) (is_own k l)))

module _ {rules : List ℕ} {header : Header} {index list : List ℕ} {set atom : ℕ} (c : Checked rules header index list set atom) where
  abbrev rs : List (Rule ℕ)
  rs = (decode rules).rules

  abbrev front : List ℕ
  front = take (length rules - header.start) (drop header.start rules)

  front_is : front ≡ drop header.start rules
  front_is = part_rest header.start rules

  pub sets_fit : (set < 2 ^ walk_atoms) × (atom < walk_atoms)
  sets_fit = let l : 2 ^ header.atoms ≤ 2 ^ walk_atoms = pow_mono c.few in (omega (arith, c.set_inside), omega (arith, c.few, c.atom_inside))

  index_is : index ≡ index_of header.atoms rs
  unfolding store_index
  index_is = c.indexed ∙ ap (λ (n : ℕ). index_of n rs) (sym c.read.atoms_are)

  pub counts_there : Counts index atom
  counts_there = record { inside = λ b l. subst (λ (ws : List ℕ). list_at ws b < length ws) (sym index_is) (let h : b < header.atoms = omega (arith, c.atom_inside) in omega (arith, part_inside header.atoms rs b h)) }

  module _ {start : ℕ} (e : start ≡ list_at index atom) where
    abbrev own : List ℕ
    own = take (start + 1 + get_or index start 0 - (start + 1)) (drop (start + 1) index)

    pub own_inside : start + 1 + get_or index start 0 ≤ length index
    own_inside =
        subst (λ (k : ℕ). k + 1 + get_or index k 0 ≤ length index) (sym e)
        (subst (λ (ws : List ℕ). list_at ws atom + 1 + get_or ws (list_at ws atom) 0 ≤ length ws) (sym index_is) (part_inside header.atoms rs atom c.atom_inside))

    own_is : own ≡ rules_with atom rs
    own_is =
        subst (λ (k : ℕ). take (k + 1 + get_or index k 0 - (k + 1)) (drop (k + 1) index) ≡ rules_with atom rs) (sym e)
        (subst (λ (ws : List ℕ). take (list_at ws atom + 1 + get_or ws (list_at ws atom) 0 - (list_at ws atom + 1)) (drop (list_at ws atom + 1) ws) ≡ rules_with atom rs) (sym index_is)
        (own_part header.atoms rs atom c.atom_inside))

    module _ {k : ℕ} (r : k ≡ header.rules) where
      many : k ≡ length rs
      many = r ∙ c.read.rules_are

      pub join_ready : {places : List ℕ} → Placed header.atoms header.rules (drop header.start rules) places → Placed walk_atoms k front places × (k ≤ rule_limit Plain) × (is_rising 0 k list ≡ true) × (is_rising 0 k own ≡ true)
      join_ready {places} p = (
        rw (r, front_is) (placed_more p c.few),
        omega (arith, r, c.read.few_rules),
        ap (λ (i : ℕ). is_rising 0 i list) many ∙ c.rises,
        ap₂ (λ (i : ℕ) (l : List ℕ). is_rising 0 i l) many own_is ∙ own_rises rs atom,
      )

      rules_are : rules_from k front ≡ rs
      rules_are = ap₂ rules_from r front_is ∙ c.read.read

      pub is_answer : {x : ℕ} {d d' : List ℕ} {next : ℕ} → x ≡ flipped set atom → Emitted d 0 (joined (rules_from k front) list own x) d' next → Emitted d 0 (flip_list rules list set atom) d' next
      unfolding flip_list
      is_answer {x} q p = renamed p (
          ap₂ (λ (l : List (Rule ℕ)) (o : List ℕ). joined l list o x) rules_are own_is
          ∙ ap (joined rs list (rules_with atom rs)) q ∙ joined_flip rs atom list set)
