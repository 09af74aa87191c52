-- A list that stands in words, and another one of its length put in its place.
use Prim.Native.Nat.{ℕ, ◌+◌, ◌-◌, ◌≤◌}
use mathlib.Core.Path.{◌≡◌, refl, sym, ap, ap₂, ◌∙◌}
use mathlib.Core.List.{List, [], ◌∷◌, ◌++◌, append_assoc}
use native.Mathlib.Omega.{arith}
use lib.ListN.{length, get_or, take, drop, length-append}
use lib.Seq.{take_at, drop_at}
use borrow.Rule.Slice.PartMut.{mid_of, put_mid}
use Rattle.kinds.specs.Limits.{occurrence_limit}
use Rattle.kinds.specs.declared.limits.Kind.TheVariants.{Plain}
use Rattle.rules.specs.Lists.{Distinct}
use Rattle.rules.specs.Rules.{Rule}
use Rattle.stores.specs.RuleStore.{heads, bodies, nots, places, rule_at, rule_words}
use Rattle.stores.proofs.RuleTests.{rule_words_lem}
use Rattle.canonical.specs.Order.{numbers, ordered}
use Rattle.canonical.specs.Canonical.{tidy}
use Rattle.tidying.specs.TidyWords.{ListedRule}
use Rattle.tidying.proofs.RisingLists.{ordered_length}

-- the list from a up to e
pub record Part (ws : List ℕ) (a e : ℕ) (front list rest : List ℕ) : Type 0 where
  pub is : ws ≡ front ++ (list ++ rest)
  pub start : length front ≡ a
  pub end : a + length list ≡ e

module _ {ws : List ℕ} {a e : ℕ} {front list rest : List ℕ} (p : Part ws a e front list rest) where
  from_list : drop a ws ≡ list ++ rest
  from_list = ap (drop a) p.is ∙ drop_at front (list ++ rest) a p.start

  size : length list ≡ e - a
  size = let h = p.end in omega arith

  pub part_list : mid_of a (e - a) ws ≡ list
  part_list = ap (take (e - a)) from_list ∙ take_at list rest (e - a) size

  -- what `tidy_list` requires
  ready : Distinct list → length list ≤ occurrence_limit Plain → {s : ℕ} → occurrence_limit Plain ≤ s → Distinct (mid_of a (e - a) ws) × (length (mid_of a (e - a) ws) ≤ s) × (length (mid_of a (e - a) ws) ≤ 65536)
  ready d l m = rw part_list (d, omega arith, omega arith)

  pub put_list : (new : List ℕ) → put_mid a (e - a) ws new ≡ front ++ (new ++ rest)
  put_list new =
      ap₂ (λ (x y : List ℕ). x ++ (new ++ y)) (ap (take a) p.is ∙ take_at front (list ++ rest) a p.start) (ap (drop (e - a)) from_list ∙ drop_at list rest (e - a) size)

  -- the list behind it, once it is changed
  pub next_part : (new : List ℕ) {list' rest' : List ℕ} {e' : ℕ} → length new ≡ length list → rest ≡ list' ++ rest' → e + length list' ≡ e' → Part (put_mid a (e - a) ws new) e e' (front ++ new) list' rest'
  next_part new {list'} {rest'} l r f = record {
    is = put_list new ∙ ap (λ (t : List ℕ). front ++ (new ++ t)) r ∙ sym (append_assoc front new (list' ++ rest'));
    start = length-append front new ∙ (let s = p.start in let n = p.end in omega arith);
    end = f;
  }

regrouped : (a b c t : List ℕ) → (a ++ b) ++ (c ++ t) ≡ (a ++ (b ++ c)) ++ t
regrouped a b c t = simp append_assoc

-- the three lists of the rule at the front
module _ (ws : List ℕ) (h : ListedRule ws) where
  abbrev r : Rule ℕ
  r = rule_at ws

  abbrev counts : List ℕ
  counts = length r.head ∷ length r.body ∷ length r.nots ∷ []

  abbrev behind : List ℕ
  behind = drop (3 + places ws) ws

  whole : rule_words r ++ behind ≡ ws
  whole = rule_words_lem ws h.inside

  head_length : length r.head ≡ heads ws
  head_length = ap (λ (l : List ℕ). get_or l 0 0) whole

  body_length : length r.body ≡ bodies ws
  body_length = ap (λ (l : List ℕ). get_or l 1 0) whole

  nots_length : length r.nots ≡ nots ws
  nots_length = ap (λ (l : List ℕ). get_or l 2 0) whole

  lists : ws ≡ counts ++ (r.head ++ (r.body ++ (r.nots ++ behind)))
  lists = sym whole ∙ ap (λ (l : List ℕ). counts ++ l) (append_assoc r.head (r.body ++ r.nots) behind ∙ ap (λ (l : List ℕ). r.head ++ l) (append_assoc r.body r.nots behind))

  pub head_part_lem : Part ws 3 (3 + heads ws) counts r.head (r.body ++ (r.nots ++ behind))
  head_part_lem = record { is = lists; start = refl; end = ap (λ (n : ℕ). 3 + n) head_length }

  pub head_ready : {s : ℕ} → occurrence_limit Plain ≤ s → Distinct (mid_of 3 (3 + heads ws - 3) ws) × (length (mid_of 3 (3 + heads ws - 3) ws) ≤ s) × (length (mid_of 3 (3 + heads ws - 3) ws) ≤ 65536)
  head_ready m = ready head_part_lem h.heads (omega (arith, h.few, head_length)) m

  module _ (one : List ℕ) (e : one ≡ ordered numbers (mid_of 3 (3 + heads ws - 3) ws)) where
    one_is : one ≡ ordered numbers r.head
    one_is = e ∙ ap (ordered numbers) (part_list head_part_lem)

    one_length : length one ≡ length r.head
    one_length = ap length one_is ∙ ordered_length r.head h.heads

    abbrev first : List ℕ
    first = put_mid 3 (3 + heads ws - 3) ws one

    pub body_part_lem : Part first (3 + heads ws) (3 + heads ws + bodies ws) (counts ++ one) r.body (r.nots ++ behind)
    body_part_lem = next_part head_part_lem one one_length refl (ap (λ (n : ℕ). 3 + heads ws + n) body_length)

    pub body_ready : {s : ℕ} → occurrence_limit Plain ≤ s → Distinct (mid_of (3 + heads ws) (3 + heads ws + bodies ws - (3 + heads ws)) first) × (length (mid_of (3 + heads ws) (3 + heads ws + bodies ws - (3 + heads ws)) first) ≤ s) × (length (mid_of (3 + heads ws) (3 + heads ws + bodies ws - (3 + heads ws)) first) ≤ 65536)
    body_ready m = ready body_part_lem h.bodies (omega (arith, h.few, body_length)) m

    module _ (two : List ℕ) (f : two ≡ ordered numbers (mid_of (3 + heads ws) (3 + heads ws + bodies ws - (3 + heads ws)) first)) where
      two_is : two ≡ ordered numbers r.body
      two_is = f ∙ ap (ordered numbers) (part_list body_part_lem)

      two_length : length two ≡ length r.body
      two_length = ap length two_is ∙ ordered_length r.body h.bodies

      abbrev second : List ℕ
      second = put_mid (3 + heads ws) (3 + heads ws + bodies ws - (3 + heads ws)) first two

      pub nots_part : Part second (3 + heads ws + bodies ws) (3 + heads ws + bodies ws + nots ws) ((counts ++ one) ++ two) r.nots behind
      nots_part = next_part body_part_lem two two_length refl (ap (λ (n : ℕ). 3 + heads ws + bodies ws + n) nots_length)

      pub nots_ready : {s : ℕ} → occurrence_limit Plain ≤ s → Distinct (mid_of (3 + heads ws + bodies ws) (3 + heads ws + bodies ws + nots ws - (3 + heads ws + bodies ws)) second) × (length (mid_of (3 + heads ws + bodies ws) (3 + heads ws + bodies ws + nots ws - (3 + heads ws + bodies ws)) second) ≤ s) × (length (mid_of (3 + heads ws + bodies ws) (3 + heads ws + bodies ws + nots ws - (3 + heads ws + bodies ws)) second) ≤ 65536)
      nots_ready m = ready nots_part h.nots (omega (arith, h.few, nots_length)) m

      pub all_tidy : (three : List ℕ) → three ≡ ordered numbers (mid_of (3 + heads ws + bodies ws) (3 + heads ws + bodies ws + nots ws - (3 + heads ws + bodies ws)) second) → put_mid (3 + heads ws + bodies ws) (3 + heads ws + bodies ws + nots ws - (3 + heads ws + bodies ws)) second three ≡ rule_words (tidy r) ++ behind
      unfolding tidy
      all_tidy three g =
          let heads-kept = sym (ordered_length r.head h.heads) in
          let Bodies-kept = sym (ordered_length r.body h.bodies) in
          let nots-kept = sym (ordered_length r.nots h.nots) in
          let three-is : three ≡ ordered numbers r.nots = g ∙ ap (ordered numbers) (part_list nots_part) in
          put_list nots_part three
          ∙ (λ i. ((heads-kept i ∷ Bodies-kept i ∷ nots-kept i ∷ one_is i) ++ two_is i) ++ (three-is i ++ behind))
          ∙ ap (λ (l : List ℕ). length (ordered numbers r.head) ∷ length (ordered numbers r.body) ∷ length (ordered numbers r.nots) ∷ l) (regrouped (ordered numbers r.head) (ordered numbers r.body) (ordered numbers r.nots) behind)
