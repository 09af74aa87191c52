-- The rules of a store, read one after another.
use Prim.Native.Nat.{ℕ, suc, ◌+◌, ◌-◌, ◌≤◌, ◌<◌}
use mathlib.Core.Path.{◌≡◌, refl, sym, ap, ap₂, ◌∙◌, subst}
use mathlib.Core.Bool.{Bool, true, false, cond}
use mathlib.Core.List.{List, ◌∷◌, ◌++◌, map}
use native.Mathlib.Nat.{sub-zero}
use native.Mathlib.Numerals.{add-one}
use native.Mathlib.Omega.{arith}
use lib.Bits.{bit_or}
use lib.ListN.{length, get_or, take, drop, set, length-set, length-map, length-drop}
use lib.Seq.{drop-cons, drop-drop, set_at, length-take-le, append_snoc, take-suc, take_all, take_at}
use Rattle.rules.specs.Lists.{over}
use Rattle.rules.specs.Rules.{Rule}
use Rattle.rules.proofs.Lists.{part_rest, map_at}
use Rattle.stores.specs.RuleStore.{places, rule_at, rules_from}
use Rattle.stores.specs.StoredRules.{StoredRule, StoredRules}
use Rattle.stores.proofs.RuleStores.{rules_count}
use Rattle.masks.specs.Masks.{place_mask, breakable, care_of, want_of, care_at, want_at}

-- the masks of one rule, and the test

module _ (ws : List ℕ) {heads bodies : List ℕ} (hs : heads ≡ (rule_at ws).head) (bs : bodies ≡ (rule_at ws).body) where
  module _ (n hm bm : ℕ) (eh : hm ≡ place_mask n heads) (eb : bm ≡ place_mask n bodies) (q : Bool) (eq : q ≡ breakable hm bm) where
    care_is : cond q (bit_or hm bm) 0 ≡ care_at n (rule_at ws)
    unfolding care_of
    care_is =
        (λ i. cond (eq i) (bit_or hm bm) 0)
        ∙ λ i. cond (breakable ((eh ∙ ap (place_mask n) hs) i) ((eb ∙ ap (place_mask n) bs) i)) (bit_or ((eh ∙ ap (place_mask n) hs) i) ((eb ∙ ap (place_mask n) bs) i)) 0

    want_is : cond q bm 1 ≡ want_at n (rule_at ws)
    unfolding want_of
    want_is =
        (λ i. cond (eq i) bm 1)
        ∙ λ i. cond (breakable ((eh ∙ ap (place_mask n) hs) i) ((eb ∙ ap (place_mask n) bs) i)) ((eb ∙ ap (place_mask n) bs) i) 1

    pub read_unbreakable : q ≡ false → (0 ≡ care_at n (rule_at ws)) × (1 ≡ want_at n (rule_at ws))
    read_unbreakable e = (ap (λ (b : Bool). cond b (bit_or hm bm) 0) (sym e) ∙ care_is, ap (λ (b : Bool). cond b bm 1) (sym e) ∙ want_is)

    pub read_breakable : q ≡ true → (bit_or hm bm ≡ care_at n (rule_at ws)) × (bm ≡ want_at n (rule_at ws))
    read_breakable e = (ap (λ (b : Bool). cond b (bit_or hm bm) 0) (sym e) ∙ care_is, ap (λ (b : Bool). cond b bm 1) (sym e) ∙ want_is)

-- filling the masks of one rule after another

-- the first j entries of s in front of d
abbrev part : List ℕ → List ℕ → ℕ → List ℕ
part d s j = take j s ++ drop j d

part_more : (d s : List ℕ) (j v : ℕ) → j < length d → j < length s → v ≡ get_or s j 0 → set (part d s j) j v ≡ part d s (j + 1)
part_more d s j v hd hs e =
    ap₂ (λ (l : List ℕ) (w : ℕ). set (take j s ++ l) j w) (drop-cons d j 0 hd) e
    ∙ set_at (take j s) (get_or d j 0) (drop (suc j) d) (get_or s j 0) j (length-take-le j s (omega arith))
    ∙ sym (append_snoc (take j s) (get_or s j 0) (drop (suc j) d))
    ∙ ap (λ (l : List ℕ). l ++ drop (suc j) d) (sym (take-suc s j 0 hs))
    ∙ ap (λ (k : ℕ). take k s ++ drop k d) (sym (add-one j))

module _ (ws : List ℕ) (rules n : ℕ) (c₀ w₀ : List ℕ) where
  abbrev All-rules : List (Rule ℕ)
  All-rules = rules_from rules ws

  pub record Filling (cs wants : List ℕ) (at j : ℕ) : Type 0 where
    pub inside : j ≤ rules
    pub stored : StoredRules n (rules - j) (drop at ws)
    pub ends : drop j (rules_from rules ws) ≡ rules_from (rules - j) (drop at ws)
    pub care_part : cs ≡ part c₀ (map (care_at n) (rules_from rules ws)) j
    pub want_part : wants ≡ part w₀ (map (want_at n) (rules_from rules ws)) j
    pub same_care : length cs ≡ length c₀
    pub same_want : length wants ≡ length w₀

  pub fill_begins : StoredRules n rules ws → Filling c₀ w₀ 0 0
  fill_begins h = record {
    inside = omega arith;
    stored = subst (λ (k : ℕ). StoredRules n k ws) (sym (sub-zero rules)) h;
    ends = ap (λ (k : ℕ). rules_from k ws) (sym (sub-zero rules));
    care_part = refl;
    want_part = refl;
    same_care = refl;
    same_want = refl;
  }

  module _ (cs wants : List ℕ) (at j : ℕ) (f : Filling cs wants at j) (l : j < rules) where
    -- what the code hands on
    abbrev front : List ℕ
    front = take (length ws - at) (drop at ws)

    less : rules - j ≡ suc (rules - (j + 1))
    less = omega arith

    stored_here : StoredRule n (drop at ws) × StoredRules n (rules - (j + 1)) (drop (3 + places (drop at ws)) (drop at ws))
    stored_here = subst (λ (k : ℕ). StoredRules n k (drop at ws)) less f.stored

    pub fill_rule : StoredRule n front
    fill_rule = subst (StoredRule n) (sym (part_rest at ws)) stored_here.0

    pub fill_place : at + (3 + places front) ≤ length ws
    fill_place = omega (arith, stored_here.0.inside, length-drop at ws, ap places (part_rest at ws))

    cons : (k : ℕ) → rules_from (suc k) (drop at ws) ≡ rule_at front ∷ rules_from k (drop (at + (3 + places front)) ws)
    unfolding rules_from
    cons k = ap₂ (λ (x y : List ℕ). rule_at x ∷ rules_from k y) (sym (part_rest at ws)) (drop-drop (3 + places (drop at ws)) at ws ∙ ap (λ (x : List ℕ). drop (at + (3 + places x)) ws) (sym (part_rest at ws)))

    in_rules : j < length All-rules
    in_rules = omega (arith, rules_count rules ws)

    parts : rule_at front ∷ rules_from (rules - (j + 1)) (drop (at + (3 + places front)) ws) ≡ get_or All-rules j (rule_at front) ∷ drop (suc j) All-rules
    parts = sym (f.ends ∙ ap (λ (k : ℕ). rules_from k (drop at ws)) less ∙ cons (rules - (j + 1))) ∙ drop-cons All-rules j (rule_at front) in_rules

    here : get_or All-rules j (rule_at front) ≡ rule_at front
    here = cc parts

    after : drop (j + 1) All-rules ≡ rules_from (rules - (j + 1)) (drop (at + (3 + places front)) ws)
    after = ap (λ (k : ℕ). drop k All-rules) (add-one j) ∙ cc parts

    entry : (g : Rule ℕ → ℕ) → g (rule_at front) ≡ get_or (map g All-rules) j 0
    entry g = sym (map_at g All-rules j (rule_at front) 0 in_rules ∙ ap g here)

    in_map : (g : Rule ℕ → ℕ) → j < length (map g All-rules)
    in_map g = omega (arith, length-map All-rules g, in_rules)

    rest_stored : StoredRules n (rules - (j + 1)) (drop (at + (3 + places front)) ws)
    rest_stored = subst (StoredRules n (rules - (j + 1))) (drop-drop (3 + places (drop at ws)) at ws ∙ ap (λ (x : List ℕ). drop (at + (3 + places x)) ws) (sym (part_rest at ws))) stored_here.1

    pub fill_more : (rules ≤ length c₀) × (rules ≤ length w₀) → (c w size : ℕ) → size ≡ 3 + places front → (c ≡ care_at n (rule_at front)) × (w ≡ want_at n (rule_at front)) → Filling (set cs j c) (set wants j w) (at + size) (j + 1)
    fill_more long c w size e r = subst (λ (x : ℕ). Filling (set cs j c) (set wants j w) (at + x) (j + 1)) (sym e) (record {
      inside = omega arith;
      stored = rest_stored;
      ends = after;
      care_part = ap (λ (d : List ℕ). set d j c) f.care_part ∙ part_more c₀ (map (care_at n) All-rules) j c (omega arith) (in_map (care_at n)) (r.0 ∙ entry (care_at n));
      want_part = ap (λ (d : List ℕ). set d j w) f.want_part ∙ part_more w₀ (map (want_at n) All-rules) j w (omega arith) (in_map (want_at n)) (r.1 ∙ entry (want_at n));
      same_care = length-set cs j c ∙ f.same_care;
      same_want = length-set wants j w ∙ f.same_want;
    })

    pub fill_room : (rules ≤ length c₀) × (rules ≤ length w₀) → (j < length cs) × (j < length wants)
    fill_room long = let a = f.same_care in let b = f.same_want in (omega arith, omega arith)

  whole : (d : List ℕ) (g : Rule ℕ → ℕ) → part d (map g All-rules) rules ≡ over (map g All-rules) d
  whole d g =
      let e : length (map g All-rules) ≡ rules = length-map All-rules g ∙ rules_count rules ws in
      ap₂ (λ (x : List ℕ) (k : ℕ). x ++ drop k d) (take_all rules (map g All-rules) (omega arith)) (sym e)

  pub fill_ends : (cs wants : List ℕ) (at j : ℕ) → Filling cs wants at j → rules ≤ j
      → (cs ≡ over (map (care_at n) (rules_from rules ws)) c₀) × (wants ≡ over (map (want_at n) (rules_from rules ws)) w₀)
  fill_ends cs wants at j f l =
      let e : j ≡ rules = omega (arith, f.inside) in (
        f.care_part ∙ ap (part c₀ (map (care_at n) All-rules)) e ∙ whole c₀ (care_at n),
        f.want_part ∙ ap (part w₀ (map (want_at n) All-rules)) e ∙ whole w₀ (want_at n),
      )

-- the front of what was filled
pub front_of : (l d : List ℕ) (n : ℕ) → length l ≡ n → take n (over l d) ≡ l
front_of l d n e = take_at l (drop (length l) d) n e
