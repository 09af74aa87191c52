-- What the loop that fills the reduct keeps: the marks of the rules passed, and the masks of those that are marked.
use Prim.Native.Nat.{ℕ, suc, ◌+◌, ◌-◌, ◌≤◌, ◌<◌}
use mathlib.Core.Path.{◌≡◌, refl, sym, ap, ap₂, ◌∙◌, subst}
use mathlib.Core.Bool.{Bool, true, false}
use mathlib.Core.List.{List, [], ◌∷◌, ◌++◌, map, map-append, append-nil}
use native.Mathlib.Nat.{add-zero}
use native.Mathlib.Numerals.{add-one}
use native.Mathlib.Omega.{arith}
use lib.ListN.{length, get_or, take, drop, set, replicate, length-append, length-map, length-set, length-replicate}
use lib.Seq.{drop-cons, take-suc, take_all, set_at, append_snoc, get_or-set_same, length-take-le}
use borrow.Rule.Slice.PartMut.{mid_of, put_mid, set_mid_at}
use Rattle.kinds.specs.Limits.{rule_limit}
use Rattle.kinds.specs.declared.limits.Kind.TheVariants.{Plain}
use Rattle.rules.specs.Lists.{keep, over}
use Rattle.rules.specs.Sets.{has}
use Rattle.rules.specs.Rules.{Rule, rule, reduct, rename}
use Rattle.rules.proofs.Lists.{part_rest}
use Rattle.stores.specs.RuleStore.{places, rule_at, rules_from}
use Rattle.stores.specs.StoredRules.{StoredRules}
use Rattle.stores.proofs.RuleStores.{rules_count}
use Rattle.places.specs.Places.{mirror}
use Rattle.masks.specs.Masks.{care_of, want_of, care_at, want_at}
use Rattle.masks.proofs.RulesFill.{Filling, fill_begins, fill_more}
use Rattle.stable_verdict.specs.ReductMarks.{is_keeping, marks_of}

-- one entry, put at the front of a part that goes to the end
put_first : (a v : ℕ) (xs ys : List ℕ) → a < length xs → ys ≡ over (v ∷ []) (mid_of a (length xs - a) xs) → put_mid a (length xs - a) xs ys ≡ set xs a v
put_first a v xs ys h e =
    let k : ℕ = length xs - a in
    let q : mid_of a k xs ≡ get_or xs a 0 ∷ drop (suc a) xs = part_rest a xs ∙ drop-cons xs a 0 h in
    let z : 0 < length (mid_of a k xs) = omega (arith, ap length q) in
    ap (put_mid a k xs) (e ∙ ap (over (v ∷ [])) q ∙ sym (ap (λ (l : List ℕ). set l 0 v) q))
    ∙ set_mid_at a k 0 xs v z ∙ ap (λ (i : ℕ). set xs i v) (add-zero a)

pub put_masks : (f : Rule ℕ → ℕ) (ws : List ℕ) (a : ℕ) (xs ys : List ℕ) → a < length xs → ys ≡ over (map f (rules_from 1 ws)) (mid_of a (length xs - a) xs) → put_mid a (length xs - a) xs ys ≡ set xs a (f (rule_at ws))
unfolding rules_from
put_masks f ws a xs ys h e = put_first a (f (rule_at ws)) xs ys h e

-- one entry more over what was there
over_more : (l d : List ℕ) (n v : ℕ) → length l ≡ n → n < length d → set (over l d) n v ≡ over (l ++ (v ∷ [])) d
over_more l d n v e h =
    let k : suc (length l) ≡ length (l ++ (v ∷ [])) = omega (arith, length-append l (v ∷ [])) in
    ap (λ (x : List ℕ). set (l ++ x) n v) (drop-cons d (length l) 0 (omega arith))
    ∙ set_at l (get_or d (length l) 0) (drop (suc (length l)) d) v n e
    ∙ sym (append_snoc l v (drop (suc (length l)) d)) ∙ ap (λ (i : ℕ). (l ++ (v ∷ [])) ++ drop i d) k

-- a rule without its `not` list has the same masks
abbrev pub bare : Rule ℕ → Rule ℕ
bare r = rule r.head r.body []

module _ (r : Rule ℕ) where
  care_bare : care_of r ≡ care_of (bare r)
  unfolding care_of
  care_bare = refl

  want_bare : want_of r ≡ want_of (bare r)
  unfolding want_of
  want_bare = refl

module _ (m : ℕ) (r : Rule ℕ) where
  reduct_last : (rs : List (Rule ℕ)) → reduct (rs ++ (r ∷ [])) (has m) ≡ reduct rs (has m) ++ keep (is_keeping m r) (bare r) []
  reduct_last [] = refl
  reduct_last (q ∷ rs) = step (is_keeping m q) (reduct_last rs)
    where
      step : (b : Bool) → reduct (rs ++ (r ∷ [])) (has m) ≡ reduct rs (has m) ++ keep (is_keeping m r) (bare r) [] → keep b (bare q) (reduct (rs ++ (r ∷ [])) (has m)) ≡ keep b (bare q) (reduct rs (has m)) ++ keep (is_keeping m r) (bare r) []
      step true e = ap (λ (l : List (Rule ℕ)). bare q ∷ l) e
      step false e = e

  module _ (rs : List (Rule ℕ)) where
    -- the mark of one rule more
    marks_more : (j : ℕ) → length rs ≡ j → j < rule_limit Plain → set (marks_of m rs) j (is_keeping m r) ≡ marks_of m (rs ++ (r ∷ []))
    unfolding marks_of
    marks_more j e l =
        let k : rule_limit Plain - length rs ≡ suc (rule_limit Plain - length (rs ++ (r ∷ []))) = omega (arith, length-append rs (r ∷ [])) in
        let rest : List Bool = replicate (rule_limit Plain - length (rs ++ (r ∷ []))) false in
        ap (λ (n : ℕ). set (map (is_keeping m) rs ++ replicate n false) j (is_keeping m r)) k
        ∙ set_at (map (is_keeping m) rs) false rest (is_keeping m r) j (length-map rs (is_keeping m) ∙ e)
        ∙ sym (append_snoc (map (is_keeping m) rs) (is_keeping m r) rest)
        ∙ ap (λ (l : List Bool). l ++ rest) (sym (map-append (is_keeping m) rs (r ∷ [])))

    kept_here : is_keeping m r ≡ true → reduct (rs ++ (r ∷ [])) (has m) ≡ reduct rs (has m) ++ (bare r ∷ [])
    kept_here e = reduct_last rs ∙ ap (λ (b : Bool). reduct rs (has m) ++ keep b (bare r) []) e

    dropped_here : is_keeping m r ≡ false → reduct (rs ++ (r ∷ [])) (has m) ≡ reduct rs (has m)
    dropped_here e = reduct_last rs ∙ ap (λ (b : Bool). reduct rs (has m) ++ keep b (bare r) []) e ∙ append-nil (reduct rs (has m))

    -- the masks of one rule more
    masks_more : (f : Rule ℕ → ℕ) → f r ≡ f (bare r) → (d : List ℕ) (kept : ℕ) → is_keeping m r ≡ true → kept < length d → kept ≡ length (reduct rs (has m))
        → set (over (map f (reduct rs (has m))) d) kept (f r) ≡ over (map f (reduct (rs ++ (r ∷ [])) (has m))) d
    masks_more f q d kept e l k =
        over_more (map f (reduct rs (has m))) d kept (f r) (length-map (reduct rs (has m)) f ∙ sym k) l
        ∙ ap (λ (v : ℕ). over (map f (reduct rs (has m)) ++ (v ∷ [])) d) q
        ∙ ap (λ (x : List ℕ). over x d) (sym (ap (map f) (kept_here e) ∙ map-append f (reduct rs (has m)) (bare r ∷ [])))

-- the masks of the reduct of the rules stand over what was there
pub record Masked (n m : ℕ) (rs : List (Rule ℕ)) (c₀ w₀ cs wants : List ℕ) (kept : ℕ) : Type 0 where
  pub cares : cs ≡ over (map (care_at n) (reduct rs (has m))) c₀
  pub want_masks : wants ≡ over (map (want_at n) (reduct rs (has m))) w₀
  pub count : kept ≡ length (reduct rs (has m))

module _ {n m : ℕ} {rs : List (Rule ℕ)} {c₀ w₀ cs wants : List ℕ} {kept : ℕ} (d : Masked n m rs c₀ w₀ cs wants kept) (r : Rule ℕ) where
  masks_kept : is_keeping m r ≡ true → (kept < length c₀) × (kept < length w₀) → Masked n m (rs ++ (r ∷ [])) c₀ w₀ (set cs kept (care_at n r)) (set wants kept (want_at n r)) (kept + 1)
  masks_kept e l = record {
    cares = ap (λ (x : List ℕ). set x kept (care_at n r)) d.cares ∙ masks_more m r rs (care_at n) (care_bare (rename (mirror n) r)) c₀ kept e l.0 d.count;
    want_masks = ap (λ (x : List ℕ). set x kept (want_at n r)) d.want_masks ∙ masks_more m r rs (want_at n) (want_bare (rename (mirror n) r)) w₀ kept e l.1 d.count;
    count = omega (arith, d.count, ap length (kept_here m r rs e), length-append (reduct rs (has m)) (bare r ∷ []));
  }

  masks_dropped : is_keeping m r ≡ false → Masked n m (rs ++ (r ∷ [])) c₀ w₀ cs wants kept
  masks_dropped e =
      let q = sym (dropped_here m r rs e) in
      record {
        cares = d.cares ∙ ap (λ (x : List (Rule ℕ)). over (map (care_at n) x) c₀) q;
        want_masks = d.want_masks ∙ ap (λ (x : List (Rule ℕ)). over (map (want_at n) x) w₀) q;
        count = d.count ∙ ap length q;
      }

module _ (ws : List ℕ) (rules n m : ℕ) (c₀ w₀ : List ℕ) where
  abbrev passed : ℕ → List (Rule ℕ)
  passed j = take j (rules_from rules ws)

  -- the first j rules are passed, and the next one stands at `at`
  pub record Reducing (marks : List Bool) (cs wants : List ℕ) (at kept j : ℕ) : Type 0 where
    -- the words are gone over as in `fill_rules`, which would have left these masks
    pub all_care : List ℕ
    pub all_want : List ℕ
    pub walk : Filling ws rules n c₀ w₀ all_care all_want at j
    pub marked : marks ≡ marks_of m (take j (rules_from rules ws))
    pub masked : Masked n m (take j (rules_from rules ws)) c₀ w₀ cs wants kept
    pub few : kept ≤ j
    pub mark_room : (rules ≤ rule_limit Plain) × (length marks ≡ rule_limit Plain)
    pub care_room : (rules ≤ length c₀) × (length cs ≡ length c₀)
    pub want_room : (rules ≤ length w₀) × (length wants ≡ length w₀)

  pub reduct_begins : (marks : List Bool) → StoredRules n rules ws → rules ≤ rule_limit Plain → marks ≡ replicate (rule_limit Plain) false → (rules ≤ length c₀) × (rules ≤ length w₀) → Reducing marks c₀ w₀ 0 0 0
  unfolding marks_of
  reduct_begins marks h l e long = record {
    all_care = c₀;
    all_want = w₀;
    walk = fill_begins ws rules n c₀ w₀ h;
    marked = e;
    masked = record { cares = refl; want_masks = refl; count = refl };
    few = omega arith;
    mark_room = (l, ap length e ∙ length-replicate (rule_limit Plain) false);
    care_room = (long.0, refl);
    want_room = (long.1, refl);
  }

  module _ (marks : List Bool) (cs wants : List ℕ) (at kept j : ℕ) (d : Reducing marks cs wants at kept j) (l : j < rules) where
    -- what the code hands on
    abbrev front : List ℕ
    front = take (length ws - at) (drop at ws)

    next_rule : passed (j + 1) ≡ passed j ++ (rule_at front ∷ [])
    unfolding rules_from
    next_rule =
        let h : j < length (rules_from rules ws) = omega (arith, rules_count rules ws) in
        let k : rules - j ≡ suc (rules - (j + 1)) = omega arith in
        let s : get_or (rules_from rules ws) j (rule_at front) ∷ drop (suc j) (rules_from rules ws) ≡ rule_at (drop at ws) ∷ rules_from (rules - (j + 1)) (drop (3 + places (drop at ws)) (drop at ws)) =
        sym (drop-cons (rules_from rules ws) j (rule_at front) h) ∙ d.walk.ends ∙ ap (λ (x : ℕ). rules_from x (drop at ws)) k in
        let e : get_or (rules_from rules ws) j (rule_at front) ≡ rule_at (drop at ws) = cc s in
        ap passed (add-one j) ∙ take-suc (rules_from rules ws) j (rule_at front) h
        ∙ ap (λ (r : Rule ℕ). passed j ++ (r ∷ [])) (e ∙ ap rule_at (sym (part_rest at ws)))

    module _ (b : Bool) (is-mark : b ≡ is_keeping m (rule_at front)) (size : ℕ) (is-size : size ≡ 3 + places front) where
      -- the mark, as it is read again
      mark_is : get_or (set marks j b) j false ≡ is_keeping m (rule_at front)
      mark_is = get_or-set_same marks j b false (omega (arith, d.mark_room.0, d.mark_room.1)) ∙ is-mark

      goes_on : {cs' wants' : List ℕ} {kept' : ℕ} → length cs' ≡ length cs → length wants' ≡ length wants → kept' ≤ j + 1 → Masked n m (passed j ++ (rule_at front ∷ [])) c₀ w₀ cs' wants' kept' → Reducing (set marks j b) cs' wants' (at + size) kept' (j + 1)
      goes_on {cs'} {wants'} {kept'} p q few f = record {
        all_care = set d.all_care j (care_at n (rule_at front));
        all_want = set d.all_want j (want_at n (rule_at front));
        walk = fill_more ws rules n c₀ w₀ d.all_care d.all_want at j d.walk l (d.care_room.0, d.want_room.0) (care_at n (rule_at front)) (want_at n (rule_at front)) size is-size (refl, refl);
        marked =
            ap₂ (λ (l : List Bool) (t : Bool). set l j t) d.marked is-mark
            ∙ marks_more m (rule_at front) (passed j) j (length-take-le j (rules_from rules ws) (omega (arith, rules_count rules ws))) (omega (arith, d.mark_room.0))
            ∙ ap (marks_of m) (sym next_rule);
        masked = subst (λ (rs : List (Rule ℕ)). Masked n m rs c₀ w₀ cs' wants' kept') (sym next_rule) f;
        few = few;
        mark_room = (d.mark_room.0, length-set marks j b ∙ d.mark_room.1);
        care_room = (d.care_room.0, p ∙ d.care_room.1);
        want_room = (d.want_room.0, q ∙ d.want_room.1);
      }

      pub reduct_keeps : get_or (set marks j b) j false ≡ true → {cs' wants' : List ℕ} {kept' : ℕ} → cs' ≡ set cs kept (care_at n (rule_at front)) → wants' ≡ set wants kept (want_at n (rule_at front)) → kept' ≡ kept + 1
          → Reducing (set marks j b) cs' wants' (at + size) kept' (j + 1)
      reduct_keeps t p q e =
          let room : (kept < length c₀) × (kept < length w₀) = (omega (arith, d.few, d.care_room.0), omega (arith, d.few, d.want_room.0)) in
          rw (p, q, e)
          (goes_on (length-set cs kept (care_at n (rule_at front))) (length-set wants kept (want_at n (rule_at front))) (omega (arith, d.few))
          (masks_kept d.masked (rule_at front) (sym mark_is ∙ t) room))

      pub reduct_drops : get_or (set marks j b) j false ≡ false → {cs' wants' : List ℕ} {kept' : ℕ} → cs' ≡ cs → wants' ≡ wants → kept' ≡ kept → Reducing (set marks j b) cs' wants' (at + size) kept' (j + 1)
      reduct_drops t p q e = rw (p, q, e) (goes_on refl refl (omega (arith, d.few)) (masks_dropped d.masked (rule_at front) (sym mark_is ∙ t)))

  pub reduct_ends : (marks : List Bool) (cs wants : List ℕ) (at kept j : ℕ) → Reducing marks cs wants at kept j → rules ≤ j
      → (marks ≡ marks_of m (rules_from rules ws)) × ((cs ≡ over (map (care_at n) (reduct (rules_from rules ws) (has m))) c₀)
      × ((wants ≡ over (map (want_at n) (reduct (rules_from rules ws) (has m))) w₀) × (kept ≡ length (reduct (rules_from rules ws) (has m)))))
  reduct_ends marks cs wants at kept j d l =
      let e : passed j ≡ rules_from rules ws = take_all j (rules_from rules ws) (omega (arith, rules_count rules ws)) in
      let f = subst (λ (rs : List (Rule ℕ)). Masked n m rs c₀ w₀ cs wants kept) e d.masked in
      (d.marked ∙ ap (marks_of m) e, (f.cares, (f.want_masks, f.count)))
