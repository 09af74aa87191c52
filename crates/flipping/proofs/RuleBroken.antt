-- Whether a set breaks a rule: of its atoms just those of the body are in.
use Prim.Native.Nat.{ℕ, zero, suc, ◌+◌, ◌-◌, ◌/◌, ◌%◌, ◌^◌, ◌≤◌, ◌<◌}
use mathlib.Core.Path.{◌≡◌, refl, sym, ap, ap₂, ◌∙◌, subst}
use mathlib.Core.Bool.{Bool, true, false, not, cond, ◌&&◌, ◌||◌, and_assoc, and-true, and-false}
use mathlib.Core.List.{List, [], ◌∷◌, ◌++◌}
use mathlib.Core.Logic.{◌⊎◌, inl, inr}
use native.Mathlib.Nat.{mod-lt, zero-lt-suc}
use native.Mathlib.Omega.{arith}
use lib.Bits.{bit_or, bit_xor, or_mod, xor_mod}
use lib.Dec.{eqb, leb, ltb}
use lib.ListN.{length, get_or, take, drop, length-drop}
use lib.Seq.{length-take-le, take-add, drop-drop}
use mir.Val.{bool_byte}
use borrow.Author.Tests.{lt-ltb, le-ltb, lt-leb, le-leb}
use Rattle.kinds.specs.Limits.{walk_atoms}
use Rattle.rules.specs.Lists.{All, every, some}
use Rattle.rules.specs.Preferred.{is_same}
use Rattle.rules.specs.Sets.{has}
use Rattle.rules.proofs.Lists.{all_app}
use Rattle.stores.specs.RuleStore.{heads, bodies, nots, rule_at}
use Rattle.stores.specs.StoredRules.{StoredRule}
use Rattle.stores.proofs.Parts.{part_cons, part_none}
use Rattle.rule_index.specs.Flip.{is_broken}

-- the lowest bit, as the code computes it

below_two : (n : ℕ) → n < 2 → (n ≡ 0) ⊎ (n ≡ 1)
below_two zero h = inl refl
below_two (suc zero) h = inr refl
below_two (suc (suc n)) h = absurd (omega arith)

lowest : (n : ℕ) → (n % 2 ≡ 0) ⊎ (n % 2 ≡ 1)
lowest n = below_two (n % 2) (mod-lt n (zero-lt-suc 1))

or_even : (a b : ℕ) → eqb (bit_or a b % 2) 0 ≡ (eqb (a % 2) 0 && eqb (b % 2) 0)
or_even a b = ap (λ (y : ℕ). eqb y 0) (or_mod a b 1) ∙ step (a % 2) (b % 2) (lowest a) (lowest b)
  where
    step : (x y : ℕ) → (x ≡ 0) ⊎ (x ≡ 1) → (y ≡ 0) ⊎ (y ≡ 1) → eqb (bit_or x y) 0 ≡ (eqb x 0 && eqb y 0)
    step x y (inl e) (inl f) = rw (e, f)
    step x y (inl e) (inr f) = rw (e, f)
    step x y (inr e) (inl f) = rw (e, f)
    step x y (inr e) (inr f) = rw (e, f)

xor_even : (a : ℕ) (w : Bool) → eqb (bit_xor a (cond w 1 0) % 2) 0 ≡ is_same (eqb (a % 2) 1) w
xor_even a w = ap (λ (y : ℕ). eqb y 0) (xor_mod a (cond w 1 0) 1) ∙ step (a % 2) w (lowest a)
  where
    step : (x : ℕ) (w : Bool) → (x ≡ 0) ⊎ (x ≡ 1) → eqb (bit_xor x (cond w 1 0 % 2)) 0 ≡ is_same (eqb x 1) w
    step x true (inl e) = rw e
    step x true (inr e) = rw e
    step x false (inl e) = rw e
    step x false (inr e) = rw e

pub bit_of : (b : Bool) → bool_byte b ≡ cond b 1 0
bit_of true = refl
bit_of false = refl

-- the place i lies in the body, from `body` up to `stop`
abbrev in_body : (body stop i : ℕ) → Bool
in_body body stop i = leb body i && ltb i stop

-- the atoms, which stand at the places from i on, are in the set just where they stand in the body
abbrev as_wanted : (set body stop i : ℕ) → List ℕ → Bool
as_wanted set body stop i [] = true
as_wanted set body stop i (a ∷ xs) = is_same (has set a) (in_body body stop i) && as_wanted set body stop (i + 1) xs

same_true : (b : Bool) → is_same b true ≡ b
same_true true = refl
same_true false = refl

same_false : (b : Bool) → is_same b false ≡ not b
same_false true = refl
same_false false = refl

neither : (a b : Bool) → (not a && not b) ≡ not (a || b)
neither true b = refl
neither false b = refl

module _ (set body stop : ℕ) where
  wanted_app : (i : ℕ) (xs ys : List ℕ) → as_wanted set body stop i (xs ++ ys) ≡ (as_wanted set body stop i xs && as_wanted set body stop (i + length xs) ys)
  wanted_app i [] ys = let e : i ≡ i + 0 = omega arith in ap (λ (j : ℕ). as_wanted set body stop j ys) e
  wanted_app i (a ∷ xs) ys =
      let e : i + 1 + length xs ≡ i + suc (length xs) = omega arith in
      let t = is_same (has set a) (in_body body stop i) in
      let r = as_wanted set body stop (i + 1) xs in
      ap (λ (b : Bool). t && b) (wanted_app (i + 1) xs ys ∙ ap (λ (j : ℕ). r && as_wanted set body stop j ys) e)
      ∙ sym (and_assoc t r (as_wanted set body stop (i + suc (length xs)) ys))

  body_wanted : (i : ℕ) (xs : List ℕ) → body ≤ i → i + length xs ≤ stop → as_wanted set body stop i xs ≡ every (has set) xs
  body_wanted i [] h k = refl
  body_wanted i (a ∷ xs) h k =
      let l : i < stop = omega arith in
      let e : in_body body stop i ≡ true = rw (le-leb body i h, lt-ltb i stop l) refl in
      ap₂ (λ (b c : Bool). b && c) (ap (is_same (has set a)) e ∙ same_true (has set a)) (body_wanted (i + 1) xs (omega arith) (omega arith))

  others_wanted : (i : ℕ) (xs : List ℕ) → ((j : ℕ) → i ≤ j → j < i + length xs → in_body body stop j ≡ false) → as_wanted set body stop i xs ≡ not (some (has set) xs)
  others_wanted i [] h = refl
  others_wanted i (a ∷ xs) h =
      ap₂ (λ (b c : Bool). b && c) (ap (is_same (has set a)) (h i (omega arith) (omega arith)) ∙ same_false (has set a)) (others_wanted (i + 1) xs (λ j l u. h j (omega arith) (omega arith)))
      ∙ neither (has set a) (some (has set) xs)

  before_body_lem : (j : ℕ) → j < body → in_body body stop j ≡ false
  before_body_lem j h = rw (lt-leb body j h) refl

  behind_body_lem : (j : ℕ) → stop ≤ j → in_body body stop j ≡ false
  behind_body_lem j h = rw (le-ltb j stop h) (and-false (leb body j))

-- no head atom in, the whole body in, no `not` atom in
broken_parts : (h b n : Bool) → (not h && (b && not n)) ≡ not (not (b && not n) || h)
broken_parts true true true = refl
broken_parts true true false = refl
broken_parts true false n = refl
broken_parts false true true = refl
broken_parts false true false = refl
broken_parts false false n = refl

-- the lists of a rule with h, b and n atoms
module _ (ws : List ℕ) (h b n : ℕ) where
  abbrev atoms : List ℕ
  atoms = take h (drop 3 ws) ++ (take b (drop (3 + h) ws) ++ take n (drop (3 + h + b) ws))

  atoms_are : take (3 + h + b + n - 3) (drop 3 ws) ≡ atoms
  atoms_are =
      let e : 3 + h + b + n - 3 ≡ h + (b + n) = omega arith in
      ap (λ (k : ℕ). take k (drop 3 ws)) e ∙ take-add h (b + n) (drop 3 ws)
      ∙ ap (λ (l : List ℕ). take h (drop 3 ws) ++ take (b + n) l) (drop-drop h 3 ws)
      ∙ ap (λ (l : List ℕ). take h (drop 3 ws) ++ l) (take-add b n (drop (3 + h) ws))
      ∙ ap (λ (l : List ℕ). take h (drop 3 ws) ++ (take b (drop (3 + h) ws) ++ take n l)) (drop-drop b (3 + h) ws)

  module _ (set : ℕ) (k : 3 + (h + b + n) ≤ length ws) where
    size : (s c : ℕ) → s + c ≤ 3 + (h + b + n) → length (take c (drop s ws)) ≡ c
    size s c l = length-take-le c (drop s ws) (omega (arith, length-drop s ws))

    all_wanted : as_wanted set (3 + h) (3 + h + b) 3 atoms
        ≡ (not (some (has set) (take h (drop 3 ws))) && (every (has set) (take b (drop (3 + h) ws)) && not (some (has set) (take n (drop (3 + h + b) ws)))))
    all_wanted =
        let hs = take h (drop 3 ws) in
        let bs = take b (drop (3 + h) ws) in
        let ns = take n (drop (3 + h + b) ws) in
        let p : length hs ≡ h = size 3 h (omega arith) in
        let q : length bs ≡ b = size (3 + h) b (omega arith) in
        let w = as_wanted set (3 + h) (3 + h + b) in
        wanted_app set (3 + h) (3 + h + b) 3 hs (bs ++ ns)
        ∙ ap₂ (λ (x y : Bool). x && y)
        (others_wanted set (3 + h) (3 + h + b) 3 hs (λ j l u. before_body_lem set (3 + h) (3 + h + b) j (omega arith)))
        (ap (λ (s : ℕ). w (3 + s) (bs ++ ns)) p ∙ wanted_app set (3 + h) (3 + h + b) (3 + h) bs ns
        ∙ ap₂ (λ (x y : Bool). x && y)
        (body_wanted set (3 + h) (3 + h + b) (3 + h) bs (omega arith) (omega arith))
        (ap (λ (s : ℕ). w (3 + h + s) ns) q ∙ others_wanted set (3 + h) (3 + h + b) (3 + h + b) ns (λ j l u. behind_body_lem set (3 + h) (3 + h + b) j l)))

-- the atoms passed are as wanted where odd is even, and those left decide
pub record Passing (words : List ℕ) (set body stop end odd i : ℕ) (whole : Bool) : Type 0 where
  pub ends : end ≤ length words
  pub below : All (λ a. a < walk_atoms) (take (end - i) (drop i words))
  pub rest : (eqb (odd % 2) 0 && as_wanted set body stop i (take (end - i) (drop i words))) ≡ whole

pub begins : (ws : List ℕ) (set : ℕ) → StoredRule walk_atoms ws
    → Passing ws set (3 + heads ws) (3 + heads ws + bodies ws) (3 + heads ws + bodies ws + nots ws) 0 3 (is_broken set (rule_at ws))
unfolding rule_at
begins ws set s =
    let r = rule_at ws in
    let e = atoms_are ws (heads ws) (bodies ws) (nots ws) in
    let A : ℕ → Type 0 = λ a. a < walk_atoms in
    record {
      ends = omega (arith, s.inside);
      below = subst (All A) (sym e) (all_app A r.head (r.body ++ r.nots) s.heads (all_app A r.body r.nots s.bodies s.nots));
      rest =
          ap (as_wanted set (3 + heads ws) (3 + heads ws + bodies ws) 3) e
          ∙ all_wanted ws (heads ws) (bodies ws) (nots ws) set s.inside
          ∙ broken_parts (some (has set) r.head) (every (has set) r.body) (some (has set) r.nots);
    }

module _ {words : List ℕ} {set body stop end odd i : ℕ} {whole : Bool} (h : Passing words set body stop end odd i whole) where
  pub ended : end ≤ i → eqb (odd % 2) 0 ≡ whole
  ended l = sym (and-true (eqb (odd % 2) 0)) ∙ ap (λ (r : List ℕ). eqb (odd % 2) 0 && as_wanted set body stop i r) (sym (part_none words i end l)) ∙ h.rest

  module _ (l : i < end) where
    left : All (λ a. a < walk_atoms) (get_or words i 0 ∷ take (end - (i + 1)) (drop (i + 1) words))
    left = subst (All (λ a. a < walk_atoms)) (part_cons words i end l h.ends) h.below

    pub atom_below : get_or words i 0 < walk_atoms
    atom_below = left.0

    pub again : {w : ℕ} → w ≡ cond (leb body i && ltb i stop) 1 0 → Passing words set body stop end (bit_or odd (bit_xor (set / 2 ^ get_or words i 0) w)) (i + 1) whole
    again {w} e =
        let x = set / 2 ^ get_or words i 0 in
        let more = take (end - (i + 1)) (drop (i + 1) words) in
        let t = is_same (has set (get_or words i 0)) (in_body body stop i) in
        let f : eqb (bit_xor x w % 2) 0 ≡ t = ap (λ (v : ℕ). eqb (bit_xor x v % 2) 0) e ∙ xor_even x (in_body body stop i) in
        record {
          ends = h.ends;
          below = left.1;
          rest =
              ap (λ (b : Bool). b && as_wanted set body stop (i + 1) more) (or_even odd (bit_xor x w) ∙ ap (λ (b : Bool). eqb (odd % 2) 0 && b) f)
              ∙ and_assoc (eqb (odd % 2) 0) t (as_wanted set body stop (i + 1) more)
              ∙ ap (λ (r : List ℕ). eqb (odd % 2) 0 && as_wanted set body stop i r) (sym (part_cons words i end l h.ends)) ∙ h.rest;
        }
