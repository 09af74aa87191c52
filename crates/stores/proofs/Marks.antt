-- The check of one list by marks: an atom stood in the part passed exactly when its mark is the list's stamp.
use Prim.Native.Nat.{ℕ, ◌+◌, ◌-◌, ◌≤◌, ◌<◌}
use mathlib.Core.Path.{◌≡◌, refl, sym, ap, ◌∙◌}
use mathlib.Core.Bool.{Bool, true, false, not, ◌||◌}
use mathlib.Core.List.{List, [], ◌∷◌}
use native.Mathlib.Omega.{arith}
use native.Mathlib.Decide.{ℕ_discrete}
use lib.Dec.{eqb}
use lib.ListN.{length, get_or, take, drop, set, length-set, drop_of_length-le}
use lib.Seq.{get_or-set_same, get_or-set_other, drop-cons}
use native.Mathlib.Numerals.{add-one}
use borrow.Author.Tests.{not-true, not-false, lt-ltb, le-ltb, eq-eqb, ne_eqb}
use Rattle.rules.specs.Lists.{some}
use Rattle.rules.specs.Rules.{Rule}
use Rattle.stores.specs.Checking.{Below}
use Rattle.stores.specs.RuleStore.{is_list, are_lists}

pub below_more : {s t : ℕ} {marks : List ℕ} → Below s marks → s ≤ t → Below t marks
below_more b h = record { mark = λ a. omega (arith, b.mark a) }

pub set_below : (marks : List ℕ) (a stamp : ℕ) → a < length marks → Below (stamp + 1) marks → Below (stamp + 1) (set marks a stamp)
set_below marks a stamp l h = record { mark = λ b. step b (ℕ_discrete b a) }
  where
    step : (b : ℕ) → Dec (b ≡ a) → get_or (set marks a stamp) b 0 < stamp + 1
    step b (yes e) = rw (e, get_or-set_same marks a stamp 0 l) (omega arith)
    step b (no e) = rw (get_or-set_other marks a b stamp 0 e) (h.mark b)

pub set_marks : (marks : List ℕ) (a stamp : ℕ) → a < length marks → (b : ℕ) → eqb (get_or (set marks a stamp) b 0) stamp ≡ (eqb b a || eqb (get_or marks b 0) stamp)
set_marks marks a stamp l b = step (ℕ_discrete b a)
  where
    step : Dec (b ≡ a) → eqb (get_or (set marks a stamp) b 0) stamp ≡ (eqb b a || eqb (get_or marks b 0) stamp)
    step (yes e) = let s : get_or (set marks a stamp) b 0 ≡ stamp = ap (λ (j : ℕ). get_or (set marks a stamp) j 0) e ∙ get_or-set_same marks a stamp 0 l in simp (eq-eqb (get_or (set marks a stamp) b 0) stamp s, eq-eqb b a e)
    step (no e) = simp (get_or-set_other marks a b stamp 0 e, ne_eqb b a e)

-- the list is passed up to `i`
pub record Marking (list : List ℕ) (atoms : ℕ) (marks₀ : List ℕ) (stamp : ℕ) (marks : List ℕ) (i : ℕ) : Type 0 where
  pub seen : List ℕ
  pub room : atoms ≤ length marks₀
  pub same_length : length marks ≡ length marks₀
  pub below : Below (stamp + 1) marks
  pub marked : (a : ℕ) → eqb (get_or marks a 0) stamp ≡ some (eqb a) seen
  pub rest : is_list atoms seen (drop i list) ≡ is_list atoms [] list

pub begins : (list : List ℕ) (atoms : ℕ) (marks : List ℕ) (stamp : ℕ) → (atoms ≤ length marks) × Below stamp marks → Marking list atoms marks stamp marks 0
begins list atoms marks stamp h = record {
  seen = [];
  room = h.0;
  same_length = refl;
  below = below_more h.1 (omega arith);
  marked = λ a. ne_eqb (get_or marks a 0) stamp (λ e. omega (arith, h.1.mark a));
  rest = refl;
}

module _ {list : List ℕ} {atoms : ℕ} {marks₀ : List ℕ} {stamp : ℕ} {marks : List ℕ} {i : ℕ} (m : Marking list atoms marks₀ stamp marks i) where
  pub ended : length list ≤ i → (true ≡ is_list atoms [] list) × Below (stamp + 1) marks
  unfolding is_list
  ended h = (ap (is_list atoms m.seen) (sym (drop_of_length-le list h)) ∙ m.rest, m.below)

  module _ (h : i < length list) where
    next : is_list atoms m.seen (get_or list i 0 ∷ drop (i + 1) list) ≡ is_list atoms [] list
    next = let e : drop i list ≡ get_or list i 0 ∷ drop (i + 1) list = rw (add-one, drop-cons list i 0) in ap (is_list atoms m.seen) (sym e) ∙ m.rest

    pub beyond : atoms ≤ get_or list i 0 → (false ≡ is_list atoms [] list) × Below (stamp + 1) marks
    unfolding is_list
    beyond o = (simp (le-ltb (get_or list i 0) atoms o) at next, m.below)

    module _ (inside : get_or list i 0 < atoms) where
      pub twice : get_or marks (get_or list i 0) 0 ≡ stamp → (false ≡ is_list atoms [] list) × Below (stamp + 1) marks
      unfolding is_list
      twice t =
          let s : some (eqb (get_or list i 0)) m.seen ≡ true = sym (m.marked (get_or list i 0)) ∙ eq-eqb (get_or marks (get_or list i 0) 0) stamp t in
          (simp (lt-ltb (get_or list i 0) atoms inside, s) at next, m.below)

      pub again : (get_or marks (get_or list i 0) 0 ≡ stamp → ⊥) → Marking list atoms marks₀ stamp (set marks (get_or list i 0) stamp) (i + 1)
      unfolding is_list
      again t =
          let a = get_or list i 0 in
          let s : some (eqb a) m.seen ≡ false = sym (m.marked a) ∙ ne_eqb (get_or marks a 0) stamp t in
          let l : a < length marks = omega (arith, m.room, m.same_length) in
          record {
            seen = a ∷ m.seen;
            room = m.room;
            same_length = length-set marks a stamp ∙ m.same_length;
            below = set_below marks a stamp l m.below;
            marked = λ b. set_marks marks a stamp l b ∙ ap (λ (t : Bool). eqb b a || t) (m.marked b);
            rest = simp (lt-ltb a atoms inside, s) at next;
          }

-- the k words from i on, as a part of the words
pub listed : (n : ℕ) (words : List ℕ) (i k : ℕ) {x : Bool} → x ≡ is_list n [] (take (i + k - i) (drop i words)) → x ≡ is_list n [] (take k (drop i words))
listed n words i k e = let q : i + k - i ≡ k = omega arith in e ∙ ap (λ (j : ℕ). is_list n [] (take j (drop i words))) q

-- the three lists of a rule, one after another
module _ (n : ℕ) (r : Rule ℕ) {x : Bool} (h : x ≡ is_list n [] r.head) where
  pub head_wrong : x ≡ false → false ≡ are_lists n r
  unfolding are_lists
  head_wrong f = simp (sym h, f)

  module _ {y : Bool} (b : y ≡ is_list n [] r.body) (t : x ≡ true) where
    pub body_wrong : y ≡ false → false ≡ are_lists n r
    unfolding are_lists
    body_wrong f = simp (sym h, sym b, t, f)

    pub all_lists : {z : Bool} → z ≡ is_list n [] r.nots → y ≡ true → z ≡ are_lists n r
    unfolding are_lists
    all_lists {z} c f = simp (sym h, sym b, sym c, t, f)
