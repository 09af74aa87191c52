-- Names of a list to numbers: what finding one says, and a turn of the walk.
use Rattle.std.specs.Prelude.{Option, Some, None}
use Prim.Native.Nat.{ℕ, suc, ◌+◌, ◌^◌, ◌≤◌, ◌<◌, zero-le}
use native.Mathlib.Nat.{zero-add}
use native.Mathlib.Omega.{arith}
use mathlib.Core.Path.{◌≡◌, refl, sym, ap, ap₂, ◌∙◌, subst}
use mathlib.Core.List.{List, [], ◌∷◌, ◌++◌, map, append_assoc, append-nil}
use mathlib.Core.Bool.{Bool, true, false, not, cond, ◌||◌}
use lib.Dec.{T, eqb, eqb→eq}
use lib.ListN.{length, get_or, drop, set, length-set, length-append, length-map}
use borrow.Author.Tests.{ne_eqb}
use Rattle.rules.specs.Lists.{All, some}
use Rattle.rules.proofs.Booleans.{bool_ext, eq_to_eqb, or_assoc, or-true, or-false}
use Rattle.rules.proofs.Lists.{all_app, some_last}
use Rattle.name_store.specs.NameStore.{same_bytes, among}
use Rattle.name_store.specs.NameIndex.{found_from, found}
use Rattle.stores.specs.Checking.{Below}
use Rattle.name_store.proofs.NameStores.{same_law, same_sym}
use Rattle.output.specs.Emitted.{Emitted, InRange}
use Rattle.output.proofs.Emitting.{none, then, renamed}
use Rattle.stores.proofs.Marks.{set_below, set_marks}
use Rattle.lines.specs.declared.scan.Item.{Item}
use Rattle.lines.specs.Tokens.{tokens, behind, items}
use Rattle.lines.specs.Faults.{twice, name_number}
use Rattle.lines.specs.Shapes.{spaced, item_of, ClosedIs}
use Rattle.numbering.specs.Numbers.{Numbered, NumbersAre}
use Rattle.lines.proofs.NameLists.{split_is, list_closed, list_unclosed}
use Rattle.lines.proofs.TokenPlaces.{items_end, item_fits, item_long, item, later, item_is, behind_is}

-- x is the name of atom j
pub record Named (names : List (List ℕ)) (x : List ℕ) (j : ℕ) : Type 0 where
  pub declared : among names x ≡ true
  pub number : name_number names x ≡ j
  pub below : j < length names

named_from : (i : ℕ) (x : List ℕ) (names : List (List ℕ)) {j : ℕ} → found_from i x names ≡ Some j → (among names x ≡ true) × (i + name_number names x ≡ j) × (name_number names x < length names)
unfolding found_from name_number
named_from i x [] e = absurd (let z : ◌≡◌ {A = ℕ} 0 1 = cc in omega arith)
named_from i x (y ∷ ys) {j} e = go (same_bytes y x) (same_sym x y) e (λ (k : found_from (suc i) x ys ≡ Some j). named_from (suc i) x ys k)
  where
    go : (b : Bool) → same_bytes x y ≡ b → cond b (Some i) (found_from (suc i) x ys) ≡ Some j
        → (found_from (suc i) x ys ≡ Some j → (among ys x ≡ true) × (suc i + name_number ys x ≡ j) × (name_number ys x < length ys))
        → ((same_bytes x y || among ys x) ≡ true) × (i + cond (same_bytes x y) 0 (suc (name_number ys x)) ≡ j) × (cond (same_bytes x y) 0 (suc (name_number ys x)) < suc (length ys))
    go true t e r = let s : i ≡ j = cc in rw t (refl, omega arith, omega arith)
    go false t e r = let k = r e in rw t (k.0, omega (arith, k.1), omega (arith, k.2))

pub named : (x : List ℕ) (names : List (List ℕ)) {r : Option ℕ} {j : ℕ} → r ≡ found x names → r ≡ Some j → Named names x j
named x names e d = let k = named_from 0 x names (sym e ∙ d) in record { declared = k.0; number = sym (zero-add (name_number names x)) ∙ k.1; below = omega (arith, k.1, k.2) }

unnamed_from : (i : ℕ) (x : List ℕ) (names : List (List ℕ)) → found_from i x names ≡ None → among names x ≡ false
unfolding found_from
unnamed_from i x [] e = refl
unnamed_from i x (y ∷ ys) e = go (same_bytes y x) (same_sym x y) e (unnamed_from (suc i) x ys)
  where
    go : (b : Bool) → same_bytes x y ≡ b → cond b (Some i) (found_from (suc i) x ys) ≡ None → (found_from (suc i) x ys ≡ None → among ys x ≡ false) → (same_bytes x y || among ys x) ≡ false
    go true t e r = absurd (let z : ◌≡◌ {A = ℕ} 0 1 = cc in omega arith)
    go false t e r = rw t (r e)

pub unnamed : (x : List ℕ) (names : List (List ℕ)) {r : Option ℕ} → r ≡ found x names → r ≡ None → among names x ≡ false
unnamed x names e d = unnamed_from 0 x names (sym e ∙ d)

-- declared names are equal exactly when their numbers are

name_of : (names : List (List ℕ)) (x : List ℕ) → among names x ≡ true → get_or names (name_number names x) [] ≡ x
unfolding name_number
name_of [] x e = absurd (let z : ◌≡◌ {A = ℕ} 0 1 = cc in omega arith)
name_of (y ∷ ys) x e = go (same_bytes x y) refl e (name_of ys x)
  where
    go : (b : Bool) → same_bytes x y ≡ b → (b || among ys x) ≡ true → (among ys x ≡ true → get_or ys (name_number ys x) [] ≡ x) → get_or (y ∷ ys) (cond b 0 (suc (name_number ys x))) [] ≡ x
    go true t e r = sym ((same_law x y).0 (subst T (sym t) tt))
    go false t e r = r e

same_number : (names : List (List ℕ)) (x y : List ℕ) → among names x ≡ true → among names y ≡ true → same_bytes x y ≡ eqb (name_number names x) (name_number names y)
same_number names x y p q =
    bool_ext (same_bytes x y) (eqb (name_number names x) (name_number names y))
    (λ h. eq_to_eqb (name_number names x) (name_number names y) (ap (name_number names) ((same_law x y).0 h)))
    (λ h. (same_law x y).1 (sym (name_of names x p) ∙ ap (λ (k : ℕ). get_or names k []) (eqb→eq (name_number names x) (name_number names y) h) ∙ name_of names y q))

abbrev Declared : List (List ℕ) → List (List ℕ) → Type 0
Declared names xs = All (λ y. among names y ≡ true) xs

-- x stood before exactly when its number did
stood : (names : List (List ℕ)) (x : List ℕ) → among names x ≡ true → (seen : List (List ℕ)) → Declared names seen → among seen x ≡ some (λ y. eqb (name_number names x) (name_number names y)) seen
stood names x p [] d = refl
stood names x p (y ∷ seen) d = ap₂ ◌||◌ (same_number names x y p d.0) (stood names x p seen d.1)

all_declared : (names seen : List (List ℕ)) → Declared names seen → some (λ x. not (among names x)) seen ≡ false
all_declared names [] d = refl
all_declared names (x ∷ seen) d = rw d.0 (all_declared names seen d.1)

one_undeclared : (names seen : List (List ℕ)) (x : List ℕ) (xs : List (List ℕ)) → among names x ≡ false → some (λ x. not (among names x)) (seen ++ (x ∷ xs)) ≡ true
one_undeclared names [] x xs e = rw e
one_undeclared names (y ∷ seen) x xs e = rw (one_undeclared names seen x xs e) (or-true (not (among names y)))

-- one more at the end

map_last : {A B : Type 0} (f : A → B) (xs : List A) (x : A) → map f (xs ++ (x ∷ [])) ≡ map f xs ++ (f x ∷ [])
map_last f [] x = refl
map_last f (y ∷ xs) x = ap (λ l. f y ∷ l) (map_last f xs x)

-- the names up to i are passed
pub record Numbering (names : List (List ℕ)) (s : List ℕ) (from stamp : ℕ) (before : List ℕ) (at i end : ℕ) (flag : Bool) (marks now : List ℕ) : Type 0 where
  pub seen : List (List ℕ)
  pub inside : i ≤ length s
  pub range : at + length s < 2 ^ 63
  pub few : length seen ≤ i
  pub known : Declared names seen
  pub all : seen ++ items (drop i s) ≡ items (drop from s)
  pub same_behind : behind (tokens (drop i s)) ≡ behind (tokens (drop from s))
  pub is_twice : (flag || twice seen (items (drop i s))) ≡ twice [] (items (drop from s))
  pub marked : (a : ℕ) → eqb (get_or marks a 0) stamp ≡ some (λ y. eqb a (name_number names y)) seen
  pub below : Below (stamp + 1) marks
  pub room : length names ≤ length marks
  pub written : Emitted before at (map (name_number names) seen) now end

pub numbering : (names : List (List ℕ)) (s : List ℕ) (from stamp : ℕ) (before : List ℕ) (at : ℕ) (marks : List ℕ) → from ≤ length s → length names ≤ length marks → at + length s < 2 ^ 63 → Below stamp marks → Numbering names s from stamp before at from at false marks before
numbering names s from stamp before at marks i r h b =
    record {
      seen = [];
      inside = i;
      range = h;
      few = zero-le;
      known = tt;
      all = refl;
      same_behind = refl;
      is_twice = refl;
      marked = λ a. ne_eqb (get_or marks a 0) stamp (λ e. omega (arith, b.mark a));
      below = record { mark = λ a. omega (arith, b.mark a) };
      room = r;
      written = none;
    }

module _ {names : List (List ℕ)} {s : List ℕ} {from stamp : ℕ} {before : List ℕ} {at i end : ℕ} {flag : Bool} {marks now : List ℕ} (h : Numbering names s from stamp before at i end flag marks now) {r : Option Item} (e : r ≡ item_of (drop i s)) where
  numbers_end : r ≡ None → Numbered names (items (drop from s)) stamp before at marks now end flag
  unfolding twice
  numbers_end d =
      let out : items (drop i s) ≡ [] = items_end s i e d in
      let whole : h.seen ≡ items (drop from s) = sym (append-nil h.seen) ∙ ap (λ l. h.seen ++ l) (sym out) ∙ h.all in
      record {
        declared = ap (some (λ x. not (among names x))) (sym whole) ∙ all_declared names h.seen h.known;
        is_twice = sym (or-false flag) ∙ ap (λ l. flag || twice h.seen l) (sym out) ∙ h.is_twice;
        written = renamed h.written (ap (map (name_number names)) whole);
        below = h.below;
      }

  -- behind the last name
  module _ (d : r ≡ None) {q : Option ℕ} (c : ClosedIs s i q) where
    pub numbers_closed : {p : ℕ} → q ≡ Some p → NumbersAre names s from stamp before at marks now (Some (record { place = p; end = end; twice = flag }))
    numbers_closed t = let k = list_closed s from i h.same_behind e d c t in record { says = record { cuts = k.0; inside = k.1; numbered = numbers_end d } }

    pub numbers_unclosed : q ≡ None → NumbersAre names s from stamp before at marks now None
    numbers_unclosed t = record { says = λ xs rest j. absurd (list_unclosed s from i h.same_behind e d c t j) }

  module _ {g n : ℕ} (d : r ≡ spaced g n) where
    pub number_inside : i + g + n ≤ length s
    number_inside = item_fits s i e d

    pub number_long : 1 ≤ n
    number_long = item_long s i e d

    abbrev x : List ℕ
    x = item s i e d

    abbrev xs : List (List ℕ)
    xs = later s i e d

    split : h.seen ++ (x ∷ xs) ≡ items (drop from s)
    split = ap (λ l. h.seen ++ l) (sym (item_is s i e d)) ∙ h.all

    module _ {q : Option ℕ} (f : q ≡ found x names) where
      missing : q ≡ None → some (λ x. not (among names x)) (items (drop from s)) ≡ true
      missing t = sym (ap (some (λ x. not (among names x))) split) ∙ one_undeclared names h.seen x xs (unnamed x names f t)

      pub not_declared : q ≡ None → NumbersAre names s from stamp before at marks now None
      unfolding items
      not_declared t = record { says = λ ys rest j. ap (some (λ x. not (among names x))) (split_is (tokens (drop from s)) j) ∙ missing t }

      module _ {j : ℕ} (u : q ≡ Some j) where
        pub known_name : Named names x j
        known_name = named x names f u

        pub atom_marked : j < length marks
        atom_marked = omega (arith, known_name.below, h.room)

        pub word_range : (w : ℕ) → InRange end (w ∷ [])
        word_range w = record { below = omega (arith, h.range, h.written.place, length-map h.seen (name_number names), h.few, number_inside, item_long s i e d) }

        module _ {had : Bool} {marks' : List ℕ} (m : had ≡ eqb (get_or marks j 0) stamp) (t : marks' ≡ set marks j stamp) {now' : List ℕ} {end' : ℕ} (w : Emitted now end (j ∷ []) now' end') where
          is_before : some (same_bytes x) h.seen ≡ had
          is_before =
              stood names x known_name.declared h.seen h.known
              ∙ ap (λ k. some (λ y. eqb k (name_number names y)) h.seen) known_name.number
              ∙ sym (h.marked j)
              ∙ sym m

          pub number_passed : {flag' : Bool} → flag' ≡ (flag || had) → Numbering names s from stamp before at (i + g + n) end' flag' marks' now'
          unfolding twice
          number_passed {flag'} k =
              record {
                seen = h.seen ++ (x ∷ []);
                inside = number_inside;
                range = h.range;
                few = omega (arith, length-append h.seen (x ∷ []), h.few, item_long s i e d);
                known = all_app (λ y. among names y ≡ true) h.seen (x ∷ []) h.known (known_name.declared, tt);
                all = append_assoc h.seen (x ∷ []) xs ∙ split;
                same_behind = sym (behind_is s i e d) ∙ h.same_behind;
                is_twice =
                    ap (λ b. b || twice (h.seen ++ (x ∷ [])) xs) (k ∙ ap (λ b. flag || b) (sym is_before))
                    ∙ sym (or_assoc flag (some (same_bytes x) h.seen) (twice (h.seen ++ (x ∷ [])) xs))
                    ∙ ap (λ l. flag || twice h.seen l) (sym (item_is s i e d))
                    ∙ h.is_twice;
                marked = λ a. ap (λ l. eqb (get_or l a 0) stamp) t ∙ set_marks marks j stamp atom_marked a
                    ∙ ap₂ (λ (k : ℕ) (b : Bool). eqb a k || b) (sym known_name.number) (h.marked a)
                    ∙ sym (some_last (λ y. eqb a (name_number names y)) h.seen x);
                below = subst (Below (stamp + 1)) (sym t) (set_below marks j stamp atom_marked h.below);
                room = omega (arith, h.room, ap length t ∙ length-set marks j stamp);
                written = renamed (then h.written w) (ap (λ k. map (name_number names) h.seen ++ (k ∷ [])) (sym known_name.number) ∙ sym (map_last (name_number names) h.seen x));
              }
