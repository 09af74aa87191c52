-- Where each name stands in a name store.
use Prim.Native.Nat.{ℕ, zero, suc, ◌+◌, ◌-◌, ◌≤◌, ◌<◌}
use native.Mathlib.Nat.{add-zero, add-sub_cancel_left}
use native.Mathlib.Omega.{arith}
use mathlib.Core.Path.{◌≡◌, refl, sym, ap, ap₂, ◌∙◌, subst}
use mathlib.Core.List.{List, [], ◌∷◌, ◌++◌, append_assoc}
use lib.ListN.{length, get_or, take, drop, length-append, length-drop}
use lib.Seq.{take-append_seam, drop-append-add, drop-drop, get_or-drop}
use Rattle.name_store.specs.NameStore.{name_bytes, encode_names, first_name, decode_names}
use lib.Dec.{leb}
use mathlib.Core.Bool.{true, false}
use borrow.Author.Tests.{le-leb, lt-leb}
use Rattle.name_store.specs.NameIndex.{name_start, Placed, name_end}
use Rattle.std.specs.Prelude.{Some, None}

pub length_decode : (n : ℕ) (bs : List ℕ) → length (decode_names n bs) ≡ n
unfolding decode_names
length_decode zero bs = refl
length_decode (suc n) bs = ap suc (length_decode n (drop (1 + get_or bs 0 0) bs))

-- fewer of the names
pub decode_first : (q n : ℕ) (bs : List ℕ) → q ≤ n → decode_names q bs ≡ take q (decode_names n bs)
unfolding decode_names
decode_first zero n bs l = refl
decode_first (suc q) zero bs l = absurd (omega arith)
decode_first (suc q) (suc n) bs l = ap (λ r. first_name bs ∷ r) (decode_first q n (drop (1 + get_or bs 0 0) bs) (omega arith))

pub first_byte : (bs : List ℕ) (p : ℕ) → get_or (drop p bs) 0 0 ≡ get_or bs p 0
first_byte bs p = get_or-drop p bs 0 0 ∙ ap (λ k. get_or bs k 0) (add-zero p)

-- x and its length byte stand at p
pub record NameHere (bytes : List ℕ) (p : ℕ) (x : List ℕ) : Type 0 where
  pub inside : p + 1 + length x ≤ length bytes
  pub size : get_or bytes p 0 ≡ length x
  pub part : take (length x) (drop (p + 1) bytes) ≡ x

pub stands : (bytes : List ℕ) (p : ℕ) (x rest : List ℕ) → drop p bytes ≡ name_bytes x ++ rest → NameHere bytes p x
stands bytes p x rest e =
    let long : length bytes - p ≡ suc (length x + length rest) = sym (length-drop p bytes) ∙ ap length e ∙ ap suc (length-append x rest) in
    let after : drop (p + 1) bytes ≡ x ++ rest = sym (drop-drop 1 p bytes) ∙ ap (drop 1) e in
    record {
      inside = omega arith;
      size = sym (first_byte bytes p) ∙ ap (λ l. get_or l 0 0) e;
      part = ap (take (length x)) after ∙ take-append_seam x rest;
    }

drop_place : (names : List (List ℕ)) (rest : List ℕ) (i : ℕ) → i < length names
    → drop (name_start names i) (encode_names names ++ rest) ≡ name_bytes (get_or names i []) ++ (encode_names (drop (suc i) names) ++ rest)
unfolding encode_names
drop_place [] rest i l = absurd (omega arith)
drop_place (x ∷ names) rest zero l = append_assoc (name_bytes x) (encode_names names) rest
drop_place (x ∷ names) rest (suc i) l =
    let size : name_start (x ∷ names) (suc i) ≡ length (name_bytes x) + name_start names i = length-append (name_bytes x) (encode_names (take i names)) in
    ap₂ drop size (append_assoc (name_bytes x) (encode_names names) rest)
    ∙ drop-append-add (name_bytes x) (encode_names names ++ rest) (name_start names i)
    ∙ drop_place names rest i (omega arith)

pub stored_here : (names : List (List ℕ)) (bytes rest : List ℕ) → encode_names names ++ rest ≡ bytes → (i : ℕ) → i < length names → NameHere bytes (name_start names i) (get_or names i [])
stored_here names bytes rest e i l =
    stands bytes (name_start names i) (get_or names i []) (encode_names (drop (suc i) names) ++ rest) (ap (drop (name_start names i)) (sym e) ∙ drop_place names rest i l)

pub placed_here : {names : List (List ℕ)} {bytes starts : List ℕ} → Placed names bytes starts → (i : ℕ) → i < length names → NameHere bytes (get_or starts i 0) (get_or names i [])
placed_here {names} {bytes} p i l = subst (λ k. NameHere bytes k (get_or names i [])) (sym (p.start i l)) (stored_here names bytes (drop (length (encode_names names)) bytes) p.stored i l)

-- the part that the code lends
pub part_here : {bytes : List ℕ} {p : ℕ} {x : List ℕ} → NameHere bytes p x → take (p + 1 + get_or bytes p 0 - (p + 1)) (drop (p + 1) bytes) ≡ x
part_here {bytes} {p} {x} h = ap (λ k. take k (drop (p + 1) bytes)) (add-sub_cancel_left (p + 1) (get_or bytes p 0) ∙ h.size) ∙ h.part

pub by_number : (bytes starts : List ℕ) (i : ℕ) → Placed (decode_names (length starts) bytes) bytes starts → i < length starts
    → NameHere bytes (get_or starts i 0) (get_or (decode_names (length starts) bytes) i [])
by_number bytes starts i p l = placed_here p i (omega (arith, length_decode (length starts) bytes))

-- the end of a name

module _ (bs : List ℕ) (p : ℕ) where
  pub end_past : length bs ≤ p → None ≡ name_end bs p
  unfolding name_end
  end_past h =
      let e : leb 1 (length (drop p bs)) ≡ false = lt-leb 1 (length (drop p bs)) (omega (arith, length-drop p bs)) in
      simp e

  module _ (inside : p < length bs) where
    some_left : leb 1 (length (drop p bs)) ≡ true
    some_left = le-leb 1 (length (drop p bs)) (omega (arith, length-drop p bs))

    pub end_short : length bs - (p + 1) < get_or bs p 0 → None ≡ name_end bs p
    unfolding name_end
    end_short h =
        let e : leb (1 + get_or (drop p bs) 0 0) (length (drop p bs)) ≡ false = lt-leb (1 + get_or (drop p bs) 0 0) (length (drop p bs)) (omega (arith, length-drop p bs, first_byte bs p)) in
        simp (some_left, e)

    pub end_inside : get_or bs p 0 ≤ length bs - (p + 1) → Some (p + 1 + get_or bs p 0) ≡ name_end bs p
    unfolding name_end
    end_inside h =
        let e : leb (1 + get_or (drop p bs) 0 0) (length (drop p bs)) ≡ true = le-leb (1 + get_or (drop p bs) 0 0) (length (drop p bs)) (omega (arith, length-drop p bs, first_byte bs p)) in
        simp (some_left, e)
