-- Class words and names, those of the made atoms between.
use Prim.Native.Nat.{ℕ, ◌+◌, ◌-◌, ◌≤◌, ◌<◌}
use native.Mathlib.Omega.{arith}
use mathlib.Core.Path.{◌≡◌, refl, sym, ap, ap₂, ◌∙◌}
use mathlib.Core.List.{List, [], ◌++◌, map, append-nil}
use lib.ListN.{length, get_or, take, drop, replicate, length-append, take-append-drop}
use lib.Seq.{take_all, take_at, drop-append_seam}
use Rattle.kinds.specs.Limits.{varying}
use Rattle.rules.specs.Lists.{from}
use Rattle.rules.proofs.Lists.{part_rest}
use Rattle.names.specs.Names.{made_name}
use Rattle.conditions.specs.Numbers.{placed_words}
use Rattle.conditions.specs.Left.{written_names}
use Rattle.name_store.specs.NameStore.{encode_names, decode_names}
use Rattle.name_store.specs.NameIndex.{name_start}
use Rattle.name_store.proofs.NameStores.{decode_front}
use Rattle.name_store.proofs.NamePlaces.{NameHere, stored_here, length_decode, decode_first}
use Rattle.name_store.proofs.NameEntries.{encode_append, place_next}
use Rattle.output.specs.Emitted.{Emitted, InRange}
use Rattle.output.proofs.Emitting.{then, renamed}
use Rattle.placing.specs.Parts.{first_bytes, AtFront, placed_names}

-- three runs, one after another

pub record Runs (whole u v w : List ℕ) : Type 0 where
  pub are : whole ≡ u ++ (v ++ w)

module _ {whole u v w : List ℕ} {at : ℕ} (e : Runs whole u v w) (r : InRange at whole) where
  long : length whole ≡ length u + (length v + length w)
  long = ap length e.are ∙ length-append u (v ++ w) ∙ ap (λ n. length u + n) (length-append v w)

  pub first_range : InRange at u
  first_range = record { below = omega (arith, r.below, long) }

  module _ {d d₁ : List ℕ} {i : ℕ} (p : Emitted d at u d₁ i) where
    pub second_range : InRange i v
    second_range = record { below = omega (arith, r.below, long, p.place) }

    module _ {d₂ : List ℕ} {j : ℕ} (q : Emitted d₁ i v d₂ j) where
      pub third_range : InRange j w
      third_range = record { below = omega (arith, r.below, long, p.place, q.place) }

      pub three_runs : {d₃ : List ℕ} {l : ℕ} → Emitted d₂ j w d₃ l → Emitted d at whole d₃ l
      three_runs s = renamed (then p (then q s)) (sym e.are)

-- the class words, cut as the code does

pub class_runs : (q k : ℕ) (ws : List ℕ) → Runs (placed_words q k ws) (take q ws) (replicate k varying) (take (length ws - q) (drop q ws))
unfolding placed_words
class_runs q k ws = record { are = ap (λ l. take q ws ++ (replicate k varying ++ l)) (sym (part_rest q ws)) }

-- the end of the first names

pub record Passing (bytes : List ℕ) (count at i : ℕ) : Type 0 where
  pub front : AtFront count bytes
  pub low : i ≤ count
  pub place : at ≡ name_start (decode_names count bytes) i

pub pass_begins : (bytes : List ℕ) (count : ℕ) → AtFront count bytes → Passing bytes count 0 0
unfolding encode_names
pass_begins bytes count f = record { front = f; low = omega arith; place = refl }

module _ {bytes : List ℕ} {count at i : ℕ} (h : Passing bytes count at i) where
  abbrev names : List (List ℕ)
  names = decode_names count bytes

  pub pass_ends : count ≤ i → at ≡ length (first_bytes count bytes)
  pass_ends l = h.place ∙ ap (λ x. length (encode_names x)) (take_all i names (omega (arith, length_decode count bytes)))

  module _ (l : i < count) where
    there : i < length names
    there = omega (arith, length_decode count bytes)

    here : NameHere bytes (name_start names i) (get_or names i [])
    here = stored_here names bytes (drop (length (first_bytes count bytes)) bytes) h.front i there

    size : get_or bytes at 0 ≡ length (get_or names i [])
    size = ap (λ p. get_or bytes p 0) h.place ∙ here.size

    pub pass_inside : at + (1 + get_or bytes at 0) ≤ length bytes
    pass_inside = omega (arith, h.place, here.inside, size)

    pub pass_again : Passing bytes count (at + (1 + get_or bytes at 0)) (i + 1)
    pass_again = record { front = h.front; low = omega arith; place = omega (arith, h.place, place_next names i there, size) }

-- the names, cut as the code does

module _ (q : ℕ) {bytes : List ℕ} {split : ℕ} (f : AtFront q bytes) (e : split ≡ length (first_bytes q bytes)) where
  pub split_inside : split ≤ length bytes
  split_inside = omega (arith, ap length f, length-append (first_bytes q bytes) (drop (length (first_bytes q bytes)) bytes))

  pub name_runs : (k : ℕ) → Runs (placed_names q k bytes) (take split bytes) (encode_names (map made_name (from 1 k))) (take (length bytes - split) (drop split bytes))
  unfolding placed_names
  name_runs k =
      let rest = drop (length (first_bytes q bytes)) bytes in
      let first : first_bytes q bytes ≡ take split bytes = sym (ap (take split) (sym f) ∙ take_at (first_bytes q bytes) rest split (sym e)) in
      let last : rest ≡ take (length bytes - split) (drop split bytes) = ap (λ n. drop n bytes) (sym e) ∙ sym (part_rest split bytes) in
      record { are = ap₂ (λ u w. u ++ (encode_names (map made_name (from 1 k)) ++ w)) first last }

-- of the store of a list of names

module _ (q : ℕ) (names : List (List ℕ)) (l : q ≤ length names) where
  first_names : decode_names q (encode_names names) ≡ take q names
  first_names =
      decode_first q (length names) (encode_names names) l
      ∙ ap (λ b. take q (decode_names (length names) b)) (sym (append-nil (encode_names names)))
      ∙ ap (take q) (decode_front names [])

  abbrev front : List ℕ
  front = encode_names (take q names)

  parts : encode_names names ≡ front ++ encode_names (drop q names)
  parts = ap encode_names (sym (take-append-drop q names)) ∙ encode_append (take q names) (drop q names)

  others : drop (length front) (encode_names names) ≡ encode_names (drop q names)
  others = ap (drop (length front)) parts ∙ drop-append_seam front (encode_names (drop q names))

  pub at_front : AtFront q (encode_names names)
  at_front = ap (λ x. encode_names x ++ drop (length (encode_names x)) (encode_names names)) first_names ∙ ap (λ b. front ++ b) others ∙ sym parts

  pub names_placed : (k : ℕ) → placed_names q k (encode_names names) ≡ encode_names (written_names q k names)
  unfolding placed_names written_names
  names_placed k =
      let made = map made_name (from 1 k) in
      ap (λ x. encode_names x ++ (encode_names made ++ drop (length (encode_names x)) (encode_names names))) first_names
      ∙ ap (λ b. front ++ (encode_names made ++ b)) others
      ∙ sym (encode_append (take q names) (made ++ drop q names) ∙ ap (λ b. front ++ b) (encode_append made (drop q names)))

  pub names_long : (k : ℕ) → length (encode_names (written_names q k names)) ≡ length (encode_names names) + length (encode_names (map made_name (from 1 k)))
  unfolding written_names
  names_long k =
      let made = map made_name (from 1 k) in
      omega (arith, ap length (encode_append (take q names) (made ++ drop q names)), length-append front (encode_names (made ++ drop q names)), ap length (encode_append made (drop q names)), length-append (encode_names made) (encode_names (drop q names)), ap length parts, length-append front (encode_names (drop q names)))
