-- Filling the table of the places of names.
use Prim.Native.Nat.{ℕ, ◌+◌, ◌≤◌, ◌<◌}
use native.Mathlib.Decide.{ℕ_discrete}
use native.Mathlib.Omega.{arith}
use mathlib.Core.Path.{◌≡◌, refl, sym, ap, ◌∙◌, subst}
use mathlib.Core.List.{List, [], ◌++◌, append-nil}
use lib.ListN.{length, get_or, drop, set, length-set}
use lib.Seq.{drop-length, get_or-set_same, get_or-set_other}
use Rattle.name_store.specs.NameStore.{encode_names}
use Rattle.name_store.specs.NameIndex.{name_start, Placed}
use Rattle.name_store.proofs.NamePlaces.{NameHere, stored_here, length_decode}
use Rattle.name_store.proofs.NameEntries.{place_next}
use Rattle.text.specs.Items.{stored_names, StoredNames}

-- the places before i are filled, and `at` is the next
pub record Placing (bytes before starts : List ℕ) (at i : ℕ) : Type 0 where
  pub stored : StoredNames bytes before
  pub low : i ≤ length before
  pub long : length starts ≡ length before
  pub counted : at ≡ name_start (stored_names bytes before) i
  pub filled : (j : ℕ) → j < i → get_or starts j 0 ≡ name_start (stored_names bytes before) j

pub places_begin : {bytes before : List ℕ} → StoredNames bytes before → Placing bytes before before 0 0
unfolding encode_names
places_begin s = record { stored = s; low = omega arith; long = refl; counted = refl; filled = λ j l. absurd (omega arith) }

module _ {bytes before starts : List ℕ} {at i : ℕ} (h : Placing bytes before starts at i) where
  pub places_end : length starts ≤ i → Placed (stored_names bytes before) bytes starts
  places_end l =
      let names = stored_names bytes before in
      let n : length names ≡ length before = length_decode (length before) bytes in
      record {
        stored =
            let e = h.stored.whole in
            ap (λ (b : List ℕ). encode_names names ++ drop (length (encode_names names)) b) (sym e) ∙ ap (λ (b : List ℕ). encode_names names ++ b) (drop-length (encode_names names)) ∙ append-nil (encode_names names) ∙ e;
        room = omega (arith, h.long);
        start = λ j u. h.filled j (omega (arith, h.long));
      }

  module _ (l : i < length starts) where
    abbrev name : List ℕ
    name = get_or (stored_names bytes before) i []

    inside : i < length (stored_names bytes before)
    inside = omega (arith, length_decode (length before) bytes, h.long)

    name_here : NameHere bytes at name
    name_here = subst (λ (b : List ℕ). NameHere b at name) h.stored.whole (subst (λ (p : ℕ). NameHere (encode_names (stored_names bytes before)) p name) (sym h.counted) (stored_here (stored_names bytes before) (encode_names (stored_names bytes before)) [] (append-nil (encode_names (stored_names bytes before))) i inside))

    pub place_inside : at + 1 + get_or bytes at 0 ≤ length bytes
    place_inside = omega (arith, name_here.inside, name_here.size)

    pub place_fits : at < 65536
    place_fits = omega (arith, place_inside, h.stored.short)

    pub places_again : Placing bytes before (set starts i at) (at + (1 + get_or bytes at 0)) (i + 1)
    places_again =
        record {
          stored = h.stored;
          low = omega (arith, h.long);
          long = length-set starts i at ∙ h.long;
          counted = omega (arith, place_next (stored_names bytes before) i inside, name_here.size, h.counted);
          filled = λ j u. go j u (ℕ_discrete j i);
        }
      where
        go : (j : ℕ) → j < i + 1 → Dec (j ≡ i) → get_or (set starts i at) j 0 ≡ name_start (stored_names bytes before) j
        go j u (yes e) = ap (λ (k : ℕ). get_or (set starts i at) k 0) e ∙ get_or-set_same starts i at 0 l ∙ h.counted ∙ ap (name_start (stored_names bytes before)) (sym e)
        go j u (no e) = get_or-set_other starts i j at 0 e ∙ h.filled j (omega arith)
