-- The names of made atoms, written one after another.
use Prim.Native.Nat.{ℕ, suc, ◌+◌, ◌*◌, ◌≤◌}
use native.Mathlib.Numerals.{one-add}
use native.Mathlib.Omega.{arith}
use mathlib.Core.Path.{◌≡◌, ap, ◌∙◌, subst}
use mathlib.Core.List.{List, map}
use lib.ListN.{length, length-map}
use Rattle.kinds.specs.Sizes.{longest_name, longest_entry}
use Rattle.kinds.specs.Words.{bytes, decimal}
use Rattle.rules.specs.Lists.{from}
use Rattle.rules.proofs.Lists.{all_map, length_from}
use Rattle.rules.proofs.ListLaws.{all_each}
use Rattle.names.specs.Names.{made_name}
use Rattle.name_store.specs.NameStore.{name_bytes, encode_names}
use Rattle.name_store.proofs.NameStores.{encoded_length}
use Rattle.name_store.proofs.NumberedNames.{numbered_names, numbered_all, numbered_next}
use Rattle.output.specs.Emitted.{Emitted, InRange}
use Rattle.output.proofs.Emitting.{Ahead, Emitting, start, then}
use Rattle.printing.proofs.PrintedLines.{decimal_short}

-- one name: `T.`, then the number

pub name_short : (t : ℕ) → length (made_name t) ≤ 22
unfolding made_name
name_short t = omega (arith, decimal_short t)

module _ (t at : ℕ) (r : InRange at (made_name t)) where
  pub opening_range : InRange at (bytes "T.")
  unfolding made_name
  opening_range = record { below = omega (arith, r.below) }

  module _ {before after : List ℕ} {next : ℕ} (p : Emitted before at (bytes "T.") after next) where
    pub number_range : InRange next (decimal t)
    unfolding made_name
    number_range = record { below = omega (arith, r.below, p.place) }

    pub made_written : {last : List ℕ} {end : ℕ} → Emitted after next (decimal t) last end → Emitted before at (made_name t) last end
    unfolding made_name
    made_written q = then p q

-- all names

pub names_short : (n : ℕ) → length (encode_names (map made_name (from 1 n))) ≤ longest_entry * n
names_short n =
    let short = all_map (λ x. length x ≤ longest_name) made_name (from 1 n) (all_each (λ t. length (made_name t) ≤ longest_name) (λ t. omega (arith, name_short t)) (from 1 n)) in
    omega (arith, encoded_length (map made_name (from 1 n)) short, length-map (from 1 n) made_name, length_from 1 n)

pub names_begin : (d : List ℕ) (n at : ℕ) → InRange at (encode_names (map made_name (from 1 n))) → Emitting (encode_names (map made_name (from 1 n))) d at (numbered_names made_name 1 (suc n)) d at
names_begin d n at r =
    let e : encode_names (map made_name (from 1 n)) ≡ numbered_names made_name 1 (suc n) = numbered_all made_name 1 n ∙ ap (numbered_names made_name 1) (one-add n) in
    subst (λ w. Emitting (encode_names (map made_name (from 1 n))) d at w d at) e (start r)

pub names_next : (n i : ℕ) → i ≤ n → Ahead (numbered_names made_name i (suc n)) (name_bytes (made_name i)) (numbered_names made_name (i + 1) (suc n))
names_next n i l = record { is = numbered_next made_name i (suc n) (omega arith) }
