-- The names of a clause file's atoms, written one after another.
use Prim.Native.Nat.{ℕ, suc, ◌+◌, ◌-◌, ◌*◌, ◌≤◌, ◌<◌}
use native.Mathlib.Nat.{zero-add}
use native.Mathlib.Numerals.{add-one}
use native.Mathlib.Omega.{arith}
use mathlib.Core.Path.{◌≡◌, ap, ◌∙◌, subst}
use mathlib.Core.List.{List, [], ◌∷◌}
use lib.ListN.{length, length-map}
use Rattle.kinds.specs.Limits.{atom_limit}
use Rattle.kinds.specs.Sizes.{longest_name, longest_entry}
use Rattle.kinds.specs.Words.{decimal}
use Rattle.kinds.specs.declared.limits.Kind.TheVariants.{Preference}
use Rattle.rules.specs.Lists.{from}
use Rattle.rules.proofs.Lists.{all_map, length_from}
use Rattle.rules.proofs.ListLaws.{all_each}
use Rattle.name_store.specs.NameStore.{name_bytes, encode_names}
use Rattle.name_store.proofs.NameStores.{encoded_length}
use Rattle.name_store.proofs.NumberedNames.{numbered_names, numbered_all, numbered_next}
use Rattle.output.specs.Emitted.{Emitted, InRange}
use Rattle.output.proofs.Emitting.{Ahead, Emitting, start, then, renamed, run_length, behind_length}
use Rattle.printing.proofs.PrintedLines.{decimal_short}
use Rattle.clauses.specs.Written.{clause_name, clause_names}

-- one name, whose length is written last

module _ (a at : ℕ) (r : InRange at (name_bytes (clause_name a))) {before first : List ℕ} {begin : ℕ} (p : Emitted before (at + 1) (118 ∷ []) first begin) where
  same_digits : decimal (a + 1) ≡ decimal (suc a)
  same_digits = ap decimal (add-one a)

  pub digits_range : InRange begin (decimal (a + 1))
  digits_range = record { below = omega (arith, r.below, p.place, ap length same_digits) }

  module _ {second : List ℕ} {end : ℕ} (q : Emitted first begin (decimal (a + 1)) second end) where
    whole : Emitted before (at + 1) (clause_name a) second end
    whole = renamed (then p q) (ap (λ d. 118 ∷ d) same_digits)

    pub size_small : end - at - 1 < 256
    size_small = omega (arith, run_length at whole, decimal_short (suc a))

    pub named : {last : List ℕ} {next : ℕ} → Emitted second at ((end - at - 1) ∷ []) last next → Emitted before at (name_bytes (clause_name a)) last end
    named w = behind_length at whole w

-- all names

pub names_count : (n : ℕ) → length (clause_names n) ≡ n
unfolding clause_names
names_count n = length-map (from 0 n) clause_name ∙ length_from 0 n

pub names_short : (n : ℕ) → length (encode_names (clause_names n)) ≤ longest_entry * n
unfolding clause_names
names_short n =
    let short = all_map (λ x. length x ≤ longest_name) clause_name (from 0 n) (all_each (λ a. length (clause_name a) ≤ longest_name) (λ a. omega (arith, decimal_short (suc a))) (from 0 n)) in
    omega (arith, encoded_length (clause_names n) short, names_count n)

pub names_begin : (d : List ℕ) (n : ℕ) → n ≤ atom_limit Preference → Emitting (encode_names (clause_names n)) d 0 (numbered_names clause_name 0 n) d 0
unfolding clause_names
names_begin d n l =
    let e : encode_names (clause_names n) ≡ numbered_names clause_name 0 n = numbered_all clause_name 0 n ∙ ap (numbered_names clause_name 0) (zero-add n) in
    subst (λ w. Emitting (encode_names (clause_names n)) d 0 w d 0) e (start (record { below = omega (arith, names_short n) }))

pub names_next : (n i : ℕ) → i < n → Ahead (numbered_names clause_name i n) (name_bytes (clause_name i)) (numbered_names clause_name (i + 1) n)
names_next n i l = record { is = numbered_next clause_name i n l }
