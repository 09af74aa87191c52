-- The front of a table, filled with the places of names and handed on.
use Prim.Native.Nat.{ℕ, ◌≤◌}
use native.Mathlib.Omega.{arith}
use mathlib.Core.Path.{◌≡◌, sym, ap, ◌∙◌, subst}
use mathlib.Core.List.{List, ◌++◌}
use lib.Dec.{T}
use lib.ListN.{length, take, drop, length-append}
use lib.Seq.{take_at, length-take-le}
use Rattle.kinds.specs.Sizes.{longest_name}
use Rattle.kinds.specs.Limits.{atom_limit}
use Rattle.kinds.specs.declared.limits.Kind.{Kind}
use Rattle.rules.proofs.Lists.{all_imp}
use Rattle.names.specs.Names.{allowed}
use Rattle.stores.proofs.StoreHeader.{atoms_small}
use Rattle.name_store.specs.NameStore.{encode_names, NamesOf, decode_names}
use Rattle.name_store.specs.NameIndex.{Placed}
use Rattle.name_store.proofs.NameStores.{allowed_short, encoded_length}
use Rattle.text.specs.Items.{stored_names, StoredNames}

-- n names that fit a program of that kind
module _ {kind : Kind} {n : ℕ} {names : List ℕ} (m : NamesOf names kind n (decode_names n names)) (few : n ≤ atom_limit kind) where
  names_short : length names ≤ 65536
  names_short =
      let all = decode_names n names in
      let short = all_imp (λ x. T (allowed kind x)) (λ x. length x ≤ longest_name) (allowed_short kind) all m.form.all_allowed in
      omega (arith, encoded_length all short, ap length m.bytes, m.form.count, atoms_small kind)

  module _ (table : List ℕ) (room : n ≤ length table) where
    pub front_length : length (take n table) ≡ n
    front_length = length-take-le n table room

    pub front_stored : StoredNames names (take n table)
    front_stored = record { whole = subst (λ (c : ℕ). encode_names (decode_names c names) ≡ names) (sym front_length) m.bytes; short = names_short }

    module _ (filled : List ℕ) (k : length filled ≡ length (take n table)) where
      abbrev handed : List ℕ
      handed = take n (filled ++ drop n table)

      filled_handed : filled ≡ handed
      filled_handed = sym (take_at filled (drop n table) n (k ∙ front_length))

      pub table_inside : n ≤ length (filled ++ drop n table)
      table_inside = omega (arith, length-append filled (drop n table), k, front_length)

      pub handed_length : length handed ≡ n
      handed_length = ap length (sym filled_handed) ∙ k ∙ front_length

      pub handed_placed : Placed (stored_names names (take n table)) names filled → Placed (stored_names names handed) names handed
      handed_placed p =
          subst (λ (f : List ℕ). Placed (stored_names names f) names f) filled_handed
          (subst (λ (c : ℕ). Placed (decode_names c names) names filled) (sym k) p)
