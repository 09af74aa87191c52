-- The names of atoms, one after the other.
use Prim.Native.Nat.{ℕ, suc, ◌+◌, ◌-◌, ◌≤◌, ◌<◌}
use native.Mathlib.Numerals.{add-one}
use native.Mathlib.Omega.{arith}
use mathlib.Core.Path.{◌≡◌, refl, sym, ap, ◌∙◌}
use mathlib.Core.List.{List, [], ◌∷◌, ◌++◌, append-nil}
use lib.ListN.{length, get_or, drop, drop_of_length-le}
use lib.Seq.{drop-cons}
use Rattle.rules.specs.Lists.{from}
use Rattle.kinds.specs.Words.{close_bracket, line_end_lem}
use Rattle.text.specs.Items.{atom_item, atom_items, atom_line}
use Rattle.output.proofs.Emitting.{Ahead}

module _ (names : List (List ℕ)) where
  -- one atom: a space, then its name
  pub atom_space : (a : ℕ) → Ahead (atom_item names a) (32 ∷ []) (get_or names a [])
  unfolding atom_item
  atom_space a = record { is = refl }

  -- the atoms of a list
  pub next_atom : (xs : List ℕ) (i : ℕ) → i < length xs → Ahead (atom_items names (drop i xs)) (atom_item names (get_or xs i 0)) (atom_items names (drop (i + 1) xs))
  unfolding atom_item atom_items
  next_atom xs i l = record { is = rw (drop-cons xs i 0 l, add-one) }

  pub no_atoms : (xs : List ℕ) {i : ℕ} → length xs ≤ i → atom_items names (drop i xs) ≡ []
  unfolding atom_items
  no_atoms xs l = ap (atom_items names) (drop_of_length-le xs l)

  -- consecutive atoms
  pub run_next : (i end : ℕ) → i < end → Ahead (atom_items names (from i (end - i))) (atom_item names i) (atom_items names (from (i + 1) (end - (i + 1))))
  unfolding atom_item atom_items
  run_next i end l =
      let e : end - i ≡ suc (end - (i + 1)) = omega arith in
      record { is = ap (λ (k : ℕ). atom_items names (from i k)) e ∙ ap (λ (k : ℕ). atom_item names i ++ atom_items names (from k (end - (i + 1)))) (sym (add-one i)) }

  pub run_ends : (i end : ℕ) → end ≤ i → atom_items names (from i (end - i)) ≡ []
  unfolding atom_items
  run_ends i end l = let e : end - i ≡ 0 = omega arith in ap (λ (k : ℕ). atom_items names (from i k)) e

  -- a line
  abbrev pub line_end : List ℕ
  line_end = close_bracket ∷ line_end_lem ∷ []

  pub line_opens : (opening xs : List ℕ) → Ahead (atom_line names opening xs) opening (atom_items names xs ++ line_end)
  unfolding atom_line
  line_opens opening xs = record { is = refl }

  pub line_lists : (xs : List ℕ) → Ahead (atom_items names xs ++ line_end) (atom_items names xs) line_end
  line_lists xs = record { is = refl }

pub last_run : (w : List ℕ) → Ahead w w []
last_run w = record { is = sym (append-nil w) }
