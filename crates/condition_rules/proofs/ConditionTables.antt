-- The table of a condition gives the condition's rules.
use Prim.Native.Nat.{ℕ, suc, ◌+◌, ◌-◌, ◌≤◌, ◌<◌}
use native.Mathlib.Omega.{arith}
use mathlib.Core.Path.{◌≡◌, refl, sym, ap, ap₂, ◌∙◌, subst}
use mathlib.Core.Bool.{Bool, true, false, not}
use mathlib.Core.List.{List, [], ◌∷◌, ◌++◌, map, map-append}
use lib.Dec.{eqb, eqb→eq}
use lib.ListN.{length, take, drop, length-map}
use lib.Seq.{sets, sets-eq, take-append_seam}
use borrow.Author.Tests.{ne_eqb}
use Rattle.rules.specs.Lists.{All, keep, flat, from}
use Rattle.rules.specs.Rules.{Rule, rule, rename}
use Rattle.rules.proofs.Booleans.{bool_ext, eq_to_eqb}
use Rattle.rules.proofs.Lists.{all_app, all_app_l, all_app_r, all_from}
use Rattle.rules.proofs.ListLaws.{map_flat}
use Rattle.conditions.specs.Conditions.{Atom, planner, made, Cond, name, NOT, AND, OR, connectives, names_of}
use Rattle.conditions.specs.Written.{is_same, once, part, connective_rules, then_rule}
use Rattle.conditions.specs.Rows.{Row, not_row, and-row, or-row, rows, row_rules, row_atom}
use Rattle.conditions.specs.Numbers.{in_file, condition_rules}
use Rattle.conditions.specs.declared.table.TableRow.{TableRow}
use Rattle.conditions.specs.Table.{table_row}
use Rattle.conditions.proofs.Rows.{rows_law, rows_atoms}
use Rattle.condition_rules.specs.declared.RulesPut.{RulesPut}
use Rattle.condition_rules.specs.TableRules.{once_in, not_atoms, and_atoms, or_atoms, kind_rules, table_rules, RulesPutIs}

-- n atoms are declared, and made ones are numbered from 1
abbrev Known : ℕ → Atom → Type 0
Known n (planner a) = a < n
Known n (made t) = 1 ≤ t

abbrev KnownRow : ℕ → Row → Type 0
KnownRow n (not_row t c) = Known n c
KnownRow n (and-row t l r) = Known n l × Known n r
KnownRow n (or-row t l r) = Known n l × Known n r

-- atoms are the same exactly when their numbers are
apart : (n : ℕ) (l r : Atom) → Known n l → Known n r → eqb (in_file n l) (in_file n r) ≡ is_same l r
unfolding in_file
apart n (planner a) (planner b) h k = refl
apart n (planner a) (made t) h k = ne_eqb a (n + (t - 1)) (λ e. omega arith)
apart n (made t) (planner b) h k = ne_eqb (n + (t - 1)) b (λ e. omega arith)
apart n (made t) (made u) h k =
    bool_ext (eqb (n + (t - 1)) (n + (u - 1))) (eqb t u)
    (λ e. let f : n + (t - 1) ≡ n + (u - 1) = eqb→eq (n + (t - 1)) (n + (u - 1)) e in eq_to_eqb t u (omega arith))
    (λ e. let f : t ≡ u = eqb→eq t u e in eq_to_eqb (n + (t - 1)) (n + (u - 1)) (ap (λ (x : ℕ). n + (x - 1)) f))

once_numbers : (n : ℕ) (l r : Atom) → Known n l → Known n r → map (in_file n) (once l r) ≡ once_in (in_file n l) (in_file n r)
unfolding once
once_numbers n l r h k = go (is_same l r) ∙ ap (λ (b : Bool). in_file n l ∷ keep (not b) (in_file n r) []) (sym (apart n l r h k))
  where
    go : (b : Bool) → map (in_file n) (l ∷ keep (not b) r []) ≡ in_file n l ∷ keep (not b) (in_file n r) []
    go true = refl
    go false = refl

-- a row's rules, its T being t
abbrev file_rules : ℕ → Row → List (Rule ℕ)
file_rules n row = map (rename (in_file n)) (row_rules row)

module _ (n t : ℕ) where
  not_file : (c : Atom) → file_rules n (not_row t c) ≡ not_atoms (in_file n (made t)) (in_file n c)
  not_file c = refl

  and_file : (l r : Atom) → Known n l → Known n r → file_rules n (and-row t l r) ≡ and_atoms (in_file n (made t)) (in_file n l) (in_file n r)
  and_file l r h k =
      ap (λ (b : List ℕ). rule (in_file n (made t) ∷ []) b [] ∷ rule (in_file n l ∷ []) (in_file n (made t) ∷ []) [] ∷ rule (in_file n r ∷ []) (in_file n (made t) ∷ []) [] ∷ []) (once_numbers n l r h k)

  or_file : (l r : Atom) → Known n l → Known n r → file_rules n (or-row t l r) ≡ or_atoms (in_file n (made t)) (in_file n l) (in_file n r)
  or_file l r h k =
      ap (λ (b : List ℕ). rule b (in_file n (made t) ∷ []) [] ∷ rule (in_file n (made t) ∷ []) (in_file n l ∷ []) [] ∷ rule (in_file n (made t) ∷ []) (in_file n r ∷ []) [] ∷ []) (once_numbers n l r h k)

made_number_lem : (n k : ℕ) → in_file n (made (suc k)) ≡ n + k
unfolding in_file
made_number_lem n k = omega arith

-- the rows' rules, from the table's
rows_rules : (n k : ℕ) (rws : List Row) → map row_atom rws ≡ from (suc k) (length rws) → All (KnownRow n) rws
    → table_rules (n + k) (map (table_row n) rws) ≡ flat (file_rules n) rws
unfolding table_rules kind_rules table_row
rows_rules n k [] e h = refl
rows_rules n k (not_row t c ∷ rws) e h =
    let number : t ≡ suc k = cc in
    let others : map row_atom rws ≡ from (suc (suc k)) (length rws) = cc in
    let up : n + k + 1 ≡ n + suc k = omega arith in
    ap₂ (λ (a : ℕ) (rs : List (Rule ℕ)). not_atoms a (in_file n c) ++ rs) (sym (ap (λ (u : ℕ). in_file n (made u)) number ∙ made_number_lem n k))
    (ap (λ (i : ℕ). table_rules i (map (table_row n) rws)) up ∙ rows_rules n (suc k) rws others h.1)
rows_rules n k (and-row t l r ∷ rws) e h =
    let number : t ≡ suc k = cc in
    let others : map row_atom rws ≡ from (suc (suc k)) (length rws) = cc in
    let up : n + k + 1 ≡ n + suc k = omega arith in
    ap₂ (λ (a : ℕ) (rs : List (Rule ℕ)). and_atoms a (in_file n l) (in_file n r) ++ rs) (sym (ap (λ (u : ℕ). in_file n (made u)) number ∙ made_number_lem n k))
    (ap (λ (i : ℕ). table_rules i (map (table_row n) rws)) up ∙ rows_rules n (suc k) rws others h.1)
    ∙ ap (λ (rs : List (Rule ℕ)). rs ++ flat (file_rules n) rws) (sym (and_file n t l r h.0.0 h.0.1))
rows_rules n k (or-row t l r ∷ rws) e h =
    let number : t ≡ suc k = cc in
    let others : map row_atom rws ≡ from (suc (suc k)) (length rws) = cc in
    let up : n + k + 1 ≡ n + suc k = omega arith in
    ap₂ (λ (a : ℕ) (rs : List (Rule ℕ)). or_atoms a (in_file n l) (in_file n r) ++ rs) (sym (ap (λ (u : ℕ). in_file n (made u)) number ∙ made_number_lem n k))
    (ap (λ (i : ℕ). table_rules i (map (table_row n) rws)) up ∙ rows_rules n (suc k) rws others h.1)
    ∙ ap (λ (rs : List (Rule ℕ)). rs ++ flat (file_rules n) rws) (sym (or_file n t l r h.0.0 h.0.1))

-- a condition over n declared atoms, its connectives numbered from 1 or later
module _ (n : ℕ) where
  part_known : (c : Cond) → All (λ a. a < n) (names_of c) → All (λ t. 1 ≤ t) (connectives c) → Known n (part c)
  unfolding names_of connectives
  part_known (name a) h k = h.0
  part_known (NOT t c) h k = k.0
  part_known (AND l t r) h k = (all_app_r (λ u. 1 ≤ u) (connectives l) (t ∷ connectives r) k).0
  part_known (OR l t r) h k = (all_app_r (λ u. 1 ≤ u) (connectives l) (t ∷ connectives r) k).0

  rows_known : (c : Cond) → All (λ a. a < n) (names_of c) → All (λ t. 1 ≤ t) (connectives c) → All (KnownRow n) (rows c)
  unfolding rows names_of connectives
  rows_known (name a) h k = tt
  rows_known (NOT t c) h k = (part_known c h k.1, rows_known c h k.1)
  rows_known (AND l t r) h k =
      let lh = all_app_l (λ a. a < n) (names_of l) (names_of r) h in
      let rh = all_app_r (λ a. a < n) (names_of l) (names_of r) h in
      let lk = all_app_l (λ u. 1 ≤ u) (connectives l) (t ∷ connectives r) k in
      let rk = (all_app_r (λ u. 1 ≤ u) (connectives l) (t ∷ connectives r) k).1 in
      all_app (KnownRow n) (rows l) (and-row t (part l) (part r) ∷ rows r) (rows_known l lh lk) ((part_known l lh lk, part_known r rh rk), rows_known r rh rk)
  rows_known (OR l t r) h k =
      let lh = all_app_l (λ a. a < n) (names_of l) (names_of r) h in
      let rh = all_app_r (λ a. a < n) (names_of l) (names_of r) h in
      let lk = all_app_l (λ u. 1 ≤ u) (connectives l) (t ∷ connectives r) k in
      let rk = (all_app_r (λ u. 1 ≤ u) (connectives l) (t ∷ connectives r) k).1 in
      all_app (KnownRow n) (rows l) (or-row t (part l) (part r) ∷ rows r) (rows_known l lh lk) ((part_known l lh lk, part_known r rh rk), rows_known r rh rk)

  module _ (k : ℕ) (c : Cond) (known : All (λ a. a < n) (names_of c)) (numbered : connectives c ≡ from (suc k) (length (rows c))) where
    counted : All (λ t. 1 ≤ t) (connectives c)
    counted = subst (All (λ t. 1 ≤ t)) (sym numbered) (all_from (λ t. 1 ≤ t) (suc k) (length (rows c)) (λ t l m. omega arith))

    -- the rules of a table of the condition's rows
    pub table_rules_lem : table_rules (n + k) (map (table_row n) (rows c)) ≡ map (rename (in_file n)) (connective_rules c)
    table_rules_lem =
        rows_rules n k (rows c) (rows_atoms c ∙ numbered) (rows_known c known counted)
        ∙ sym (map_flat (rename (in_file n)) row_rules (rows c))
        ∙ ap (map (rename (in_file n))) (rows_law c)

    -- with the condition's own rule
    condition_rules_lem : (a : ℕ) → table_rules (n + k) (map (table_row n) (rows c)) ++ (rule (a ∷ []) (in_file n (part c) ∷ []) [] ∷ []) ≡ condition_rules n c a
    unfolding condition_rules in_file
    condition_rules_lem a =
        ap (λ (rs : List (Rule ℕ)). rs ++ (rule (a ∷ []) (in_file n (part c) ∷ []) [] ∷ [])) table_rules_lem
        ∙ sym (map-append (rename (in_file n)) (connective_rules c) (then_rule c a ∷ []))

    -- what is written from a table that the rows were written to
    pub condition_written : {count first atom : ℕ} {table : List TableRow} (before : List TableRow) → count ≡ length (rows c) → first ≡ n + k → atom ≡ in_file n (part c)
        → table ≡ sets before 0 (map (table_row n) (rows c)) → length (rows c) ≤ length before → (a : ℕ) {at : ℕ} {words now : List ℕ} {r : RulesPut}
        → RulesPutIs (table_rules first (take count table) ++ (rule (a ∷ []) (atom ∷ []) [] ∷ [])) words at now r → RulesPutIs (condition_rules n c a) words at now r
    condition_written {count} {table = table} before count_is first_is atom_is written room a {at} {words} {now} {r} h =
        let size = length-map (rows c) (table_row n) in
        let front : take count table ≡ map (table_row n) (rows c) =
        ap₂ take (count_is ∙ sym size) (written ∙ sets-eq (map (table_row n) (rows c)) before 0 (omega (arith, size)))
        ∙ take-append_seam (map (table_row n) (rows c)) (drop (0 + length (map (table_row n) (rows c))) before) in
        subst (λ rs. RulesPutIs rs words at now r)
        (ap₂ (λ (rs : List (Rule ℕ)) (i : ℕ). rs ++ (rule (a ∷ []) (i ∷ []) [] ∷ [])) (ap₂ table_rules first_is front) atom_is ∙ condition_rules_lem a)
        h
