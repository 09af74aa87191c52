-- A condition that passed its tests: what is read of it, and the rules that are written.
use Prim.Native.Nat.{ℕ, suc, ◌+◌, ◌*◌, ◌^◌, ◌≤◌, ◌<◌, zero-le}
use native.Mathlib.Omega.{arith}
use mathlib.Core.Path.{◌≡◌, sym, ap, ◌∙◌, subst}
use mathlib.Core.List.{List, [], ◌∷◌, ◌++◌}
use mathlib.Core.Bool.{Bool, true, false, cond}
use lib.ListN.{length, take, length-take, length-map}
use Rattle.kinds.specs.Limits.{atom_limit}
use Rattle.kinds.specs.declared.limits.Kind.TheVariants.{Preference}
use Rattle.kinds.specs.declared.refusals.Refusal.{Refusal}
use Rattle.kinds.specs.declared.refusals.Refusal.TheVariants.{Undeclared, Limit, BrokenCondition}
use Rattle.rules.specs.Lists.{All, sum}
use Rattle.rules.specs.Rules.{rule}
use Rattle.rules.proofs.Lists.{all_from, all_app_r}
use Rattle.std.specs.Prelude.{Option, Some, None, Result}
use Rattle.name_store.specs.NameStore.{decode_names, among}
use Rattle.name_store.specs.NameIndex.{found}
use Rattle.conditions.specs.Conditions.{Cond, name, NOT, AND, OR, connectives, names_of}
use Rattle.conditions.specs.Written.{part, is_same}
use Rattle.conditions.specs.declared.table.TableRow.{TableRow}
use Rattle.conditions.specs.Rows.{Row, not_row, and-row, or-row, rows, row_occurrences, row_atom}
use Rattle.conditions.specs.Numbers.{in_file, condition_rules}
use Rattle.conditions.proofs.InFile.{condition_few, condition_occurrences}
use Rattle.conditions.proofs.Rows.{rows_atoms}
use Rattle.lines.specs.Tokens.{tokens}
use Rattle.lines.specs.Conditions.{names_in, connectives_in, parsed, unparsed, parse}
use Rattle.lines.specs.Forms.{condition}
use Rattle.lines.specs.Faults.{SoFar, fault, name_number, step_form}
use Rattle.numbering.specs.Numbers.{undeclared}
use Rattle.numbering.proofs.NameNumbers.{named, unnamed}
use Rattle.gathering.specs.declared.gathered.Gathered.{Gathered}
use Rattle.gathering.specs.Gathered.{state_of, Held, HeldIndex, LineIs}
use Rattle.gathering.proofs.HeldState.{atoms_is, held_small, known_names}
use Rattle.condition_parts.specs.declared.parts.Parse.{Parse}
use Rattle.condition_parts.specs.Parts.{Readable, Whole, ParseSays, ParseIs}
use Rattle.condition_rules.specs.declared.RulesPut.{RulesPut}
use Rattle.condition_rules.specs.TableRules.{table_rules, RulesPutIs}
use Rattle.condition_rules.proofs.ConditionTables.{condition_written}
use Rattle.condition_line.specs.ConditionLine.{kept_condition, Tested}
use Rattle.condition_line.proofs.ConditionSteps.{no_condition, name_unknown, no_room, condition_line}

-- the atom of a condition is a declared one or one that it makes
part_below : (n k : ℕ) (c : Cond) → All (λ a. a < n) (names_of c) → All (λ t. t ≤ k) (connectives c) → in_file n (part c) < suc (n + k)
unfolding in_file connectives names_of
part_below n k (name a) h m = omega (arith, h.0)
part_below n k (NOT t c) h m = omega (arith, m.0)
part_below n k (AND l t r) h m = omega (arith, (all_app_r (λ u. u ≤ k) (connectives l) (t ∷ connectives r) m).0)
part_below n k (OR l t r) h m = omega (arith, (all_app_r (λ u. u ≤ k) (connectives l) (t ∷ connectives r) m).0)

few_occurrences : (rs : List Row) → sum row_occurrences rs ≤ 7 * length rs
few_occurrences [] = zero-le
few_occurrences (r ∷ rs) = omega (arith, few r, few_occurrences rs)
  where
    either : (b : Bool) → cond b 6 7 ≤ 7
    either true = omega arith
    either false = omega arith

    few : (r : Row) → row_occurrences r ≤ 7
    few (not_row t c) = omega arith
    few (and-row t l q) = either (is_same l q)
    few (or-row t l q) = either (is_same l q)

module _ {g : Gathered} {words bytes starts firsts links : List ℕ} (h : Held Preference (state_of Preference g words bytes) g words bytes) (x : HeldIndex g bytes starts firsts links)
    (s a : List ℕ) {count : ℕ} (t : Tested (state_of Preference g words bytes) (tokens s) a count) where
  abbrev st : SoFar
  st = state_of Preference g words bytes

  abbrev names : List (List ℕ)
  names = decode_names (length (take g.counts.atoms starts)) bytes

  same : names ≡ st.names
  same = known_names x h

  size : length names ≡ g.counts.atoms
  size = ap length same ∙ sym (atoms_is h)

  count_is : count ≡ connectives_in (tokens s)
  count_is = t.is_count

  module _ {r : Option ℕ} (f : r ≡ found a names) where
    pub unknown_line : r ≡ None → step_form st (condition (tokens s) a) ≡ fault Undeclared
    unknown_line e = name_unknown h (tokens s) a t (subst (λ ns. among ns a ≡ false) same (unnamed a names f e))

    module _ {then : ℕ} (e : r ≡ Some then) where
      known : among st.names a ≡ true
      known = subst (λ ns. among ns a ≡ true) same (named a names f e).declared

      number : name_number st.names a ≡ then
      number = subst (λ ns. name_number ns a ≡ then) same (named a names f e).number

      pub full_line : atom_limit Preference < g.counts.atoms + g.made + count → step_form st (condition (tokens s) a) ≡ fault Limit
      full_line l = no_room h (tokens s) a t known l

      module _ (room : g.counts.atoms + g.made + count ≤ atom_limit Preference) where
        pub readable : {table : List TableRow} → length table ≡ 256 → Readable names s 0 g.made 0 table
        readable l = record {
          inside = zero-le;
          declared = subst (λ ns. undeclared ns (names_in (tokens s)) ≡ false) (sym same) t.all_declared;
          room = omega (arith, count_is);
          numbers = omega (arith, count_is, size);
        }

        module _ {before after : List TableRow} (long : length before ≡ 256) {q : Option Parse} (w : ParseIs names s g.made before after q) where
          pub faulty_line : q ≡ None → step_form st (condition (tokens s) a) ≡ fault BrokenCondition
          faulty_line i =
              let z : parse (name_number names) (suc g.made) (tokens s) ≡ unparsed = subst (ParseSays names s g.made before after) i w.says in
              no_condition st (tokens s) a h.kind_is t.ruling (ap (λ ns. parse (name_number ns) (suc st.made) (tokens s)) (sym same) ∙ ap (λ (m : ℕ). parse (name_number names) (suc m) (tokens s)) (sym h.made_is) ∙ z)

          module _ {v : Parse} (i : q ≡ Some v) where
            whole : Whole names s g.made before after v.atom v.connectives
            whole = subst (ParseSays names s g.made before after) i w.says

            abbrev c : Cond
            c = whole.condition

            rows_are : count ≡ length (rows c)
            rows_are = count_is ∙ sym whole.is_count ∙ whole.rows_count

            made_few : All (λ u. u ≤ g.made + count) (connectives c)
            made_few = subst (All (λ u. u ≤ g.made + count)) (sym whole.numbered) (all_from (λ u. u ≤ g.made + count) (suc g.made) (length (rows c)) (λ u l m. omega (arith, rows_are)))

            pub put_fits : length after ≡ 256 → (g.counts.atoms + g.made + length (take count after) ≤ 65536) × (g.words + 16 * length (take count after) < 2 ^ 61) × (v.atom < 65536) × (then < 65536)
            put_fits l =
                let small = held_small h in
                let front = length-take count after in (
                  omega arith,
                  omega (arith, small.words),
                  omega (arith, whole.is_atom, size, part_below (length names) (g.made + count) c whole.known made_few),
                  omega (arith, size, (named a names f e).below),
                )

            module _ {z : RulesPut} {words₂ : List ℕ} (p : RulesPutIs (table_rules (g.counts.atoms + g.made) (take count after) ++ (rule (then ∷ []) (v.atom ∷ []) [] ∷ [])) words g.words words₂ z) where
              put : RulesPutIs (condition_rules (length names) c then) words g.words words₂ z
              put = condition_written (length names) g.made c whole.known whole.numbered before rows_are (ap (λ (n : ℕ). n + g.made) (sym size)) whole.is_atom whole.written (omega (arith, rows_are)) then p

              put_here : RulesPutIs (condition_rules (length st.names) c (name_number st.names a)) words g.words words₂ z
              put_here = subst (λ (b : ℕ). RulesPutIs (condition_rules (length st.names) c b) words g.words words₂ z) (sym number) (subst (λ ns. RulesPutIs (condition_rules (length ns) c then) words g.words words₂ z) same put)

              parsed_here : parse (name_number st.names) (suc st.made) (tokens s) ≡ parsed c
              parsed_here = ap (λ ns. parse (name_number ns) (suc st.made) (tokens s)) (sym same) ∙ ap (λ (m : ℕ). parse (name_number names) (suc m) (tokens s)) (sym h.made_is) ∙ whole.is_parsed

              pub keep_fits : (count < 2 ^ 32) × (g.made < 2 ^ 32) × (g.counts.atoms < 2 ^ 32) × (g.counts.rules < 2 ^ 32) × (g.counts.occurrences < 2 ^ 32) × (z.rules < 2 ^ 32) × (z.occurrences < 2 ^ 32)
              keep_fits =
                  let small = held_small h in (
                    omega arith,
                    omega arith,
                    omega arith,
                    omega (arith, small.rules),
                    omega (arith, small.occurrences),
                    omega (arith, put.is_rules, condition_few (length names) c then, rows_are, sym (ap length (rows_atoms c)), length-map (rows c) row_atom),
                    omega (arith, put.is_occurrences, condition_occurrences (length names) c then, few_occurrences (rows c), rows_are),
                  )

              pub added_line : {o : Result Gathered Refusal} → o ≡ kept_condition g count z.rules z.occurrences z.end → LineIs Preference st (condition (tokens s) a) words₂ bytes starts firsts links o
              added_line k = condition_line h (tokens s) a t known parsed_here put_here.is_rules put_here.is_occurrences put_here.written k x
