-- Clauses whose last one is ended, beside the names of their atoms: what the lines of a preference file would have left.
use Prim.Native.Nat.{ℕ, ◌+◌}
use native.Mathlib.Nat.{zero-add, le_trans}
use native.Mathlib.Omega.{arith}
use mathlib.Core.Path.{◌≡◌, refl, sym, ap, ◌∙◌}
use mathlib.Core.Bool.{true}
use mathlib.Core.List.{List, [], ◌∷◌, ◌++◌}
use lib.ListN.{length, drop, length-replicate}
use lib.Seq.{drop-append_seam, sets-eq}
use Rattle.kinds.specs.Sizes.{store_bytes}
use Rattle.kinds.specs.declared.limits.Kind.TheVariants.{Preference}
use Rattle.rules.specs.Lists.{sum, is_empty}
use Rattle.rules.specs.Rules.{occurrences as places}
use Rattle.rules.proofs.Booleans.{both_true}
use Rattle.name_store.specs.NameStore.{encode_names}
use Rattle.output.specs.Emitted.{Emitted}
use Rattle.output.proofs.Emitting.{same_length}
use Rattle.gathering.specs.Gathered.{Held}
use Rattle.gathering.proofs.HeldState.{limits_within}
use Rattle.clauses.specs.Gathered.{Gathered, is_closed}
use Rattle.clauses.specs.Written.{clause_names}
use Rattle.clauses.proofs.ClauseNames.{names_form}
use Rattle.clause_rules.specs.declared.clause.ClauseCounts.{ClauseCounts}
use Rattle.clause_rules.specs.HeldClauses.{HeldClauses}
use Rattle.clause_rules.specs.AsPreference.{clause_state, clause_lines}
use Rattle.clause_rules.proofs.ClauseNames.{names_count, names_short}

none_in : (xs : List ℕ) → is_empty xs ≡ true → length xs ≡ 0
none_in [] e = refl
none_in (x ∷ xs) e = absurd (let z : ◌≡◌ {A = ℕ} 0 1 = cc in omega arith)

module _ {g : Gathered} {c : ClauseCounts} {words bodies : List ℕ} (h : HeldClauses g c words bodies) (closed : is_closed g ≡ true) where
  pub held_preference : {before bytes : List ℕ} {used : ℕ} → Emitted before 0 (encode_names (clause_names c.atoms)) bytes used → length before ≡ store_bytes
      → Held Preference (clause_state c.atoms g) (clause_lines c used) words bytes
  held_preference {before} {bytes} {used} w room =
      let names = encode_names (clause_names c.atoms) in
      let short = names_short c.atoms in
      let ended = both_true (is_empty g.heads) (is_empty g.bodies) closed in
      let heads = none_in g.heads ended.0 in
      let lasts = none_in g.bodies ended.1 in
      let occurrences : c.occurrences ≡ sum places g.rules = omega (arith, h.occurrences_are, heads, lasts) in
      let is : bytes ≡ names ++ drop (0 + length names) before = w.bytes ∙ sets-eq names before 0 (omega (arith, h.atoms_fit)) in
      record {
        kind_is = refl;
        stage_is = refl;
        classes_is = refl;
        counts_are = λ i. record { atoms = sym (names_count c.atoms) i; rules = h.rules_are i; occurrences = occurrences i };
        made_is = refl;
        class_words_lem = length-replicate c.atoms 1;
        stored = h.stored;
        names_allowed = (names_form c.atoms h.atoms_fit).all_allowed;
        names_stored = ap (λ b. names ++ drop (length names) b) is ∙ ap (λ l. names ++ l) (drop-append_seam names (drop (0 + length names) before)) ∙ sym is;
        bytes_is = w.place ∙ zero-add (length names);
        short = omega (arith, w.place);
        counts_fit = limits_within {kind = Preference} (record { atoms = h.atoms_fit; rules = le_trans h.rules_fit_lem h.clauses_fit; occurrences = h.occurrences_fit });
        classes_fit = omega arith;
        made_fits = omega arith;
        made_kind = λ z. refl;
        no_rules = λ z. absurd (let y : ◌≡◌ {A = ℕ} 0 1 = cc in omega arith);
        words_room = h.words_room;
        bytes_room = same_length w ∙ room;
      }
