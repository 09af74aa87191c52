-- What the clause reader answers and writes, from what its lines give.
use Prim.Native.Nat.{ℕ, ◌+◌, ◌*◌, ◌≤◌, ◌<◌}
use native.Mathlib.Omega.{arith}
use mathlib.Core.Path.{◌≡◌, sym, ap, ap₂, ◌∙◌, subst}
use mathlib.Core.List.{List}
use lib.ListN.{length, get_or, replicate}
use borrow.Author.Tests.{lt-leb, le-leb, ne_eqb}
use Rattle.kinds.specs.Limits.{atom_limit, occurrence_limit, text_limit}
use Rattle.kinds.specs.Sizes.{store_words, store_bytes}
use Rattle.kinds.specs.declared.limits.Kind.TheVariants.{Preference}
use Rattle.kinds.specs.declared.refusals.Refusal.TheVariants.{TextTooLong}
use Rattle.stores.specs.Checking.{Below}
use Rattle.stores.specs.Program.{Program, ProgramForm}
use Rattle.name_store.specs.NameStore.{encode_names}
use Rattle.output.specs.Emitted.{Emitted}
use Rattle.restriction.specs.Remaining.{remaining, remaining_names}
use Rattle.lines.specs.Lines.{lines}
use Rattle.lines.specs.Said.{accepted, what_remains, program_of}
use Rattle.gathering.specs.Gathered.{state_of, Held}
use Rattle.gathering.specs.declared.gathered.Gathered.{Gathered}
use Rattle.gathering.proofs.HeldState.{held_is}
use Rattle.std.specs.Prelude.{Result, Ok, Err}
use Rattle.answers.specs.declared.ReadSizes.{ReadSizes}
use Rattle.answers.specs.declared.ReadRefusal.{ReadRefusal}
use Rattle.answers.specs.Reading.{read_refusal}
use Rattle.answers.specs.ReadingClauses.{clauses_answer, clauses_rules, clauses_names}
use Rattle.delivery.specs.Delivered.{Delivered}
use Rattle.delivery.proofs.Outcomes.{refused_as, delivered_as}
use Rattle.clauses.specs.Faults.{unheaded}
use Rattle.clauses.specs.Written.{clause_names, clause_program}
use Rattle.clauses.specs.ClausesSaid.{read_lines, clauses_typed, clauses_said}
use Rattle.clauses.proofs.ClauseForms.{typed_form_lem}
use Rattle.clause_rules.specs.declared.clause.ClauseCounts.{ClauseCounts}
use Rattle.clause_rules.specs.HeldClauses.{held}
use Rattle.clause_rules.specs.AsPreference.{clause_state, clause_lines}
use Rattle.clause_rules.proofs.ClauseNames.{names_count}
use Rattle.clause_rules.proofs.HeldPreference.{held_preference}
use Rattle.clause_reader.specs.Reading.{Empty, GatherSays, GatherIs}

-- scratch without a mark holds nothing
pub empty_scratch : {words bodies marks : List ℕ} → length words ≡ store_words → length bodies ≡ occurrence_limit Preference → Below 1 marks → length marks ≡ 2 * atom_limit Preference → Empty words bodies marks
empty_scratch {marks = marks} w b m r =
    record {
      marked = record {
        below = record { mark = λ a. omega (arith, m.mark a) };
        heads = λ a l. ne_eqb (get_or marks a 0) 1 (λ e. absurd (omega (arith, m.mark a)));
        bodies = λ a l. ne_eqb (get_or marks (atom_limit Preference + a) 0) 1 (λ e. absurd (omega (arith, m.mark (atom_limit Preference + a))));
        room = r;
      };
      words_room = w;
      bodies_room = b;
    }

module _ (text rules names : List ℕ) where
  abbrev Answered : Result ReadSizes ReadRefusal → List ℕ → List ℕ → Type 0
  Answered r rules' names' = (r ≡ clauses_answer text (length rules) (length names)) × ((rules' ≡ clauses_rules text rules names) × (names' ≡ clauses_names text rules names))

  pub too_long : text_limit < length text → Answered (Err (read_refusal TextTooLong 0)) rules names
  unfolding clauses_said clauses_typed clauses_answer clauses_rules clauses_names
  too_long l = refused_as (clauses_said text) rules names (rw (lt-leb (length text) text_limit l))

  module _ (l : length text ≤ text_limit) where
    typed_lines : clauses_typed text ≡ read_lines 1 unheaded (lines text)
    unfolding clauses_typed
    typed_lines = rw (le-leb (length text) text_limit l)

    said_lines : clauses_said text ≡ what_remains (read_lines 1 unheaded (lines text))
    unfolding clauses_said
    said_lines = ap what_remains typed_lines

    module _ {words bodies : List ℕ} {q : Result ClauseCounts ReadRefusal} (w : GatherIs (read_lines 1 unheaded (lines text)) words bodies q) where
      gather : {p : Result ClauseCounts ReadRefusal} → q ≡ p → GatherSays (read_lines 1 unheaded (lines text)) words bodies p
      gather e = subst (GatherSays (read_lines 1 unheaded (lines text)) words bodies) e w.says

      pub lines_refused : {f : ReadRefusal} → q ≡ Err f → Answered (Err f) rules names
      unfolding clauses_answer clauses_rules clauses_names
      lines_refused e = refused_as (clauses_said text) rules names (said_lines ∙ ap what_remains (gather e))

      module _ {c : ClauseCounts} (e : q ≡ Ok c) where
        abbrev program : Program
        program = clause_program c.atoms (held c words bodies).rules

        pub atoms_fit : c.atoms ≤ atom_limit Preference
        atoms_fit = (gather e).1.atoms_fit

        module _ {before bytes : List ℕ} {used : ℕ} (n : Emitted before 0 (encode_names (clause_names c.atoms)) bytes used) (room : length before ≡ store_bytes) {g : Gathered} (k : g ≡ clause_lines c used) where
          held_whole : Held Preference (clause_state c.atoms (held c words bodies)) g words bytes
          held_whole = subst (λ x. Held Preference (clause_state c.atoms (held c words bodies)) x words bytes) (sym k) (held_preference (gather e).1 (gather e).2 n room)

          state_is : clause_state c.atoms (held c words bodies) ≡ state_of Preference g words bytes
          state_is = held_is held_whole

          as_state : program ≡ program_of (clause_state c.atoms (held c words bodies))
          as_state = λ i. record { kind = Preference; atoms = sym (names_count c.atoms) i; classes = 1; words = replicate c.atoms 1; rules = (held c words bodies).rules }

          program_is : program ≡ program_of (state_of Preference g words bytes)
          program_is = as_state ∙ ap program_of state_is

          -- what is gathered is of the form
          pub lines_held : Held Preference (state_of Preference g words bytes) g words bytes × ProgramForm (program_of (state_of Preference g words bytes))
          lines_held = (
            subst (λ st. Held Preference st g words bytes) state_is held_whole,
            subst ProgramForm program_is (typed_form_lem text program (clause_names c.atoms) (typed_lines ∙ (gather e).0)).0,
          )

          pub delivered : {rules' names' : List ℕ} {r : Result ReadSizes ReadRefusal}
              → Delivered (remaining (program_of (state_of Preference g words bytes))) (remaining_names (program_of (state_of Preference g words bytes)) (state_of Preference g words bytes).names) rules names rules' names' r
              → Answered r rules' names'
          unfolding clauses_answer clauses_rules clauses_names
          delivered d = delivered_as (clauses_said text) rules names (said_lines ∙ ap what_remains ((gather e).0 ∙ ap₂ accepted program_is (ap (λ st. st.names) state_is))) d
