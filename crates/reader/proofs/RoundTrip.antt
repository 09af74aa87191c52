-- The round trips: the writer's text of an accepted text's stores is that text with strict spacing and without its unused names, and the text of stores of the form is accepted and gives them back without their unused atoms.
use Prim.Native.Nat.{ℕ, zero, suc, ◌≤◌}
use mathlib.Core.Path.{◌≡◌, refl, sym, ap, ap₂, ◌∙◌, subst}
use mathlib.Core.Logic.{◌↔◌}
use mathlib.Core.Bool.{Bool, true, false, cond}
use mathlib.Core.List.{List, [], ◌∷◌, ◌++◌, append_assoc, append-nil}
use lib.Dec.{T, leb, le→leb}
use lib.ListN.{length}
use Rattle.kinds.specs.Limits.{text_limit, varying, fixed, atom_limit}
use Rattle.kinds.specs.declared.limits.Kind.{Kind}
use Rattle.kinds.specs.declared.limits.Kind.TheVariants.{Plain, Preference}
use Rattle.kinds.specs.declared.refusals.Refusal.TheVariants.{TextTooLong, BrokenForm}
use Rattle.rules.specs.Lists.{All, flat, from}
use Rattle.rules.specs.Preferred.{of_class}
use Rattle.rules.proofs.Booleans.{is_true_lem}
use Rattle.name_store.specs.NameStore.{NamesForm, same_bytes}
use Rattle.stores.specs.Program.{Program, ProgramForm, RuleForm}
use Rattle.kinds.specs.Words.{min_word, vary_word, fix_word}
use Rattle.text.specs.Text.{open_text, list_line, named, class_line, declarations, rule_text, text_of}
use Rattle.lines.specs.declared.stage.Stage.TheVariants.{Declaring, Ruling}
use Rattle.lines.specs.Lines.{line_length, lines_from, lines}
use Rattle.lines.specs.Tokens.{run, tokens_from, tokens}
use Rattle.lines.specs.Forms.{Word, word_bytes, atoms, min, vary, fix, opened_of}
use Rattle.lines.specs.Strict.{strict_text, Strict}
use Rattle.lines.specs.Faults.{SoFar, is_ruling}
use Rattle.lines.specs.Said.{Said, accepted, refused, kind_of, start, read_lines, typed, what_remains, said, program_of, placed}
use Rattle.text.proofs.TextLength.{text_fits}
use Rattle.restriction.specs.Remaining.{restrict, remaining, remaining_names, AllUsed}
use Rattle.restriction.proofs.Forms.{remaining_form, remaining_names_lem}
use Rattle.restriction.proofs.Whole.{remaining_plain, names_plain, remaining_kind, remaining_preference, names_preference, remaining_whole, names_whole, all_used, all_left}
use Rattle.faults.specs.EarliestFault.{Accepts}
use Rattle.faults.proofs.EarliestFault.{apart, same_accepted, typed_accepted, said_accepted}
use Rattle.reader.specs.WrittenText.{NoConditions, TypedText}
use Rattle.reader.specs.RoundTrips.{WritesBack, RoundTrips}
use Rattle.reader.proofs.FormedLines.{state, start_formed}
use Rattle.reader.proofs.PlacedLines.{none_placed, lines_formed, declared_form_lem, lines_kind, plain_none}
use Rattle.reader.proofs.Progress.{lines_told, start_told}
use Rattle.reader.proofs.UsedNames.{used_text_lem}
use Rattle.reader.proofs.WrittenLines.{Reads, counted, reads_then, reads_rules, reads_declarations}
use Rattle.reader.proofs.SameLines.{same_text, lines_ended}

-- an accepted text

pub lines_read : (text : List ℕ) (p : Program) (names : List (List ℕ)) → typed text ≡ accepted p names → read_lines 1 (start text) (lines text) ≡ accepted p names
unfolding typed
lines_read text p names e = go (leb (length text) text_limit) e
  where
    go : (b : Bool) → cond b (read_lines 1 (start text) (lines text)) (refused TextTooLong 0) ≡ accepted p names → read_lines 1 (start text) (lines text) ≡ accepted p names
    go true i = i
    go false i = absurd (apart (sym i))

read_lines_lem : (text : List ℕ) → length text ≤ text_limit → typed text ≡ read_lines 1 (start text) (lines text)
unfolding typed
read_lines_lem text short = ap (λ b. cond b (read_lines 1 (start text) (lines text)) (refused TextTooLong 0)) (is_true_lem (leb (length text) text_limit) (le→leb (length text) text_limit short))

-- the text of all that is declared is the text as strict lines, if no line is a condition
pub typed_write : (text : List ℕ) (p : Program) (names : List (List ℕ)) → NoConditions text → typed text ≡ accepted p names → text_of p names ≡ strict_text text
unfolding strict_text
typed_write text p names u e = lines_told 1 (start text) (lines text) [] (start_told text) u (lines_read text p names e)

-- what is declared and what is left of it is of the form, and the names fit

pub typed_form_lem : (text : List ℕ) (p : Program) (names : List (List ℕ)) → typed text ≡ accepted p names → ProgramForm p × NamesForm p.kind p.atoms names
typed_form_lem text p names e = declared_form_lem (lines_formed 1 (start text) (lines text) (start_formed text) (lines_read text p names e))

pub accepted_form : (text : List ℕ) (p : Program) (names : List (List ℕ)) → said text ≡ accepted p names → ProgramForm p × NamesForm p.kind p.atoms names
unfolding said
accepted_form text p names e = step (typed text) refl e
  where
    step : (s : Said) → typed text ≡ s → what_remains s ≡ accepted p names → ProgramForm p × NamesForm p.kind p.atoms names
    step (accepted q all) t r =
        let f = typed_form_lem text q all t in
        let i = same_accepted r in
        rw (sym i.0, sym i.1) (remaining_form q f.0, remaining_names_lem q all f.0 f.1)
    step (refused g k) t r = absurd (apart (sym r))

-- a written text

-- the kind that a word's line tells
abbrev word_kind : Word → Kind
word_kind atoms = Plain
word_kind min = Preference
word_kind vary = Preference
word_kind fix = Preference

line_kind : (w : Word) (xs : List (List ℕ)) (rest : List ℕ) → kind_of (lines (list_line (word_bytes w) xs ++ rest)) ≡ word_kind w
unfolding kind_of lines lines_from line_length tokens tokens_from run opened_of same_bytes list_line open_text
line_kind atoms [] rest = refl
line_kind atoms (x ∷ xs) rest = refl
line_kind min [] rest = refl
line_kind min (x ∷ xs) rest = refl
line_kind vary [] rest = refl
line_kind vary (x ∷ xs) rest = refl
line_kind fix [] rest = refl
line_kind fix (x ∷ xs) rest = refl

starts : (kind : Kind) (p : Program) (names : List (List ℕ)) (rest : List ℕ) → kind_of (lines (declarations kind p names ++ rest)) ≡ kind
starts Plain p names rest = line_kind atoms names rest
starts Preference p names rest = go p.classes
  where
    varied : List (List ℕ)
    varied = named names (of_class p.words varying)

    fixes : List ℕ
    fixes = class_line p names fix_word fixed

    go : (k : ℕ) → kind_of (lines ((flat (class_line p names min_word) (from 1 k) ++ (list_line vary_word varied ++ fixes)) ++ rest)) ≡ Preference
    go zero = ap (λ l. kind_of (lines l)) (append_assoc (list_line vary_word varied) fixes rest) ∙ line_kind vary varied (fixes ++ rest)
    go (suc k) =
        let first = class_line p names min_word 1 in
        let mins = flat (class_line p names min_word) (from 2 k) in
        ap (λ l. kind_of (lines (l ++ rest))) (append_assoc first mins (list_line vary_word varied ++ fixes))
        ∙ ap (λ l. kind_of (lines l)) (append_assoc first (mins ++ (list_line vary_word varied ++ fixes)) rest)
        ∙ line_kind min (named names (of_class p.words 1)) ((mins ++ (list_line vary_word varied ++ fixes)) ++ rest)

start_is : (kind : Kind) (p : Program) (names : List (List ℕ)) (rest : List ℕ) → start (declarations kind p names ++ rest) ≡ state kind Declaring 0 [] [] []
unfolding start
start_is kind p names rest = ap (λ k. state k Declaring 0 [] [] []) (starts kind p names rest)

typed_read : (text : List ℕ) (st end : SoFar) → length text ≤ text_limit → start text ≡ st → Reads st text end → T (is_ruling end.stage) → typed text ≡ accepted (program_of (placed end)) (placed end).names
unfolding read_lines lines lines_from
typed_read text st end short e r ruling =
    let last = r.reads 1 [] in
    read_lines_lem text short
    ∙ ap₂ (λ s t. read_lines 1 s (lines t)) e (sym (append-nil text))
    ∙ last.1
    ∙ ap (λ b. cond b (accepted (program_of (placed end)) (placed end).names) (refused BrokenForm last.0)) (is_true_lem (is_ruling end.stage) ruling)

-- the state after the last line of a program's text
abbrev end_state : Program → List (List ℕ) → SoFar
end_state p names = state p.kind Ruling p.classes p.words names p.rules

reads_program : (p : Program) (names : List (List ℕ)) → ProgramForm p → NamesForm p.kind p.atoms names → Reads (state p.kind Declaring 0 [] [] []) (text_of p names) (end_state p names)
unfolding text_of
reads_program p names f g =
    reads_then (reads_declarations p.kind p names f.classes_form g f.atoms_fit)
    (reads_rules p.kind p.classes p.words names (counted g) (subst (λ n. n ≤ atom_limit p.kind) (sym g.count) f.atoms_fit) [] p.rules (subst (λ n. All (RuleForm p.kind n) p.rules) (sym g.count) f.rule_forms) f.rules_fit_lem f.occurrences_fit)

start_program : (p : Program) (names : List (List ℕ)) → start (text_of p names) ≡ state p.kind Declaring 0 [] [] []
unfolding text_of
start_program p names = start_is p.kind p names (flat (rule_text names) p.rules)

-- no line of it is a condition
pub written_none : (p : Program) (names : List (List ℕ)) → ProgramForm p → NamesForm p.kind p.atoms names → NoConditions (text_of p names)
unfolding lines lines_from
written_none p names f g = subst NoConditions (append-nil (text_of p names)) ((reads_program p names f g).forms [] tt)

-- stores of the form are written to a text that declares them
pub write_typed : (p : Program) (names : List (List ℕ)) → ProgramForm p → NamesForm p.kind p.atoms names → typed (text_of p names) ≡ accepted p names
write_typed p names f g =
    typed_read (text_of p names) (state p.kind Declaring 0 [] [] []) (end_state p names) (text_fits f g) (start_program p names) (reads_program p names f g) tt
    ∙ ap (λ z. accepted (program_of z) z.names) (none_placed (end_state p names) refl)
    ∙ ap (λ n. accepted (counting n) names) g.count
  where
    counting : ℕ → Program
    counting n = record { kind = p.kind; atoms = n; classes = p.classes; words = p.words; rules = p.rules }

-- and that is accepted as what is left of them
pub write_read : (p : Program) (names : List (List ℕ)) → ProgramForm p → NamesForm p.kind p.atoms names → said (text_of p names) ≡ accepted (remaining p) (remaining_names p names)
unfolding said
write_read p names f g = ap what_remains (write_typed p names f g)

-- a plain program's are all there again
pub plain_back : (p : Program) (names : List (List ℕ)) → ProgramForm p → NamesForm p.kind p.atoms names → p.kind ≡ Plain → said (text_of p names) ≡ accepted p names
plain_back p names f g e = write_read p names f g ∙ ap₂ accepted (remaining_plain p e) (names_plain p names e)

-- every written text is strict
pub written_strict : (p : Program) (names : List (List ℕ)) → ProgramForm p → NamesForm p.kind p.atoms names → Strict (text_of p names)
written_strict p names f g = sym (typed_write (text_of p names) p names (written_none p names f g) (write_typed p names f g))

-- the accepted texts without conditions are those whose strict text is written from stores of the form
pub accepted_iff : (text : List ℕ) → NoConditions text → ((p : Program) × (names : List (List ℕ)) × (said text ≡ accepted p names)) ↔ TypedText text
unfolding said
accepted_iff text none = (
  λ h. let a = (said_accepted text h.0 h.1).0 h.2 in there a.0 a.1.whole a.1.whole_names ((typed_accepted text a.1.whole a.1.whole_names).1 (a.0, a.1.declared)),
  λ w. (remaining w.written.program, remaining_names w.written.program w.written.names, ap what_remains (back w)),
)
  where
    there : length text ≤ text_limit → (p : Program) (names : List (List ℕ)) → typed text ≡ accepted p names → TypedText text
    there short p names e =
        let f = typed_form_lem text p names e in
        record {
          short = short;
          ended = lines_ended 1 (start text) (lines text) (lines_read text p names e);
          written = record { program = p; names = names; form = f.0; names_form = f.1; is_text = typed_write text p names none e };
        }

    back : (w : TypedText text) → typed text ≡ accepted w.written.program w.written.names
    back w =
        let p = w.written.program in
        let names = w.written.names in
        let e = ap typed (sym w.written.is_text) ∙ write_typed p names w.written.form w.written.names_form in
        read_lines_lem text w.short ∙ (same_text text w.ended p names).1 (lines_read (strict_text text) p names e)

-- the sentences

module _ (text : List ℕ) (p : Program) (names : List (List ℕ)) (a : Accepts text p names) where
  abbrev whole : Program
  whole = a.1.whole

  abbrev whole_names : List (List ℕ)
  whole_names = a.1.whole_names

  declared : typed text ≡ accepted whole whole_names
  declared = (typed_accepted text whole whole_names).1 (a.0, a.1.declared)

  pub form : ProgramForm whole × NamesForm whole.kind whole.atoms whole_names
  form = typed_form_lem text whole whole_names declared

  pub whole_kind : {k : Kind} → p.kind ≡ k → whole.kind ≡ k
  whole_kind e = sym (remaining_kind whole) ∙ ap (λ (q : Program). q.kind) (sym a.1.program) ∙ e

  text_left : text_of p names ≡ text_of (remaining whole) (remaining_names whole whole_names)
  text_left = ap₂ text_of a.1.program a.1.are_names_lem

  -- what is left is of the form, and all of it is used, so it is read as it is
  left_form : ProgramForm (remaining whole)
  left_form = remaining_form whole form.0

  left_names : NamesForm (remaining whole).kind (remaining whole).atoms (remaining_names whole whole_names)
  left_names = remaining_names_lem whole whole_names form.0 form.1

  stays : (remaining (remaining whole) ≡ remaining whole) × (remaining_names (remaining whole) (remaining_names whole whole_names) ≡ remaining_names whole whole_names)
  stays = by_kind whole.kind refl
    where
      by_kind : (k : Kind) → whole.kind ≡ k → (remaining (remaining whole) ≡ remaining whole) × (remaining_names (remaining whole) (remaining_names whole whole_names) ≡ remaining_names whole whole_names)
      by_kind Plain e = let k = remaining_kind whole ∙ e in (remaining_plain (remaining whole) k, names_plain (remaining whole) (remaining_names whole whole_names) k)
      by_kind Preference e =
          let u = all_used whole e in
          (remaining_whole (remaining whole) left_form u, names_whole (remaining whole) left_form u (remaining_names whole whole_names) left_names.count)

  same_used : whole.kind ≡ Preference → text_of p names ≡ text → AllUsed whole
  unfolding restrict
  same_used e t =
      let again = sym (write_typed (remaining whole) (remaining_names whole whole_names) left_form left_names) ∙ ap typed (sym text_left ∙ t) ∙ declared in
      all_left whole (ap (λ (q : Program). q.atoms) (sym (remaining_preference whole e) ∙ (same_accepted again).0))

  whole_text : NoConditions text → text_of whole whole_names ≡ strict_text text
  whole_text u = typed_write text whole whole_names u declared

  plain_text : p.kind ≡ Plain → text_of p names ≡ strict_text text
  plain_text e = let k = whole_kind e in text_left ∙ ap₂ text_of (remaining_plain whole k) (names_plain whole whole_names k) ∙ whole_text (plain_none 1 (start text) (lines text) (sym (lines_kind 1 (start text) (lines text) (lines_read text whole whole_names declared)) ∙ k) (lines_read text whole whole_names declared))

  strict_left : Strict (text_of p names)
  strict_left = subst Strict (sym text_left) (written_strict (remaining whole) (remaining_names whole whole_names) left_form left_names)

  writes_back : WritesBack text p names a
  writes_back = record {
    whole = whole_text;
    plain = plain_text;
    plain_unaltered = λ e. (λ t. sym (plain_text e) ∙ t, λ s. plain_text e ∙ s);
    preference = λ e. let k = whole_kind e in text_left ∙ ap₂ text_of (remaining_preference whole k) (names_preference whole whole_names k) ∙ used_text_lem whole whole_names form.0 k;
    unaltered = λ e. (
      λ t. (subst Strict t strict_left, same_used (whole_kind e) t, subst NoConditions (sym text_left ∙ t) (written_none (remaining whole) (remaining_names whole whole_names) left_form left_names)),
      λ h. text_left ∙ ap₂ text_of (remaining_whole whole form.0 h.1) (names_whole whole form.0 h.1 whole_names form.1.count) ∙ whole_text h.2 ∙ h.0,
    );
    again = (said_accepted (text_of p names) p names).0 (ap said text_left ∙ write_read (remaining whole) (remaining_names whole whole_names) left_form left_names ∙ ap₂ accepted (stays.0 ∙ sym a.1.program) (stays.1 ∙ sym a.1.are_names_lem));
  }

pub round_trips : RoundTrips
round_trips = record {
  read_write = writes_back;
  write_read = λ p names f g. (said_accepted (text_of p names) (remaining p) (remaining_names p names)).0 (write_read p names f g);
  strict = written_strict;
}
