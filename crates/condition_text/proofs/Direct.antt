-- A preference text is accepted as the program that is written for its statements, and its preferred sets are those of the conditions read directly.
use Prim.Native.Nat.{ℕ, zero, suc, ◌+◌, ◌-◌, ◌≤◌, ◌<◌}
use native.Mathlib.Omega.{arith}
use mathlib.Core.Path.{◌≡◌, refl, sym, ap, ap₂, ◌∙◌, subst, subst₂}
use mathlib.Core.Bool.{Bool, true, false, cond}
use mathlib.Core.Logic.{inr}
use mathlib.Core.List.{List, [], map}
use lib.Dec.{ltb}
use lib.ListN.{length, take-append-drop}
use borrow.Author.Tests.{lt-ltb}
use Rattle.kinds.specs.declared.limits.Kind.TheVariants.{Preference}
use Rattle.rules.specs.Lists.{All, flat, from}
use Rattle.rules.specs.Rules.{rename}
use Rattle.rules.specs.Renumbering.{Within}
use Rattle.rules.proofs.Lists.{all_imp}
use Rattle.rules.proofs.Renumbering.{rename_itself}
use Rattle.stores.specs.Program.{Program, ClassesForm, RuleForm}
use Rattle.restriction.specs.Atoms.{entries}
use Rattle.restriction.specs.Remaining.{remaining, remaining_names}
use Rattle.conditions.specs.Conditions.{Statement, made_atoms}
use Rattle.conditions.specs.Numbers.{unfixed, placed_words, placing, file_rules, placed_rules}
use Rattle.conditions.specs.Programs.{StatementForm, Typed, written_program}
use Rattle.conditions.specs.Left.{spoken, left_statements, written_names}
use Rattle.conditions.specs.DirectReading.{DirectReading}
use Rattle.conditions.proofs.Classes.{unfixed_le}
use Rattle.conditions.proofs.InFile.{placing_rules}
use Rattle.conditions.proofs.Names.{written_length}
use Rattle.conditions.proofs.Programs.{typed_taken}
use Rattle.conditions.proofs.Renamed.{made_renamed}
use Rattle.conditions.proofs.Left.{written_left, written_names_left}
use Rattle.conditions.proofs.DirectReading.{direct_reading}
use Rattle.restriction.specs.Atoms.{place_in}
use Rattle.lines.specs.Lines.{lines}
use Rattle.lines.specs.Faults.{SoFar}
use Rattle.lines.specs.Said.{accepted, start, read_lines, program_of, placed_by, placed}
use Rattle.faults.specs.EarliestFault.{Accepts}
use Rattle.faults.proofs.EarliestFault.{typed_accepted}
use Rattle.reader.specs.FormedState.{Formed}
use Rattle.reader.proofs.FormedLines.{start_formed}
use Rattle.reader.proofs.PlacedLines.{lines_kind}
use Rattle.reader.proofs.RoundTrip.{lines_read, whole_kind}
use Rattle.condition_text.specs.Statements.{declared_names, declared_words, statements_from, statements}
use Rattle.condition_text.specs.ReadDirectly.{ReadDirectly}
use Rattle.condition_text.proofs.Stated.{Stated, Lastly, lines_stated}

-- a last state of the form, and what it states
module _ (st : SoFar) (ls : List Statement) (f : Formed st) (q : st.kind ≡ Preference) (s : Stated st ls) where
  abbrev n : ℕ
  n = length st.names

  abbrev k : ℕ
  k = length (made_atoms ls)

  abbrev first : ℕ
  first = unfixed st.words

  classes : ClassesForm Preference n st.classes st.words
  classes = subst (λ j. ClassesForm j n st.classes st.words) q f.classes_form

  same : length st.words ≡ n
  same = classes.1

  pub typed_file : Typed st.classes st.words ls
  typed_file = record {
    classes_form = subst (λ (i : ℕ). ClassesForm Preference i st.classes st.words) (sym same) classes;
    statement_forms = subst (λ (i : ℕ). All (StatementForm i) ls) (sym same) s.forms;
    numbered = s.numbered_on ∙ ap (from 1) s.is_made;
  }

  inside : first ≤ n
  inside = omega (arith, same, unfixed_le st.words)

  -- in place, the rules are the written ones
  rules_placed : map (rename (placing first n k)) st.program_rules ≡ placed_rules first k ls
  rules_placed =
      ap (map (rename (placing first n k))) s.gathered
      ∙ subst (λ (i : ℕ). map (rename (placing first i k)) (flat (file_rules i) ls) ≡ placed_rules first k ls) same (placing_rules st.words ls (typed_taken st.classes st.words ls typed_file) first (unfixed_le st.words))

  -- where no atom is made, all stand in place
  stays : (a : ℕ) → a < n → placing first n 0 a ≡ a
  unfolding placing
  stays a l = ap (λ (b : Bool). cond (ltb a first) a (cond b (a + 0) (first + (a - n)))) (lt-ltb a n l) ∙ go (ltb a first)
    where
      go : (b : Bool) → cond b a (a + 0) ≡ a
      go true = refl
      go false = omega arith

  none_moved : st.made ≡ 0 → map (rename (placing first n 0)) st.program_rules ≡ st.program_rules
  none_moved e = rename_itself (placing first n 0) st.program_rules
      (all_imp (RuleForm st.kind (n + st.made)) (Within (λ a. placing first n 0 a ≡ a))
      (λ r h. record { head = all_imp _ _ (λ a l. stays a (omega (arith, e))) r.head h.head_form.0; body = all_imp _ _ (λ a l. stays a (omega (arith, e))) r.body h.body_form.0; nots = all_imp _ _ (λ a l. stays a (omega (arith, e))) r.nots h.nots_form.0 })
      st.program_rules f.rule_forms)

  words_whole : st.words ≡ placed_words first 0 st.words
  unfolding placed_words
  words_whole = sym (take-append-drop first st.words)

  names_whole : st.names ≡ written_names first 0 st.names
  unfolding written_names
  names_whole = sym (take-append-drop first st.names)

  pub names_written : (placed st).names ≡ written_names first k st.names
  unfolding placed
  names_written = go st.made refl ∙ ap (λ (i : ℕ). written_names first i st.names) s.is_made
    where
      go : (m : ℕ) → st.made ≡ m → (placed_by m st).names ≡ written_names first m st.names
      go zero e = names_whole
      go (suc m) e = refl

  abbrev InPlace : ℕ → Type 0
  InPlace m = program_of (placed_by m st) ≡ record { kind = Preference; atoms = length st.words + k; classes = st.classes; words = placed_words first k st.words; rules = placed_rules first k ls }

  pub program_written : program_of (placed st) ≡ written_program st.classes st.words ls
  unfolding placed written_program
  program_written = go st.made refl s.is_made
    where
      go : (m : ℕ) → st.made ≡ m → m ≡ k → InPlace m
      go zero e i =
          let atoms : n ≡ length st.words + k = omega (arith, same, i) in
          let words : st.words ≡ placed_words first k st.words = words_whole ∙ ap (λ (j : ℕ). placed_words first j st.words) i in
          let rules : st.program_rules ≡ placed_rules first k ls = sym (none_moved e) ∙ ap (λ (j : ℕ). map (rename (placing first n j)) st.program_rules) i ∙ rules_placed in
          λ j. record { kind = q j; atoms = atoms j; classes = st.classes; words = words j; rules = rules j }
      go (suc m) e i =
          let atoms : length (written_names first (suc m) st.names) ≡ length st.words + k = written_length first (suc m) st.names inside ∙ omega (arith, same, i) in
          let words : placed_words first (suc m) st.words ≡ placed_words first k st.words = ap (λ (j : ℕ). placed_words first j st.words) i in
          let rules : map (rename (placing first n (suc m))) st.program_rules ≡ placed_rules first k ls = ap (λ (j : ℕ). map (rename (placing first n j)) st.program_rules) i ∙ rules_placed in
          λ j. record { kind = q j; atoms = atoms j; classes = st.classes; words = words j; rules = rules j }

-- from the bytes
module _ (text : List ℕ) (p : Program) (names : List (List ℕ)) (a : Accepts text p names) (preference : p.kind ≡ Preference) where
  abbrev whole : Program
  whole = a.1.whole

  abbrev whole_names : List (List ℕ)
  whole_names = a.1.whole_names

  read : read_lines 1 (start text) (lines text) ≡ accepted whole whole_names
  read = lines_read text whole whole_names ((typed_accepted text whole whole_names).1 (a.0, a.1.declared))

  starts : (start text).kind ≡ Preference
  starts = sym (lines_kind 1 (start text) (lines text) read) ∙ whole_kind text p names a preference

  nothing_yet : Stated (start text) []
  unfolding start
  nothing_yet = record { gathered = refl; is_made = refl; forms = tt; numbered_on = refl }

  ended : Lastly (start text) [] (λ ns. statements_from ns 0 (lines text)) (declared_names (lines text)) (declared_words 0 (lines text)) whole whole_names
  unfolding start
  ended = lines_stated 1 (start text) [] (lines text) (start_formed text) starts nothing_yet (inr refl) read

  abbrev st : SoFar
  st = ended.last

  declared_names_lem : st.names ≡ declared_names (lines text)
  unfolding start
  declared_names_lem = ended.are_names_lem

  declared_words_lem : st.words ≡ declared_words 0 (lines text)
  unfolding start
  declared_words_lem = ended.are_words_holds

  -- said of what the last state holds, then of what the text says
  abbrev Said : List (List ℕ) → List ℕ → List Statement → Type 0
  Said ns ws ls =
      (p ≡ written_program p.classes (entries 0 ws (spoken (length ns) ls)) (left_statements (spoken (length ns) ls) ls))
      × (names ≡ written_names (unfixed (entries 0 ws (spoken (length ns) ls))) (length (made_atoms (left_statements (spoken (length ns) ls) ls))) (entries [] ns (spoken (length ns) ls)))
      × DirectReading (entries 0 ws (spoken (length ns) ls)) (left_statements (spoken (length ns) ls) ls) p

  -- the same, the atoms counted by the class words
  abbrev Said' : ℕ → List Statement → Type 0
  Said' i ls =
      (p ≡ written_program p.classes (entries 0 st.words (spoken i ls)) (left_statements (spoken i ls) ls))
      × (names ≡ written_names (unfixed (entries 0 st.words (spoken i ls))) (length (made_atoms (left_statements (spoken i ls) ls))) (entries [] st.names (spoken i ls)))
      × DirectReading (entries 0 st.words (spoken i ls)) (left_statements (spoken i ls) ls) p

  told : Said st.names st.words (statements_from st.names 0 (lines text))
  unfolding written_program
  told =
      let ls = statements_from st.names 0 (lines text) in
      let s = ended.stated in
      let f = ended.formed in
      let q = ended.is_preference in
      let t = typed_file st ls f q s in
      let same : length st.words ≡ length st.names = (subst (λ j. ClassesForm j (length st.names) st.classes st.words) q f.classes_form).1 in
      let is : p ≡ remaining (written_program st.classes st.words ls) = a.1.program ∙ ap remaining (sym ended.program ∙ program_written st ls f q s) in
      let left = is ∙ written_left st.classes st.words ls t in
      let called : names ≡ remaining_names (written_program st.classes st.words ls) (written_names (unfixed st.words) (length (made_atoms ls)) st.names) = a.1.are_names_lem ∙ ap₂ remaining_names (sym ended.program ∙ program_written st ls f q s) (sym ended.program_names ∙ names_written st ls f q s) in
      let kept = called ∙ written_names_left st.classes st.words ls t st.names (sym same) in
      let classes : p.classes ≡ st.classes = ap (λ z. z.classes) left in
      let there : Said' (length st.words) ls = (
        left ∙ ap (λ (c : ℕ). written_program c (entries 0 st.words (spoken (length st.words) ls)) (left_statements (spoken (length st.words) ls) ls)) (sym classes),
        kept ∙ ap (λ (i : ℕ). written_names (unfixed (entries 0 st.words (spoken (length st.words) ls))) i (entries [] st.names (spoken (length st.words) ls))) (ap length (sym (made_renamed (place_in (spoken (length st.words) ls)) ls))),
        subst (DirectReading (entries 0 st.words (spoken (length st.words) ls)) (left_statements (spoken (length st.words) ls) ls)) (sym is) (direct_reading st.classes st.words ls t),
      ) in
      subst (λ (i : ℕ). Said' i ls) same there

  pub read_directly : ReadDirectly text p names
  read_directly =
      let r = subst₂ (λ ns ws. Said ns ws (statements_from ns 0 (lines text))) declared_names_lem declared_words_lem told in
      record { written = r.0; are_names_lem = r.1; direct = r.2 }
