-- The lines that the writer gives for stores of the form are read back, one after another.
use Prim.Native.Nat.{ℕ, zero, suc, ◌+◌, ◌≤◌, ◌<◌}
use native.Mathlib.Omega.{arith}
use mathlib.Core.Path.{◌≡◌, refl, sym, ap, ap₂, ◌∙◌, subst, subst₂}
use mathlib.Core.Logic.{◌⊎◌, inl, inr}
use mathlib.Core.Bool.{true, false}
use mathlib.Core.List.{List, [], ◌∷◌, ◌++◌, append_assoc, append-nil}
use native.Mathlib.Decide.{dec_le}
use lib.Dec.{T}
use lib.ListN.{length, get_or, replicate, length-append}
use lib.Seq.{append_snoc}
use borrow.Author.Tests.{le-leb, lt-leb}
use Rattle.kinds.specs.Limits.{atom_limit, rule_limit, occurrence_limit, class_limit, varying, fixed}
use Rattle.kinds.specs.declared.limits.Kind.{Kind}
use Rattle.kinds.specs.declared.limits.Kind.TheVariants.{Plain, Preference}
use Rattle.rules.specs.Lists.{All, Distinct, flat, from, sum}
use Rattle.rules.specs.Rules.{Rule, rule, occurrences}
use Rattle.rules.proofs.Lists.{all_imp, all_map, all_at, sum_app}
use Rattle.names.specs.declared.forms.NameClass.{NameClass}
use Rattle.names.specs.declared.forms.NameClass.TheVariants.{Common, Generated, TooLong, Wrong}
use Rattle.names.specs.Names.{name_class, takes, allowed}
use Rattle.name_store.specs.NameStore.{NamesForm}
use Rattle.stores.specs.Program.{Program, RoleForm, role_of, NeverFalling, ClassesForm, ListForm, NotForm, RuleForm}
use Rattle.kinds.specs.Words.{min_word}
use Rattle.text.specs.Text.{named, list_line, rule_line, rule_text, declarations}
use Rattle.lines.specs.declared.stage.Stage.{Stage}
use Rattle.lines.specs.declared.stage.Stage.TheVariants.{Declaring, Fixing, Ruling}
use Rattle.lines.specs.Lines.{lines}
use Rattle.lines.specs.Forms.{Word, word_bytes, atoms, min, vary, fix, LineForm, declares, rules, is_name, form_of}
use Rattle.lines.specs.Faults.{SoFar, counts_of, next, expects, stage_after, classes_after, class_words, declared, numbered, with_rule_lem, filled, step_form}
use Rattle.lines.specs.Said.{on_step, read_lines}
use Rattle.gathering.proofs.HeldState.{Fits}
use Rattle.faults.specs.TextLines.{EndedLine}
use Rattle.faults.specs.LineForms.{IsName, HasForm}
use Rattle.faults.specs.Sentences.{Among}
use Rattle.faults.proofs.TextLines.{lines_iff}
use Rattle.faults.proofs.LineForms.{name_law, form_iff}
use Rattle.reader.proofs.FormText.{list_ended, list_declares, rule_ended, rule_rules}
use Rattle.reader.proofs.NumberedNames.{different_law, declared_at, numbers_of_names, names_differ}
use Rattle.reader.proofs.ClassParts.{chosen, is, up_to, class_names, class_chosen, chosen_none, chosen_every, all_chosen, distinct_chosen, length_chosen, chosen_words, Next, chosen_next, role_parts}
use Rattle.reader.proofs.LineSteps.{Declares, declare_says, Listed, Adds, rule_says}
use Rattle.reader.specs.WrittenText.{Unconditional, NoConditions}
use Rattle.reader.proofs.FormedLines.{state}

-- reading the text leads from one state to the other, whatever follows
pub record Reads (st : SoFar) (text : List ℕ) (after : SoFar) : Type 0 where
  pub reads : (k : ℕ) (rest : List ℕ) → (m : ℕ) × (read_lines k st (lines (text ++ rest)) ≡ read_lines m after (lines rest))
  pub forms : (rest : List ℕ) → NoConditions rest → NoConditions (text ++ rest)

reads_none : {st : SoFar} → Reads st [] st
reads_none = record { reads = λ k rest. (k, refl); forms = λ rest h. h }

pub reads_then : {a b c : SoFar} {s t : List ℕ} → Reads a s b → Reads b t c → Reads a (s ++ t) c
reads_then {a} {b} {c} {s} {t} f g = record { reads = both; forms = λ rest h. subst NoConditions (sym (append_assoc s t rest)) (f.forms (t ++ rest) (g.forms rest h)) }
  where
    both : (k : ℕ) (rest : List ℕ) → (m : ℕ) × (read_lines k a (lines (s ++ t ++ rest)) ≡ read_lines m c (lines rest))
    both k rest =
        let r = f.reads k (t ++ rest) in
        let q = g.reads r.0 rest in
        (q.0, ap (λ l. read_lines k a (lines l)) (append_assoc s t rest) ∙ r.1 ∙ q.1)

pub lines_cons : (l rest : List ℕ) → EndedLine l → lines (l ++ rest) ≡ l ∷ lines rest
lines_cons l rest h =
    let later = (lines_iff rest (lines rest)).0 refl in
    (lines_iff (l ++ rest) (l ∷ lines rest)).1 (ap (λ t. l ++ t) later.0, inl (h, later.1))

reads_line : {st after : SoFar} (l : List ℕ) (f : LineForm) → Unconditional f → EndedLine l → HasForm l f → step_form st f ≡ next after → Reads st l after
unfolding read_lines
reads_line {st} l f u w h e =
    let is = (form_iff l f).1 h in
    let s = ap (step_form st) is ∙ e in
    record {
      reads = λ k rest. (suc k, ap (read_lines k st) (lines_cons l rest w) ∙ ap (λ p. on_step p k (λ a. read_lines (suc k) a (lines rest))) s);
      forms = λ rest r. subst (All (λ m. Unconditional (form_of m))) (sym (lines_cons l rest w)) (subst Unconditional (sym is) u, r);
    }

allowed_name : (kind : Kind) (x : List ℕ) → T (allowed kind x) → IsName x
unfolding allowed
allowed_name kind x h = (name_law x).0 (go kind (name_class x) h)
  where
    go : (k : Kind) (c : NameClass) → T (takes k c) → T (is_name c)
    go Plain Common t = tt
    go Plain Generated t = tt
    go Plain TooLong t = absurd t
    go Plain Wrong t = absurd t
    go Preference Common t = tt
    go Preference Generated t = absurd t
    go Preference TooLong t = absurd t
    go Preference Wrong t = absurd t

allowed_names : (kind : Kind) (xs : List (List ℕ)) → All (λ x. T (allowed kind x)) xs → All IsName xs
allowed_names kind xs h = all_imp (λ x. T (allowed kind x)) IsName (allowed_name kind) xs h

reads_declares : {st : SoFar} {w : Word} {xs : List (List ℕ)} → Declares st w xs → Reads st (list_line (word_bytes w) xs) (declared st w xs)
reads_declares {st} {w} {xs} d =
    let h = allowed_names st.kind xs d.all_allowed in
    reads_line (list_line (word_bytes w) xs) (declares w xs) tt (list_ended w xs h) (list_declares w xs h) (declare_says st w xs d)

reads_rule : {st : SoFar} {hs bs ns : List (List ℕ)} → Adds st hs bs ns → Reads st (rule_line hs bs ns) (with_rule_lem st (numbered st.names hs bs ns))
reads_rule {st} {hs} {bs} {ns} d =
    let h = allowed_names st.kind hs d.head_listed.all_allowed in
    let b = allowed_names st.kind bs d.body_listed.all_allowed in
    let n = allowed_names st.kind ns d.nots_listed.all_allowed in
    reads_line (rule_line hs bs ns) (rules hs bs ns) tt (rule_ended hs bs ns h b n) (rule_rules hs bs ns h b n) (rule_says st hs bs ns d)

pub counted : {kind : Kind} {n : ℕ} {names : List (List ℕ)} → NamesForm kind n names → NamesForm kind (length names) names
counted f = record { count = refl; all_allowed = f.all_allowed; different = f.different }

-- the rules

not_filled : (kind : Kind) (names : List (List ℕ)) (xs : List ℕ) → NotForm kind xs → T (filled kind (named names xs)) → ⊥
not_filled Plain names xs h t = t
not_filled Preference names xs h t = subst (λ l. T (filled Preference (named names l)) → ⊥) (sym h) (λ u. u) t

listed : {kind : Kind} {n : ℕ} {names : List (List ℕ)} (xs : List ℕ) → NamesForm kind n names → ListForm (length names) xs → Listed kind names (named names xs)
listed {kind} {n} {names} xs f h = record {
  all_allowed = all_map (λ x. T (allowed kind x)) (λ a. get_or names a []) xs (all_imp (λ a. a < length names) (λ a. T (allowed kind (get_or names a []))) (λ a l. all_at (λ x. T (allowed kind x)) [] names f.all_allowed a l) xs h.0);
  all_declared = all_map (Among names) (λ a. get_or names a []) xs (all_imp (λ a. a < length names) (λ a. Among names (get_or names a [])) (declared_at names) xs h.0);
  different = names_differ names f.different xs h.0 h.1;
}

module _ (kind : Kind) (k : ℕ) (words : List ℕ) (names : List (List ℕ)) (f : NamesForm kind (length names) names) (full : length names ≤ atom_limit kind) where
  abbrev ruled : List (Rule ℕ) → SoFar
  ruled rs = state kind Ruling k words names rs

  reads_one : (before : List (Rule ℕ)) (r : Rule ℕ) → RuleForm kind (length names) r
      → length (before ++ (r ∷ [])) ≤ rule_limit kind
      → sum occurrences (before ++ (r ∷ [])) ≤ occurrence_limit kind
      → Reads (ruled before) (rule_text names r) (ruled (before ++ (r ∷ [])))
  reads_one before r h few room =
      let same : numbered names (named names r.head) (named names r.body) (named names r.nots) ≡ r =
      (let e₁ = numbers_of_names names f.different r.head h.head_form.0 in
      let e₂ = numbers_of_names names f.different r.body h.body_form.0 in
      let e₃ = numbers_of_names names f.different r.nots h.nots_form.0 in
      λ i. rule (e₁ i) (e₂ i) (e₃ i)) in
      let adds : Adds (ruled before) (named names r.head) (named names r.body) (named names r.nots) = record {
        ruling = tt;
        head_listed = listed r.head f h.head_form;
        body_listed = listed r.body f h.body_form;
        nots_listed = listed r.nots f h.nots_form;
        counts_fit = subst (λ q. Fits kind (counts_of (ruled (before ++ (q ∷ []))))) (sym same) (record { atoms = full; rules = few; occurrences = room });
        no_nots = not_filled kind names r.nots h.no_nots;
      } in
      subst (λ q. Reads (ruled before) (rule_text names r) (ruled (before ++ (q ∷ [])))) same (reads_rule adds)

  pub reads_rules : (before rs : List (Rule ℕ)) → All (RuleForm kind (length names)) rs
      → length (before ++ rs) ≤ rule_limit kind
      → sum occurrences (before ++ rs) ≤ occurrence_limit kind
      → Reads (ruled before) (flat (rule_text names) rs) (ruled (before ++ rs))
  reads_rules before [] h few room = subst (λ l. Reads (ruled before) [] (ruled l)) (sym (append-nil before)) reads_none
  reads_rules before (r ∷ rs) h few room =
      let e = append_snoc before r rs in
      let first = reads_one before r h.0 (omega (arith, length-append before (r ∷ rs), length-append before (r ∷ []))) (omega (arith, sum_app occurrences before (r ∷ rs), sum_app occurrences before (r ∷ []))) in
      let later = reads_rules (before ++ (r ∷ [])) rs h.1 (subst (λ l. length l ≤ rule_limit kind) (sym e) few) (subst (λ l. sum occurrences l ≤ occurrence_limit kind) (sym e) room) in
      subst (λ l. Reads (ruled before) (flat (rule_text names) (r ∷ rs)) (ruled l)) e (reads_then first later)

-- the declarations of a plain program

reads_atoms : (names : List (List ℕ)) → NamesForm Plain (length names) names → length names ≤ atom_limit Plain → Reads (state Plain Declaring 0 [] [] []) (list_line (word_bytes atoms) names) (state Plain Ruling 0 [] names [])
reads_atoms names f room = reads_declares {w = atoms} (record {
  expected = tt;
  all_allowed = f.all_allowed;
  not_twice = (different_law [] names tt).1 f.different;
  counts_fit = record { atoms = room; rules = omega arith; occurrences = omega arith };
  classes_fit = omega arith;
})

-- the declarations of a preference file, class by class

next_suc : (a w : ℕ) → Next a (suc a) w
next_suc a w l = go (dec_le w a)
  where
    go : Dec (w ≤ a) → (w ≤ a) ⊎ (w ≡ suc a)
    go (yes h) = inl h
    go (no h) = inr (omega arith)

module _ (k : ℕ) (words : List ℕ) (names : List (List ℕ)) (few : k ≤ class_limit) (same : length words ≡ length names)
    (roles : All (λ w. RoleForm k (role_of w)) words) (rising : NeverFalling 0 words)
    (f : NamesForm Preference (length names) names) (room : length names ≤ atom_limit Preference) where
  -- the classes up to class word a are read
  abbrev part : ℕ → Stage → ℕ → SoFar
  part a stage j = state Preference stage j (chosen (up_to a) words words) (chosen (up_to a) words names) []

  every_word : (P : ℕ → Type 0) → ((w : ℕ) → ((1 ≤ w) × (w ≤ k)) ⊎ ((w ≡ varying) ⊎ (w ≡ fixed)) → P w) → All P words
  every_word P h = all_imp (λ w. RoleForm k (role_of w)) P (λ w r. h w (role_parts k w r)) words roles

  class_read : (a b : ℕ) → a < b → All (Next a b) words → (stage : Stage) (j : ℕ) (w : Word)
      → T (expects Preference stage w)
      → ((c : ℕ) → class_words w j c ≡ replicate c b)
      → classes_after w j ≤ class_limit
      → Reads (part a stage j) (list_line (word_bytes w) (class_names words names b)) (part b (stage_after w) (classes_after w j))
  class_read a b l gap stage j w ok word fits =
      let old = chosen (up_to a) words names in
      let xs = chosen (is b) words names in
      let e : chosen (up_to b) words names ≡ old ++ xs = chosen_next a b l 0 words names rising gap in
      let d : Declares (part a stage j) w xs = record {
        expected = ok;
        all_allowed = all_chosen (λ x. T (allowed Preference x)) (is b) words names f.all_allowed;
        not_twice = (different_law old xs (distinct_chosen (up_to a) words names f.different)).1 (subst Distinct e (distinct_chosen (up_to b) words names f.different));
        counts_fit = record { atoms = omega (arith, ap length e, length_chosen (up_to b) words names); rules = omega arith; occurrences = omega arith };
        classes_fit = fits;
      } in
      let words_are : chosen (up_to a) words words ++ class_words w j (length xs) ≡ chosen (up_to b) words words =
      (ap (λ v. chosen (up_to a) words words ++ v) (word (length xs) ∙ sym (chosen_words b words names same))
      ∙ sym (chosen_next a b l 0 words words rising gap)) in
      subst₂ (λ ys st. Reads (part a stage j) (list_line (word_bytes w) ys) st) (sym (class_chosen words names b same))
      (ap₂ (λ ws ns. state Preference (stage_after w) (classes_after w j) ws ns []) words_are (sym e)) (reads_declares d)

  reads_mins : (c j : ℕ) → j + c ≡ k → Reads (part j Declaring j) (flat (λ i. list_line min_word (class_names words names i)) (from (suc j) c)) (part k Declaring k)
  reads_mins zero j e = let i : j ≡ k = omega arith in subst (λ a. Reads (part j Declaring j) [] (part a Declaring a)) i reads_none
  reads_mins (suc c) j e =
      reads_then (class_read j (suc j) (omega arith) (every_word (Next j (suc j)) (λ w h. next_suc j w)) Declaring j min tt (λ c. refl) (omega arith))
      (reads_mins c (suc j) (omega arith))

  nothing_yet : {A : Type 0} (xs : List A) → chosen (up_to 0) words xs ≡ []
  nothing_yet xs = chosen_none (up_to 0) words xs (every_word (λ w. up_to 0 w ≡ false) least)
    where
      least : (w : ℕ) → ((1 ≤ w) × (w ≤ k)) ⊎ ((w ≡ varying) ⊎ (w ≡ fixed)) → up_to 0 w ≡ false
      least w (inl h) = lt-leb w 0 h.0
      least w (inr (inl h)) = lt-leb w 0 (omega arith)
      least w (inr (inr h)) = lt-leb w 0 (omega arith)

  after_classes : All (Next k varying) words
  after_classes = every_word (Next k varying) go
    where
      go : (w : ℕ) → ((1 ≤ w) × (w ≤ k)) ⊎ ((w ≡ varying) ⊎ (w ≡ fixed)) → Next k varying w
      go w (inl h) l = inl h.1
      go w (inr (inl h)) l = inr h
      go w (inr (inr h)) l = absurd (omega arith)

  everything : {A : Type 0} (xs : List A) → length words ≡ length xs → chosen (up_to fixed) words xs ≡ xs
  everything xs e = chosen_every (up_to fixed) words xs (every_word (λ w. up_to fixed w ≡ true) go) e
    where
      go : (w : ℕ) → ((1 ≤ w) × (w ≤ k)) ⊎ ((w ≡ varying) ⊎ (w ≡ fixed)) → up_to fixed w ≡ true
      go w (inl h) = let l : w ≤ k = h.1 in le-leb w fixed (omega arith)
      go w (inr (inl h)) = le-leb w fixed (omega arith)
      go w (inr (inr h)) = le-leb w fixed (omega arith)

  reads_classes : (n : ℕ) (rs : List (Rule ℕ)) → Reads (state Preference Declaring 0 [] [] []) (declarations Preference (record { kind = Preference; atoms = n; classes = k; words = words; rules = rs }) names) (state Preference Ruling k words names [])
  reads_classes n rs =
      subst₂ (λ a b. Reads a (declarations Preference (record { kind = Preference; atoms = n; classes = k; words = words; rules = rs }) names) b)
      (ap₂ (λ ws ns. state Preference Declaring 0 ws ns []) (nothing_yet words) (nothing_yet names))
      (ap₂ (λ ws ns. state Preference Ruling k ws ns []) (everything words refl) (everything names same))
      (reads_then (reads_mins k 0 (omega arith))
      (reads_then (class_read k varying (omega arith) after_classes Declaring k vary tt (λ c. refl) few)
      (class_read varying fixed (omega arith) (every_word (Next varying fixed) (λ w h. next_suc varying w)) Fixing k fix tt (λ c. refl) few)))

pub reads_declarations : (kind : Kind) (p : Program) (names : List (List ℕ)) → ClassesForm kind p.atoms p.classes p.words → NamesForm kind p.atoms names → p.atoms ≤ atom_limit kind
    → Reads (state kind Declaring 0 [] [] []) (declarations kind p names) (state kind Ruling p.classes p.words names [])
reads_declarations Plain p names c f room =
    let n : length names ≡ p.atoms = f.count in
    subst₂ (λ k ws. Reads (state Plain Declaring 0 [] [] []) (list_line (word_bytes atoms) names) (state Plain Ruling k ws names [])) (sym c.0) (sym c.1) (reads_atoms names (counted f) (omega arith))
reads_declarations Preference p names c f room =
    let n : length names ≡ p.atoms = f.count in
    reads_classes p.classes p.words names c.0 (c.1 ∙ sym n) c.2 c.3 (counted f) (omega arith) p.atoms p.rules
