-- What the lines so far state, and the rules that are gathered for it.
use Prim.Native.Nat.{ℕ, suc, ◌+◌}
use native.Mathlib.Omega.{arith}
use mathlib.Core.Path.{◌≡◌, refl, sym, ap, ap₂, ◌∙◌, subst}
use mathlib.Core.Bool.{Bool, true, false, cond}
use mathlib.Core.Logic.{◌⊎◌, inl, inr}
use mathlib.Core.List.{List, [], ◌∷◌, ◌++◌, append_assoc, append-nil}
use lib.Dec.{T}
use lib.ListN.{length}
use Rattle.kinds.specs.declared.limits.Kind.{Kind}
use Rattle.kinds.specs.declared.limits.Kind.TheVariants.{Plain, Preference}
use Rattle.kinds.specs.declared.refusals.Refusal.TheVariants.{BrokenForm}
use Rattle.rules.specs.Lists.{All, flat, from}
use Rattle.rules.proofs.Lists.{all_app, length_from, from_append}
use Rattle.rules.proofs.ListLaws.{flat_append}
use Rattle.stores.specs.Program.{Program, RuleForm}
use Rattle.conditions.specs.Conditions.{Cond, connectives, Statement, states, when, statement_connectives, made_atoms}
use Rattle.conditions.specs.Numbers.{condition_rules, file_rules}
use Rattle.conditions.specs.Programs.{StatementForm}
use Rattle.lines.specs.declared.stage.Stage.{Stage}
use Rattle.lines.specs.declared.stage.Stage.TheVariants.{Declaring, Fixing, Ruling}
use Rattle.lines.specs.Tokens.{Token}
use Rattle.lines.specs.Conditions.{connectives_in}
use Rattle.lines.specs.Forms.{Word, LineForm, declares, rules, condition, blank, broken, form_of}
use Rattle.lines.specs.Faults.{SoFar, Step, next, fault, is_ruling, expects, name_number, declared, numbered, with_rule_lem, with_condition_lem, step_form}
use Rattle.lines.specs.Said.{accepted, refused, on_step, read_lines, program_of, placed}
use Rattle.lines.proofs.Parsing.{parsed_connectives}
use Rattle.reader.specs.FormedState.{Formed}
use Rattle.reader.proofs.LineSteps.{Declares, declare_said, Adds, rule_said, Speaks, condition_said}
use Rattle.reader.proofs.FormedLines.{rule_form_lem, below, line_formed}
use Rattle.condition_text.specs.Statements.{names_of, declared_names, words_of, classes_of, declared_words, when_parsed, statements_of, connectives_of, statements_from}

pub record Stated (st : SoFar) (ls : List Statement) : Type 0 where
  pub gathered : st.program_rules ≡ flat (file_rules (length st.names)) ls
  pub is_made : st.made ≡ length (made_atoms ls)
  pub forms : All (StatementForm (length st.names)) ls
  pub numbered_on : made_atoms ls ≡ from 1 st.made

-- a rule
rule_stated : (st : SoFar) (hs bs ns : List (List ℕ)) (ls : List Statement) → st.kind ≡ Preference → Adds st hs bs ns → Stated st ls → Stated (with_rule_lem st (numbered st.names hs bs ns)) (ls ++ (states (numbered st.names hs bs ns) ∷ []))
rule_stated st hs bs ns ls p d s =
    let r = numbered st.names hs bs ns in
    let n = length st.names in
    let same : made_atoms (ls ++ (states r ∷ [])) ≡ made_atoms ls = flat_append statement_connectives ls (states r ∷ []) ∙ append-nil (made_atoms ls) in
    record {
      gathered = ap (λ l. l ++ (r ∷ [])) s.gathered ∙ sym (flat_append (file_rules n) ls (states r ∷ []));
      is_made = s.is_made ∙ ap length (sym same);
      forms = all_app (StatementForm n) ls (states r ∷ []) s.forms (subst (λ k. RuleForm k n r) p (rule_form_lem st hs bs ns d), tt);
      numbered_on = same ∙ s.numbered_on;
    }

-- a condition
condition_stated : (st : SoFar) (ts : List Token) (a : List ℕ) (c : Cond) (ls : List Statement) → Speaks st ts a c → Stated st ls → Stated (with_condition_lem st c (connectives_in ts) (name_number st.names a)) (ls ++ (when c (name_number st.names a) ∷ []))
condition_stated st ts a c ls d s =
    let b = name_number st.names a in
    let n = length st.names in
    let j = connectives_in ts in
    let more : made_atoms (ls ++ (when c b ∷ [])) ≡ made_atoms ls ++ connectives c = flat_append statement_connectives ls (when c b ∷ []) ∙ ap (λ l. made_atoms ls ++ l) (append-nil (connectives c)) in
    let along : connectives c ≡ from (suc st.made) j = parsed_connectives (name_number st.names) (suc st.made) ts c d.parsed_as in
    let next : suc st.made ≡ 1 + st.made = omega arith in
    let all : made_atoms (ls ++ (when c b ∷ [])) ≡ from 1 (st.made + j) = more ∙ ap₂ ◌++◌ s.numbered_on (along ∙ ap (λ (i : ℕ). from i j) next) ∙ from_append 1 st.made j in
    record {
      gathered = ap (λ l. l ++ condition_rules n c b) s.gathered ∙ ap (λ l. flat (file_rules n) ls ++ l) (sym (append-nil (condition_rules n c b))) ∙ sym (flat_append (file_rules n) ls (when c b ∷ []));
      is_made = sym (ap length all ∙ length_from 1 (st.made + j));
      forms = all_app (StatementForm n) ls (when c b ∷ []) s.forms (below st ts a c d, tt);
      numbered_on = all;
    }

-- all lines

-- from st the lines lead to a last state: statements by its names, names and class words that they declare
pub record Lastly (st : SoFar) (said : List Statement) (later : List (List ℕ) → List Statement) (more : List (List ℕ)) (words : List ℕ) (p : Program) (names : List (List ℕ)) : Type 0 where
  pub last : SoFar
  pub formed : Formed last
  pub is_preference : last.kind ≡ Preference
  pub stated : Stated last (said ++ later last.names)
  pub are_names_lem : last.names ≡ st.names ++ more
  pub are_words_holds : last.words ≡ st.words ++ words
  -- no line declares behind the declarations
  pub same_names : T (is_ruling st.stage) → last.names ≡ st.names
  pub program : program_of (placed last) ≡ p
  pub program_names : (placed last).names ≡ names

-- before the rules nothing is stated
abbrev Quiet : SoFar → List Statement → Type 0
Quiet st said = T (is_ruling st.stage) ⊎ (said ≡ [])

late : (stage : Stage) (kind : Kind) (w : Word) → T (is_ruling stage) → T (expects kind stage w) → ⊥
late Declaring kind w r e = r
late Fixing kind w r e = r
late Ruling Plain w r e = e
late Ruling Preference w r e = e

module _ (p : Program) (names : List (List ℕ)) (ls : List (List ℕ)) where
  abbrev Leads : SoFar → List Statement → Type 0
  Leads after new = Lastly after new (λ ns. statements_from ns after.made ls) (declared_names ls) (declared_words after.classes ls) p names

  abbrev Led : SoFar → List Statement → LineForm → Type 0
  Led st said f = Lastly st said (λ ns. statements_of ns st.made f ++ statements_from ns (st.made + connectives_of f) ls) (names_of f ++ declared_names ls) (words_of st.classes f ++ declared_words (classes_of st.classes f) ls) p names

  line_stated : (st after : SoFar) (said : List Statement) (f : LineForm) → st.kind ≡ Preference → Stated st said → Quiet st said → step_form st f ≡ next after
      → ((new : List Statement) → after.kind ≡ Preference → Stated after new → Quiet after new → Leads after new) → Led st said f
  line_stated st after said (declares w xs) q s quiet e rec = go quiet (declare_said st w xs after e)
    where
      go : Quiet st said → Declares st w xs × (declared st w xs ≡ after) → Led st said (declares w xs)
      go (inl r) d = absurd (late st.stage st.kind w r d.0.expected)
      go (inr none) d =
          let empty : Stated st [] = subst (Stated st) none s in
          let now : Stated (declared st w xs) [] = record { gathered = empty.gathered; is_made = empty.is_made; forms = tt; numbered_on = empty.numbered_on } in
          let r : Leads (declared st w xs) [] = subst (λ z. Leads z []) (sym d.1) (rec [] (ap (λ z. z.kind) (sym d.1) ∙ q) (subst (λ z. Stated z []) d.1 now) (inr refl)) in
          let zero_more : st.made + 0 ≡ st.made = omega arith in
          record {
            last = r.last;
            formed = r.formed;
            is_preference = r.is_preference;
            stated = subst (λ l. Stated r.last (l ++ statements_from r.last.names (st.made + 0) ls)) (sym none) (subst (λ m. Stated r.last (statements_from r.last.names m ls)) (sym zero_more) r.stated);
            are_names_lem = r.are_names_lem ∙ append_assoc st.names xs (declared_names ls);
            are_words_holds = r.are_words_holds ∙ append_assoc st.words (words_of st.classes (declares w xs)) (declared_words (classes_of st.classes (declares w xs)) ls);
            same_names = λ t. absurd (late st.stage st.kind w t d.0.expected);
            program = r.program;
            program_names = r.program_names;
          }
  line_stated st after said (rules hs bs ns) q s quiet e rec =
      let d = rule_said st hs bs ns after e in
      let new = states (numbered st.names hs bs ns) in
      let mid = with_rule_lem st (numbered st.names hs bs ns) in
      let r : Leads mid (said ++ (new ∷ [])) = subst (λ z. Leads z (said ++ (new ∷ []))) (sym d.1) (rec (said ++ (new ∷ [])) (ap (λ z. z.kind) (sym d.1) ∙ q) (subst (λ z. Stated z (said ++ (new ∷ []))) d.1 (rule_stated st hs bs ns said q d.0 s)) (inl (subst (λ z. T (is_ruling z.stage)) d.1 d.0.ruling))) in
      let same = r.same_names d.0.ruling in
      let zero_more : st.made + 0 ≡ st.made = omega arith in
      record {
        last = r.last;
        formed = r.formed;
        is_preference = r.is_preference;
        stated =
            subst (λ z. Stated r.last (said ++ (states (numbered z hs bs ns) ∷ statements_from r.last.names (st.made + 0) ls))) (sym same)
            (subst (λ m. Stated r.last (said ++ (new ∷ statements_from r.last.names m ls))) (sym zero_more)
            (subst (Stated r.last) (append_assoc said (new ∷ []) (statements_from r.last.names st.made ls)) r.stated));
        are_names_lem = r.are_names_lem;
        are_words_holds = r.are_words_holds;
        same_names = λ t. same;
        program = r.program;
        program_names = r.program_names;
      }
  line_stated st after said (condition ts a) q s quiet e rec =
      let d = condition_said st ts a after e in
      let c = d.0 in
      let new = when c (name_number st.names a) in
      let mid = with_condition_lem st c (connectives_in ts) (name_number st.names a) in
      let r : Leads mid (said ++ (new ∷ [])) = subst (λ z. Leads z (said ++ (new ∷ []))) (sym d.2) (rec (said ++ (new ∷ [])) (ap (λ z. z.kind) (sym d.2) ∙ q) (subst (λ z. Stated z (said ++ (new ∷ []))) d.2 (condition_stated st ts a c said d.1 s)) (inl (subst (λ z. T (is_ruling z.stage)) d.2 d.1.ruling))) in
      let same = r.same_names d.1.ruling in
      let told : statements_of st.names st.made (condition ts a) ≡ new ∷ [] = ap (λ z. when_parsed z (λ x. when x (name_number st.names a) ∷ [])) d.1.parsed_as in
      record {
        last = r.last;
        formed = r.formed;
        is_preference = r.is_preference;
        stated =
            subst (λ z. Stated r.last (said ++ (statements_of z st.made (condition ts a) ++ statements_from r.last.names (st.made + connectives_in ts) ls))) (sym same)
            (subst (λ z. Stated r.last (said ++ (z ++ statements_from r.last.names (st.made + connectives_in ts) ls))) (sym told)
            (subst (Stated r.last) (append_assoc said (new ∷ []) (statements_from r.last.names (st.made + connectives_in ts) ls)) r.stated));
        are_names_lem = r.are_names_lem;
        are_words_holds = r.are_words_holds;
        same_names = λ t. same;
        program = r.program;
        program_names = r.program_names;
      }
  line_stated st after said blank q s quiet e rec =
      let same : st ≡ after = cc in
      let zero_more : st.made + 0 ≡ st.made = omega arith in
      subst (λ m. Lastly st said (λ ns. statements_from ns m ls) (declared_names ls) (declared_words st.classes ls) p names) (sym zero_more) (subst (λ z. Leads z said) (sym same) (rec said (ap (λ z. z.kind) (sym same) ∙ q) (subst (λ z. Stated z said) same s) (subst (λ z. Quiet z said) same quiet)))
  line_stated st after said broken q s quiet e rec = absurd (let z : ◌≡◌ {A = ℕ} 0 1 = cc in omega arith)

pub lines_stated : {p : Program} {names : List (List ℕ)} (k : ℕ) (st : SoFar) (said : List Statement) (ls : List (List ℕ)) → Formed st → st.kind ≡ Preference → Stated st said → Quiet st said → read_lines k st ls ≡ accepted p names
    → Lastly st said (λ ns. statements_from ns st.made ls) (declared_names ls) (declared_words st.classes ls) p names
unfolding read_lines statements_from declared_names declared_words
lines_stated {p} {names} k st said [] f q s quiet e = go (is_ruling st.stage) e
  where
    go : (b : Bool) → cond b (accepted (program_of (placed st)) (placed st).names) (refused BrokenForm k) ≡ accepted p names → Lastly st said (λ ns. []) [] [] p names
    go true i = record {
      last = st;
      formed = f;
      is_preference = q;
      stated = subst (Stated st) (sym (append-nil said)) s;
      are_names_lem = sym (append-nil st.names);
      are_words_holds = sym (append-nil st.words);
      same_names = λ r. refl;
      program = cc;
      program_names = cc;
    }
    go false i = absurd (let z : ◌≡◌ {A = ℕ} 0 1 = cc in omega arith)
lines_stated {p} {names} k st said (l ∷ ls) f q s quiet e = go (step_form st (form_of l)) (λ after i rec. line_stated p names ls st after said (form_of l) q s quiet i rec) (λ after i. line_formed st after (form_of l) f i) (λ after new. lines_stated (suc k) after new ls) e
  where
    go : (z : Step)
        → ((after : SoFar) → z ≡ next after → ((new : List Statement) → after.kind ≡ Preference → Stated after new → Quiet after new → Leads p names ls after new) → Led p names ls st said (form_of l))
        → ((after : SoFar) → z ≡ next after → Formed after)
        → ((after : SoFar) (new : List Statement) → Formed after → after.kind ≡ Preference → Stated after new → Quiet after new → read_lines (suc k) after ls ≡ accepted p names → Leads p names ls after new)
        → on_step z k (λ after. read_lines (suc k) after ls) ≡ accepted p names → Led p names ls st said (form_of l)
    go (next after) step fine rec i = step after refl (λ new k t u. rec after new (fine after refl) k t u i)
    go (fault r) step fine rec i = absurd (let z : ◌≡◌ {A = ℕ} 0 1 = cc in omega arith)
