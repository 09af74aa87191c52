-- What holds after each line that passes: the state so far is of the form, and so is the program that it declares.
use Prim.Native.Nat.{ℕ, suc, ◌+◌, ◌≤◌, ◌<◌}
use native.Mathlib.Omega.{arith}
use mathlib.Core.Path.{◌≡◌, refl, sym, ◌∙◌, subst}
use mathlib.Core.List.{List, [], ◌∷◌, ◌++◌, map, append-nil}
use lib.Dec.{T}
use lib.ListN.{length, replicate}
use Rattle.kinds.specs.Limits.{class_limit, varying, fixed}
use Rattle.kinds.specs.declared.limits.Kind.{Kind}
use Rattle.kinds.specs.declared.limits.Kind.TheVariants.{Plain, Preference}
use Rattle.rules.specs.Lists.{All, from}
use Rattle.rules.specs.Rules.{Rule, occurrences}
use Rattle.rules.proofs.Lists.{all_app, all_imp, all_map, from_append}
use Rattle.names.specs.Names.{allowed, made_name}
use Rattle.name_store.specs.NameStore.{NamesForm}
use Rattle.stores.specs.Program.{RoleForm, role_of, ClassesForm, ListForm, NotForm, RuleForm}
use Rattle.conditions.specs.Conditions.{Cond, names_of}
use Rattle.conditions.specs.Numbers.{condition_rules}
use Rattle.conditions.proofs.InFile.{condition_forms}
use Rattle.lines.specs.declared.stage.Stage.{Stage}
use Rattle.lines.specs.declared.stage.Stage.TheVariants.{Declaring, Fixing, Ruling}
use Rattle.lines.specs.Lines.{lines}
use Rattle.lines.specs.Tokens.{Token}
use Rattle.lines.specs.Conditions.{names_in, connectives_in}
use Rattle.lines.specs.Forms.{Word, atoms, min, vary, fix, declares, rules, condition, blank, broken, LineForm}
use Rattle.lines.specs.Faults.{SoFar, next, is_ruling, name_number, declared, numbered, with_rule_lem, with_condition_lem, filled, step_form}
use Rattle.lines.specs.Said.{kind_of, start}
use Rattle.lines.proofs.Parsing.{parsed_connectives, parsed_names}
use Rattle.faults.specs.Sentences.{Among, Comes, atoms_line, min_line, vary_line, fix_line}
use Rattle.faults.proofs.Tests.{comes_law}
use Rattle.reader.specs.FormedState.{StageForm, Formed}
use Rattle.reader.proofs.NumberedNames.{different_law, number_below, numbers_differ}
use Rattle.reader.proofs.ClassParts.{words_fit, all_replicate, rising_app, role_more, role_new}
use Rattle.reader.proofs.LineSteps.{Declares, declare_said, Listed, Adds, rule_said, Speaks, condition_said}

abbrev pub so_far : Kind → Stage → ℕ → List ℕ → List (List ℕ) → List (Rule ℕ) → ℕ → SoFar
so_far kind stage k words names rs m = record { kind = kind; stage = stage; classes = k; words = words; names = names; program_rules = rs; made = m }

-- without conditions
abbrev pub state : Kind → Stage → ℕ → List ℕ → List (List ℕ) → List (Rule ℕ) → SoFar
state kind stage k words names rs = so_far kind stage k words names rs 0

-- a line that declares atoms

names_more : {st : SoFar} {w : Word} {xs : List (List ℕ)} → Formed st → Declares st w xs → NamesForm st.kind (length (st.names ++ xs)) (st.names ++ xs)
names_more {st} {xs = xs} s d = record {
  count = refl;
  all_allowed = all_app (λ x. T (allowed st.kind x)) st.names xs s.names_form.all_allowed d.all_allowed;
  different = (different_law st.names xs s.names_form.different).0 d.not_twice;
}

-- before the rules begin

no_forms : (kind : Kind) {rs : List (Rule ℕ)} (n : ℕ) → rs ≡ [] → All (RuleForm kind n) rs
no_forms kind n none = subst (All (RuleForm kind n)) (sym none) tt

few_atoms : {m n j : ℕ} → m ≡ 0 → n ≤ j → n + m ≤ j
few_atoms e l = omega arith

none_untaken : (names : List (List ℕ)) {m : ℕ} → m ≡ 0 → All (λ t. Among names (made_name t) → ⊥) (from 1 m)
none_untaken names e = subst (λ j. All (λ t. Among names (made_name t) → ⊥) (from 1 j)) (sym e) tt

below_after : (words : List ℕ) (v : ℕ) (xs : List (List ℕ)) → All (λ w. w ≤ v) words → All (λ w. w ≤ v) (words ++ replicate (length xs) v)
below_after words v xs h = all_app (λ w. w ≤ v) words (replicate (length xs) v) h (all_replicate (λ w. w ≤ v) (length xs) v (omega arith))

classes_after_lem : (k j : ℕ) (words : List ℕ) (names : List (List ℕ)) (v : ℕ) (xs : List (List ℕ)) → ClassesForm Preference (length names) k words → k ≤ j → j ≤ class_limit → All (λ w. w ≤ v) words → RoleForm j (role_of v) → ClassesForm Preference (length (names ++ xs)) j (words ++ replicate (length xs) v)
classes_after_lem k j words names v xs f more fits low role = (
  fits,
  words_fit words names f.1 v xs,
  all_app (λ w. RoleForm j (role_of w)) words (replicate (length xs) v) (all_imp (λ w. RoleForm k (role_of w)) (λ w. RoleForm j (role_of w)) (λ w h. role_more k j (role_of w) more h) words f.2) (all_replicate (λ w. RoleForm j (role_of w)) (length xs) v role),
  rising_app 0 v (length xs) words f.3 low (omega arith),
)

module _ (k : ℕ) (words : List ℕ) (names : List (List ℕ)) (rs : List (Rule ℕ)) (m : ℕ) (xs : List (List ℕ)) where
  atoms_step : Formed (so_far Plain Declaring k words names rs m) → Declares (so_far Plain Declaring k words names rs m) atoms xs → Formed (declared (so_far Plain Declaring k words names rs m) atoms xs)
  atoms_step s d =
      let none = s.stage_form in
      record {
        atoms_fit = few_atoms none.2 d.counts_fit.atoms;
        rules_fit_lem = s.rules_fit_lem;
        occurrences_fit = s.occurrences_fit;
        classes_form = (s.classes_form.0, append-nil words ∙ s.classes_form.1);
        rule_forms = no_forms Plain (length (names ++ xs) + m) none.1;
        names_form = names_more s d;
        stage_form = tt;
        made_kind = s.made_kind;
        untaken = none_untaken (names ++ xs) none.2;
      }

  min_step : Formed (so_far Preference Declaring k words names rs m) → Declares (so_far Preference Declaring k words names rs m) min xs → Formed (declared (so_far Preference Declaring k words names rs m) min xs)
  min_step s d =
      let none = s.stage_form in
      let low = all_imp (λ w. w ≤ k) (λ w. w ≤ suc k) (λ w l. omega arith) words none.0 in
      record {
        atoms_fit = few_atoms none.2 d.counts_fit.atoms;
        rules_fit_lem = s.rules_fit_lem;
        occurrences_fit = s.occurrences_fit;
        classes_form = classes_after_lem k (suc k) words names (suc k) xs s.classes_form (omega arith) d.classes_fit low (role_new k d.classes_fit);
        rule_forms = no_forms Preference (length (names ++ xs) + m) none.1;
        names_form = names_more s d;
        stage_form = (below_after words (suc k) xs low, none.1, none.2);
        made_kind = s.made_kind;
        untaken = none_untaken (names ++ xs) none.2;
      }

  vary_step : Formed (so_far Preference Declaring k words names rs m) → Declares (so_far Preference Declaring k words names rs m) vary xs → Formed (declared (so_far Preference Declaring k words names rs m) vary xs)
  unfolding role_of
  vary_step s d =
      let none = s.stage_form in
      let few : k ≤ class_limit = d.classes_fit in
      let low = all_imp (λ w. w ≤ k) (λ w. w ≤ varying) (λ w l. omega arith) words none.0 in
      record {
        atoms_fit = few_atoms none.2 d.counts_fit.atoms;
        rules_fit_lem = s.rules_fit_lem;
        occurrences_fit = s.occurrences_fit;
        classes_form = classes_after_lem k k words names varying xs s.classes_form (omega arith) few low tt;
        rule_forms = no_forms Preference (length (names ++ xs) + m) none.1;
        names_form = names_more s d;
        stage_form = (below_after words varying xs low, none.1, none.2);
        made_kind = s.made_kind;
        untaken = none_untaken (names ++ xs) none.2;
      }

  fix_step : Formed (so_far Preference Fixing k words names rs m) → Declares (so_far Preference Fixing k words names rs m) fix xs → Formed (declared (so_far Preference Fixing k words names rs m) fix xs)
  unfolding role_of
  fix_step s d =
      let none = s.stage_form in
      let few : k ≤ class_limit = d.classes_fit in
      let low = all_imp (λ w. w ≤ varying) (λ w. w ≤ fixed) (λ w l. omega arith) words none.0 in
      record {
        atoms_fit = few_atoms none.2 d.counts_fit.atoms;
        rules_fit_lem = s.rules_fit_lem;
        occurrences_fit = s.occurrences_fit;
        classes_form = classes_after_lem k k words names fixed xs s.classes_form (omega arith) few low tt;
        rule_forms = no_forms Preference (length (names ++ xs) + m) none.1;
        names_form = names_more s d;
        stage_form = tt;
        made_kind = s.made_kind;
        untaken = none_untaken (names ++ xs) none.2;
      }

pub declared_formed : (st : SoFar) (w : Word) (xs : List (List ℕ)) → Formed st → Declares st w xs → Formed (declared st w xs)
declared_formed st w xs s d = go ((comes_law st.kind st.stage w).0 d.expected) s d
  where
    go : {kind : Kind} {stage : Stage} {v : Word} → Comes kind stage v
        → Formed (so_far kind stage st.classes st.words st.names st.program_rules st.made)
        → Declares (so_far kind stage st.classes st.words st.names st.program_rules st.made) v xs
        → Formed (declared (so_far kind stage st.classes st.words st.names st.program_rules st.made) v xs)
    go atoms_line = atoms_step st.classes st.words st.names st.program_rules st.made xs
    go min_line = min_step st.classes st.words st.names st.program_rules st.made xs
    go vary_line = vary_step st.classes st.words st.names st.program_rules st.made xs
    go fix_line = fix_step st.classes st.words st.names st.program_rules st.made xs

-- a line behind the declarations

stage_free : (stage : Stage) (kind : Kind) (st : SoFar) → T (is_ruling stage) → StageForm stage kind st
stage_free Declaring kind st h = absurd h
stage_free Fixing kind st h = absurd h
stage_free Ruling kind st h = tt

list_more : (n j : ℕ) (xs : List ℕ) → n ≤ j → ListForm n xs → ListForm j xs
list_more n j xs l h = (all_imp (λ a. a < n) (λ a. a < j) (λ a k. omega arith) xs h.0, h.1)

rule_more : (kind : Kind) (n j : ℕ) → n ≤ j → (r : Rule ℕ) → RuleForm kind n r → RuleForm kind j r
rule_more kind n j l r h = record { head_form = list_more n j r.head l h.head_form; body_form = list_more n j r.body l h.body_form; nots_form = list_more n j r.nots l h.nots_form; no_nots = h.no_nots }

no_nots_form : (kind : Kind) (f : List ℕ → ℕ) (ns : List (List ℕ)) → (T (filled kind ns) → ⊥) → NotForm kind (map f ns)
no_nots_form Plain f ns h = tt
no_nots_form Preference f [] h = refl
no_nots_form Preference f (x ∷ ns) h = absurd (h tt)

numbers_below : (names xs : List (List ℕ)) → All (Among names) xs → All (λ a. a < length names) (map (name_number names) xs)
numbers_below names xs h = all_map (λ a. a < length names) (name_number names) xs (all_imp (Among names) (λ x. name_number names x < length names) (λ x d. number_below x names d) xs h)

list_form : {kind : Kind} {names xs : List (List ℕ)} → Listed kind names xs → ListForm (length names) (map (name_number names) xs)
list_form {kind} {names} {xs} l = (numbers_below names xs l.all_declared, numbers_differ names xs l.all_declared l.different)

pub rule_form_lem : (st : SoFar) (hs bs ns : List (List ℕ)) → Adds st hs bs ns → RuleForm st.kind (length st.names) (numbered st.names hs bs ns)
rule_form_lem st hs bs ns d = record {
  head_form = list_form d.head_listed;
  body_form = list_form d.body_listed;
  nots_form = list_form d.nots_listed;
  no_nots = no_nots_form st.kind (name_number st.names) ns d.no_nots;
}

pub rule_formed : (st : SoFar) (hs bs ns : List (List ℕ)) → Formed st → Adds st hs bs ns → Formed (with_rule_lem st (numbered st.names hs bs ns))
rule_formed st hs bs ns s d =
    let n = length st.names in
    record {
      atoms_fit = s.atoms_fit;
      rules_fit_lem = d.counts_fit.rules;
      occurrences_fit = d.counts_fit.occurrences;
      classes_form = s.classes_form;
      rule_forms = all_app (RuleForm st.kind (n + st.made)) st.program_rules (numbered st.names hs bs ns ∷ []) s.rule_forms (rule_more st.kind n (n + st.made) (omega arith) (numbered st.names hs bs ns) (rule_form_lem st hs bs ns d), tt);
      names_form = s.names_form;
      stage_form = stage_free st.stage st.kind (with_rule_lem st (numbered st.names hs bs ns)) d.ruling;
      made_kind = s.made_kind;
      untaken = s.untaken;
    }

module _ (st : SoFar) (ts : List Token) (a : List ℕ) (c : Cond) (d : Speaks st ts a c) where
  abbrev n : ℕ
  n = length st.names

  abbrev m : ℕ
  m = st.made

  abbrev j : ℕ
  j = connectives_in ts

  abbrev b : ℕ
  b = name_number st.names a

  abbrev after : SoFar
  after = with_condition_lem st c j b

  pub below : All (λ x. x < n) (names_of c ++ (b ∷ []))
  below =
      let both = all_parts (Among st.names) (names_in ts) (a ∷ []) d.all_declared in
      all_app (λ x. x < n) (names_of c) (b ∷ []) (subst (All (λ x. x < n)) (sym (parsed_names (name_number st.names) (suc m) ts c d.parsed_as)) (numbers_below st.names (names_in ts) both.0)) (number_below a st.names both.1.0, tt)
    where
      all_parts : (P : List ℕ → Type 0) (xs ys : List (List ℕ)) → All P (xs ++ ys) → All P xs × All P ys
      all_parts P [] ys h = (tt, h)
      all_parts P (x ∷ xs) ys h = let r = all_parts P xs ys h.1 in ((h.0, r.0), r.1)

  new_forms : All (RuleForm Preference (n + (m + j))) (condition_rules n c b)
  new_forms = condition_forms n c b (m + j) m j below (parsed_connectives (name_number st.names) (suc m) ts c d.parsed_as) (omega arith)

  pub condition_formed : Formed st → Formed after
  condition_formed s = record {
    atoms_fit = d.counts_fit.atoms;
    rules_fit_lem = d.counts_fit.rules;
    occurrences_fit = d.counts_fit.occurrences;
    classes_form = s.classes_form;
    rule_forms =
        all_app (RuleForm st.kind (n + (m + j))) st.program_rules (condition_rules n c b)
        (all_imp (RuleForm st.kind (n + m)) (RuleForm st.kind (n + (m + j))) (λ r h. rule_more st.kind (n + m) (n + (m + j)) (omega arith) r h) st.program_rules s.rule_forms)
        (subst (λ k. All (RuleForm k (n + (m + j))) (condition_rules n c b)) (sym d.is_preference) new_forms);
    names_form = s.names_form;
    stage_form = stage_free st.stage st.kind after d.ruling;
    made_kind = λ e. absurd (let x : Plain ≡ Preference = sym e ∙ d.is_preference in let z : ◌≡◌ {A = ℕ} 0 1 = cc in omega arith);
    untaken =
        let next : 1 + m ≡ suc m = omega arith in
        subst (All (λ t. Among st.names (made_name t) → ⊥)) (from_append 1 m j)
        (all_app (λ t. Among st.names (made_name t) → ⊥) (from 1 m) (from (1 + m) j) s.untaken (subst (λ (i : ℕ). All (λ t. Among st.names (made_name t) → ⊥) (from i j)) (sym next) d.untaken));
  }

-- every line

pub line_formed : (st after : SoFar) (f : LineForm) → Formed st → step_form st f ≡ next after → Formed after
line_formed st after (declares w xs) s e = let d = declare_said st w xs after e in subst Formed d.1 (declared_formed st w xs s d.0)
line_formed st after (rules hs bs ns) s e = let d = rule_said st hs bs ns after e in subst Formed d.1 (rule_formed st hs bs ns s d.0)
line_formed st after (condition ts a) s e = let d = condition_said st ts a after e in subst Formed d.2 (condition_formed st ts a d.0 d.1 s)
line_formed st after blank s e = let same : st ≡ after = cc in subst Formed same s
line_formed st after broken s e = absurd (let z : ◌≡◌ {A = ℕ} 0 1 = cc in omega arith)

pub start_formed : (text : List ℕ) → Formed (start text)
unfolding start
start_formed text = go (kind_of (lines text))
  where
    go : (k : Kind) → Formed (so_far k Declaring 0 [] [] [] 0)
    go Plain = record {
      atoms_fit = omega arith;
      rules_fit_lem = omega arith;
      occurrences_fit = omega arith;
      classes_form = (refl, refl);
      rule_forms = tt;
      names_form = record { count = refl; all_allowed = tt; different = tt };
      stage_form = (refl, refl, refl);
      made_kind = λ e. refl;
      untaken = tt;
    }
    go Preference = record {
      atoms_fit = omega arith;
      rules_fit_lem = omega arith;
      occurrences_fit = omega arith;
      classes_form = (omega arith, refl, tt, tt);
      rule_forms = tt;
      names_form = record { count = refl; all_allowed = tt; different = tt };
      stage_form = (tt, refl, refl);
      made_kind = λ e. refl;
      untaken = tt;
    }
