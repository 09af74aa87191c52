-- The program that a state of the form declares, the atoms that conditions made in their place, is of the form, and its names fit.
use Prim.Native.Nat.{ℕ, zero, suc, ◌+◌, ◌-◌, ◌≤◌}
use native.Mathlib.Omega.{arith}
use mathlib.Core.Path.{◌≡◌, refl, sym, ap, ◌∙◌, subst}
use mathlib.Core.Logic.{inl, inr, ◌≢◌}
use mathlib.Core.Bool.{Bool, true, false, cond}
use mathlib.Core.List.{List, [], ◌∷◌, ◌++◌, map}
use lib.Dec.{T}
use lib.ListN.{length, take, drop, length-map, take-append-drop}
use Rattle.kinds.specs.Limits.{atom_limit}
use Rattle.kinds.specs.declared.limits.Kind.{Kind}
use Rattle.kinds.specs.declared.limits.Kind.TheVariants.{Plain, Preference}
use Rattle.kinds.specs.declared.refusals.Refusal.TheVariants.{BrokenForm}
use Rattle.rules.specs.Lists.{All, Distinct, from}
use Rattle.rules.specs.Rules.{Rule, rename}
use Rattle.rules.proofs.Lists.{all_app, all_app_l, all_app_r, all_imp, all_map, all_from, distinct_from, distinct_map}
use Rattle.rules.proofs.ListLaws.{distinct_app}
use Rattle.rules.proofs.Rules.{rename_occurrences}
use Rattle.names.specs.Names.{made_name}
use Rattle.names.proofs.MadeNames.{made_name_inj}
use Rattle.name_store.specs.NameStore.{NamesForm}
use Rattle.stores.specs.Program.{Program, ProgramForm, ClassesForm, RuleForm}
use Rattle.conditions.specs.Numbers.{unfixed, placed_words, placing}
use Rattle.conditions.specs.Left.{written_names}
use Rattle.conditions.proofs.Classes.{unfixed_le, placed_classes}
use Rattle.conditions.proofs.InFile.{placing_forms}
use Rattle.conditions.proofs.Names.{written_length, written_allowed}
use Rattle.lines.specs.declared.stage.Stage.{Stage}
use Rattle.lines.specs.Forms.{LineForm, declares, rules, condition, blank, broken, form_of}
use Rattle.lines.specs.Faults.{SoFar, Step, next, fault, is_ruling, step_form}
use Rattle.lines.specs.Said.{accepted, refused, on_step, read_lines, program_of, placed_by, placed}
use Rattle.faults.specs.Sentences.{Among}
use Rattle.reader.specs.FormedState.{Formed}
use Rattle.reader.specs.WrittenText.{Unconditional}
use Rattle.reader.proofs.LineSteps.{declare_said, rule_said, condition_said}
use Rattle.reader.proofs.FormedLines.{so_far, line_formed}

-- names with others between

module _ {A : Type 0} where
  distinct_parts : (xs ys : List A) → Distinct (xs ++ ys) → Distinct xs × Distinct ys × All (λ x. All (λ y. x ≢ y) ys) xs
  distinct_parts [] ys h = (tt, h, tt)
  distinct_parts (x ∷ xs) ys h =
      let r = distinct_parts xs ys h.1 in
      ((all_app_l (λ y. x ≢ y) xs ys h.0, r.0), r.1, (all_app_r (λ y. x ≢ y) xs ys h.0, r.2))

  not_among : (x : A) (l : List A) → (Among l x → ⊥) → All (λ y. x ≢ y) l
  not_among x [] h = tt
  not_among x (y ∷ l) h = (λ e. h (inl e), not_among x l (λ k. h (inr k)))

  turned : (xs ys : List A) → All (λ x. All (λ y. x ≢ y) ys) xs → All (λ y. All (λ x. y ≢ x) xs) ys
  turned [] ys h = each ys
    where
      each : (l : List A) → All (λ y. Unit {0}) l
      each [] = tt
      each (y ∷ l) = (tt, each l)
  turned (x ∷ xs) ys h = both ys h.0 (turned xs ys h.1)
    where
      both : (l : List A) → All (λ y. x ≢ y) l → All (λ y. All (λ z. y ≢ z) xs) l → All (λ y. All (λ z. y ≢ z) (x ∷ xs)) l
      both [] a b = tt
      both (y ∷ l) a b = ((λ e. a.0 (sym e), b.0), both l a.1 b.1)

  between : (q : ℕ) (l new : List A) → Distinct l → Distinct new → All (λ x. Among l x → ⊥) new → Distinct (take q l ++ (new ++ drop q l))
  between q l new d n u =
      let p = distinct_parts (take q l) (drop q l) (subst Distinct (sym (take-append-drop q l)) d) in
      let apart : All (λ x. All (λ y. x ≢ y) (take q l ++ drop q l)) new =
      all_imp (λ x. Among l x → ⊥) (λ x. All (λ y. x ≢ y) (take q l ++ drop q l)) (λ x h. subst (All (λ y. x ≢ y)) (sym (take-append-drop q l)) (not_among x l h)) new u in
      let front = all_imp _ (λ x. All (λ y. x ≢ y) (take q l)) (λ x h. all_app_l (λ y. x ≢ y) (take q l) (drop q l) h) new apart in
      let back = all_imp _ (λ x. All (λ y. x ≢ y) (drop q l)) (λ x h. all_app_r (λ y. x ≢ y) (take q l) (drop q l) h) new apart in
      distinct_app (take q l) (new ++ drop q l) p.0 (distinct_app new (drop q l) n p.1 back)
      (both (take q l) new (drop q l) (turned new (take q l) front) p.2)
    where
      both : (xs ys zs : List A) → All (λ x. All (λ y. x ≢ y) ys) xs → All (λ x. All (λ y. x ≢ y) zs) xs → All (λ x. All (λ y. x ≢ y) (ys ++ zs)) xs
      both [] ys zs a b = tt
      both (x ∷ xs) ys zs a b = (all_app (λ y. x ≢ y) ys zs a.0 b.0, both xs ys zs a.1 b.1)

-- the names

pub written_form : (q k : ℕ) (names : List (List ℕ)) → length names + k ≤ atom_limit Preference → NamesForm Preference (length names) names → All (λ t. Among names (made_name t) → ⊥) (from 1 k) → NamesForm Preference (length (written_names q k names)) (written_names q k names)
unfolding written_names
written_form q k names few form untaken =
    let small : All (λ t. t ≤ 256) (from 1 k) = all_from (λ t. t ≤ 256) 1 k (λ t l u. omega arith) in
    record {
      count = refl;
      all_allowed = written_allowed q k names (omega arith) form.all_allowed;
      different = between q names (map made_name (from 1 k)) form.different (distinct_map made_name (λ t. t ≤ 256) (λ s t a b e. made_name_inj s t (omega arith) (omega arith) e) (from 1 k) small (distinct_from 1 k)) (all_map (λ x. Among names x → ⊥) made_name (from 1 k) untaken);
    }

-- the program

pub none_placed : (st : SoFar) → st.made ≡ 0 → placed st ≡ st
unfolding placed
none_placed st e = ap (λ m. placed_by m st) e

-- a state that declares a program of the form
abbrev Fine : SoFar → Type 0
Fine st = ProgramForm (program_of st) × NamesForm st.kind (length st.names) st.names

module _ (stage : Stage) (j : ℕ) (words : List ℕ) (names : List (List ℕ)) (rs : List (Rule ℕ)) where
  none_fine : {kind : Kind} → Formed (so_far kind stage j words names rs 0) → Fine (so_far kind stage j words names rs 0)
  none_fine {kind} f = (
    record {
      atoms_fit = omega (arith, f.atoms_fit);
      rules_fit_lem = f.rules_fit_lem;
      occurrences_fit = f.occurrences_fit;
      classes_form = f.classes_form;
      rule_forms = subst (λ (n : ℕ). All (RuleForm kind n) rs) (let e : length names + 0 ≡ length names = omega arith in e) f.rule_forms;
    },
    f.names_form,
  )

  placed_fine : (kind : Kind) (m : ℕ) → Formed (so_far kind stage j words names rs m) → Fine (placed_by m (so_far kind stage j words names rs m))
  placed_fine kind zero f = none_fine f
  placed_fine Plain (suc k) f = absurd (let e = f.made_kind refl in omega arith)
  placed_fine Preference (suc k) f =
      let q = unfixed words in
      let n = length names in
      let same : length words ≡ n = f.classes_form.1 in
      let inside : q ≤ n = omega (arith, unfixed_le words) in
      let long = written_length q (suc k) names inside in
      let classes : ClassesForm Preference (length words) j words = subst (λ (i : ℕ). ClassesForm Preference i j words) (sym same) f.classes_form in
      let size : length words + suc k ≡ length (written_names q (suc k) names) = omega arith in
      let few : length (map (rename (placing q n (suc k))) rs) ≡ length rs = length-map rs (rename (placing q n (suc k))) in (
        record {
          atoms_fit = omega (arith, f.atoms_fit);
          rules_fit_lem = omega (arith, f.rules_fit_lem);
          occurrences_fit = omega (arith, rename_occurrences (placing q n (suc k)) rs, f.occurrences_fit);
          classes_form = subst (λ (i : ℕ). ClassesForm Preference i j (placed_words q (suc k) words)) size (placed_classes j words classes (suc k));
          rule_forms = subst (λ (i : ℕ). All (RuleForm Preference i) (map (rename (placing q n (suc k))) rs)) (sym long) (placing_forms q n (suc k) inside rs f.rule_forms);
        },
        written_form q (suc k) names f.atoms_fit f.names_form f.untaken,
      )

pub placed_form : (st : SoFar) → Formed st → ProgramForm (program_of (placed st)) × NamesForm (placed st).kind (length (placed st).names) (placed st).names
unfolding placed
placed_form st s = placed_fine st.stage st.classes st.words st.names st.program_rules st.kind st.made s

-- what all lines together declare

pub record Declared (p : Program) (names : List (List ℕ)) : Type 0 where
  pub last : SoFar
  pub formed : Formed last
  pub ruling : T (is_ruling last.stage)
  pub program : program_of (placed last) ≡ p
  pub are_names_lem : (placed last).names ≡ names

pub lines_formed : (k : ℕ) (st : SoFar) (ls : List (List ℕ)) {p : Program} {names : List (List ℕ)} → Formed st → read_lines k st ls ≡ accepted p names → Declared p names
unfolding read_lines
lines_formed k st [] {p} {names} s e = go (is_ruling st.stage) (λ t. t) e
  where
    go : (b : Bool) → (T b → T (is_ruling st.stage)) → cond b (accepted (program_of (placed st)) (placed st).names) (refused BrokenForm k) ≡ accepted p names → Declared p names
    go true r i = record { last = st; formed = s; ruling = r tt; program = cc; are_names_lem = cc }
    go false r i = absurd (let z : ◌≡◌ {A = ℕ} 0 1 = cc in omega arith)
lines_formed k st (l ∷ ls) {p} {names} s e = go (step_form st (form_of l)) (λ after. line_formed st after (form_of l) s) (λ after. lines_formed (suc k) after ls) e
  where
    go : (q : Step) → ((after : SoFar) → q ≡ next after → Formed after) → ((after : SoFar) → Formed after → read_lines (suc k) after ls ≡ accepted p names → Declared p names)
        → on_step q k (λ after. read_lines (suc k) after ls) ≡ accepted p names → Declared p names
    go (next after) f rec i = rec after (f after refl) i
    go (fault r) f rec i = absurd (let z : ◌≡◌ {A = ℕ} 0 1 = cc in omega arith)

pub declared_form_lem : {p : Program} {names : List (List ℕ)} → Declared p names → ProgramForm p × NamesForm p.kind p.atoms names
declared_form_lem {p} {names} d = let f = placed_form d.last d.formed in rw (sym d.program, sym d.are_names_lem) f

-- the kind stays, and a plain program has no condition

step_kind : (st after : SoFar) (f : LineForm) → step_form st f ≡ next after → st.kind ≡ after.kind
step_kind st after (declares w xs) e = ap (λ z. z.kind) (declare_said st w xs after e).1
step_kind st after (rules hs bs ns) e = ap (λ z. z.kind) (rule_said st hs bs ns after e).1
step_kind st after (condition ts a) e = ap (λ z. z.kind) (condition_said st ts a after e).2
step_kind st after blank e = let same : st ≡ after = cc in ap (λ z. z.kind) same
step_kind st after broken e = absurd (let z : ◌≡◌ {A = ℕ} 0 1 = cc in omega arith)

placed_kind : (st : SoFar) → (placed st).kind ≡ st.kind
unfolding placed
placed_kind st = go st.made
  where
    go : (m : ℕ) → (placed_by m st).kind ≡ st.kind
    go zero = refl
    go (suc m) = refl

pub lines_kind : (k : ℕ) (st : SoFar) (ls : List (List ℕ)) {p : Program} {names : List (List ℕ)} → read_lines k st ls ≡ accepted p names → p.kind ≡ st.kind
unfolding read_lines
lines_kind k st [] {p} {names} e = go (is_ruling st.stage) e
  where
    go : (b : Bool) → cond b (accepted (program_of (placed st)) (placed st).names) (refused BrokenForm k) ≡ accepted p names → p.kind ≡ st.kind
    go true i = let same : program_of (placed st) ≡ p = cc in ap (λ q. q.kind) (sym same) ∙ placed_kind st
    go false i = absurd (let z : ◌≡◌ {A = ℕ} 0 1 = cc in omega arith)
lines_kind k st (l ∷ ls) {p} {names} e = go (step_form st (form_of l)) (λ after. step_kind st after (form_of l)) (λ after. lines_kind (suc k) after ls) e
  where
    go : (q : Step) → ((after : SoFar) → q ≡ next after → st.kind ≡ after.kind) → ((after : SoFar) → read_lines (suc k) after ls ≡ accepted p names → p.kind ≡ after.kind)
        → on_step q k (λ after. read_lines (suc k) after ls) ≡ accepted p names → p.kind ≡ st.kind
    go (next after) f rec i = rec after i ∙ sym (f after refl)
    go (fault r) f rec i = absurd (let z : ◌≡◌ {A = ℕ} 0 1 = cc in omega arith)

unconditional : (st after : SoFar) (f : LineForm) → st.kind ≡ Plain → step_form st f ≡ next after → Unconditional f
unconditional st after (declares w xs) p e = tt
unconditional st after (rules hs bs ns) p e = tt
unconditional st after (condition ts a) p e = absurd (let x : Plain ≡ Preference = sym p ∙ (condition_said st ts a after e).1.is_preference in let z : ◌≡◌ {A = ℕ} 0 1 = cc in omega arith)
unconditional st after blank p e = tt
unconditional st after broken p e = tt

pub plain_none : (k : ℕ) (st : SoFar) (ls : List (List ℕ)) {p : Program} {names : List (List ℕ)} → st.kind ≡ Plain → read_lines k st ls ≡ accepted p names → All (λ l. Unconditional (form_of l)) ls
unfolding read_lines
plain_none k st [] q e = tt
plain_none k st (l ∷ ls) {p} {names} q e = go (step_form st (form_of l)) (λ after i. (unconditional st after (form_of l) q i, sym (step_kind st after (form_of l) i) ∙ q)) (λ after. plain_none (suc k) after ls) e
  where
    go : (s : Step) → ((after : SoFar) → s ≡ next after → Unconditional (form_of l) × (after.kind ≡ Plain))
        → ((after : SoFar) → after.kind ≡ Plain → read_lines (suc k) after ls ≡ accepted p names → All (λ m. Unconditional (form_of m)) ls)
        → on_step s k (λ after. read_lines (suc k) after ls) ≡ accepted p names → Unconditional (form_of l) × All (λ m. Unconditional (form_of m)) ls
    go (next after) f rec i = let h = f after refl in (h.0, rec after h.1 i)
    go (fault r) f rec i = absurd (let z : ◌≡◌ {A = ℕ} 0 1 = cc in omega arith)
