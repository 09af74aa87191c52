-- The step that a rule's line makes, one law for each answer.
use Prim.Native.Nat.{ℕ, suc, ◌+◌, ◌*◌, ◌≤◌}
use native.Mathlib.Omega.{arith}
use mathlib.Core.Path.{◌≡◌, refl, sym, ap, ◌∙◌, subst}
use mathlib.Core.Bool.{Bool, true, false, not, cond, ◌||◌}
use mathlib.Core.List.{List, [], ◌∷◌, ◌++◌, map, append_assoc}
use lib.Dec.{T}
use lib.ListN.{length, length-append, length-map}
use lib.Seq.{sets, length-sets}
use borrow.Author.Tests.{lt-ltb}
use Rattle.kinds.specs.Sizes.{store_words}
use Rattle.kinds.specs.Limits.{atom_limit, rule_limit, occurrence_limit, within}
use Rattle.kinds.specs.declared.limits.Kind.{Kind}
use Rattle.kinds.specs.declared.limits.Kind.TheVariants.{Plain, Preference}
use Rattle.kinds.specs.declared.refusals.Refusal.{Refusal}
use Rattle.kinds.specs.declared.refusals.Refusal.TheVariants.{BrokenForm, Name, Undeclared, TwiceInList, Limit, FilledNot}
use Rattle.rules.specs.Lists.{All, some, is_empty, sum, flat}
use Rattle.rules.specs.Rules.{Rule, occurrences}
use Rattle.names.specs.Names.{allowed}
use Rattle.output.proofs.Emitting.{sets_front}
use Rattle.stores.specs.RuleStore.{rule_words, word_count}
use Rattle.stores.proofs.RuleStores.{rules_length}
use Rattle.gathering.specs.declared.gathered.Gathered.{Gathered}
use Rattle.std.specs.Prelude.{Option, Some, None, Result, Ok}
use Rattle.numbering.specs.declared.numbers.RuleCounts.{RuleCounts}
use Rattle.lines.specs.declared.stage.Stage.{Stage}
use Rattle.lines.specs.declared.stage.Stage.TheVariants.{Declaring, Fixing, Ruling}
use Rattle.lines.specs.declared.forms.DeclaredShape.{DeclaredShape}
use Rattle.lines.specs.declared.forms.Shape.{Shape}
use Rattle.lines.specs.declared.forms.Shape.TheVariants as Line
use Rattle.lines.specs.Lines.{is_ended}
use Rattle.lines.specs.Tokens.{tokens}
use Rattle.lines.specs.Forms.{Word, LineForm, declares, rules, condition, blank, broken, are_names, named, typed_form, form_of}
use Rattle.lines.specs.Faults.{SoFar, counts_of, next, fault, expects, is_ruling, twice, refused_name, name_number, any_of, first, filled, numbered, with_rule_lem, declare, add_rule, add_condition, step_form}
use Rattle.lines.specs.Shapes.{Declared, Ruled, Otherwise, ShapeIs}
use Rattle.lines.proofs.LineShapes.{filled_line, blank_line_lem, condition_opens}
use Rattle.numbering.specs.Numbers.{undeclared, rule_numbers, NoRule, LineNumbered, RuleSays, RuleIs}
use Rattle.gathering.specs.Gathered.{state_of, stored_words, Filled, Held, HeldIndex, HeldMarks, LineSays, LineIs, MarksSay, MarksAre, filled_count, first_line, rule_counts, with_rule, counts_if, kept_rule, Kept, opens_condition, refusal_of, blank_line}
use Rattle.gathering.proofs.DeclaredNames.{named_known, named_rules}
use Rattle.gathering.proofs.HeldState.{fill_more, atoms_is, rules_is, occurrences_is, held_is, flat_last, sum_last, within_limits}

pub store_fits : (kind : Kind) (n r places : ℕ) → n ≤ atom_limit kind → r ≤ rule_limit kind → places ≤ occurrence_limit kind → 4 + word_count kind n + 3 * r + places ≤ store_words
store_fits Plain n r places a b c = omega arith
store_fits Preference n r places a b c = omega arith

filled_count_lem : (kind : Kind) (xs : List (List ℕ)) → filled kind xs ≡ filled_count kind (length xs)
filled_count_lem Plain xs = refl
filled_count_lem Preference [] = refl
filled_count_lem Preference (x ∷ xs) = sym (lt-ltb 0 (suc (length xs)) (omega arith))

-- why a line is no rule with declared names

ruling_is : (g : Stage) → is_ruling g ≡ true → g ≡ Ruling
ruling_is Declaring e = absurd (let z : ◌≡◌ {A = ℕ} 0 1 = cc in omega arith)
ruling_is Fixing e = absurd (let z : ◌≡◌ {A = ℕ} 0 1 = cc in omega arith)
ruling_is Ruling e = refl

unexpected : (kind : Kind) (w : Word) → expects kind Ruling w ≡ false
unexpected Plain w = refl
unexpected Preference w = refl

-- a rule with its names in order
module _ (st : SoFar) (hs bs ns : List (List ℕ)) (r : is_ruling st.stage ≡ true) (n : any_of (some (refused_name st.kind)) hs bs ns ≡ false) (d : any_of (undeclared st.names) hs bs ns ≡ false) where
  add_twice : any_of (twice []) hs bs ns ≡ true → add_rule st hs bs ns ≡ fault TwiceInList
  unfolding add_rule
  add_twice t = rw (r, n, d, t)

  abbrev after : SoFar
  after = with_rule_lem st (numbered st.names hs bs ns)

  add_once : any_of (twice []) hs bs ns ≡ false → {fits full : Bool} → within st.kind (counts_of after) ≡ fits → filled st.kind ns ≡ full → add_rule st hs bs ns ≡ first (not fits) Limit (first full FilledNot (next after))
  unfolding add_rule
  add_once t e f = rw (r, n, d, t, e, f)

module _ {kind : Kind} {st : SoFar} {g : Gathered} {words bytes : List ℕ} (h : Held kind st g words bytes) (ruling : is_ruling g.stage ≡ true) (l : List ℕ) where
  stage_is : st.stage ≡ Ruling
  stage_is = ruling_is st.stage (sym (ap is_ruling h.stage_is) ∙ ruling)

  is_ruling_lem : is_ruling st.stage ≡ true
  is_ruling_lem = sym (ap is_ruling h.stage_is) ∙ ruling

  -- no rule, or one with a name that is not declared
  module _ (plain : opens_condition kind l ≡ false) (typed : is_empty (tokens l) ≡ false) {names : List (List ℕ)} (same : names ≡ st.names) (n : NoRule names (typed_form l)) where
    faulty : (f : LineForm) → form_of l ≡ f → (f ≡ blank → ⊥) → ((hs bs ns : List (List ℕ)) → f ≡ rules hs bs ns → any_of (undeclared names) hs bs ns ≡ true) → step_form st f ≡ fault (refusal_of kind f)
    unfolding declare add_rule add_condition
    faulty (declares w xs) e b u = rw (ap (λ z. expects st.kind z w) stage_is ∙ unexpected st.kind w)
    faulty (rules hs bs ns) e b u = go (any_of (some (refused_name kind)) hs bs ns) refl
      where
        go : (c : Bool) → any_of (some (refused_name kind)) hs bs ns ≡ c → add_rule st hs bs ns ≡ fault (cond c Name Undeclared)
        go true p = rw (is_ruling_lem, ap (λ k. any_of (some (refused_name k)) hs bs ns) h.kind_is ∙ p)
        go false p = rw (is_ruling_lem, ap (λ k. any_of (some (refused_name k)) hs bs ns) h.kind_is ∙ p, ap (λ x. any_of (undeclared x) hs bs ns) (sym same) ∙ u hs bs ns refl)
    faulty (condition ts a) e b u = go kind h.kind_is plain
      where
        go : (k : Kind) → st.kind ≡ k → opens_condition k l ≡ false → add_condition st ts a ≡ fault BrokenForm
        go Plain q o = rw (is_ruling_lem, q)
        go Preference q o = absurd (let y : true ≡ false = sym (condition_opens l e) ∙ o in let x : ◌≡◌ {A = ℕ} 0 1 = cc in omega arith)
    faulty blank e b u = absurd (b refl)
    faulty broken e b u = refl

    pub no_rule : {r : Refusal} → r ≡ refusal_of kind (form_of l) → step_form st (form_of l) ≡ fault r
    unfolding form_of
    no_rule e = faulty (form_of l) refl (λ i. filled_line l typed i) (λ hs bs ns i. n hs bs ns (named_rules (typed_form l) i)) ∙ ap fault (sym e)

  -- a rule whose names are all declared
  module _ {names : List (List ℕ)} (same : names ≡ st.names) {stamp : ℕ} {words₁ marks₁ : List ℕ} {c : RuleCounts} (w : LineNumbered names l stamp words (g.words + 3) marks₁ words₁ c) where
    abbrev hs : List (List ℕ)
    hs = w.heads

    abbrev bs : List (List ℕ)
    bs = w.bodies

    abbrev ns : List (List ℕ)
    ns = w.nots

    known : (xs : List (List ℕ)) → undeclared names xs ≡ false → (are_names xs ≡ true) × (some (refused_name kind) xs ≡ false)
    known xs e = named_known kind names xs (subst (λ z. All (λ x. T (allowed kind x)) z) (sym same) h.names_allowed) e

    each : (undeclared names hs ≡ false) × (undeclared names bs ≡ false) × (undeclared names ns ≡ false)
    each = go (undeclared names hs) (undeclared names bs) (undeclared names ns) w.numbered.declared
      where
        go : (x y z : Bool) → (x || (y || z)) ≡ false → (x ≡ false) × (y ≡ false) × (z ≡ false)
        go false false false e = (refl, refl, refl)
        go false false true e = (refl, refl, e)
        go false true z e = (refl, e, absurd (let q : ◌≡◌ {A = ℕ} 0 1 = cc in omega arith))
        go true y z e = (e, absurd (let q : ◌≡◌ {A = ℕ} 0 1 = cc in omega arith), absurd (let q : ◌≡◌ {A = ℕ} 0 1 = cc in omega arith))

    form_is : form_of l ≡ rules hs bs ns
    unfolding form_of
    form_is = ap named w.form ∙ rw ((known hs each.0).0, (known bs each.1).0, (known ns each.2).0)

    none_refused : any_of (some (refused_name st.kind)) hs bs ns ≡ false
    none_refused = ap (λ k. any_of (some (refused_name k)) hs bs ns) h.kind_is ∙ rw ((known hs each.0).1, (known bs each.1).1, (known ns each.2).1)

    step_is : step_form st (form_of l) ≡ add_rule st hs bs ns
    step_is = ap (step_form st) form_is

    all_declared : any_of (undeclared st.names) hs bs ns ≡ false
    all_declared = ap (λ x. any_of (undeclared x) hs bs ns) (sym same) ∙ w.numbered.declared

    pub twice_in_list : c.twice ≡ true → step_form st (form_of l) ≡ fault TwiceInList
    twice_in_list a = step_is ∙ add_twice st hs bs ns is_ruling_lem none_refused all_declared (sym w.numbered.is_twice ∙ a)

    abbrev more : ℕ
    more = c.heads + c.bodies + c.nots

    abbrev fits : Bool
    fits = within kind (rule_counts g.counts more)

    abbrev new_rule : Rule ℕ
    new_rule = numbered st.names hs bs ns

    rule_places : occurrences new_rule ≡ more
    rule_places = omega (arith, length-map hs (name_number st.names), length-map bs (name_number st.names), length-map ns (name_number st.names), w.numbered.is_heads, w.numbered.is_bodies, w.numbered.is_nots)

    new_counts : rule_counts g.counts more ≡ counts_of (with_rule_lem st new_rule)
    new_counts =
        let rules : g.counts.rules + 1 ≡ length (st.program_rules ++ (new_rule ∷ [])) = omega (arith, rules_is h, length-append st.program_rules (new_rule ∷ [])) in
        let places : g.counts.occurrences + more ≡ sum occurrences (st.program_rules ++ (new_rule ∷ [])) = omega (arith, occurrences_is h, sum_last st.program_rules new_rule, rule_places) in
        λ i. record { atoms = atoms_is h i; rules = rules i; occurrences = places i }

    fits_is : within st.kind (counts_of (with_rule_lem st new_rule)) ≡ fits
    fits_is = λ i. within (h.kind_is i) (sym new_counts i)

    full_is : filled st.kind ns ≡ filled_count kind c.nots
    full_is = ap (λ k. filled k ns) h.kind_is ∙ filled_count_lem kind ns ∙ ap (filled_count kind) (sym w.numbered.is_nots)

    module _ (a : c.twice ≡ false) where
      step_counts : step_form st (form_of l) ≡ first (not fits) Limit (first (filled_count kind c.nots) FilledNot (next (with_rule_lem st new_rule)))
      step_counts = step_is ∙ add_once st hs bs ns is_ruling_lem none_refused all_declared (sym w.numbered.is_twice ∙ a) fits_is full_is

      module _ (is-stamp : stamp ≡ 3 * g.counts.rules + 1) where
        abbrev counts : List ℕ
        counts = c.heads ∷ c.bodies ∷ c.nots ∷ []

        rule_words_lem : counts ++ rule_numbers names hs bs ns ≡ rule_words new_rule
        rule_words_lem =
            let of-head : c.heads ≡ length (map (name_number st.names) hs) = w.numbered.is_heads ∙ sym (length-map hs (name_number st.names)) in
            let of-body : c.bodies ≡ length (map (name_number st.names) bs) = w.numbered.is_bodies ∙ sym (length-map bs (name_number st.names)) in
            let of-nots : c.nots ≡ length (map (name_number st.names) ns) = w.numbered.is_nots ∙ sym (length-map ns (name_number st.names)) in
            λ i. of-head i ∷ of-body i ∷ of-nots i ∷ rule_numbers (same i) hs bs ns

        words_length : length (rule_words new_rule) ≡ 3 + more
        words_length = omega (arith, rule_places, rules_length (new_rule ∷ []), length-append (rule_words new_rule) [])

        after_counts : {words₂ : List ℕ} → words₂ ≡ sets words₁ g.words counts → words₂ ≡ sets words g.words (rule_words new_rule)
        after_counts q =
            q
            ∙ ap (λ x. sets x g.words counts) w.numbered.written.bytes
            ∙ sets_front words g.words counts (g.words + 3) (rule_numbers names hs bs ns) refl
            ∙ ap (sets words g.words) rule_words_lem

        is_end_lem : c.end ≡ g.words + length (rule_words new_rule)
        is_end_lem = omega (arith, w.numbered.written.place, ap length rule_words_lem)

        room : fits ≡ true → g.words + length (rule_words new_rule) ≤ length words
        room b =
            let fit = within_limits kind (rule_counts g.counts more) b in
            omega (
              arith,
              words_length,
              h.words_room,
              h.stored.ends,
              length-append st.words (flat rule_words st.program_rules),
              rules_length st.program_rules,
              h.class_words_lem,
              rules_is h,
              occurrences_is h,
              store_fits kind g.counts.atoms (g.counts.rules + 1) (g.counts.occurrences + more) fit.atoms fit.rules fit.occurrences,
            )

        stored_more : stored_words st ++ rule_words new_rule ≡ stored_words (with_rule_lem st new_rule)
        stored_more =
            append_assoc st.words (flat rule_words st.program_rules) (rule_words new_rule)
            ∙ ap (λ x. st.words ++ x) (sym (flat_last st.program_rules new_rule))

        rule_held : fits ≡ true → {words₂ : List ℕ} → words₂ ≡ sets words₁ g.words counts → Held kind (with_rule_lem st new_rule) (with_rule g more c.end) words₂ bytes
        rule_held b {words₂} q =
            record {
              kind_is = h.kind_is;
              stage_is = h.stage_is;
              classes_is = h.classes_is;
              counts_are = new_counts;
              made_is = h.made_is;
              class_words_lem = h.class_words_lem;
              stored =
                  subst (λ x. Filled words₂ 4 c.end x) stored_more
                  (subst (λ k. Filled words₂ 4 k (stored_words st ++ rule_words new_rule)) (sym is_end_lem)
                  (subst (λ x. Filled x 4 (g.words + length (rule_words new_rule)) (stored_words st ++ rule_words new_rule)) (sym (after_counts q)) (fill_more h.stored (rule_words new_rule) (room b))));
              names_allowed = h.names_allowed;
              names_stored = h.names_stored;
              bytes_is = h.bytes_is;
              short = h.short;
              counts_fit = b;
              classes_fit = h.classes_fit;
              made_fits = h.made_fits;
              made_kind = h.made_kind;
              no_rules = λ z. absurd (let y : true ≡ false = sym is_ruling_lem ∙ z in let x : ◌≡◌ {A = ℕ} 0 1 = cc in omega arith);
              words_room = ap length (after_counts q) ∙ length-sets words g.words (rule_words new_rule) ∙ h.words_room;
              bytes_room = h.bytes_room;
            }

        module _ {words₂ : List ℕ} {o : Result Gathered Refusal} (k : Kept kind g c.heads c.bodies c.nots c.end words₁ words₂ o) where
          pub rule_line_lem : {starts firsts links : List ℕ} → HeldIndex g bytes starts firsts links → LineIs kind st (form_of l) words₂ bytes starts firsts links o
          unfolding kept_rule
          rule_line_lem {starts} {firsts} {links} x = record { says = go fits refl (filled_count kind c.nots) step_counts k.answer k.words }
            where
              go : (b : Bool) → fits ≡ b → (y : Bool) → step_form st (form_of l) ≡ first (not b) Limit (first y FilledNot (next (with_rule_lem st new_rule)))
                  → o ≡ first_line (not b) Limit (first_line y FilledNot (Ok (with_rule g more c.end)))
                  → words₂ ≡ sets words₁ g.words (counts_if o counts)
                  → LineSays kind st (form_of l) words₂ bytes starts firsts links o
              go false q y z u v = subst (LineSays kind st (form_of l) words₂ bytes starts firsts links) (sym u) z
              go true q true z u v = subst (LineSays kind st (form_of l) words₂ bytes starts firsts links) (sym u) z
              go true q false z u v =
                  let held = rule_held q (v ∙ ap (λ j. sets words₁ g.words (counts_if j counts)) u) in
                  let is = held_is held in
                  subst (LineSays kind st (form_of l) words₂ bytes starts firsts links) (sym u)
                  (z ∙ ap next is, subst (λ j. Held kind j (with_rule g more c.end) words₂ bytes) is held, record { index = x.index; starts_room = x.starts_room; links_room = x.links_room })

          pub rule_marks : {marks : List ℕ} → length marks₁ ≡ length marks → HeldMarks g marks → MarksAre marks₁ o
          unfolding kept_rule
          rule_marks n m = record { says = go fits (filled_count kind c.nots) k.answer }
            where
              go : (b y : Bool) → o ≡ first_line (not b) Limit (first_line y FilledNot (Ok (with_rule g more c.end))) → MarksSay marks₁ o
              go false y u = subst (MarksSay marks₁) (sym u) tt
              go true true u = subst (MarksSay marks₁) (sym u) tt
              go true false u = subst (MarksSay marks₁) (sym u) (record { below = record { mark = λ x. omega (arith, w.numbered.below.mark x, is-stamp) }; room = n ∙ m.room })

-- the answer for a rule's line
module _ {names : List (List ℕ)} {l : List ℕ} {stamp : ℕ} {before : List ℕ} {at : ℕ} {marks after : List ℕ} {r : Option RuleCounts} (h : RuleIs names l stamp before at marks after r) where
  pub line_numbered : {c : RuleCounts} → r ≡ Some c → LineNumbered names l stamp before at marks after c
  line_numbered e = subst (RuleSays names l stamp before at marks after) e h.says

  pub line_otherwise : r ≡ None → NoRule names (typed_form l)
  line_otherwise e = subst (RuleSays names l stamp before at marks after) e h.says

-- a blank line
module _ {kind : Kind} {g : Gathered} {words bytes starts firsts links : List ℕ} (h : Held kind (state_of kind g words bytes) g words bytes) (x : HeldIndex g bytes starts firsts links) (l : List ℕ) {q : Bool} (e : q ≡ is_empty (tokens l)) (d : q ≡ true) {o : Result Gathered Refusal} (a : o ≡ blank_line g (is_ended l)) where
  abbrev st : SoFar
  st = state_of kind g words bytes

  pub blank_passed : LineIs kind st (form_of l) words bytes starts firsts links o
  blank_passed = record { says = subst (LineSays kind st (form_of l) words bytes starts firsts links) (sym a) (go (is_ended l) (blank_line_lem l e d)) }
    where
      go : (b : Bool) → form_of l ≡ cond b blank broken → LineSays kind st (form_of l) words bytes starts firsts links (blank_line g b)
      go true i = (ap (step_form st) i, h, x)
      go false i = ap (step_form st) i

  pub blank_marks : {marks : List ℕ} → HeldMarks g marks → MarksAre marks o
  blank_marks {marks} m = record { says = subst (MarksSay marks) (sym a) (go (is_ended l)) }
    where
      go : (b : Bool) → MarksSay marks (blank_line g b)
      go true = m
      go false = tt

-- why a line is no rule, by its shape
module _ (kind : Kind) (l : List ℕ) {r : Shape} (h : ShapeIs kind l (form_of l) r) where
  pub rule_why : {b : Bool} → r ≡ Line.Rule b → refusal_of kind (form_of l) ≡ cond b Name Undeclared
  rule_why {b} e =
      let w : Ruled kind (form_of l) b = subst (ShapeIs kind l (form_of l)) e h in
      ap (refusal_of kind) w.form ∙ ap (λ c. cond c Name Undeclared) (sym w.is_refused)

  pub blank_why : r ≡ Line.Blank → BrokenForm ≡ refusal_of kind (form_of l)
  blank_why e = let w : form_of l ≡ blank = subst (ShapeIs kind l (form_of l)) e h in sym (ap (refusal_of kind) w)

  pub declared_why : {d : DeclaredShape} → r ≡ Line.Declares d → BrokenForm ≡ refusal_of kind (form_of l)
  declared_why {d} e = let w : Declared kind l (form_of l) d = subst (ShapeIs kind l (form_of l)) e h in sym (ap (refusal_of kind) w.form)

  pub other_why : r ≡ Line.Other → BrokenForm ≡ refusal_of kind (form_of l)
  other_why e = go (form_of l) (subst (ShapeIs kind l (form_of l)) e h)
    where
      go : (f : LineForm) → Otherwise f → BrokenForm ≡ refusal_of kind f
      go (declares w xs) o = absurd o
      go (rules hs bs ns) o = absurd o
      go (condition ts a) o = refl
      go blank o = absurd o
      go broken o = refl
