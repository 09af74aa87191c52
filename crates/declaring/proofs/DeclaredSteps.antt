-- The step that a declared line makes, one law for each answer.
use Prim.Native.Nat.{ℕ, suc, ◌+◌, ◌≤◌, ◌<◌, zero-le}
use native.Mathlib.Omega.{arith}
use mathlib.Core.Path.{◌≡◌, refl, sym, ap, ap₂, ◌∙◌, subst}
use mathlib.Core.Bool.{Bool, true, false, not, ◌&&◌, ◌||◌}
use mathlib.Core.List.{List, [], ◌∷◌, ◌++◌, append-nil}
use lib.Dec.{T, leb}
use lib.ListN.{length, drop, length-append, length-replicate}
use lib.Seq.{sets, length-sets}
use borrow.Author.Tests.{lt-leb, leb-true, not-false}
use Rattle.std.specs.Prelude.{Result, Ok, Err}
use Rattle.kinds.specs.Sizes.{longest_name}
use Rattle.kinds.specs.Limits.{atom_limit, class_limit, within}
use Rattle.kinds.specs.declared.limits.Kind.{Kind}
use Rattle.kinds.specs.declared.limits.Kind.TheVariants.{Plain, Preference}
use Rattle.kinds.specs.declared.refusals.Refusal.{Refusal}
use Rattle.kinds.specs.declared.refusals.Refusal.TheVariants.{BrokenForm, Name, DeclaredTwice, Limit}
use Rattle.rules.specs.Lists.{All, some, flat}
use Rattle.rules.proofs.Lists.{all_imp, all_app, all_app_r}
use Rattle.rules.proofs.Booleans.{both_true}
use Rattle.names.specs.Names.{allowed}
use Rattle.name_store.specs.NameStore.{decode_names, among}
use Rattle.name_store.specs.NameIndex.{Indexed}
use Rattle.stores.specs.RuleStore.{rule_words, word_count}
use Rattle.name_store.proofs.NameStores.{allowed_short}
use Rattle.lines.specs.declared.stage.Stage.{Stage}
use Rattle.lines.specs.declared.stage.Stage.TheVariants.{Declaring, Fixing, Ruling}
use Rattle.lines.specs.declared.forms.DeclaredShape.{DeclaredShape}
use Rattle.lines.specs.declared.forms.Shape.{Shape}
use Rattle.gathering.specs.declared.gathered.Gathered.{Gathered}
use Rattle.lines.specs.Tokens.{items}
use Rattle.lines.specs.Forms.{Word, atoms, min, vary, fix, LineForm, declares, rules, condition, blank, broken, form_of}
use Rattle.lines.specs.Faults.{SoFar, counts_of, next, fault, expects, is_ruling, classes_after, class_words, twice, refused_name, first, declared, declare, add_rule, add_condition, step_form}
use Rattle.lines.specs.Shapes.{word_of, Declared, Ruled, Otherwise, ShapeIs}
use Rattle.numbering.specs.Entries.{Room, Stored, Short, AllEntered, SomeEntered}
use Rattle.gathering.specs.Gathered.{state_of, stored_words, Filled, Held, HeldIndex, LineSays, LineIs, first_line, counts_if, atom_counts, with_names, kept_names, KeptNames, past_refusal}
use Rattle.gathering.proofs.HeldState.{fill_more, atoms_is, rules_is, occurrences_is, held_is, names_are, held_small, atoms_small, within_limits}
use Rattle.gathering.proofs.RuleSteps.{store_fits}
use Rattle.numbering.proofs.NewNames.{decoded}
use Rattle.numbering.proofs.Entering.{twice_split, twice_apart}

-- names that are taken are allowed, and short

taken_allowed : (kind : Kind) (xs : List (List ℕ)) → some (refused_name kind) xs ≡ false → All (λ x. T (allowed kind x)) xs
taken_allowed kind [] e = tt
taken_allowed kind (x ∷ xs) e = go (allowed kind x) refl e (taken_allowed kind xs)
  where
    go : (b : Bool) → allowed kind x ≡ b → (not b || some (refused_name kind) xs) ≡ false → (some (refused_name kind) xs ≡ false → All (λ x. T (allowed kind x)) xs) → T (allowed kind x) × All (λ x. T (allowed kind x)) xs
    go true p q r = (subst T (sym p) tt, r q)
    go false p q r = absurd (let z : ◌≡◌ {A = ℕ} 0 1 = cc in omega arith)

pub taken_short : (kind : Kind) (xs : List (List ℕ)) → some (refused_name kind) xs ≡ false → Short xs
taken_short kind xs e = all_imp (λ x. T (allowed kind x)) (λ x. length x ≤ longest_name) (allowed_short kind) xs (taken_allowed kind xs e)

-- a declared line comes before the rules, and has a class word for each atom of a preference file
expected : (kind : Kind) (stage : Stage) (w : Word) → expects kind stage w ≡ true → (is_ruling stage ≡ false) × ((k c n : ℕ) → word_count kind n + length (class_words w k c) ≡ word_count kind (n + c))
expected Plain Declaring atoms e = (refl, λ k c n. refl)
expected Plain Declaring min e = absurd (let z : ◌≡◌ {A = ℕ} 0 1 = cc in omega arith)
expected Plain Declaring vary e = absurd (let z : ◌≡◌ {A = ℕ} 0 1 = cc in omega arith)
expected Plain Declaring fix e = absurd (let z : ◌≡◌ {A = ℕ} 0 1 = cc in omega arith)
expected Plain Fixing w e = absurd (let z : ◌≡◌ {A = ℕ} 0 1 = cc in omega arith)
expected Plain Ruling w e = absurd (let z : ◌≡◌ {A = ℕ} 0 1 = cc in omega arith)
expected Preference Declaring atoms e = absurd (let z : ◌≡◌ {A = ℕ} 0 1 = cc in omega arith)
expected Preference Declaring min e = (refl, λ k c n. ap (λ m. n + m) (length-replicate c (suc k)))
expected Preference Declaring vary e = (refl, λ k c n. ap (λ m. n + m) (length-replicate c 17))
expected Preference Declaring fix e = absurd (let z : ◌≡◌ {A = ℕ} 0 1 = cc in omega arith)
expected Preference Fixing atoms e = absurd (let z : ◌≡◌ {A = ℕ} 0 1 = cc in omega arith)
expected Preference Fixing min e = absurd (let z : ◌≡◌ {A = ℕ} 0 1 = cc in omega arith)
expected Preference Fixing vary e = absurd (let z : ◌≡◌ {A = ℕ} 0 1 = cc in omega arith)
expected Preference Fixing fix e = (refl, λ k c n. ap (λ m. n + m) (length-replicate c 18))
expected Preference Ruling w e = absurd (let z : ◌≡◌ {A = ℕ} 0 1 = cc in omega arith)

module _ {kind : Kind} {st : SoFar} {g : Gathered} {words bytes starts firsts links : List ℕ} (h : Held kind st g words bytes) (x : HeldIndex g bytes starts firsts links)
    {l : List ℕ} {f : LineForm} {s : DeclaredShape} (p : Declared kind l f s) where
  abbrev w : Word
  w = word_of s.word

  abbrev xs : List (List ℕ)
  xs = items (drop s.from l)

  step_is : step_form st f ≡ declare st w xs
  step_is = ap (step_form st) p.form

  pub held_room : Room bytes starts links
  held_room = record { bytes_long = h.bytes_room; starts_long = x.starts_room; links_long = x.links_room }

  pub room_kept : {bytes' starts' links' : List ℕ} → length bytes' ≡ length bytes → length starts' ≡ length starts → length links' ≡ length links → Room bytes' starts' links'
  room_kept b c k = record { bytes_long = b ∙ h.bytes_room; starts_long = c ∙ x.starts_room; links_long = k ∙ x.links_room }

  pub held_stored : Stored st.names bytes starts firsts links g.counts.atoms g.bytes
  held_stored =
      record {
        index = subst (λ ns. Indexed ns bytes starts firsts links) (sym (names_are h)) x.index;
        count = atoms_is h;
        ends = h.bytes_is;
        short = h.short;
        few = (held_small h).atoms;
      }

  module _ {r : Bool} (e : r ≡ expects kind g.stage w) where
    is_expected : r ≡ expects st.kind st.stage w
    is_expected = e ∙ (λ i. expects (sym h.kind_is i) (h.stage_is i) w)

    names_refused : some (refused_name st.kind) xs ≡ s.refused
    names_refused = ap (λ k. some (refused_name k) xs) h.kind_is ∙ sym p.is_refused

    pub not_expected : not r ≡ true → step_form st f ≡ fault BrokenForm
    unfolding declare
    not_expected d = step_is ∙ rw (sym is_expected, d)

    module _ (d : not r ≡ false) where
      pub name_refused : s.refused ≡ true → step_form st f ≡ fault Name
      unfolding declare
      name_refused t = step_is ∙ rw (sym is_expected, d, names_refused, t)

      module _ (t : s.refused ≡ false) where
        pub all_short : Short xs
        all_short = taken_short kind xs (sym p.is_refused ∙ t)

        pub declared_twice : twice st.names xs ≡ true → step_form st f ≡ fault DeclaredTwice
        unfolding declare
        declared_twice z = step_is ∙ rw (sym is_expected, d, names_refused, t, z)

        abbrev over : Bool
        over = not (within st.kind (counts_of (declared st w xs)) && leb (classes_after w st.classes) class_limit)

        step_counts : twice st.names xs ≡ false → step_form st f ≡ first over Limit (next (declared st w xs))
        unfolding declare
        step_counts z = step_is ∙ rw (sym is_expected, d, names_refused, t, z)

        -- more names than the store has room for
        module _ {bytes' starts' firsts' links' : List ℕ} {at : ℕ} (some_in : SomeEntered st.names l s.from bytes' starts' firsts' links' at) (c : length starts' ≡ length starts) where
          abbrev held : List (List ℕ)
          held = st.names ++ some_in.passed

          full_names : decode_names (length starts') bytes' ≡ held
          full_names = ap (λ k. decode_names k bytes') (c ∙ x.starts_room ∙ sym some_in.full) ∙ decoded some_in.index

          pub full_index : Indexed (decode_names (length starts') bytes') bytes' starts' firsts' links'
          full_index = subst (λ ns. Indexed ns bytes' starts' firsts' links') (sym full_names) some_in.index

          pub rest_short : Short (items (drop at l))
          rest_short = all_app_r (λ x. length x ≤ longest_name) some_in.passed (items (drop at l)) (subst Short (sym some_in.all) all_short)

          parts : twice st.names xs ≡ (some (among held) (items (drop at l)) || twice [] (items (drop at l)))
          parts =
              ap (twice st.names) (sym some_in.all)
              ∙ twice_split st.names some_in.passed (items (drop at l))
              ∙ ap (λ b. b || twice held (items (drop at l))) some_in.once
              ∙ ap (λ ns. twice ns (items (drop at l))) (sym (append-nil held))
              ∙ twice_apart held [] (items (drop at l))

          is_over : over ≡ true
          is_over =
              let many : atom_limit st.kind < length (st.names ++ xs) =
              omega (
                arith,
                some_in.full,
                some_in.more,
                length-append st.names some_in.passed,
                length-append st.names xs,
                ap length (sym some_in.all) ∙ length-append some_in.passed (items (drop at l)),
                atoms_small st.kind,
              ) in
              rw (lt-leb (length (st.names ++ xs)) (atom_limit st.kind) many)

          pub past_room : {a : Refusal} → a ≡ past_refusal (some (among (decode_names (length starts') bytes')) (items (drop at l)) || twice [] (items (drop at l))) → step_form st f ≡ fault a
          past_room {a} k = go (twice st.names xs) refl (k ∙ ap past_refusal (ap (λ ns. some (among ns) (items (drop at l)) || twice [] (items (drop at l))) full_names ∙ sym parts))
            where
              go : (b : Bool) → twice st.names xs ≡ b → a ≡ past_refusal b → step_form st f ≡ fault a
              go true z q = declared_twice z ∙ ap fault (sym q)
              go false z q = step_counts z ∙ rw is_over (ap fault (sym q))

        -- every name is entered
        module _ {bytes' starts' firsts' links' : List ℕ} {n used : ℕ} (a : AllEntered st.names xs bytes' starts' firsts' links' n used)
            (b : length bytes' ≡ length bytes) (c : length starts' ≡ length starts) (k : length links' ≡ length links) where
          abbrev class_list : List ℕ
          class_list = class_words w st.classes (length xs)

          class_list_is : class_words w g.classes s.count ≡ class_list
          class_list_is = ap₂ (class_words w) h.classes_is p.is_count

          before_rules : is_ruling st.stage ≡ false
          before_rules = (expected st.kind st.stage w (sym is_expected ∙ not-false r d)).0

          no_rules : st.program_rules ≡ []
          no_rules = h.no_rules before_rules

          many : n ≡ g.counts.atoms + length xs
          many = omega (arith, a.stored.count, atoms_is h, length-append st.names xs)

          class_count_lem : word_count kind g.counts.atoms + length class_list ≡ word_count kind n
          class_count_lem =
              subst (λ q. word_count q g.counts.atoms + length class_list ≡ word_count q (g.counts.atoms + length xs)) h.kind_is ((expected st.kind st.stage w (sym is_expected ∙ not-false r d)).1 st.classes (length xs) g.counts.atoms)
              ∙ ap (word_count kind) (sym many)

          new_counts : atom_counts g.counts n ≡ counts_of (declared st w xs)
          new_counts = λ i. record { atoms = a.stored.count i; rules = rules_is h i; occurrences = occurrences_is h i }

          abbrev fits : Bool
          fits = within kind (atom_counts g.counts n)

          over_is : over ≡ not (fits && leb (classes_after w g.classes) class_limit)
          over_is = λ i. not (within (h.kind_is i) (sym new_counts i) && leb (classes_after w (sym h.classes_is i)) class_limit)

          stored_words_lem : stored_words st ≡ st.words
          stored_words_lem = ap (λ rs. st.words ++ flat rule_words rs) no_rules ∙ append-nil st.words

          stored_after : stored_words st ++ class_list ≡ stored_words (declared st w xs)
          stored_after =
              ap (λ x. x ++ class_list) stored_words_lem
              ∙ sym (append-nil (st.words ++ class_list))
              ∙ ap (λ rs. (st.words ++ class_list) ++ flat rule_words rs) (sym no_rules)

          fits_words : fits ≡ true → g.words + length class_list ≤ length words
          fits_words t =
              omega (
                arith,
                h.words_room,
                h.stored.ends,
                ap length stored_words_lem,
                h.class_words_lem,
                class_count_lem,
                store_fits kind n 0 0 (within_limits kind (atom_counts g.counts n) t).atoms zero-le zero-le,
              )

          abbrev end : ℕ
          end = g.words + length (class_words w g.classes s.count)

          written : {words₂ : List ℕ} → words₂ ≡ sets words g.words (class_words w g.classes s.count) → words₂ ≡ sets words g.words class_list
          written q = q ∙ ap (sets words g.words) class_list_is

          declared_held : fits ≡ true → classes_after w g.classes ≤ class_limit → {words₂ : List ℕ} → words₂ ≡ sets words g.words (class_words w g.classes s.count)
              → Held kind (declared st w xs) (with_names g w n used end) words₂ bytes'
          declared_held l m {words₂} q =
              record {
                kind_is = h.kind_is;
                stage_is = refl;
                classes_is = ap (classes_after w) h.classes_is;
                counts_are = new_counts;
                made_is = h.made_is;
                class_words_lem = length-append st.words class_list ∙ ap (λ x. x + length class_list) h.class_words_lem ∙ class_count_lem;
                stored =
                    subst (λ x. Filled words₂ 4 end x) stored_after
                    (subst (λ x. Filled words₂ 4 (g.words + length x) (stored_words st ++ class_list)) (sym class_list_is)
                    (subst (λ x. Filled x 4 (g.words + length class_list) (stored_words st ++ class_list)) (sym (written q)) (fill_more h.stored class_list (fits_words l))));
                names_allowed = all_app (λ x. T (allowed kind x)) st.names xs h.names_allowed (taken_allowed kind xs (sym p.is_refused ∙ t));
                names_stored = a.stored.index.placed.stored;
                bytes_is = a.stored.ends;
                short = a.stored.short;
                counts_fit = l;
                classes_fit = m;
                made_fits = h.made_fits;
                made_kind = h.made_kind;
                no_rules = λ z. no_rules;
                words_room = ap length q ∙ length-sets words g.words (class_words w g.classes s.count) ∙ h.words_room;
                bytes_room = b ∙ h.bytes_room;
              }

          declared_index : HeldIndex (with_names g w n used end) bytes' starts' firsts' links'
          declared_index =
              let names : decode_names n bytes' ≡ st.names ++ xs = ap (λ j. decode_names j bytes') a.stored.count ∙ decoded a.stored.index in
              record { index = subst (λ ns. Indexed ns bytes' starts' firsts' links') (sym names) a.stored.index; starts_room = c ∙ x.starts_room; links_room = k ∙ x.links_room }

          pub declared_line : {words₂ : List ℕ} {o : Result Gathered Refusal} → KeptNames kind g w s.count n used words words₂ o → LineIs kind st f words₂ bytes' starts' firsts' links' o
          unfolding kept_names
          declared_line {words₂} {o} q = record { says = go (fits && leb (classes_after w g.classes) class_limit) refl (step_counts a.once ∙ ap (λ y. first y Limit (next (declared st w xs))) over_is) q.answer q.words }
            where
              go : (t : Bool) → (fits && leb (classes_after w g.classes) class_limit) ≡ t → step_form st f ≡ first (not t) Limit (next (declared st w xs))
                  → o ≡ first_line (not t) Limit (Ok (with_names g w n used end))
                  → words₂ ≡ sets words g.words (counts_if o (class_words w g.classes s.count))
                  → LineSays kind st f words₂ bytes' starts' firsts' links' o
              go false q z y v = subst (LineSays kind st f words₂ bytes' starts' firsts' links') (sym y) z
              go true q z y v =
                  let both = both_true fits (leb (classes_after w g.classes) class_limit) q in
                  let held = declared_held both.0 (leb-true (classes_after w g.classes) class_limit both.1) (v ∙ ap (λ j. sets words g.words (counts_if j (class_words w g.classes s.count))) y) in
                  let is = held_is held in
                  subst (LineSays kind st f words₂ bytes' starts' firsts' links') (sym y)
                  (z ∙ ap next is, subst (λ j. Held kind j (with_names g w n used end) words₂ bytes') is held, declared_index)

-- a line before the rules, by its shape
module _ {kind : Kind} {g : Gathered} {words bytes starts firsts links : List ℕ} (h : Held kind (state_of kind g words bytes) g words bytes) (x : HeldIndex g bytes starts firsts links) (l : List ℕ) {r : Shape} (z : ShapeIs kind l (form_of l) r) where
  pub blank_passed : r ≡ Shape.Blank → LineIs kind (state_of kind g words bytes) (form_of l) words bytes starts firsts links (Ok g)
  blank_passed e = let w : form_of l ≡ blank = subst (ShapeIs kind l (form_of l)) e z in record { says = (ap (step_form (state_of kind g words bytes)) w, h, x) }

  pub rule_early : is_ruling g.stage ≡ false → {b : Bool} → r ≡ Shape.Rule b → LineIs kind (state_of kind g words bytes) (form_of l) words bytes starts firsts links (Err BrokenForm)
  unfolding add_rule
  rule_early n {b} e =
      let w : Ruled kind (form_of l) b = subst (ShapeIs kind l (form_of l)) e z in
      record { says = ap (step_form (state_of kind g words bytes)) w.form ∙ rw (sym (ap is_ruling h.stage_is) ∙ n) }

  pub other_early : is_ruling g.stage ≡ false → r ≡ Shape.Other → LineIs kind (state_of kind g words bytes) (form_of l) words bytes starts firsts links (Err BrokenForm)
  unfolding add_condition
  other_early n e = record { says = go (form_of l) (subst (ShapeIs kind l (form_of l)) e z) }
    where
      go : (f : LineForm) → Otherwise f → step_form (state_of kind g words bytes) f ≡ fault BrokenForm
      go (declares w xs) o = absurd o
      go (rules hs bs ns) o = absurd o
      go (condition ts a) o = rw (sym (ap is_ruling h.stage_is) ∙ n)
      go blank o = absurd o
      go broken o = refl
