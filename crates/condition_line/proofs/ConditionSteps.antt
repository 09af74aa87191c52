-- A condition's line, test by test, and what it adds to the scratch stores.
use Prim.Native.Nat.{ℕ, suc, ◌+◌, ◌-◌, ◌≤◌, ◌<◌}
use native.Mathlib.Omega.{arith}
use mathlib.Core.Path.{◌≡◌, refl, sym, ap, ◌∙◌, subst}
use mathlib.Core.List.{List, [], ◌∷◌, ◌++◌, append_assoc}
use mathlib.Core.Bool.{Bool, true, false, not, ◌||◌, or-false}
use lib.Dec.{T}
use lib.ListN.{length, take, drop, length-append, length-take, length-drop}
use lib.Seq.{length-sets}
use borrow.Author.Tests.{lt-leb}
use Rattle.kinds.specs.Words.{when_word}
use Rattle.kinds.specs.Limits.{atom_limit, bracket_limit, text_limit, within}
use Rattle.kinds.specs.declared.limits.Counts.{Counts}
use Rattle.kinds.specs.declared.limits.Kind.TheVariants.{Preference}
use Rattle.kinds.specs.declared.refusals.Refusal.{Refusal}
use Rattle.kinds.specs.declared.refusals.Refusal.TheVariants.{BrokenForm, Name, DeclaredTwice, Undeclared, Limit, BrokenCondition, DeepBrackets}
use Rattle.rules.specs.Lists.{All, some, sum, flat, from}
use Rattle.rules.specs.Rules.{Rule, occurrences}
use Rattle.rules.proofs.ListLaws.{flat_append}
use Rattle.rules.proofs.Lists.{sum_app}
use Rattle.names.specs.Names.{allowed, made_name}
use Rattle.name_store.specs.NameStore.{decode_names, same_bytes, among}
use Rattle.stores.specs.RuleStore.{rule_words}
use Rattle.stores.proofs.RuleStores.{rules_length}
use Rattle.output.specs.Emitted.{Emitted}
use Rattle.conditions.specs.Conditions.{Cond}
use Rattle.conditions.specs.Numbers.{condition_rules}
use Rattle.lines.specs.Tokens.{Token, tokens}
use Rattle.lines.specs.Conditions.{names_in, connectives_in, pairs, deeper, parsed, unparsed, parse}
use Rattle.lines.specs.Forms.{LineForm, condition, opened_of, form_of}
use Rattle.lines.specs.Shapes.{opens_with, OpenedIs}
use Rattle.lines.specs.Faults.{SoFar, next, fault, is_ruling, refused_name, first, name_number, with_condition_lem, all_counts, taken, counts_of, add_condition, step_form}
use Rattle.numbering.specs.Numbers.{undeclared}
use Rattle.gathering.specs.declared.gathered.Gathered.{Gathered}
use Rattle.std.specs.Prelude.{Option, Some, None, is_some, Result, Ok, Err}
use Rattle.std.specs.Option.{ok_or}
use Rattle.gathering.specs.Gathered.{state_of, stored_words, Filled, Held, HeldIndex, LineSays, LineIs, first_line}
use Rattle.gathering.proofs.HeldState.{atoms_is, rules_is, occurrences_is, held_is, fill_more, within_limits, limits_within, known_names}
use Rattle.gathering.proofs.RuleSteps.{store_fits}
use Rattle.condition_form.specs.declared.condition.ConditionPlaces.{ConditionPlaces}
use Rattle.condition_form.specs.ConditionForms.{between, ConditionAt, ConditionIs}
use Rattle.condition_scan.specs.declared.scan.Scan.{Scan}
use Rattle.condition_scan.specs.Scans.{Scanned, ScanSays, ScanIs}
use Rattle.condition_scan.proofs.FewConnectives.{connectives_few}
use Rattle.condition_line.specs.ConditionLine.{condition_counts, with_condition, kept_condition, Tested}

length_take_drop : (n k : ℕ) (l : List ℕ) → length (take n (drop k l)) ≤ length l
length_take_drop n k l = omega (arith, length-take n (drop k l), length-drop k l)

-- one name more
some_last : (p : List ℕ → Bool) (xs : List (List ℕ)) (a : List ℕ) → some p xs ≡ false → {b : Bool} → p a ≡ b → some p (xs ++ (a ∷ [])) ≡ b
some_last p [] a e f = or-false (p a) ∙ f
some_last p (x ∷ xs) a e {b} f = go (p x) e (λ q. some_last p xs a q f)
  where
    go : (c : Bool) → (c || some p xs) ≡ false → (some p xs ≡ false → some p (xs ++ (a ∷ [])) ≡ b) → (c || some p (xs ++ (a ∷ []))) ≡ b
    go true e r = absurd (let z : ◌≡◌ {A = ℕ} 0 1 = cc in omega arith)
    go false e r = r e

some_front : (p : List ℕ → Bool) (xs : List (List ℕ)) (a : List ℕ) → some p xs ≡ true → some p (xs ++ (a ∷ [])) ≡ true
some_front p [] a e = absurd (let z : ◌≡◌ {A = ℕ} 0 1 = cc in omega arith)
some_front p (x ∷ xs) a e = go (p x) e (some_front p xs a)
  where
    go : (c : Bool) → (c || some p xs) ≡ true → (some p xs ≡ true → some p (xs ++ (a ∷ [])) ≡ true) → (c || some p (xs ++ (a ∷ []))) ≡ true
    go true e r = refl
    go false e r = r e

-- the tests, one after another
module _ (st : SoFar) (ts : List Token) (a : List ℕ) (preference : st.kind ≡ Preference) (ruling : is_ruling st.stage ≡ true) where
  pub no_condition : parse (name_number st.names) (suc st.made) ts ≡ unparsed → add_condition st ts a ≡ fault BrokenCondition
  unfolding add_condition
  no_condition p = rw (ruling, preference, p)

  module _ {c : Cond} (p : parse (name_number st.names) (suc st.made) ts ≡ parsed c) where
    pub too_deep : deeper bracket_limit ts ≡ true → add_condition st ts a ≡ fault DeepBrackets
    unfolding add_condition
    too_deep d = rw (ruling, preference, p, d)

    module _ (d : deeper bracket_limit ts ≡ false) where
      pub name_refused : some (refused_name Preference) (names_in ts ++ (a ∷ [])) ≡ true → add_condition st ts a ≡ fault Name
      unfolding add_condition
      name_refused n = rw (ruling, preference, p, d, n)

      module _ (n : some (refused_name Preference) (names_in ts ++ (a ∷ [])) ≡ false) where
        pub made_taken : taken st (connectives_in ts) ≡ true → add_condition st ts a ≡ fault DeclaredTwice
        unfolding add_condition
        made_taken t = rw (ruling, preference, p, d, n, t)

        module _ (t : taken st (connectives_in ts) ≡ false) where
          pub not_declared : undeclared st.names (names_in ts ++ (a ∷ [])) ≡ true → add_condition st ts a ≡ fault Undeclared
          unfolding add_condition
          not_declared u = rw (ruling, preference, p, d, n, t, u)

          pub all_known : undeclared st.names (names_in ts ++ (a ∷ [])) ≡ false → {fits : Bool}
              → within Preference (all_counts (with_condition_lem st c (connectives_in ts) (name_number st.names a))) ≡ fits
              → add_condition st ts a ≡ first (not fits) Limit (next (with_condition_lem st c (connectives_in ts) (name_number st.names a)))
          unfolding add_condition
          all_known u f = rw (ruling, preference, p, d, n, t, u, f)

-- a line that opens as a condition

pub opens : (l : List ℕ) (q : Option ℕ) → OpenedIs l 0 when_word q → is_some q ≡ opens_with when_word (opened_of (tokens l))
unfolding same_bytes
opens l None o = sym o.says
opens l (Some p) o = sym (ap (opens_with when_word) o.says.1)

-- where there is none, the line is refused
pub refused_line_lem : {T : Type 0} {o : Option T} {k e : Refusal} → ◌≡◌ {A = Result T Refusal} (Err e) (ok_or o k) → o ≡ None → {r : Result Gathered Refusal} → ((x : Refusal) × (r ≡ Err x) × (x ≡ e))
    → {st : SoFar} {f : LineForm} {words bytes starts firsts links : List ℕ} → step_form st f ≡ fault k → LineIs Preference st f words bytes starts firsts links r
refused_line_lem {T} {o} {k} {e} v n {r} p {st} {f} {words} {bytes} {starts} {firsts} {links} s =
    let same : ◌≡◌ {A = Result T Refusal} (Err e) (Err k) = v ∙ ap (λ q. ok_or q k) n in
    let is : e ≡ k = cc in
    record { says = subst (LineSays Preference st f words bytes starts firsts links) (sym (p.1 ∙ ap Err (p.2 ∙ is))) s }

-- what is kept

module _ (g : Gathered) (more rules places end : ℕ) {fits : Bool} (f : fits ≡ within Preference (condition_counts g.counts (g.counts.atoms + (g.made + more)) rules places)) where
  pub over_limit : not fits ≡ true → Err Limit ≡ kept_condition g more rules places end
  unfolding kept_condition
  over_limit d = rw (sym f, d)

  pub within_limit : not fits ≡ false → Ok (with_condition g more rules places end) ≡ kept_condition g more rules places end
  unfolding kept_condition
  within_limit d = rw (sym f, d)

-- what it adds

module _ {g : Gathered} {words bytes : List ℕ} (h : Held Preference (state_of Preference g words bytes) g words bytes) where
  abbrev st : SoFar
  st = state_of Preference g words bytes

  abbrev n : ℕ
  n = length st.names

  module _ (ts : List Token) (a : List ℕ) {count : ℕ} (t : Tested st ts a count) where
    pub name_unknown : among st.names a ≡ false → step_form st (condition ts a) ≡ fault Undeclared
    name_unknown e = not_declared st ts a h.kind_is t.ruling t.parses.1 t.shallow t.none_refused t.untaken (some_last (λ x. not (among st.names x)) (names_in ts) a t.all_declared (ap not e))

    module _ (known : among st.names a ≡ true) where
      abbrev b : ℕ
      b = name_number st.names a

      declared : undeclared st.names (names_in ts ++ (a ∷ [])) ≡ false
      declared = some_last (λ x. not (among st.names x)) (names_in ts) a t.all_declared (ap not known)

      pub no_room : atom_limit Preference < g.counts.atoms + g.made + count → step_form st (condition ts a) ≡ fault Limit
      no_room l =
          all_known st ts a h.kind_is t.ruling t.parses.1 t.shallow t.none_refused t.untaken declared {fits = false}
          (rw (lt-leb (n + (st.made + connectives_in ts)) (atom_limit Preference) (omega (arith, atoms_is h, h.made_is, t.is_count))))

      module _ {c : Cond} (p : parse (name_number st.names) (suc st.made) ts ≡ parsed c) where
        abbrev new : List (Rule ℕ)
        new = condition_rules n c b

        abbrev after : SoFar
        after = with_condition_lem st c (connectives_in ts) b

        module _ {rules places : ℕ} (are-rules : rules ≡ length new) (are-places : places ≡ sum occurrences new) where
          abbrev all : Counts
          all = condition_counts g.counts (g.counts.atoms + (g.made + count)) rules places

          rules_more : g.counts.rules + rules ≡ length (st.program_rules ++ new)
          rules_more = omega (arith, rules_is h, length-append st.program_rules new)

          places_more : g.counts.occurrences + places ≡ sum occurrences (st.program_rules ++ new)
          places_more = omega (arith, occurrences_is h, sum_app occurrences st.program_rules new)

          new_counts : condition_counts g.counts g.counts.atoms rules places ≡ counts_of after
          new_counts = λ i. record { atoms = atoms_is h i; rules = rules_more i; occurrences = places_more i }

          atoms_more : g.counts.atoms + (g.made + count) ≡ n + (st.made + connectives_in ts)
          atoms_more = omega (arith, atoms_is h, h.made_is, t.is_count)

          all_counts_lem : all_counts after ≡ all
          all_counts_lem = λ i. record { atoms = sym atoms_more i; rules = sym rules_more i; occurrences = sym places_more i }

          step_is : step_form st (condition ts a) ≡ first (not (within Preference all)) Limit (next after)
          step_is = all_known st ts a h.kind_is t.ruling p t.shallow t.none_refused t.untaken declared (ap (within Preference) all_counts_lem)

          module _ {words₂ : List ℕ} {end : ℕ} (w : Emitted words g.words (flat rule_words new) words₂ end) where
            stored_more : stored_words st ++ flat rule_words new ≡ stored_words after
            stored_more = append_assoc st.words (flat rule_words st.program_rules) (flat rule_words new) ∙ ap (λ l. st.words ++ l) (sym (flat_append rule_words st.program_rules new))

            room : within Preference all ≡ true → g.words + length (flat rule_words new) ≤ length words
            room f =
                let fit = within_limits Preference all f in
                omega (
                  arith,
                  h.words_room,
                  h.stored.ends,
                  length-append st.words (flat rule_words st.program_rules),
                  rules_length st.program_rules,
                  rules_length new,
                  h.class_words_lem,
                  rules_is h,
                  occurrences_is h,
                  store_fits Preference g.counts.atoms (g.counts.rules + rules) (g.counts.occurrences + places) (within_limits Preference g.counts h.counts_fit).atoms fit.rules fit.occurrences,
                )

            condition_held : within Preference all ≡ true → Held Preference after (with_condition g count rules places end) words₂ bytes
            condition_held f =
                let fit = within_limits Preference all f in
                record {
                  kind_is = h.kind_is;
                  stage_is = h.stage_is;
                  classes_is = h.classes_is;
                  counts_are = new_counts;
                  made_is = omega (arith, h.made_is, t.is_count);
                  class_words_lem = h.class_words_lem;
                  stored =
                      subst (λ x. Filled words₂ 4 end x) stored_more
                      (subst (λ k. Filled words₂ 4 k (stored_words st ++ flat rule_words new)) (sym w.place)
                      (subst (λ x. Filled x 4 (g.words + length (flat rule_words new)) (stored_words st ++ flat rule_words new)) (sym w.bytes) (fill_more h.stored (flat rule_words new) (room f))));
                  names_allowed = h.names_allowed;
                  names_stored = h.names_stored;
                  bytes_is = h.bytes_is;
                  short = h.short;
                  counts_fit = limits_within {kind = Preference} {c = condition_counts g.counts g.counts.atoms rules places} (record { atoms = (within_limits Preference g.counts h.counts_fit).atoms; rules = fit.rules; occurrences = fit.occurrences });
                  classes_fit = h.classes_fit;
                  made_fits = omega (arith, fit.atoms);
                  made_kind = λ z. absurd (let y : ◌≡◌ {A = ℕ} 0 1 = cc in omega arith);
                  no_rules = λ z. absurd (let y : true ≡ false = sym t.ruling ∙ z in let x : ◌≡◌ {A = ℕ} 0 1 = cc in omega arith);
                  words_room = ap length w.bytes ∙ length-sets words g.words (flat rule_words new) ∙ h.words_room;
                  bytes_room = h.bytes_room;
                }

            pub condition_line : {r : Result Gathered Refusal} → r ≡ kept_condition g count rules places end → {starts firsts links : List ℕ} → HeldIndex g bytes starts firsts links → LineIs Preference st (condition ts a) words₂ bytes starts firsts links r
            unfolding kept_condition
            condition_line {r} e {starts} {firsts} {links} x = record { says = subst (LineSays Preference st (condition ts a) words₂ bytes starts firsts links) (sym e) (go (within Preference all) refl step_is) }
              where
                go : (f : Bool) → within Preference all ≡ f → step_form st (condition ts a) ≡ first (not f) Limit (next after)
                    → LineSays Preference st (condition ts a) words₂ bytes starts firsts links (first_line (not f) Limit (Ok (with_condition g count rules places end)))
                go false q z = z
                go true q z =
                    let held = condition_held q in
                    let is = held_is held in
                    (z ∙ ap next is, subst (λ j. Held Preference j (with_condition g count rules places end) words₂ bytes) is held, record { index = x.index; starts_room = x.starts_room; links_room = x.links_room })

-- the line, from what the scan of it tells

module _ {g : Gathered} {words bytes starts firsts links : List ℕ} (h : Held Preference (state_of Preference g words bytes) g words bytes) (x : HeldIndex g bytes starts firsts links) (ruling : is_ruling g.stage ≡ true) (s a : List ℕ) where
  abbrev here : SoFar
  here = state_of Preference g words bytes

  abbrev names : List (List ℕ)
  names = decode_names (length (take g.counts.atoms starts)) bytes

  same : names ≡ here.names
  same = known_names x h

  is_ruling_lem : is_ruling here.stage ≡ true
  is_ruling_lem = sym (ap is_ruling h.stage_is) ∙ ruling

  pub all_allowed : All (λ y. T (allowed Preference y)) names
  all_allowed = subst (All (λ y. T (allowed Preference y))) (sym same) h.names_allowed

  module _ {q : Option Scan} (w : ScanIs names (tokens s) q) where
    pub unparsed_line : q ≡ None → step_form here (condition (tokens s) a) ≡ fault BrokenCondition
    unparsed_line e = no_condition here (tokens s) a h.kind_is is_ruling_lem (subst (ScanSays names (tokens s)) e w.says (name_number here.names) (suc here.made))

    module _ {v : Scan} (e : q ≡ Some v) where
      scanned : Scanned names (tokens s) v.deep v.connectives v.undeclared
      scanned = subst (ScanSays names (tokens s)) e w.says

      parses : (c : Cond) × (parse (name_number here.names) (suc here.made) (tokens s) ≡ parsed c)
      parses = scanned.is_condition (name_number here.names) (suc here.made)

      pub few_here : length s ≤ text_limit → v.connectives ≤ text_limit
      few_here l = omega (arith, scanned.is_count, connectives_few s)

      pub deep_line : v.deep ≡ true → step_form here (condition (tokens s) a) ≡ fault DeepBrackets
      deep_line d = too_deep here (tokens s) a h.kind_is is_ruling_lem parses.1 (sym scanned.is_deep ∙ d)

      module _ (d : v.deep ≡ false) {refused : Bool} (r : refused ≡ some (refused_name Preference) (names_in (tokens s) ++ (a ∷ []))) where
        shallow : deeper bracket_limit (tokens s) ≡ false
        shallow = sym scanned.is_deep ∙ d

        pub refused_line : refused ≡ true → step_form here (condition (tokens s) a) ≡ fault Name
        refused_line n = name_refused here (tokens s) a h.kind_is is_ruling_lem parses.1 shallow (sym r ∙ n)

        module _ (n : refused ≡ false) {is-taken : Bool} (k : is-taken ≡ some (λ t. among names (made_name t)) (from (suc g.made) v.connectives)) where
          taken_is : taken here (connectives_in (tokens s)) ≡ is-taken
          taken_is =
              ap (λ ns. some (λ t. among ns (made_name t)) (from (suc here.made) (connectives_in (tokens s)))) (sym same)
              ∙ ap (λ (m : ℕ). some (λ t. among names (made_name t)) (from (suc m) (connectives_in (tokens s)))) (sym h.made_is)
              ∙ ap (λ (j : ℕ). some (λ t. among names (made_name t)) (from (suc g.made) j)) (sym scanned.is_count)
              ∙ sym k

          pub taken_line : is-taken ≡ true → step_form here (condition (tokens s) a) ≡ fault DeclaredTwice
          taken_line u = made_taken here (tokens s) a h.kind_is is_ruling_lem parses.1 shallow (sym r ∙ n) (taken_is ∙ u)

          module _ (u : is-taken ≡ false) where
            missing_is : undeclared here.names (names_in (tokens s)) ≡ v.undeclared
            missing_is = ap (λ ns. undeclared ns (names_in (tokens s))) (sym same) ∙ sym scanned.is_undeclared

            pub undeclared_line : v.undeclared ≡ true → step_form here (condition (tokens s) a) ≡ fault Undeclared
            undeclared_line m = not_declared here (tokens s) a h.kind_is is_ruling_lem parses.1 shallow (sym r ∙ n) (taken_is ∙ u) (some_front (λ y. not (among here.names y)) (names_in (tokens s)) a (missing_is ∙ m))

            pub tested : v.undeclared ≡ false → length s ≤ text_limit → Tested here (tokens s) a v.connectives
            tested m l = record {
              ruling = is_ruling_lem;
              parses = parses;
              shallow = shallow;
              none_refused = sym r ∙ n;
              untaken = taken_is ∙ u;
              all_declared = missing_is ∙ m;
              is_count = scanned.is_count;
              few = few_here l;
            }

-- its places in the line

module _ (l : List ℕ) {q : Option ConditionPlaces} (w : ConditionIs Preference l (form_of l) q) where
  pub broken_line : (st : SoFar) → q ≡ None → step_form st (form_of l) ≡ fault BrokenForm
  broken_line st e = ap (step_form st) (subst (ConditionIs Preference l (form_of l)) e w)

  module _ {p : ConditionPlaces} (e : q ≡ Some p) where
    at : ConditionAt Preference l (form_of l) p
    at = subst (ConditionIs Preference l (form_of l)) e w

    pub places_fit : (p.from ≤ p.to) × (p.to ≤ length l) × (p.start ≤ p.end) × (p.end ≤ length l)
    places_fit = (at.onward, at.inside, at.name_onward, at.name_inside)

    abbrev spoken : List ℕ
    spoken = between p.from p.to l

    abbrev called : List ℕ
    called = between p.start p.end l

    pub condition_places : (length l ≤ text_limit → length spoken ≤ text_limit) × (pairs 0 (tokens spoken) ≡ true) × (p.refused ≡ some (refused_name Preference) (names_in (tokens spoken) ++ (called ∷ [])))
    condition_places = (λ m. omega (arith, length_take_drop (p.to - p.from) p.from l), at.paired, at.is_refused)

    pub line_here : {st : SoFar} {words bytes starts firsts links : List ℕ} {r : Result Gathered Refusal} → LineIs Preference st (condition (tokens spoken) called) words bytes starts firsts links r → LineIs Preference st (form_of l) words bytes starts firsts links r
    line_here {st} {words} {bytes} {starts} {firsts} {links} {r} = subst (λ f. LineIs Preference st f words bytes starts firsts links r) (sym at.form)
