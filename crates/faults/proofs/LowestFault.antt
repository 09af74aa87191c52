-- A line is answered with its lowest fault, and passes exactly when it has none.
use Prim.Native.Nat.{ℕ, suc, ◌<◌}
use native.Mathlib.Omega.{arith}
use native.Mathlib.Decide.{dec_lt}
use mathlib.Core.Path.{◌≡◌, refl, sym, ap, ◌∙◌, subst}
use mathlib.Core.Logic.{◌⊎◌, inl, inr, ◌↔◌}
use mathlib.Core.Bool.{Bool, true, false, cond, not, ◌&&◌}
use mathlib.Core.List.{List, [], ◌∷◌, ◌++◌}
use lib.Dec.{T, eqb, leb}
use Rattle.name_store.specs.NameStore.{among}
use Rattle.kinds.specs.Limits.{class_limit, bracket_limit, within}
use Rattle.kinds.specs.declared.refusals.Refusal.{Refusal}
use Rattle.kinds.specs.declared.refusals.Refusal.TheVariants.{TextTooLong, BrokenForm, Name, DeclaredTwice, Undeclared, TwiceInList, Limit, FilledNot, Output, RuleStore, TooManyAtoms, SetNumber, Budget, NameStore, BrokenClauses, LiteralBeyond, BrokenCondition, DeepBrackets, RuleIndex}
use Rattle.rules.specs.Lists.{All, Any, some}
use Rattle.rules.proofs.Lists.{all_app_l, all_app_r, some_any}
use Rattle.rules.proofs.Connectives.{not_law, and_law}
use Rattle.conditions.specs.Conditions.{Cond}
use Rattle.lines.specs.Tokens.{Token}
use Rattle.lines.specs.Conditions.{names_in, connectives_in, deeper, Parsed, parsed, unparsed}
use Rattle.lines.specs.Forms.{Word, LineForm, declares, rules, condition, blank, broken, form_of}
use Rattle.lines.specs.Faults.{SoFar, Step, next, fault, first, counts_of, expects, is_ruling, classes_after, twice, refused_name, any_of, declared, numbered, with_rule_lem, filled, name_number, with_condition_lem, all_counts, taken, is_conditional, on_parsed, declare, add_rule, add_condition, step_form}
use Rattle.lines.specs.Said.{start}
use Rattle.faults.specs.Conditions.{Typed, Spells, IsCondition, connectives_typed, meant}
use Rattle.faults.specs.LineForms.{IsName}
use Rattle.faults.specs.Sentences.{names_of, Among, NotAllowed, LacksCondition, HasDeepBrackets, parsed_or, condition_of, line_rank, Says, Lowest, Faultless, added, Sound, PassesLimit, atoms_pass, rules_pass, occurrences_pass, classes_pass}
use Rattle.faults.proofs.Conditions.{parse_iff, unparsed_iff, deep_law, connectives_law}
use Rattle.faults.proofs.LimitTests.{declared_limit, declared_within, rule_limit_lem, rule_within, condition_limit, condition_within}
use Rattle.faults.proofs.Tests.{comes_law, comes_before, comes_stable, ruling_law, conditional_law, names_law, any_law, twice_law, lists_law, undeclared_law, taken_law, filled_law}
use Rattle.faults.proofs.LineForms.{line_names}

-- refusals of one rank are the same

abbrev all_refusals : List Refusal
all_refusals =
    TextTooLong ∷ BrokenForm ∷ Name ∷ DeclaredTwice ∷ Undeclared ∷ TwiceInList ∷ Limit ∷ FilledNot ∷ Output
    ∷ RuleStore ∷ TooManyAtoms ∷ SetNumber ∷ Budget ∷ NameStore ∷ BrokenClauses ∷ LiteralBeyond ∷ BrokenCondition ∷ DeepBrackets ∷ RuleIndex ∷ []

abbrev ranked : List Refusal → ℕ → Refusal
ranked [] n = TextTooLong
ranked (r ∷ rs) n = cond (eqb (line_rank r) n) r (ranked rs n)

of_rank : (r : Refusal) → ranked all_refusals (line_rank r) ≡ r
of_rank TextTooLong = refl
of_rank BrokenForm = refl
of_rank Name = refl
of_rank DeclaredTwice = refl
of_rank Undeclared = refl
of_rank TwiceInList = refl
of_rank Limit = refl
of_rank FilledNot = refl
of_rank Output = refl
of_rank RuleStore = refl
of_rank TooManyAtoms = refl
of_rank SetNumber = refl
of_rank Budget = refl
of_rank NameStore = refl
of_rank BrokenClauses = refl
of_rank LiteralBeyond = refl
of_rank BrokenCondition = refl
of_rank DeepBrackets = refl
of_rank RuleIndex = refl

one_rank : (q r : Refusal) → line_rank q ≡ line_rank r → q ≡ r
one_rank q r e = sym (of_rank q) ∙ ap (ranked all_refusals) e ∙ of_rank r

-- what a line's step answers: its lowest fault, or the state after it where it has none
module _ (st : SoFar) (f : LineForm) where
  abbrev pub Answers : Step → Type 0
  Answers s = ((r : Refusal) × (s ≡ fault r) × Lowest st f r) ⊎ ((s ≡ next (added st f)) × Faultless st f)

  -- no sentence of a rank below n holds
  abbrev NoneBelow : ℕ → Type 0
  NoneBelow n = (q : Refusal) → line_rank q < n → Says q st f → ⊥

  none_at_all : NoneBelow 2
  none_at_all TextTooLong l h = h
  none_at_all BrokenForm l h = omega arith
  none_at_all Name l h = omega arith
  none_at_all DeclaredTwice l h = omega arith
  none_at_all Undeclared l h = omega arith
  none_at_all TwiceInList l h = omega arith
  none_at_all Limit l h = omega arith
  none_at_all FilledNot l h = omega arith
  none_at_all Output l h = h
  none_at_all RuleStore l h = h
  none_at_all TooManyAtoms l h = h
  none_at_all SetNumber l h = h
  none_at_all Budget l h = h
  none_at_all NameStore l h = h
  none_at_all BrokenClauses l h = h
  none_at_all LiteralBeyond l h = h
  none_at_all BrokenCondition l h = omega arith
  none_at_all DeepBrackets l h = omega arith
  none_at_all RuleIndex l h = h

  none_up : (r : Refusal) → NoneBelow (line_rank r) → (Says r st f → ⊥) → NoneBelow (suc (line_rank r))
  none_up r below n q l h = step (dec_lt (line_rank q) (line_rank r))
    where
      step : Dec (line_rank q < line_rank r) → ⊥
      step (yes k) = below q k h
      step (no k) = n (subst (λ p. Says p st f) (one_rank q r (omega arith)) h)

  -- 8 is the last that belongs to a line
  none_left : NoneBelow (suc (line_rank FilledNot)) → Faultless st f
  none_left below TextTooLong h = h
  none_left below BrokenForm h = below BrokenForm (omega arith) h
  none_left below Name h = below Name (omega arith) h
  none_left below DeclaredTwice h = below DeclaredTwice (omega arith) h
  none_left below Undeclared h = below Undeclared (omega arith) h
  none_left below TwiceInList h = below TwiceInList (omega arith) h
  none_left below Limit h = below Limit (omega arith) h
  none_left below FilledNot h = below FilledNot (omega arith) h
  none_left below Output h = h
  none_left below RuleStore h = h
  none_left below TooManyAtoms h = h
  none_left below SetNumber h = h
  none_left below Budget h = h
  none_left below NameStore h = h
  none_left below BrokenClauses h = h
  none_left below LiteralBeyond h = h
  none_left below BrokenCondition h = below BrokenCondition (omega arith) h
  none_left below DeepBrackets h = below DeepBrackets (omega arith) h
  none_left below RuleIndex h = h

  -- a test before the others
  tested : (b : Bool) (r : Refusal) (s : Step) → T b ↔ Says r st f → NoneBelow (line_rank r) → (NoneBelow (suc (line_rank r)) → Answers s) → Answers (first b r s)
  tested true r s law below rest = inl (r, refl, record { says = law.0 tt; none_lower = λ q l. below q (omega arith) })
  tested false r s law below rest = rest (none_up r below law.1)

  passes : NoneBelow (suc (line_rank FilledNot)) → Answers (next (added st f))
  passes below = inr (refl, none_left below)

  -- a line that is no condition
  no_condition : (LacksCondition f → ⊥) → (HasDeepBrackets f → ⊥) → NoneBelow (suc (line_rank BrokenForm)) → NoneBelow (line_rank Name)
  no_condition lacks deep below = none_up DeepBrackets (none_up BrokenCondition below lacks) deep

condition_adds : (st : SoFar) (ts : List Token) (a : List ℕ) (c : Cond) → condition_of st ts ≡ parsed c → added st (condition ts a) ≡ with_condition_lem st c (connectives_in ts) (name_number st.names a)
condition_adds st ts a c e = ap (λ p. parsed_or p (λ d. with_condition_lem st d (connectives_in ts) (name_number st.names a)) st) e

-- a condition's line adds what its condition means, with as many atoms as it has connectives
pub typed_adds : (st : SoFar) (ts : List Token) (a : List ℕ) (c : Typed) → Spells c ts → added st (condition ts a) ≡ with_condition_lem st (meant (name_number st.names) (suc st.made) c) (connectives_typed c) (name_number st.names a)
typed_adds st ts a c s =
    let d = meant (name_number st.names) (suc st.made) c in
    condition_adds st ts a d ((parse_iff (name_number st.names) (suc st.made) ts d).1 (c, s, refl))
    ∙ ap (λ k. with_condition_lem st d k (name_number st.names a)) (connectives_law c ts s)

module _ (st : SoFar) (sound : Sound st) where
  declare_answers : (w : Word) (xs : List (List ℕ)) → All IsName xs → Answers st (declares w xs) (declare st w xs)
  unfolding declare
  declare_answers w xs named =
      tested st f (not (expects st.kind st.stage w)) BrokenForm _ (not_law (expects st.kind st.stage w) (comes_law st.kind st.stage w)) (none_at_all st f)
      (λ b2. tested st f (some (refused_name st.kind) xs) Name _ (names_law st.kind xs named) (no_condition st f (λ h. h) (λ h. h) b2)
      (λ b3. tested st f (twice st.names xs) DeclaredTwice _ (twice_law st.names xs sound.different) b3
      (λ b4. tested st f (not (within st.kind (counts_of (declared st w xs)) && leb (classes_after w st.classes) class_limit)) Limit _ (declared_limit st w xs (unmade b2)) (none_up st f TwiceInList (none_up st f Undeclared b4 (λ h. h)) (λ h. h))
      (λ b7. passes st f (none_up st f FilledNot b7 (λ h. h))))))
    where
      f : LineForm
      f = declares w xs

      unmade : NoneBelow st f (suc (line_rank BrokenForm)) → st.made ≡ 0
      unmade below = sound.none_made (comes_before (comes_stable st.kind st.stage w (below BrokenForm (omega arith))))

  none_declared : (xs : List (List ℕ)) → T (some (λ x. not (among st.names x)) xs) ↔ Any (λ x. Among st.names x → ⊥) xs
  none_declared xs = some_any (λ x. not (among st.names x)) (λ x. Among st.names x → ⊥) (undeclared_law st.names) xs

  rule_answers : (hs bs ns : List (List ℕ)) → All IsName (hs ++ (bs ++ ns)) → Answers st (rules hs bs ns) (add_rule st hs bs ns)
  unfolding add_rule
  rule_answers hs bs ns named =
      tested st f (not (is_ruling st.stage)) BrokenForm _ (not_law (is_ruling st.stage) (ruling_law st.stage)) (none_at_all st f)
      (λ b2. tested st f (any_of (some (refused_name st.kind)) hs bs ns) Name _ (any_law (NotAllowed st.kind) (refused_name st.kind) hs bs ns (names_law st.kind hs in_heads) (names_law st.kind bs in_bodies) (names_law st.kind ns in_nots)) (no_condition st f (λ h. h) (λ h. h) b2)
      (λ b3. tested st f (any_of (some (λ x. not (among st.names x))) hs bs ns) Undeclared _ (any_law (λ x. Among st.names x → ⊥) (λ x. not (among st.names x)) hs bs ns (none_declared hs) (none_declared bs) (none_declared ns)) (none_up st f DeclaredTwice b3 (λ h. h))
      (λ b5. tested st f (any_of (twice []) hs bs ns) TwiceInList _ (lists_law hs bs ns) b5
      (λ b6. tested st f (not (within st.kind (counts_of (with_rule_lem st (numbered st.names hs bs ns))))) Limit _ (rule_limit_lem st hs bs ns sound.within_limits) b6
      (λ b7. tested st f (filled st.kind ns) FilledNot _ (filled_law st.kind ns) b7
      (λ b8. passes st f b8))))))
    where
      f : LineForm
      f = rules hs bs ns

      in_heads : All IsName hs
      in_heads = all_app_l IsName hs (bs ++ ns) named

      in_bodies : All IsName bs
      in_bodies = all_app_l IsName bs ns (all_app_r IsName hs (bs ++ ns) named)

      in_nots : All IsName ns
      in_nots = all_app_r IsName bs ns (all_app_r IsName hs (bs ++ ns) named)

  condition_answers : (ts : List Token) (a : List ℕ) → All IsName (names_in ts ++ (a ∷ [])) → Answers st (condition ts a) (add_condition st ts a)
  unfolding add_condition
  condition_answers ts a named =
      tested st f (not (is_ruling st.stage && is_conditional st.kind)) BrokenForm _
      (not_law (is_ruling st.stage && is_conditional st.kind) (and_law (is_ruling st.stage) (is_conditional st.kind) (ruling_law st.stage) (conditional_law st.kind))) (none_at_all st f)
      (λ b2. go b2 (condition_of st ts) refl)
    where
      f : LineForm
      f = condition ts a

      xs : List (List ℕ)
      xs = names_in ts ++ (a ∷ [])

      after : Cond → SoFar
      after c = with_condition_lem st c (connectives_in ts) (name_number st.names a)

      rest : Cond → Step
      rest c =
          first (deeper bracket_limit ts) DeepBrackets
          (first (some (refused_name st.kind) xs) Name
          (first (taken st (connectives_in ts)) DeclaredTwice
          (first (some (λ x. not (among st.names x)) xs) Undeclared
          (first (not (within st.kind (all_counts (after c)))) Limit (next (after c))))))

      stands : (c : Cond) → condition_of st ts ≡ parsed c → IsCondition ts
      stands c e = let r = (parse_iff (name_number st.names) (suc st.made) ts c).0 e in (r.0, r.1)

      go : NoneBelow st f (suc (line_rank BrokenForm)) → (p : Parsed) → condition_of st ts ≡ p → Answers st f (on_parsed p rest)
      go b2 unparsed e = inl (BrokenCondition, refl, record { says = (unparsed_iff (name_number st.names) (suc st.made) ts).0 e; none_lower = λ q l. b2 q (omega arith) })
      go b2 (parsed c) e =
          tested st f (deeper bracket_limit ts) DeepBrackets _ (deep_law bracket_limit ts (stands c e)) (none_up st f BrokenCondition b2 (λ h. h (stands c e)))
          (λ b18. tested st f (some (refused_name st.kind) xs) Name _ (names_law st.kind xs named) b18
          (λ b3. tested st f (taken st (connectives_in ts)) DeclaredTwice _ (taken_law st (connectives_in ts)) b3
          (λ b4. tested st f (some (λ x. not (among st.names x)) xs) Undeclared _ (none_declared xs) b4
          (λ b5. tested st f (not (within st.kind (all_counts (after c)))) Limit _ (condition_limit st ts a c e sound.within_limits) (none_up st f TwiceInList b5 (λ h. h))
          (λ b7. inr (ap next (sym (condition_adds st ts a c e)), none_left st f (none_up st f FilledNot b7 (λ h. h))))))))

  form_answers : (f : LineForm) → All IsName (names_of f) → Answers st f (step_form st f)
  form_answers (declares w xs) named = declare_answers w xs named
  form_answers (rules hs bs ns) named = rule_answers hs bs ns named
  form_answers (condition ts a) named = condition_answers ts a named
  form_answers blank named = passes st blank (none_up st blank FilledNot (none_up st blank Limit no_test sound.within_limits) (λ h. h))
    where
      no_test : NoneBelow st blank (line_rank Limit)
      no_test =
          none_up st blank TwiceInList
          (none_up st blank Undeclared (none_up st blank DeclaredTwice (none_up st blank Name (no_condition st blank (λ h. h) (λ h. h) (none_up st blank BrokenForm (none_at_all st blank) (λ h. h))) (λ h. h)) (λ h. h)) (λ h. h))
          (λ h. h)
  form_answers broken named = inl (BrokenForm, refl, record { says = tt; none_lower = λ q l. none_at_all st broken q (omega arith) })

  pub line_answers : (l : List ℕ) → Answers st (form_of l) (step_form st (form_of l))
  line_answers l = form_answers (form_of l) (line_names l)

-- one lowest fault

one_lowest : (st : SoFar) (f : LineForm) (q r : Refusal) → Lowest st f q → Lowest st f r → q ≡ r
one_lowest st f q r a b = step (dec_lt (line_rank q) (line_rank r)) (dec_lt (line_rank r) (line_rank q))
  where
    step : Dec (line_rank q < line_rank r) → Dec (line_rank r < line_rank q) → q ≡ r
    step (yes k) m = absurd (b.none_lower q (omega arith) a.says)
    step (no k) (yes m) = absurd (a.none_lower r (omega arith) b.says)
    step (no k) (no m) = one_rank q r (omega arith)

fault_of : Step → Refusal
fault_of (next st) = Output
fault_of (fault r) = r

state_of_lem : SoFar → Step → SoFar
state_of_lem d (next st) = st
state_of_lem d (fault r) = d

is_next : Step → Type 0
is_next (next st) = Unit {0}
is_next (fault r) = ⊥

module _ (st : SoFar) (sound : Sound st) (l : List ℕ) where
  abbrev form : LineForm
  form = form_of l

  abbrev step : Step
  step = step_form st form

  pub fault_iff : (r : Refusal) → step ≡ fault r ↔ Lowest st form r
  unfolding fault_of is_next
  fault_iff r = (λ e. there e (line_answers st sound l), λ h. back h (line_answers st sound l))
    where
      there : step ≡ fault r → Answers st form step → Lowest st form r
      there e (inl a) = subst (Lowest st form) (ap fault_of (sym a.1 ∙ e)) a.2
      there e (inr a) = absurd (subst is_next (sym a.0 ∙ e) tt)

      back : Lowest st form r → Answers st form step → step ≡ fault r
      back h (inl a) = a.1 ∙ ap fault (one_lowest st form a.0 r a.2 h)
      back h (inr a) = absurd (a.1 r h.says)

  -- a line passes exactly when it has no fault; what the lines say then has it added
  pub next_iff : (after : SoFar) → step ≡ next after ↔ (Faultless st form × (after ≡ added st form))
  unfolding state_of_lem is_next
  next_iff after = (λ e. there e (line_answers st sound l), λ h. back h (line_answers st sound l))
    where
      there : step ≡ next after → Answers st form step → Faultless st form × (after ≡ added st form)
      there e (inl a) = absurd (subst is_next (sym e ∙ a.1) tt)
      there e (inr a) = (a.1, ap (state_of_lem after) (sym e ∙ a.0))

      back : Faultless st form × (after ≡ added st form) → Answers st form step → step ≡ next after
      back h (inl a) = absurd (h.0 a.0 a.2.says)
      back h (inr a) = a.0 ∙ ap next (sym h.1)

-- all that faultless lines say is sound

pub start_sound : (text : List ℕ) → Sound (start text)
unfolding start
start_sound text = record { different = λ h. h; within_limits = none; none_made = λ n. refl }
  where
    none : PassesLimit (start text) blank → ⊥
    none (atoms_pass h) = omega arith
    none (rules_pass h) = omega arith
    none (occurrences_pass h) = omega arith
    none (classes_pass h) = omega arith

pub added_sound : (st : SoFar) → Sound st → (f : LineForm) → Faultless st f → Sound (added st f)
added_sound st sound (declares w xs) none = record {
  different = none DeclaredTwice;
  within_limits = declared_within st w xs (none Limit);
  none_made = λ n. sound.none_made (comes_before (comes_stable st.kind st.stage w (none BrokenForm)));
}
added_sound st sound (rules hs bs ns) none = record { different = sound.different; within_limits = rule_within st hs bs ns (none Limit); none_made = sound.none_made }
added_sound st sound (condition ts a) none = go (condition_of st ts) refl
  where
    go : (p : Parsed) → condition_of st ts ≡ p → Sound (parsed_or p (λ c. with_condition_lem st c (connectives_in ts) (name_number st.names a)) st)
    go (parsed c) e = record {
      different = sound.different;
      within_limits = condition_within st ts a c e (none Limit);
      none_made = λ n. absurd (none BrokenForm (λ k. n k.0));
    }
    go unparsed e = sound
added_sound st sound blank none = sound
added_sound st sound broken none = sound
