-- The stage says which lines have come.
use Prim.Native.Nat.{ℕ}
use native.Mathlib.Omega.{arith}
use mathlib.Core.Path.{◌≡◌, refl, sym, ap, ap₂, ◌∙◌, subst}
use mathlib.Core.Logic.{inl, inr, ◌↔◌}
use mathlib.Core.List.{List, [], ◌∷◌, ◌++◌, append_assoc, append-nil}
use lib.Seq.{append_snoc}
use Rattle.kinds.specs.declared.limits.Kind.{Kind}
use Rattle.kinds.specs.declared.limits.Kind.TheVariants.{Plain, Preference}
use Rattle.kinds.specs.declared.refusals.Refusal.TheVariants.{BrokenForm}
use Rattle.rules.specs.Lists.{All}
use Rattle.rules.proofs.Lists.{all_app, all_app_r}
use Rattle.lines.specs.declared.stage.Stage.{Stage}
use Rattle.lines.specs.declared.stage.Stage.TheVariants.{Declaring, Fixing, Ruling}
use Rattle.lines.specs.Tokens.{Token}
use Rattle.lines.specs.Conditions.{connectives_in, Parsed, parsed, unparsed}
use Rattle.lines.specs.Forms.{Word, atoms, min, vary, fix, LineForm, declares, rules, condition, blank, broken, form_of}
use Rattle.lines.specs.Faults.{SoFar, stage_after, name_number, with_condition_lem}
use Rattle.lines.specs.Lines.{lines}
use Rattle.lines.specs.Said.{kind_of, start}
use Rattle.faults.specs.Sentences.{Comes, atoms_line, min_line, vary_line, fix_line, BreaksForm, parsed_or, condition_of, Faultless, added}
use Rattle.faults.specs.EarliestFault.{Passed}
use Rattle.faults.specs.LineOrder.{unless_blank, forms_of, IsMin, AmongRules, Came, OutOfOrder}
use Rattle.faults.proofs.Entries.{cons_same, no_cons, no_append}
use Rattle.faults.proofs.Tests.{comes_stable, ruling_stable, among_stable}

after_declaring : {kind : Kind} {stage : Stage} {w : Word} (xs : List (List ℕ)) (fs : List LineForm) → Comes kind stage w → Came kind stage fs → Came kind (stage_after w) (fs ++ (declares w xs ∷ []))
after_declaring xs fs atoms_line c = (xs, [], tt, ap (λ l. l ++ (declares atoms xs ∷ [])) c)
after_declaring xs fs min_line c = all_app IsMin fs (declares min xs ∷ []) c ((xs, refl), tt)
after_declaring xs fs vary_line c = (fs, xs, c, refl)
after_declaring xs fs fix_line (ms, ys, h, e) = (ms, ys, xs, [], h, tt, ap (λ l. l ++ (declares fix xs ∷ [])) e ∙ append_snoc ms (declares vary ys) (declares fix xs ∷ []))

after_rule : (kind : Kind) (stage : Stage) (f : LineForm) (fs : List LineForm) → AmongRules kind f → stage ≡ Ruling → Came kind stage fs → Came kind stage (fs ++ (f ∷ []))
after_rule kind stage f fs r e c = subst (λ s. Came kind s (fs ++ (f ∷ []))) (sym e) (go kind r (subst (λ s. Came kind s fs) e c))
  where
    go : (k : Kind) → AmongRules k f → Came k Ruling fs → Came k Ruling (fs ++ (f ∷ []))
    go Plain a (xs, rs, h, q) = (xs, rs ++ (f ∷ []), all_app (AmongRules Plain) rs (f ∷ []) h (a, tt), ap (λ l. l ++ (f ∷ [])) q)
    go Preference a (ms, xs, ys, rs, m, h, q) =
        (ms, xs, ys, rs ++ (f ∷ []), m, all_app (AmongRules Preference) rs (f ∷ []) h (a, tt), ap (λ l. l ++ (f ∷ [])) q ∙ append_assoc ms (declares vary xs ∷ declares fix ys ∷ rs) (f ∷ []))

rule_among : (kind : Kind) (hs bs ns : List (List ℕ)) → AmongRules kind (rules hs bs ns)
rule_among kind hs bs ns = inl (hs, bs, ns, refl)

when_among : (kind : Kind) (ts : List Token) (a : List ℕ) → kind ≡ Preference → AmongRules kind (condition ts a)
when_among kind ts a e = inr (e, (ts, a, refl))

after_line : (st : SoFar) (f : LineForm) (fs : List LineForm) → Faultless st f → Came st.kind st.stage fs → Came (added st f).kind (added st f).stage (fs ++ unless_blank f)
after_line st (declares w xs) fs none c = after_declaring xs fs (comes_stable st.kind st.stage w (none BrokenForm)) c
after_line st (rules hs bs ns) fs none c = after_rule st.kind st.stage (rules hs bs ns) fs (rule_among st.kind hs bs ns) (ruling_stable st.stage (none BrokenForm)) c
after_line st (condition ts a) fs none c = go (condition_of st ts)
  where
    order : (st.stage ≡ Ruling) × (st.kind ≡ Preference)
    order = among_stable st.kind st.stage (none BrokenForm)

    stays : Came st.kind st.stage (fs ++ (condition ts a ∷ []))
    stays = after_rule st.kind st.stage (condition ts a) fs (when_among st.kind ts a order.1) order.0 c

    state : Parsed → SoFar
    state p = parsed_or p (λ d. with_condition_lem st d (connectives_in ts) (name_number st.names a)) st

    go : (p : Parsed) → Came (state p).kind (state p).stage (fs ++ (condition ts a ∷ []))
    go (parsed d) = stays
    go unparsed = stays
after_line st blank fs none c = subst (Came st.kind st.stage) (sym (append-nil fs)) c
after_line st broken fs none c = absurd (none BrokenForm tt)

-- which form may come at a stage
abbrev Fits : Kind → Stage → LineForm → Type 0
Fits kind stage (declares w xs) = Comes kind stage w
Fits kind stage (rules hs bs ns) = stage ≡ Ruling
Fits kind stage (condition ts a) = (stage ≡ Ruling) × (kind ≡ Preference)
Fits kind stage blank = ⊥
Fits kind stage broken = ⊥

module _ {A : Type 0} where
  last_same : (xs ys : List A) (x y : A) → xs ++ (x ∷ []) ≡ ys ++ (y ∷ []) → (xs ≡ ys) × (x ≡ y)
  last_same [] [] x y e = (refl, (cons_same e).0)
  last_same [] (b ∷ ys) x y e = absurd (no_append ys y [] (sym (cons_same e).1))
  last_same (a ∷ xs) [] x y e = absurd (no_append xs x [] (cons_same e).1)
  last_same (a ∷ xs) (b ∷ ys) x y e = let c = cons_same e in let r = last_same xs ys x y c.1 in (ap₂ ◌∷◌ c.0 r.0, r.1)

  -- an entry that is not the last has what all before the last have
  not_last : (P : A → Type 0) (xs ys : List A) (x a b : A) (r : List A) → All P xs → xs ++ (x ∷ []) ≡ ys ++ (a ∷ b ∷ r) → P a
  not_last P [] [] x a b r h e = absurd (no_cons (sym (cons_same e).1))
  not_last P [] (y ∷ ys) x a b r h e = absurd (no_append ys a (b ∷ r) (sym (cons_same e).1))
  not_last P (z ∷ xs) [] x a b r h e = subst P (cons_same e).0 h.0
  not_last P (z ∷ xs) (y ∷ ys) x a b r h e = not_last P xs ys x a b r h.1 (cons_same e).1

  -- what stands after the first entry without P
  first_without : (P : A → Type 0) (xs ys : List A) (a b : A) (r s : List A) → All P xs → All P ys → (P a → ⊥) → (P b → ⊥) → xs ++ (a ∷ r) ≡ ys ++ (b ∷ s) → r ≡ s
  first_without P [] [] a b r s h k n m e = (cons_same e).1
  first_without P [] (y ∷ ys) a b r s h k n m e = absurd (n (subst P (sym (cons_same e).0) k.0))
  first_without P (x ∷ xs) [] a b r s h k n m e = absurd (m (subst P (cons_same e).0 h.0))
  first_without P (x ∷ xs) (y ∷ ys) a b r s h k n m e = first_without P xs ys a b r s h.1 k.1 n m (cons_same e).1

vary_not_min : {xs : List (List ℕ)} → IsMin (declares vary xs) → ⊥
vary_not_min (ys, e) = absurd (let z : ◌≡◌ {A = ℕ} 0 1 = cc in omega arith)

-- what stands after the `vary` line
after_vary : (ms ns : List LineForm) (xs ys : List (List ℕ)) (r s : List LineForm) → All IsMin ms → All IsMin ns → ms ++ (declares vary xs ∷ r) ≡ ns ++ (declares vary ys ∷ s) → r ≡ s
after_vary ms ns xs ys r s h k e = first_without IsMin ms ns (declares vary xs) (declares vary ys) r s h k vary_not_min vary_not_min e

among_fits : (kind : Kind) (f : LineForm) → AmongRules kind f → Fits kind Ruling f
among_fits kind f (inl (hs, bs, ns, e)) = subst (Fits kind Ruling) (sym e) refl
among_fits kind f (inr (k, (ts, a, e))) = subst (Fits kind Ruling) (sym e) (refl, k)

-- a line after which the lines are still in order fits
next_fits : (kind : Kind) (stage then : Stage) (f : LineForm) (fs : List LineForm) → Came kind stage fs → Came kind then (fs ++ (f ∷ [])) → Fits kind stage f
next_fits Plain Declaring Declaring f fs c n = absurd (no_append fs f [] n)
next_fits Plain Declaring Fixing f fs c n = absurd n
next_fits Plain Declaring Ruling f fs c (xs, rs, h, q) = subst (Fits Plain Declaring) (sym (cons_same (sym (ap (λ l. l ++ (f ∷ [])) c) ∙ q)).0) atoms_line
next_fits Plain Fixing then f fs c n = absurd c
next_fits Plain Ruling Declaring f fs c n = absurd (no_append fs f [] n)
next_fits Plain Ruling Fixing f fs c n = absurd n
next_fits Plain Ruling Ruling f fs (xs, rs, h, e) (ys, ss, k, q) =
    let t : rs ++ (f ∷ []) ≡ ss = (cons_same (sym (ap (λ l. l ++ (f ∷ [])) e) ∙ q)).1 in
    among_fits Plain f (all_app_r (AmongRules Plain) rs (f ∷ []) (subst (All (AmongRules Plain)) (sym t) k)).0
next_fits Preference Declaring Declaring f fs c n = let m = (all_app_r IsMin fs (f ∷ []) n).0 in subst (Fits Preference Declaring) (sym m.1) min_line
next_fits Preference Declaring Fixing f fs c (ms, xs, h, q) = subst (Fits Preference Declaring) (sym (last_same fs ms f (declares vary xs) q).1) vary_line
next_fits Preference Declaring Ruling f fs c (ms, xs, ys, rs, h, k, q) = absurd (vary_not_min (not_last IsMin fs ms f (declares vary xs) (declares fix ys) rs c q))
next_fits Preference Fixing then f fs (ms, xs, h, e) n = go then n
  where
    is : fs ++ (f ∷ []) ≡ ms ++ (declares vary xs ∷ f ∷ [])
    is = ap (λ l. l ++ (f ∷ [])) e ∙ append_snoc ms (declares vary xs) (f ∷ [])

    go : (s : Stage) → Came Preference s (fs ++ (f ∷ [])) → Fits Preference Fixing f
    go Declaring k = absurd (vary_not_min (all_app_r IsMin ms (declares vary xs ∷ f ∷ []) (subst (All IsMin) is k)).0)
    go Fixing (ns, ys, k, q) = absurd (no_cons (after_vary ms ns xs ys (f ∷ []) [] h k (sym is ∙ q)))
    go Ruling (ns, ys, zs, rs, k, r, q) = subst (Fits Preference Fixing) (sym (cons_same (after_vary ms ns xs ys (f ∷ []) (declares fix zs ∷ rs) h k (sym is ∙ q))).0) fix_line
next_fits Preference Ruling then f fs (ms, xs, ys, rs, h, r, e) n = go then n
  where
    is : fs ++ (f ∷ []) ≡ ms ++ (declares vary xs ∷ declares fix ys ∷ (rs ++ (f ∷ [])))
    is = ap (λ l. l ++ (f ∷ [])) e ∙ append_assoc ms (declares vary xs ∷ declares fix ys ∷ rs) (f ∷ [])

    go : (s : Stage) → Came Preference s (fs ++ (f ∷ [])) → Fits Preference Ruling f
    go Declaring k = absurd (vary_not_min (all_app_r IsMin ms (declares vary xs ∷ declares fix ys ∷ (rs ++ (f ∷ []))) (subst (All IsMin) is k)).0)
    go Fixing (ns, zs, k, q) = absurd (no_cons (after_vary ms ns xs zs (declares fix ys ∷ (rs ++ (f ∷ []))) [] h k (sym is ∙ q)))
    go Ruling (ns, zs, us, ss, k, t, q) =
        let tail : rs ++ (f ∷ []) ≡ ss = (cons_same (after_vary ms ns xs zs (declares fix ys ∷ (rs ++ (f ∷ []))) (declares fix us ∷ ss) h k (sym is ∙ q))).1 in
        among_fits Preference f (all_app_r (AmongRules Preference) rs (f ∷ []) (subst (All (AmongRules Preference)) (sym tail) t)).0

-- a line breaks the form or the order exactly when the lines with it are no beginning of a file
order_of : (st : SoFar) (f : LineForm) (fs : List LineForm) → Came st.kind st.stage fs → BreaksForm st f ↔ OutOfOrder st.kind (fs ++ unless_blank f)
order_of st (declares w xs) fs c = (λ b s n. b (next_fits st.kind st.stage s (declares w xs) fs c n), λ o k. o (stage_after w) (after_declaring xs fs k c))
order_of st (rules hs bs ns) fs c = (
  λ b s n. b (next_fits st.kind st.stage s (rules hs bs ns) fs c n),
  λ o e. o st.stage (after_rule st.kind st.stage (rules hs bs ns) fs (rule_among st.kind hs bs ns) e c),
)
order_of st (condition ts a) fs c = (
  λ b s n. b (next_fits st.kind st.stage s (condition ts a) fs c n),
  λ o e. o st.stage (after_rule st.kind st.stage (condition ts a) fs (when_among st.kind ts a e.1) e.0 c),
)
order_of st blank fs c = (λ b. absurd b, λ o. o st.stage (subst (Came st.kind st.stage) (sym (append-nil fs)) c))
order_of st broken fs c = (λ b s n. next_fits st.kind st.stage s broken fs c n, λ o. tt)

after_lines : (st : SoFar) (ls : List (List ℕ)) (after : SoFar) (fs : List LineForm) → Passed st ls after → Came st.kind st.stage fs → Came after.kind after.stage (fs ++ forms_of ls)
after_lines st [] after fs p c = subst (λ (s : SoFar). Came s.kind s.stage (fs ++ [])) p (subst (Came st.kind st.stage) (sym (append-nil fs)) c)
after_lines st (l ∷ ls) after fs p c =
    subst (Came after.kind after.stage) (append_assoc fs (unless_blank (form_of l)) (forms_of ls))
    (after_lines (added st (form_of l)) ls after (fs ++ unless_blank (form_of l)) p.1 (after_line st (form_of l) fs p.0 c))

started : (text : List ℕ) → Came (start text).kind (start text).stage []
unfolding start
started text = go (kind_of (lines text))
  where
    go : (k : Kind) → Came k Declaring []
    go Plain = refl
    go Preference = tt

pub came : (text : List ℕ) (ls : List (List ℕ)) (st : SoFar) → Passed (start text) ls st → Came st.kind st.stage (forms_of ls)
came text ls st p = after_lines (start text) ls st [] p (started text)

forms_last : (ls : List (List ℕ)) (l : List ℕ) → forms_of (ls ++ (l ∷ [])) ≡ forms_of ls ++ unless_blank (form_of l)
forms_last [] l = append-nil (unless_blank (form_of l))
forms_last (m ∷ ls) l = ap (λ fs. unless_blank (form_of m) ++ fs) (forms_last ls l) ∙ sym (append_assoc (unless_blank (form_of m)) (forms_of ls) (unless_blank (form_of l)))

pub order_iff : (text : List ℕ) (ls : List (List ℕ)) (st : SoFar) → Passed (start text) ls st → (l : List ℕ) → BreaksForm st (form_of l) ↔ OutOfOrder st.kind (forms_of (ls ++ (l ∷ [])))
order_iff text ls st p l = subst (λ fs. BreaksForm st (form_of l) ↔ OutOfOrder st.kind fs) (sym (forms_last ls l)) (order_of st (form_of l) (forms_of ls) (came text ls st p))
