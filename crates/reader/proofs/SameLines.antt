-- Spacing, blank lines and comments do not count: strict lines say what the lines say that they come from.
use Prim.Native.Nat.{ℕ, suc}
use mathlib.Core.Path.{◌≡◌, refl, sym, ap, ◌∙◌, subst₂}
use mathlib.Core.Logic.{◌↔◌}
use mathlib.Core.Bool.{Bool, true, false, cond}
use mathlib.Core.List.{List, [], ◌∷◌, ◌++◌}
use Rattle.kinds.specs.declared.refusals.Refusal.TheVariants.{BrokenForm}
use Rattle.rules.specs.Lists.{All, flat}
use Rattle.stores.specs.Program.{Program}
use Rattle.lines.specs.declared.stage.Stage.TheVariants.{Declaring}
use Rattle.lines.specs.Lines.{lines, lines_from}
use Rattle.lines.specs.Tokens.{Token, tokens}
use Rattle.lines.specs.Forms.{LineForm, declares, rules, condition, blank, broken, token_form, form_of}
use Rattle.lines.specs.Strict.{strict_line, strict_text}
use Rattle.lines.specs.Faults.{SoFar, Step, next, fault, is_ruling, step_form}
use Rattle.lines.specs.Said.{accepted, refused, kind_by, kind_of, start, on_step, read_lines, program_of, placed}
use Rattle.faults.specs.LineForms.{Ended, HasForm}
use Rattle.faults.proofs.EarliestFault.{apart}
use Rattle.faults.proofs.LineTokens.{tokens_iff}
use Rattle.faults.proofs.LineForms.{form_of_lem, form_iff}
use Rattle.reader.proofs.StrictLines.{token_forms, strict_tokens, strict_ended}
use Rattle.reader.proofs.FormedLines.{state}
use Rattle.reader.proofs.Progress.{strict}
use Rattle.reader.proofs.WrittenLines.{lines_cons}

no_lines : lines [] ≡ []
unfolding lines lines_from
no_lines = refl

module _ (l : List ℕ) (t : Token) (ts : List Token) (q : tokens l ≡ t ∷ ts) where
  abbrev m : List ℕ
  m = strict_line (t ∷ ts)

  strict_line_lem : (rest : List ℕ) → lines (m ++ rest) ≡ m ∷ lines rest
  strict_line_lem rest = lines_cons m rest (strict_ended t ts (token_forms (t ∷ ts) l ((tokens_iff l (t ∷ ts)).0 q)))

  same_tokens : tokens m ≡ t ∷ ts
  same_tokens = (tokens_iff m (t ∷ ts)).1 (strict_tokens (t ∷ ts) (token_forms (t ∷ ts) l ((tokens_iff l (t ∷ ts)).0 q)))

  same_form : Ended l → form_of m ≡ form_of l
  same_form h =
      let e = strict_ended t ts (token_forms (t ∷ ts) l ((tokens_iff l (t ∷ ts)).0 q)) in
      form_of_lem m (e.0, e.2) same_tokens refl ∙ sym (form_of_lem l h q refl)

blank_form : (l : List ℕ) → Ended l → tokens l ≡ [] → form_of l ≡ blank
unfolding token_form
blank_form l h q = form_of_lem l h q refl

-- accepted alike, whatever the numbers of the lines are

same_end : (k j : ℕ) (st : SoFar) (p : Program) (names : List (List ℕ)) → read_lines k st [] ≡ accepted p names ↔ read_lines j st [] ≡ accepted p names
unfolding read_lines
same_end k j st p names = go (is_ruling st.stage)
  where
    go : (b : Bool) → cond b (accepted (program_of (placed st)) (placed st).names) (refused BrokenForm k) ≡ accepted p names ↔ cond b (accepted (program_of (placed st)) (placed st).names) (refused BrokenForm j) ≡ accepted p names
    go true = (λ e. e, λ e. e)
    go false = (λ e. absurd (apart (sym e)), λ e. absurd (apart (sym e)))

same_lines : (ls : List (List ℕ)) → All Ended ls → (k j : ℕ) (st : SoFar) (p : Program) (names : List (List ℕ)) → read_lines k st ls ≡ accepted p names ↔ read_lines j st (lines (flat strict ls)) ≡ accepted p names
unfolding read_lines
same_lines [] h k j st p names = subst₂ (λ a b. a ≡ accepted p names ↔ b ≡ accepted p names) refl (ap (read_lines j st) (sym no_lines)) (same_end k j st p names)
same_lines (l ∷ ls) h k j st p names = go (tokens l) refl (λ k j st. same_lines ls h.1 k j st p names)
  where
    go : (ts : List Token) → tokens l ≡ ts
        → ((k j : ℕ) (st : SoFar) → read_lines k st ls ≡ accepted p names ↔ read_lines j st (lines (flat strict ls)) ≡ accepted p names)
        → read_lines k st (l ∷ ls) ≡ accepted p names ↔ read_lines j st (lines (strict_line ts ++ flat strict ls)) ≡ accepted p names
    go [] q r = subst₂ (λ a b. a ≡ accepted p names ↔ b ≡ accepted p names) (ap (λ f. on_step (step_form st f) k (λ after. read_lines (suc k) after ls)) (sym (blank_form l h.0 q))) refl (r (suc k) j st)
    go (t ∷ ts) q r =
        subst₂ (λ a b. a ≡ accepted p names ↔ b ≡ accepted p names) refl
        (ap (λ f. on_step (step_form st f) j (λ after. read_lines (suc j) after (lines (flat strict ls)))) (sym (same_form l t ts q h.0)) ∙ ap (read_lines j st) (sym (strict_line_lem l t ts q (flat strict ls))))
        (step (step_form st (form_of l)))
      where
        step : (s : Step) → on_step s k (λ after. read_lines (suc k) after ls) ≡ accepted p names ↔ on_step s j (λ after. read_lines (suc j) after (lines (flat strict ls))) ≡ accepted p names
        step (next after) = r (suc k) (suc j) after
        step (fault f) = (λ e. absurd (apart (sym e)), λ e. absurd (apart (sym e)))

same_kind : (ls : List (List ℕ)) → kind_of ls ≡ kind_of (lines (flat strict ls))
unfolding kind_of
same_kind [] = ap kind_of (sym no_lines)
same_kind (l ∷ ls) = go (tokens l) refl (same_kind ls)
  where
    go : (ts : List Token) → tokens l ≡ ts → kind_of ls ≡ kind_of (lines (flat strict ls)) → kind_by ts (kind_of ls) ≡ kind_of (lines (strict_line ts ++ flat strict ls))
    go [] q r = r
    go (t ∷ ts) q r = sym (ap kind_of (strict_line_lem l t ts q (flat strict ls)) ∙ ap (λ us. kind_by us (kind_of (lines (flat strict ls)))) (same_tokens l t ts q))

pub same_text : (text : List ℕ) → All Ended (lines text) → (p : Program) (names : List (List ℕ))
    → read_lines 1 (start text) (lines text) ≡ accepted p names ↔ read_lines 1 (start (strict_text text)) (lines (strict_text text)) ≡ accepted p names
unfolding start strict_text
same_text text h p names =
    subst₂ (λ a b. a ≡ accepted p names ↔ b ≡ accepted p names) refl (ap (λ k. read_lines 1 (state k Declaring 0 [] [] []) (lines (strict_text text))) (same_kind (lines text))) (same_lines (lines text) h 1 1 (start text) p names)

-- each line of an accepted text is ended
pub lines_ended : (k : ℕ) (st : SoFar) (ls : List (List ℕ)) {p : Program} {names : List (List ℕ)} → read_lines k st ls ≡ accepted p names → All Ended ls
unfolding read_lines
lines_ended k st [] e = tt
lines_ended k st (l ∷ ls) {p} {names} e = go (form_of l) ((form_iff l (form_of l)).0 refl) (λ after. lines_ended (suc k) after ls) e
  where
    later : Ended l → (s : Step) → ((after : SoFar) → read_lines (suc k) after ls ≡ accepted p names → All Ended ls) → on_step s k (λ after. read_lines (suc k) after ls) ≡ accepted p names → Ended l × All Ended ls
    later h (next after) r i = (h, r after i)
    later h (fault f) r i = absurd (apart (sym i))

    go : (f : LineForm) → HasForm l f → ((after : SoFar) → read_lines (suc k) after ls ≡ accepted p names → All Ended ls) → on_step (step_form st f) k (λ after. read_lines (suc k) after ls) ≡ accepted p names → Ended l × All Ended ls
    go (declares w xs) h r i = later h.0 (step_form st (declares w xs)) r i
    go (rules hs bs ns) h r i = later h.0 (step_form st (rules hs bs ns)) r i
    go (condition ts a) h r i = later h.0 (step_form st (condition ts a)) r i
    go blank h r i = later h.0 (next st) r i
    go broken h r i = absurd (apart (sym i))
