-- The text of what the lines so far say is that of the lines as strict lines, if none of them is a condition.
use Prim.Native.Nat.{ℕ, suc, ◌+◌, ◌≤◌, ◌<◌}
use native.Mathlib.Omega.{arith}
use mathlib.Core.Path.{◌≡◌, refl, sym, ap, ap₂, ◌∙◌, subst₂}
use mathlib.Core.Logic.{◌≢◌}
use mathlib.Core.Bool.{Bool, true, false, cond}
use mathlib.Core.List.{List, [], ◌∷◌, ◌++◌, append_assoc, append-nil}
use lib.Dec.{T}
use lib.ListN.{length, replicate}
use Rattle.kinds.specs.Limits.{class_limit, varying, fixed}
use Rattle.kinds.specs.declared.limits.Kind.{Kind}
use Rattle.kinds.specs.declared.limits.Kind.TheVariants.{Plain, Preference}
use Rattle.kinds.specs.declared.refusals.Refusal.TheVariants.{BrokenForm}
use Rattle.rules.specs.Lists.{All, flat, from}
use Rattle.rules.specs.Rules.{Rule}
use Rattle.rules.proofs.Lists.{all_imp, all_from, from_append}
use Rattle.rules.proofs.ListLaws.{flat_append}
use Rattle.stores.specs.Program.{Program}
use Rattle.kinds.specs.Words.{atoms_word, min_word, vary_word, fix_word}
use Rattle.text.specs.Text.{list_line, rule_line, rule_text, declarations, text_of}
use Rattle.lines.specs.declared.stage.Stage.{Stage}
use Rattle.lines.specs.declared.stage.Stage.TheVariants.{Declaring, Fixing, Ruling}
use Rattle.lines.specs.Lines.{lines}
use Rattle.lines.specs.Tokens.{tokens}
use Rattle.lines.specs.Strict.{strict_line}
use Rattle.lines.specs.Forms.{Word, word_bytes, atoms, min, vary, fix, declares, rules, condition, blank, broken, form_of, LineForm}
use Rattle.lines.specs.Faults.{SoFar, Step, next, fault, is_ruling, stage_after, declared, numbered, with_rule_lem, step_form}
use Rattle.lines.specs.Said.{accepted, refused, kind_of, start, on_step, read_lines, program_of, placed}
use Rattle.faults.specs.LineForms.{declaring_tokens, rule_tokens, HasForm}
use Rattle.faults.specs.Sentences.{Comes, atoms_line, min_line, vary_line, fix_line}
use Rattle.faults.proofs.LineTokens.{tokens_iff}
use Rattle.faults.proofs.LineForms.{form_iff}
use Rattle.faults.proofs.Tests.{comes_law}
use Rattle.reader.specs.FormedState.{Formed}
use Rattle.reader.specs.WrittenText.{Unconditional}
use Rattle.reader.proofs.FormText.{list_line_lem, rule_line_lem}
use Rattle.reader.proofs.NumberedNames.{names_of_numbers}
use Rattle.reader.proofs.ClassParts.{class_names, class_kept, class_new}
use Rattle.reader.proofs.LineSteps.{Declares, declare_said, Adds, rule_said}
use Rattle.reader.proofs.FormedLines.{so_far, declared_formed, rule_formed, start_formed}
use Rattle.reader.proofs.PlacedLines.{none_placed}

-- the `min` lines of k classes
abbrev min_lines : ℕ → List ℕ → List (List ℕ) → List ℕ
min_lines k words names = flat (λ j. list_line min_word (class_names words names j)) (from 1 k)

-- the text of the lines so far
abbrev text_at : Stage → Kind → SoFar → List ℕ
text_at Declaring Plain st = []
text_at Declaring Preference st = min_lines st.classes st.words st.names
text_at Fixing Plain st = []
text_at Fixing Preference st = min_lines st.classes st.words st.names ++ list_line vary_word (class_names st.words st.names varying)
text_at Ruling kind st = text_of (program_of st) st.names

pub record Reached (st : SoFar) (text : List ℕ) : Type 0 where
  pub formed : Formed st
  pub none_made : st.made ≡ 0
  pub text_is : text_at st.stage st.kind st ≡ text

-- lists

module _ {A B : Type 0} where
  flat_snoc : (f : A → List B) (l : List A) (x : A) → flat f (l ++ (x ∷ [])) ≡ flat f l ++ f x
  flat_snoc f l x = flat_append f l (x ∷ []) ∙ ap (λ r. flat f l ++ r) (append-nil (f x))

  flat_same : (f g : A → List B) (l : List A) → All (λ a. f a ≡ g a) l → flat f l ≡ flat g l
  flat_same f g [] h = refl
  flat_same f g (x ∷ l) h = ap₂ ◌++◌ h.0 (flat_same f g l h.1)

up_to_last : (k : ℕ) → from 1 (suc k) ≡ from 1 k ++ (suc k ∷ [])
up_to_last k =
    let last : suc k ≡ 1 + k = omega arith in
    let more : k + 1 ≡ suc k = omega arith in
    sym (ap (λ t. from 1 k ++ (t ∷ [])) last ∙ from_append 1 k 1 ∙ ap (from 1) more)

-- a line that declares atoms

module _ (k : ℕ) (words : List ℕ) (names : List (List ℕ)) (same : length words ≡ length names) (v : ℕ) (xs : List (List ℕ)) where
  abbrev words_after : List ℕ
  words_after = words ++ replicate (length xs) v

  min_lines_kept : k < v → min_lines k words_after (names ++ xs) ≡ min_lines k words names
  min_lines_kept l =
      flat_same (λ j. list_line min_word (class_names words_after (names ++ xs) j)) (λ j. list_line min_word (class_names words names j)) (from 1 k)
      (all_from (λ j. list_line min_word (class_names words_after (names ++ xs) j) ≡ list_line min_word (class_names words names j)) 1 k
      (λ j a b. ap (list_line min_word) (class_kept words names same v xs j (omega arith))))

  line_kept : (word : List ℕ) (w : ℕ) → w < v → list_line word (class_names words_after (names ++ xs) w) ≡ list_line word (class_names words names w)
  line_kept word w l = ap (list_line word) (class_kept words names same v xs w (omega arith))

  line_new : (word : List ℕ) → All (λ w. w < v) words → list_line word (class_names words_after (names ++ xs) v) ≡ list_line word xs
  line_new word h = ap (list_line word) (class_new words names same v xs (all_imp (λ w. w < v) (λ w. w ≢ v) (λ w l. omega arith) words h))

module _ {text : List ℕ} (k : ℕ) (words : List ℕ) (names : List (List ℕ)) (rs : List (Rule ℕ)) (m : ℕ) (xs : List (List ℕ)) where
  atoms_step : Reached (so_far Plain Declaring k words names rs m) text → Declares (so_far Plain Declaring k words names rs m) atoms xs → text_at Ruling Plain (declared (so_far Plain Declaring k words names rs m) atoms xs) ≡ text ++ list_line atoms_word xs
  unfolding text_of
  atoms_step s d =
      let none = s.formed.stage_form in
      ap₂ (λ ns r. list_line atoms_word (ns ++ xs) ++ flat (rule_text (names ++ xs)) r) none.0 none.1
      ∙ append-nil (list_line atoms_word xs)
      ∙ ap (λ t. t ++ list_line atoms_word xs) s.text_is

  min_step : Reached (so_far Preference Declaring k words names rs m) text → Declares (so_far Preference Declaring k words names rs m) min xs → text_at Declaring Preference (declared (so_far Preference Declaring k words names rs m) min xs) ≡ text ++ list_line min_word xs
  min_step s d =
      let same : length words ≡ length names = s.formed.classes_form.1 in
      ap (flat (λ j. list_line min_word (class_names (words ++ replicate (length xs) (suc k)) (names ++ xs) j))) (up_to_last k)
      ∙ flat_snoc (λ j. list_line min_word (class_names (words ++ replicate (length xs) (suc k)) (names ++ xs) j)) (from 1 k) (suc k)
      ∙ ap₂ ◌++◌ (min_lines_kept k words names same (suc k) xs (omega arith) ∙ s.text_is) (line_new k words names same (suc k) xs min_word (all_imp (λ w. w ≤ k) (λ w. w < suc k) (λ w l. omega arith) words s.formed.stage_form.0))

  vary_step : Reached (so_far Preference Declaring k words names rs m) text → Declares (so_far Preference Declaring k words names rs m) vary xs → text_at Fixing Preference (declared (so_far Preference Declaring k words names rs m) vary xs) ≡ text ++ list_line vary_word xs
  vary_step s d =
      let same : length words ≡ length names = s.formed.classes_form.1 in
      let few : k ≤ class_limit = d.classes_fit in
      let strict = all_imp (λ w. w ≤ k) (λ w. w < varying) (λ w l. omega arith) words s.formed.stage_form.0 in
      ap₂ ◌++◌ (min_lines_kept k words names same varying xs (omega arith) ∙ s.text_is) (line_new k words names same varying xs vary_word strict)

  fix_step : Reached (so_far Preference Fixing k words names rs m) text → Declares (so_far Preference Fixing k words names rs m) fix xs → text_at Ruling Preference (declared (so_far Preference Fixing k words names rs m) fix xs) ≡ text ++ list_line fix_word xs
  unfolding text_of
  fix_step s d =
      let same : length words ≡ length names = s.formed.classes_form.1 in
      let few : k ≤ class_limit = d.classes_fit in
      let strict = all_imp (λ w. w ≤ varying) (λ w. w < fixed) (λ w l. omega arith) words s.formed.stage_form.0 in
      let mins = min_lines k (words ++ replicate (length xs) fixed) (names ++ xs) in
      let varied = list_line vary_word (class_names (words ++ replicate (length xs) fixed) (names ++ xs) varying) in
      let last = list_line fix_word (class_names (words ++ replicate (length xs) fixed) (names ++ xs) fixed) in
      ap (λ r. mins ++ (varied ++ last) ++ flat (rule_text (names ++ xs)) r) s.formed.stage_form.1
      ∙ append-nil (mins ++ (varied ++ last))
      ∙ sym (append_assoc mins varied last)
      ∙ ap₂ ◌++◌ (ap₂ ◌++◌ (min_lines_kept k words names same fixed xs (omega arith)) (line_kept k words names same fixed xs vary_word varying (omega arith)) ∙ s.text_is) (line_new k words names same fixed xs fix_word strict)

declare_step : (st : SoFar) (w : Word) (xs : List (List ℕ)) {text : List ℕ} → Reached st text → Declares st w xs → Reached (declared st w xs) (text ++ list_line (word_bytes w) xs)
declare_step st w xs {text} s d = record { formed = declared_formed st w xs s.formed d; none_made = s.none_made; text_is = go ((comes_law st.kind st.stage w).0 d.expected) s d }
  where
    go : {kind : Kind} {stage : Stage} {v : Word} → Comes kind stage v
        → Reached (so_far kind stage st.classes st.words st.names st.program_rules st.made) text
        → Declares (so_far kind stage st.classes st.words st.names st.program_rules st.made) v xs
        → text_at (stage_after v) kind (declared (so_far kind stage st.classes st.words st.names st.program_rules st.made) v xs) ≡ text ++ list_line (word_bytes v) xs
    go atoms_line = atoms_step st.classes st.words st.names st.program_rules st.made xs
    go min_line = min_step st.classes st.words st.names st.program_rules st.made xs
    go vary_line = vary_step st.classes st.words st.names st.program_rules st.made xs
    go fix_line = fix_step st.classes st.words st.names st.program_rules st.made xs

-- a rule

same_declarations : (kind : Kind) (k : ℕ) (words : List ℕ) (names : List (List ℕ)) (rs rs' : List (Rule ℕ)) (m : ℕ) → declarations kind (program_of (so_far kind Ruling k words names rs m)) names ≡ declarations kind (program_of (so_far kind Ruling k words names rs' m)) names
same_declarations Plain k words names rs rs' m = refl
same_declarations Preference k words names rs rs' m = refl

module _ (kind : Kind) (k : ℕ) (words : List ℕ) (names : List (List ℕ)) (rs : List (Rule ℕ)) (m : ℕ) (hs bs ns : List (List ℕ)) where
  abbrev before : SoFar
  before = so_far kind Ruling k words names rs m

  abbrev new : Rule ℕ
  new = numbered names hs bs ns

  line_of_rule : Adds before hs bs ns → rule_text names new ≡ rule_line hs bs ns
  line_of_rule d =
      let e₁ = names_of_numbers names hs d.head_listed.all_declared in
      let e₂ = names_of_numbers names bs d.body_listed.all_declared in
      let e₃ = names_of_numbers names ns d.nots_listed.all_declared in
      cc

  ruling_step : {text : List ℕ} → text_at Ruling kind before ≡ text → Adds before hs bs ns → text_at Ruling kind (with_rule_lem before new) ≡ text ++ rule_line hs bs ns
  unfolding text_of
  ruling_step e d =
      let head-lines = declarations kind (program_of before) names in
      ap₂ ◌++◌ (same_declarations kind k words names (rs ++ (new ∷ [])) rs m) (flat_snoc (rule_text names) rs new)
      ∙ sym (append_assoc head-lines (flat (rule_text names) rs) (rule_text names new))
      ∙ ap₂ ◌++◌ e (line_of_rule d)

rule_step : (st : SoFar) (hs bs ns : List (List ℕ)) {text : List ℕ} → Reached st text → Adds st hs bs ns → Reached (with_rule_lem st (numbered st.names hs bs ns)) (text ++ rule_line hs bs ns)
rule_step st hs bs ns {text} s d = record { formed = rule_formed st hs bs ns s.formed d; none_made = s.none_made; text_is = go st.stage d.ruling s.text_is d }
  where
    go : (stage : Stage) → T (is_ruling stage)
        → text_at stage st.kind (so_far st.kind stage st.classes st.words st.names st.program_rules st.made) ≡ text
        → Adds (so_far st.kind stage st.classes st.words st.names st.program_rules st.made) hs bs ns
        → text_at stage st.kind (with_rule_lem (so_far st.kind stage st.classes st.words st.names st.program_rules st.made) (numbered st.names hs bs ns)) ≡ text ++ rule_line hs bs ns
    go Declaring h = absurd h
    go Fixing h = absurd h
    go Ruling h = ruling_step st.kind st.classes st.words st.names st.program_rules st.made hs bs ns

-- every line

abbrev pub strict : List ℕ → List ℕ
strict l = strict_line (tokens l)

line_step : (st : SoFar) (l : List ℕ) {after : SoFar} {text : List ℕ} → Reached st text → Unconditional (form_of l) → step_form st (form_of l) ≡ next after → Reached after (text ++ strict l)
line_step st l {after} {text} s = go (form_of l) ((form_iff l (form_of l)).0 refl)
  where
    go : (f : LineForm) → HasForm l f → Unconditional f → step_form st f ≡ next after → Reached after (text ++ strict l)
    go (declares w xs) h u e =
        let d = declare_said st w xs after e in
        let line = ap strict_line ((tokens_iff l (declaring_tokens w xs)).1 h.1) ∙ list_line_lem w xs in
        subst₂ (λ a m. Reached a (text ++ m)) d.1 (sym line) (declare_step st w xs s d.0)
    go (rules hs bs ns) h u e =
        let d = rule_said st hs bs ns after e in
        let line = ap strict_line ((tokens_iff l (rule_tokens hs bs ns)).1 h.1) ∙ rule_line_lem hs bs ns in
        subst₂ (λ a m. Reached a (text ++ m)) d.1 (sym line) (rule_step st hs bs ns s d.0)
    go (condition ts a) h u e = absurd u
    go blank h u e =
        let same : st ≡ after = cc in
        let line : text ≡ text ++ strict l = sym (ap (λ ts. text ++ strict_line ts) ((tokens_iff l []).1 h.1) ∙ append-nil text) in
        subst₂ Reached same line s
    go broken h u e = absurd (let z : ◌≡◌ {A = ℕ} 0 1 = cc in omega arith)

-- all lines together give the text of what they declare
all_told : {st : SoFar} {text : List ℕ} → Reached st text → T (is_ruling st.stage) → text_of (program_of st) st.names ≡ text
all_told {st} {text} s r = go st.stage r s.text_is
  where
    go : (stage : Stage) → T (is_ruling stage) → text_at stage st.kind st ≡ text → text_of (program_of st) st.names ≡ text
    go Declaring h e = absurd h
    go Fixing h e = absurd h
    go Ruling h e = e

pub lines_told : (k : ℕ) (st : SoFar) (ls : List (List ℕ)) (text : List ℕ) {p : Program} {names : List (List ℕ)} → Reached st text → All (λ l. Unconditional (form_of l)) ls → read_lines k st ls ≡ accepted p names → text_of p names ≡ text ++ flat strict ls
unfolding read_lines
lines_told k st [] text {p} {names} s u e = go (is_ruling st.stage) (λ t. t) e
  where
    go : (b : Bool) → (T b → T (is_ruling st.stage)) → cond b (accepted (program_of (placed st)) (placed st).names) (refused BrokenForm k) ≡ accepted p names → text_of p names ≡ text ++ []
    go true r i =
        let stays = none_placed st s.none_made in
        let same : program_of (placed st) ≡ p = cc in
        let called : (placed st).names ≡ names = cc in
        ap₂ text_of (sym same ∙ ap program_of stays) (sym called ∙ ap (λ z. z.names) stays) ∙ all_told s (r tt) ∙ sym (append-nil text)
    go false r i = absurd (let z : ◌≡◌ {A = ℕ} 0 1 = cc in omega arith)
lines_told k st (l ∷ ls) text {p} {names} s u e = go (step_form st (form_of l)) (λ after. line_step st l s u.0) (λ after t r. lines_told (suc k) after ls t r u.1) e
  where
    go : (q : Step)
        → ((after : SoFar) → q ≡ next after → Reached after (text ++ strict l))
        → ((after : SoFar) (t : List ℕ) → Reached after t → read_lines (suc k) after ls ≡ accepted p names → text_of p names ≡ t ++ flat strict ls)
        → on_step q k (λ after. read_lines (suc k) after ls) ≡ accepted p names
        → text_of p names ≡ text ++ (strict l ++ flat strict ls)
    go (next after) f rec i = rec after (text ++ strict l) (f after refl) i ∙ append_assoc text (strict l) (flat strict ls)
    go (fault r) f rec i = absurd (let z : ◌≡◌ {A = ℕ} 0 1 = cc in omega arith)

pub start_told : (text : List ℕ) → Reached (start text) []
unfolding start
start_told text = record { formed = start_formed text; none_made = refl; text_is = go (kind_of (lines text)) }
  where
    go : (k : Kind) → text_at Declaring k (so_far k Declaring 0 [] [] [] 0) ≡ []
    go Plain = refl
    go Preference = refl
