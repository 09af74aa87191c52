-- What an accepted clause file says is a program of the form, and its names fit.
use Prim.Native.Nat.{ℕ, zero, suc, ◌≤◌, ◌<◌}
use native.Mathlib.Omega.{arith}
use mathlib.Core.Path.{◌≡◌, refl, sym}
use mathlib.Core.Logic.{◌≢◌}
use mathlib.Core.List.{List, [], ◌∷◌, ◌++◌}
use mathlib.Core.Bool.{Bool, true, false, cond}
use lib.Dec.{eqb, leb}
use lib.ListN.{length, drop, replicate, length-replicate}
use borrow.Author.Tests.{eqb-false}
use Rattle.kinds.specs.Limits.{text_limit}
use Rattle.kinds.specs.declared.limits.Kind.TheVariants.{Preference}
use Rattle.kinds.specs.declared.refusals.Refusal.TheVariants.{TextTooLong}
use Rattle.rules.specs.Lists.{All, flat, filter}
use Rattle.rules.specs.Rules.{rule}
use Rattle.rules.proofs.Lists.{all_app}
use Rattle.rules.proofs.ListLaws.{distinct_app}
use Rattle.stores.specs.Program.{Program, role_of, RoleForm, NeverFalling, ClassesForm, ListForm, RuleForm, ProgramForm}
use Rattle.name_store.specs.NameStore.{NamesForm}
use Rattle.lines.specs.Lines.{lines}
use Rattle.lines.specs.Said.{accepted, refused}
use Rattle.restriction.specs.Atoms.{is_member}
use Rattle.clauses.specs.Literals.{Literal, positive, negative}
use Rattle.clauses.specs.Tokens.{Token, literal, ends, wrong, line_tokens}
use Rattle.clauses.specs.Gathered.{Gathered, nothing, once, with_literal, with_token, with_tokens}
use Rattle.clauses.specs.Faults.{unheaded}
use Rattle.clauses.specs.Written.{clause_program}
use Rattle.clauses.specs.ClausesSaid.{read_lines, clauses_typed, is_filled}
use Rattle.clauses.proofs.Tests.{neither}
use Rattle.clauses.proofs.ClauseNames.{names_form}
use Rattle.clauses.proofs.HeadedLines.{Fits, Headed, apart, lines_read}

-- what is gathered has atoms below n, no list one of them twice
record Sound (n : ℕ) (g : Gathered) : Type 0 where
  rules : All (RuleForm Preference n) g.rules
  heads : ListForm n g.heads
  bodies : ListForm n g.bodies

not_member : (xs : List ℕ) (a : ℕ) → is_member xs a ≡ false → All (λ x. All (λ y. x ≢ y) (a ∷ [])) xs
not_member [] a e = tt
not_member (x ∷ xs) a e =
    let h = neither (eqb a x) (is_member xs a) e in
    ((λ q. eqb-false a x h.0 (sym q), tt), not_member xs a h.1)

once_form : (n : ℕ) (xs : List ℕ) (a : ℕ) → ListForm n xs → a < n → ListForm n (once xs a)
once_form n xs a f l = go (is_member xs a) refl
  where
    go : (b : Bool) → is_member xs a ≡ b → ListForm n (cond b xs (xs ++ (a ∷ [])))
    go true e = f
    go false e = (all_app (λ a. a < n) xs (a ∷ []) f.0 (l, tt), distinct_app xs (a ∷ []) f.1 (tt, tt) (not_member xs a e))

literal_sound : (n : ℕ) (g : Gathered) (l : Literal) → Sound n g → Fits n (literal l) → Sound n (with_literal g l)
literal_sound n g (positive a) s f = record { rules = s.rules; heads = once_form n g.heads a s.heads f; bodies = s.bodies }
literal_sound n g (negative a) s f = record { rules = s.rules; heads = s.heads; bodies = once_form n g.bodies a s.bodies f }

token_sound : (n : ℕ) (g : Gathered) (t : Token) → Sound n g → Fits n t → Sound n (with_token g t)
token_sound n g (literal l) s f = literal_sound n g l s f
token_sound n g ends s f = record {
  rules = all_app (RuleForm Preference n) g.rules (rule g.heads g.bodies [] ∷ []) s.rules (record { head_form = s.heads; body_form = s.bodies; nots_form = (tt, tt); no_nots = refl }, tt);
  heads = (tt, tt);
  bodies = (tt, tt);
}
token_sound n g wrong s f = absurd f

tokens_sound : (n : ℕ) (g : Gathered) (ts : List Token) → Sound n g → All (Fits n) ts → Sound n (with_tokens g ts)
tokens_sound n g [] s f = s
tokens_sound n g (t ∷ ts) s f = tokens_sound n (with_token g t) ts (token_sound n g t s f.0) f.1

-- one class
all_one : (n : ℕ) → All (λ w. RoleForm 1 (role_of w)) (replicate n 1)
unfolding role_of
all_one zero = tt
all_one (suc n) = (omega arith, all_one n)

never_falls : (b n : ℕ) → b ≤ 1 → NeverFalling b (replicate n 1)
never_falls b zero l = tt
never_falls b (suc n) l = (l, never_falls 1 n (omega arith))

classes_form : (n : ℕ) → ClassesForm Preference n 1 (replicate n 1)
classes_form n = (omega arith, length-replicate n 1, all_one n, never_falls 0 n (omega arith))

program_form : (ts : List Token) (p : Program) (names : List (List ℕ)) → Headed ts p names → ProgramForm p × NamesForm Preference p.atoms names
program_form ts p names h =
    let e = h.rest in
    let g = with_tokens nothing ts in
    let f : ProgramForm (clause_program h.atoms g.rules) = record {
      atoms_fit = h.atoms_fit;
      rules_fit_lem = omega (arith, e.count, h.clauses_fit);
      occurrences_fit = omega (arith, e.few);
      classes_form = classes_form h.atoms;
      rule_forms = (tokens_sound h.atoms nothing ts (record { rules = tt; heads = (tt, tt); bodies = (tt, tt) }) e.fit).rules;
    } in
    rw (e.program_is, e.names_are) (f, names_form h.atoms h.atoms_fit)

-- the tokens of an accepted file
module _ (text : List ℕ) (p : Program) (names : List (List ℕ)) (e : clauses_typed text ≡ accepted p names) where
  pub typed_lines : Headed (flat line_tokens (drop 1 (filter is_filled (lines text)))) p names
  unfolding clauses_typed
  typed_lines = go (leb (length text) text_limit) e
    where
      go : (b : Bool) → cond b (read_lines 1 unheaded (lines text)) (refused TextTooLong 0) ≡ accepted p names → Headed (flat line_tokens (drop 1 (filter is_filled (lines text)))) p names
      go true i = lines_read p names (lines text) 1 i
      go false i = absurd (apart i)

  pub typed_form_lem : ProgramForm p × NamesForm Preference p.atoms names
  typed_form_lem = program_form (flat line_tokens (drop 1 (filter is_filled (lines text)))) p names typed_lines
