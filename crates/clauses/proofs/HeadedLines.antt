-- What an accepted clause file has on its lines: a header, then clauses, of which nothing is wrong, beyond or past a limit.
use Prim.Native.Nat.{ℕ, suc, ◌≤◌, ◌<◌}
use native.Mathlib.Omega.{arith}
use mathlib.Core.Path.{◌≡◌, refl, sym, ap, ap₂, subst, ◌∙◌}
use mathlib.Core.Logic.{◌⊎◌, inl, inr}
use mathlib.Core.List.{List, [], ◌∷◌, ◌++◌, map}
use mathlib.Core.Bool.{Bool, true, false, cond, not, ◌&&◌, ◌||◌}
use lib.Dec.{eqb, ltb}
use lib.ListN.{length, drop}
use borrow.Author.Tests.{ltb-false, leb-false, eqb-true}
use Rattle.kinds.specs.Limits.{atom_limit, rule_limit, occurrence_limit}
use Rattle.kinds.specs.Words.{bytes}
use Rattle.kinds.specs.declared.limits.Kind.TheVariants.{Preference}
use Rattle.kinds.specs.declared.refusals.Refusal.{Refusal}
use Rattle.kinds.specs.declared.refusals.Refusal.TheVariants.{BrokenClauses, LiteralBeyond, Limit}
use Rattle.rules.specs.Lists.{All, some, is_empty, keep, filter, flat}
use Rattle.rules.proofs.Lists.{all_app}
use Rattle.stores.specs.Program.{Program}
use Rattle.name_store.specs.NameStore.{same_bytes}
use Rattle.lines.specs.Said.{Said, accepted, refused}
use Rattle.names.specs.Numerals.{is_numeral, value}
use Rattle.clauses.specs.Items.{items, is_comment}
use Rattle.lines.specs.Lines.{is_ended}
use Rattle.clauses.specs.Literals.{atom_of}
use Rattle.clauses.specs.Tokens.{Token, literal, ends, wrong, token_of, is_wrong, is_beyond, line_tokens}
use Rattle.clauses.specs.Gathered.{Gathered, nothing, with_token, with_tokens, is_closed, begun, occurrences_in}
use Rattle.clauses.specs.Faults.{State, unheaded, headed, Step, next, fault, first, header_with, header_line, clause_line, step_items, step_line}
use Rattle.clauses.specs.Written.{clause_names, clause_program}
use Rattle.clauses.specs.ClausesSaid.{at_end, on_step, read_lines, is_filled}
use Rattle.clauses.proofs.Tests.{neither}

-- of n atoms
abbrev pub Fits : ℕ → Token → Type 0
Fits n (literal l) = atom_of l < n
Fits n ends = Unit {0}
Fits n wrong = ⊥

-- after the header, tokens ts end the file
pub record Ends (n m : ℕ) (g : Gathered) (ts : List Token) (p : Program) (names : List (List ℕ)) : Type 0 where
  pub fit : All (Fits n) ts
  pub few : occurrences_in (with_tokens g ts) ≤ occurrence_limit Preference
  pub count : length (with_tokens g ts).rules ≡ m
  pub program_is : p ≡ clause_program n (with_tokens g ts).rules
  pub names_are : names ≡ clause_names n

-- the whole file
pub record Headed (ts : List Token) (p : Program) (names : List (List ℕ)) : Type 0 where
  pub atoms : ℕ
  pub clauses : ℕ
  pub atoms_fit : atoms ≤ atom_limit Preference
  pub clauses_fit : clauses ≤ rule_limit Preference
  pub rest : Ends atoms clauses nothing ts p names

-- what is no fault

pub apart : {p : Program} {names : List (List ℕ)} {r : Refusal} {k : ℕ} → refused r k ≡ accepted p names → ⊥
apart e = let z : ◌≡◌ {A = ℕ} 0 1 = cc in omega arith

pub no_fault : {r : Refusal} {st : State} → fault r ≡ next st → ⊥
no_fault e = let z : ◌≡◌ {A = ℕ} 0 1 = cc in omega arith

first_next : (b : Bool) (r : Refusal) (s : Step) (st : State) → first b r s ≡ next st → (b ≡ false) × (s ≡ next st)
first_next true r s st e = absurd (no_fault e)
first_next false r s st e = (refl, e)

step_next : (s : Step) (k : ℕ) (f : State → Said) (p : Program) (names : List (List ℕ)) → on_step s k f ≡ accepted p names → (st : State) × (s ≡ next st) × (f st ≡ accepted p names)
step_next (next st) k f p names e = (st, refl, e)
step_next (fault r) k f p names e = absurd (apart e)

-- tokens

tokens_app : (g : Gathered) (ts us : List Token) → with_tokens g (ts ++ us) ≡ with_tokens (with_tokens g ts) us
tokens_app g [] us = refl
tokens_app g (t ∷ ts) us = tokens_app (with_token g t) ts us

token_fits : (n : ℕ) (t : Token) → is_wrong t ≡ false → is_beyond n t ≡ false → Fits n t
token_fits n (literal l) w b = leb-false n (atom_of l) b
token_fits n ends w b = tt
token_fits n wrong w b = let z : ◌≡◌ {A = ℕ} 0 1 = cc in omega arith

tokens_fit : (n : ℕ) (ts : List Token) → some is_wrong ts ≡ false → some (is_beyond n) ts ≡ false → All (Fits n) ts
tokens_fit n [] w b = tt
tokens_fit n (t ∷ ts) w b =
    let v = neither (is_wrong t) (some is_wrong ts) w in
    let c = neither (is_beyond n t) (some (is_beyond n) ts) b in
    (token_fits n t v.0 c.0, tokens_fit n ts v.1 c.1)

-- lines

record Taken (n m : ℕ) (g : Gathered) (ts : List Token) (after : State) : Type 0 where
  fit : All (Fits n) ts
  few : occurrences_in (with_tokens g ts) ≤ occurrence_limit Preference
  after_is : after ≡ headed n m (with_tokens g ts)

clause_taken : (n m : ℕ) (g : Gathered) (ts : List Token) (st : State) → clause_line n m g ts ≡ next st → Taken n m g ts st
unfolding clause_line
clause_taken n m g ts st e =
    let a = first_next (some is_wrong ts) BrokenClauses _ st e in
    let b = first_next (ltb m (begun (with_tokens g ts))) BrokenClauses _ st a.1 in
    let c = first_next (some (is_beyond n) ts) LiteralBeyond _ st b.1 in
    let d = first_next (ltb (occurrence_limit Preference) (occurrences_in (with_tokens g ts))) Limit _ st c.1 in
    record {
      fit = tokens_fit n ts a.0 c.0;
      few = ltb-false (occurrence_limit Preference) (occurrences_in (with_tokens g ts)) d.0;
      after_is = let z : headed n m (with_tokens g ts) ≡ st = cc in sym z;
    }

-- a comment or a blank line leaves all as it was
abbrev Passed : List ℕ → State → State → Type 0
Passed l before after = (is_filled l ≡ false) × (after ≡ before)

module _ (st : State) (l : List ℕ) (after : State) (Q : Type 0) where
  line_taken : ((x : List ℕ) (xs : List (List ℕ)) → items l ≡ x ∷ xs → step_items st (x ∷ xs) ≡ next after → Q) → step_line st l ≡ next after → Passed l st after ⊎ ((is_filled l ≡ true) × Q)
  unfolding step_line
  line_taken f e = by_comment (is_comment l) refl (first_next (not (is_ended l)) BrokenClauses _ after e).1
    where
      by_items : (xs : List (List ℕ)) → items l ≡ xs → is_comment l ≡ false → step_items st xs ≡ next after → Passed l st after ⊎ ((is_filled l ≡ true) × Q)
      by_items [] q c i = inl (ap₂ (λ (b : Bool) (xs : List (List ℕ)). not b && not (is_empty xs)) c q, let z : st ≡ after = cc in sym z)
      by_items (x ∷ xs) q c i = inr (ap₂ (λ (b : Bool) (xs : List (List ℕ)). not b && not (is_empty xs)) c q, f x xs q i)

      by_comment : (b : Bool) → is_comment l ≡ b → cond b (next st) (step_items st (items l)) ≡ next after → Passed l st after ⊎ ((is_filled l ≡ true) × Q)
      by_comment true c i = inl (ap (λ (b : Bool). not b && not (is_empty (items l))) c, let z : st ≡ after = cc in sym z)
      by_comment false c i = by_items (items l) refl c i

module _ (n m : ℕ) (p : Program) (names : List (List ℕ)) where
  headed_line : (g : Gathered) (l : List ℕ) (after : State) → step_line (headed n m g) l ≡ next after → Passed l (headed n m g) after ⊎ ((is_filled l ≡ true) × Taken n m g (line_tokens l) after)
  headed_line g l after = line_taken (headed n m g) l after (Taken n m g (line_tokens l) after)
      (λ x xs q i. subst (λ (ys : List (List ℕ)). Taken n m g (map token_of ys) after) (sym q) (clause_taken n m g (map token_of (x ∷ xs)) after i))

  last_read : (k : ℕ) (g : Gathered) → occurrences_in g ≤ occurrence_limit Preference → at_end k (headed n m g) ≡ accepted p names → Ends n m g [] p names
  last_read k g few e = go (is_closed g) (eqb (length g.rules) m) refl e
    where
      go : (b c : Bool) → eqb (length g.rules) m ≡ c → ◌≡◌ {A = Said} (cond (b && c) (accepted (clause_program n g.rules) (clause_names n)) (refused BrokenClauses k)) (accepted p names) → Ends n m g [] p names
      go true true t i = record {
        fit = tt;
        few = few;
        count = eqb-true (length g.rules) m t;
        program_is = let z : clause_program n g.rules ≡ p = cc in sym z;
        names_are = let z : clause_names n ≡ names = cc in sym z;
      }
      go true false t i = absurd (apart i)
      go false c t i = absurd (apart i)

  more_read : (g : Gathered) (ts us : List Token) → All (Fits n) ts → Ends n m (with_tokens g ts) us p names → Ends n m g (ts ++ us) p names
  more_read g ts us f e =
      let q = sym (tokens_app g ts us) in
      record {
        fit = all_app (Fits n) ts us f e.fit;
        few = subst (λ (h : Gathered). occurrences_in h ≤ occurrence_limit Preference) q e.few;
        count = ap (λ (h : Gathered). length h.rules) (sym q) ∙ e.count;
        program_is = e.program_is ∙ ap (λ (h : Gathered). clause_program n h.rules) q;
        names_are = e.names_are;
      }

  headed_read : (ls : List (List ℕ)) (k : ℕ) (g : Gathered) → occurrences_in g ≤ occurrence_limit Preference → read_lines k (headed n m g) ls ≡ accepted p names → Ends n m g (flat line_tokens (filter is_filled ls)) p names
  unfolding read_lines
  headed_read [] k g few e = last_read k g few e
  headed_read (l ∷ ls) k g few e =
      let s = step_next (step_line (headed n m g) l) k (λ after. read_lines (suc k) after ls) p names e in
      go (λ h. headed_read ls (suc k) h) s.0 s.2 (headed_line g l s.0 s.1)
    where
      go : ((h : Gathered) → occurrences_in h ≤ occurrence_limit Preference → read_lines (suc k) (headed n m h) ls ≡ accepted p names → Ends n m h (flat line_tokens (filter is_filled ls)) p names)
          → (after : State) → read_lines (suc k) after ls ≡ accepted p names → Passed l (headed n m g) after ⊎ ((is_filled l ≡ true) × Taken n m g (line_tokens l) after)
          → Ends n m g (flat line_tokens (keep (is_filled l) l (filter is_filled ls))) p names
      go rest after r (inl q) = rw q.0 (rest g few (ap (λ (st : State). read_lines (suc k) st ls) (sym q.1) ∙ r))
      go rest after r (inr q) =
          let t = q.1 in
          rw q.0 (more_read g (line_tokens l) (flat line_tokens (filter is_filled ls)) t.fit (rest (with_tokens g (line_tokens l)) t.few (ap (λ (st : State). read_lines (suc k) st ls) (sym t.after_is) ∙ r)))

-- the header

pub record Begun (after : State) : Type 0 where
  pub atoms : ℕ
  pub clauses : ℕ
  pub atoms_fit : atoms ≤ atom_limit Preference
  pub clauses_fit : clauses ≤ rule_limit Preference
  pub after_is : after ≡ headed atoms clauses nothing

header_with_lem : (n m : ℕ) (after : State) → header_with n m ≡ next after → Begun after
header_with_lem n m after e =
    let a = first_next (ltb (atom_limit Preference) n || ltb (rule_limit Preference) m) Limit (next (headed n m nothing)) after e in
    let b = neither (ltb (atom_limit Preference) n) (ltb (rule_limit Preference) m) a.0 in
    let c : next (headed n m nothing) ≡ next after = a.1 in
    record {
      atoms = n;
      clauses = m;
      atoms_fit = ltb-false (atom_limit Preference) n b.0;
      clauses_fit = ltb-false (rule_limit Preference) m b.1;
      after_is = let z : headed n m nothing ≡ after = cc in sym z;
    }

pub header_begun : (xs : List (List ℕ)) (after : State) → header_line xs ≡ next after → Begun after
unfolding header_line
header_begun [] after e = absurd (no_fault e)
header_begun (p ∷ []) after e = absurd (no_fault e)
header_begun (p ∷ cnf ∷ []) after e = absurd (no_fault e)
header_begun (p ∷ cnf ∷ n ∷ []) after e = absurd (no_fault e)
header_begun (p ∷ cnf ∷ n ∷ m ∷ []) after e = header_with_lem (value n) (value m) after
    (first_next (not (same_bytes p (bytes "p") && (same_bytes cnf (bytes "cnf") && (is_numeral n && is_numeral m)))) BrokenClauses (header_with (value n) (value m)) after e).1
header_begun (p ∷ cnf ∷ n ∷ m ∷ x ∷ xs) after e = absurd (no_fault e)

unheaded_line : (l : List ℕ) (after : State) → step_line unheaded l ≡ next after → Passed l unheaded after ⊎ ((is_filled l ≡ true) × Begun after)
unheaded_line l after = line_taken unheaded l after (Begun after) (λ x xs q i. header_begun (x ∷ xs) after i)

module _ (p : Program) (names : List (List ℕ)) where
  pub lines_read : (ls : List (List ℕ)) (k : ℕ) → read_lines k unheaded ls ≡ accepted p names → Headed (flat line_tokens (drop 1 (filter is_filled ls))) p names
  unfolding read_lines
  lines_read [] k e = absurd (apart e)
  lines_read (l ∷ ls) k e =
      let s = step_next (step_line unheaded l) k (λ after. read_lines (suc k) after ls) p names e in
      go (lines_read ls (suc k)) s.0 s.2 (unheaded_line l s.0 s.1)
    where
      go : (read_lines (suc k) unheaded ls ≡ accepted p names → Headed (flat line_tokens (drop 1 (filter is_filled ls))) p names)
          → (after : State) → read_lines (suc k) after ls ≡ accepted p names → Passed l unheaded after ⊎ ((is_filled l ≡ true) × Begun after)
          → Headed (flat line_tokens (drop 1 (keep (is_filled l) l (filter is_filled ls)))) p names
      go rest after r (inl q) = rw q.0 (rest (ap (λ (st : State). read_lines (suc k) st ls) (sym q.1) ∙ r))
      go rest after r (inr q) =
          let b = q.1 in
          rw q.0 (record {
            atoms = b.atoms;
            clauses = b.clauses;
            atoms_fit = b.atoms_fit;
            clauses_fit = b.clauses_fit;
            rest = headed_read b.atoms b.clauses p names ls (suc k) nothing (omega arith) (ap (λ (st : State). read_lines (suc k) st ls) (sym b.after_is) ∙ r);
          })
