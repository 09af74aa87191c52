-- A line of clauses, one token after another.
use Prim.Native.Nat.{ℕ, suc, ◌≤◌, ◌<◌}
use native.Mathlib.Omega.{arith}
use mathlib.Core.Path.{◌≡◌, refl, sym, ap, ap₂, ◌∙◌}
use mathlib.Core.Bool.{Bool, true, false, cond, not, ◌&&◌, ◌||◌}
use mathlib.Core.List.{List, [], ◌∷◌, ◌++◌}
use lib.Dec.{ltb}
use lib.ListN.{length, length-append}
use borrow.Author.Tests.{lt-ltb, le-ltb}
use Rattle.kinds.specs.Limits.{occurrence_limit}
use Rattle.kinds.specs.declared.limits.Kind.TheVariants.{Preference}
use Rattle.kinds.specs.declared.refusals.Refusal.{Refusal}
use Rattle.kinds.specs.declared.refusals.Refusal.TheVariants.{BrokenClauses, LiteralBeyond, Limit}
use Rattle.rules.specs.Lists.{some, is_empty}
use Rattle.rules.specs.Rules.{rule}
use Rattle.rules.proofs.Booleans.{and-false}
use Rattle.restriction.specs.Atoms.{is_member}
use Rattle.gathering.proofs.HeldState.{sum_last}
use Rattle.clauses.specs.Literals.{Literal, positive, negative}
use Rattle.clauses.specs.Tokens.{Token, literal, ends, wrong, is_wrong, is_beyond}
use Rattle.clauses.specs.Gathered.{Gathered, once, with_literal, with_end, with_token, with_tokens, is_closed, begun, occurrences_in}
use Rattle.clauses.specs.Faults.{next, fault, headed, first, clause_line}
use Rattle.clause_reader.specs.Later.{begun_after, later_refusal}

-- a list with an atom once is not empty
once_filled : (xs : List ℕ) (a : ℕ) → is_empty (once xs a) ≡ false
once_filled [] a = refl
once_filled (x ∷ xs) a = go (is_member (x ∷ xs) a)
  where
    go : (b : Bool) → is_empty (cond b (x ∷ xs) ((x ∷ xs) ++ (a ∷ []))) ≡ false
    go true = refl
    go false = refl

pub literal_unended : (g : Gathered) (l : Literal) → is_closed (with_literal g l) ≡ false
literal_unended g (positive a) = ap (λ b. b && is_empty g.bodies) (once_filled g.heads a)
literal_unended g (negative a) = ap (λ b. is_empty g.heads && b) (once_filled g.bodies a) ∙ and-false (is_empty g.heads)

same_rules : (g : Gathered) (l : Literal) → length (with_literal g l).rules ≡ length g.rules
same_rules g (positive a) = refl
same_rules g (negative a) = refl

-- what has begun after a token
pub begun_literal : (g : Gathered) (l : Literal) → begun (with_literal g l) ≡ suc (length g.rules)
begun_literal g l = ap (λ b. cond b (length (with_literal g l).rules) (suc (length (with_literal g l).rules))) (literal_unended g l) ∙ ap suc (same_rules g l)

pub begun_end : (g : Gathered) → begun (with_end g) ≡ suc (length g.rules)
begun_end g = omega (arith, length-append g.rules (rule g.heads g.bodies [] ∷ []))

begun_cond : (b : Bool) (n : ℕ) → cond (not b) (cond b n (suc n)) (suc (cond b n (suc n))) ≡ suc n
begun_cond true n = refl
begun_cond false n = refl

-- the clauses begun, by their number alone
pub begun_after_lem : (g : Gathered) (ts : List Token) → begun (with_tokens g ts) ≡ begun_after (begun g) (not (is_closed g)) ts
begun_after_lem g [] = refl
begun_after_lem g (literal l ∷ ts) =
    begun_after_lem (with_literal g l) ts
    ∙ ap₂ (λ k b. begun_after k (not b) ts) (begun_literal g l ∙ sym (begun_cond (is_closed g) (length g.rules))) (literal_unended g l)
begun_after_lem g (ends ∷ ts) = begun_after_lem (with_end g) ts ∙ ap (λ k. begun_after k false ts) (begun_end g ∙ sym (begun_cond (is_closed g) (length g.rules)))
begun_after_lem g (wrong ∷ ts) = begun_after_lem g ts

cond_le : (b : Bool) (k : ℕ) → k ≤ cond b k (suc k)
cond_le true k = omega arith
cond_le false k = omega arith

-- more tokens never take one back
pub after_more : (k : ℕ) (u : Bool) (ts : List Token) → k ≤ begun_after k u ts
after_more k u [] = omega arith
after_more k u (literal l ∷ ts) = omega (arith, cond_le u k, after_more (cond u k (suc k)) true ts)
after_more k u (ends ∷ ts) = omega (arith, cond_le u k, after_more (cond u k (suc k)) false ts)
after_more k u (wrong ∷ ts) = after_more k u ts

begun_more : (g : Gathered) (ts : List Token) → begun g ≤ begun (with_tokens g ts)
begun_more g ts = omega (arith, begun_after_lem g ts, after_more (begun g) (not (is_closed g)) ts)

once_longer : (xs : List ℕ) (a : ℕ) → length xs ≤ length (once xs a)
once_longer xs a = go (is_member xs a)
  where
    go : (b : Bool) → length xs ≤ length (cond b xs (xs ++ (a ∷ [])))
    go true = omega arith
    go false = omega (arith, length-append xs (a ∷ []))

occurrences_token : (g : Gathered) (t : Token) → occurrences_in g ≤ occurrences_in (with_token g t)
occurrences_token g (literal (positive a)) = omega (arith, once_longer g.heads a)
occurrences_token g (literal (negative a)) = omega (arith, once_longer g.bodies a)
occurrences_token g ends = omega (arith, sum_last g.rules (rule g.heads g.bodies []))
occurrences_token g wrong = omega arith

occurrences_more : (g : Gathered) (ts : List Token) → occurrences_in g ≤ occurrences_in (with_tokens g ts)
occurrences_more g [] = omega arith
occurrences_more g (t ∷ ts) = omega (arith, occurrences_token g t, occurrences_more (with_token g t) ts)

-- the line from a token on

same_fault : (b : Bool) (r : Refusal) → first b r (fault r) ≡ fault r
same_fault true r = refl
same_fault false r = refl

-- 15 by either test, else what is left
either : (x y : Bool) (r : Refusal) → first x BrokenClauses (first y BrokenClauses (fault r)) ≡ fault (cond (x || y) BrokenClauses r)
either true y r = refl
either false true r = refl
either false false r = refl

beyond_first : (x : Bool) → first x LiteralBeyond (fault Limit) ≡ fault (cond x LiteralBeyond Limit)
beyond_first true = refl
beyond_first false = refl

module _ (n m : ℕ) (g : Gathered) (t : Token) (ts : List Token) where
  -- a token that is neither wrong nor beyond the header's atoms is passed
  pub token_passed : is_wrong t ≡ false → is_beyond n t ≡ false → clause_line n m g (t ∷ ts) ≡ clause_line n m (with_token g t) ts
  unfolding clause_line
  token_passed w b = rw (w, b)

  -- with it a clause begins that the header does not have
  pub token_surplus : m < begun (with_token g t) → clause_line n m g (t ∷ ts) ≡ fault BrokenClauses
  unfolding clause_line
  token_surplus l = rw (lt-ltb m (begun (with_tokens (with_token g t) ts)) (omega (arith, begun_more (with_token g t) ts))) (same_fault (some is_wrong (t ∷ ts)) BrokenClauses)

  -- where it is past a limit, the rest of the line decides
  module _ (w : is_wrong t ≡ false) (u : is_closed (with_token g t) ≡ false) where
    begun_rest : begun (with_tokens (with_token g t) ts) ≡ begun_after (begun (with_token g t)) true ts
    begun_rest = begun_after_lem (with_token g t) ts ∙ ap (λ c. begun_after (begun (with_token g t)) (not c) ts) u

    pub token_beyond : is_beyond n t ≡ true → clause_line n m g (t ∷ ts) ≡ fault (later_refusal n m (begun (with_token g t)) true true ts)
    unfolding clause_line later_refusal
    token_beyond b = rw (w, b, begun_rest) (either (some is_wrong ts) (ltb m (begun_after (begun (with_token g t)) true ts)) LiteralBeyond)

    pub token_full : is_beyond n t ≡ false → occurrence_limit Preference < occurrences_in (with_token g t) → clause_line n m g (t ∷ ts) ≡ fault (later_refusal n m (begun (with_token g t)) true false ts)
    unfolding clause_line later_refusal
    token_full b l =
        let full = lt-ltb (occurrence_limit Preference) (occurrences_in (with_tokens (with_token g t) ts)) (omega (arith, occurrences_more (with_token g t) ts)) in
        rw (w, b, begun_rest, full, beyond_first (some (is_beyond n) ts)) (either (some is_wrong ts) (ltb m (begun_after (begun (with_token g t)) true ts)) (cond (some (is_beyond n) ts) LiteralBeyond Limit))

pub line_wrong : (n m : ℕ) (g : Gathered) (ts : List Token) → some is_wrong ts ≡ true → clause_line n m g ts ≡ fault BrokenClauses
unfolding clause_line
line_wrong n m g ts e = rw e

-- the end of the line
pub line_passed : (n m : ℕ) (g : Gathered) → begun g ≤ m → occurrences_in g ≤ occurrence_limit Preference → clause_line n m g [] ≡ next (headed n m g)
unfolding clause_line
line_passed n m g b o = rw (le-ltb m (begun g) b, le-ltb (occurrence_limit Preference) (occurrences_in g) o)
