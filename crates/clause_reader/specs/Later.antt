-- The refusal of a line of clauses that has a literal past a limit: 15, then 16, then 7.
use Rattle.std.specs.Prelude.{ℕ, suc, ◌≤◌, ◌<◌, ◌≡◌, Bool, true, false, cond, ◌||◌, List, [], ◌∷◌, ltb, length, drop, Option, Some, None}
use Rattle.kinds.specs.declared.refusals.Refusal.{Refusal}
use Rattle.kinds.specs.declared.refusals.Refusal.TheVariants.{BrokenClauses, LiteralBeyond, Limit}
use Rattle.rules.specs.Lists.{some}
use Rattle.clauses.specs.Tokens.{Token, literal, ends, wrong, is_wrong, is_beyond, line_tokens}
use Rattle.clause_reader.specs.declared.later.Pending.{Pending}
use Rattle.clause_reader.specs.declared.later.Later.{Later}

-- the clauses that have begun after more tokens, where k have and the last one is unended or not
abbrev pub begun_after : ℕ → Bool → List Token → ℕ
begun_after k unended [] = k
begun_after k unended (literal l ∷ ts) = begun_after (cond unended k (suc k)) true ts
begun_after k unended (ends ∷ ts) = begun_after (cond unended k (suc k)) false ts
begun_after k unended (wrong ∷ ts) = begun_after k unended ts

unfoldable pub later_refusal : ℕ → ℕ → ℕ → Bool → Bool → List Token → Refusal
later_refusal n m k unended beyond ts =
    cond (some is_wrong ts || ltb m (begun_after k unended ts)) BrokenClauses (cond (beyond || some (is_beyond n) ts) LiteralBeyond Limit)

abbrev pub refusal_from : ℕ → ℕ → Pending → List Token → Refusal
refusal_from n m p ts = later_refusal n m p.begun p.unended p.beyond ts

-- k clauses have begun, or one more than the header's m
abbrev pub BegunSays : ℕ → ℕ → Option ℕ → Type 0
BegunSays m k (Some j) = (j ≡ k) × (j ≤ m)
BegunSays m k None = m < k

pub record BegunIs (m k : ℕ) (r : Option ℕ) : Type 0 where
  pub says : BegunSays m k r

-- what an item leaves of the refusal of the tokens from `at` on
abbrev pub LaterSays : List ℕ → ℕ → ℕ → ℕ → Pending → Option Later → Type 0
LaterSays line at n m p (Some r) =
    (refusal_from n m p (line_tokens (drop at line)) ≡ refusal_from n m r.pending (line_tokens (drop r.at line))) × (at < r.at) × (r.at ≤ length line) × (r.pending.begun ≤ m)
LaterSays line at n m p None = refusal_from n m p (line_tokens (drop at line)) ≡ BrokenClauses

-- what one item leaves of the refusal
pub record LaterIs (line : List ℕ) (at n m : ℕ) (p : Pending) (r : Option Later) : Type 0 where
  pub says : LaterSays line at n m p r
