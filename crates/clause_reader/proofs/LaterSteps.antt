-- The rest of a line behind a literal past a limit, one item after another.
use Prim.Native.Nat.{ℕ, suc, ◌≤◌, ◌<◌}
use native.Mathlib.Omega.{arith}
use mathlib.Core.Path.{◌≡◌, refl, sym, ap, ap₂, ◌∙◌, subst}
use mathlib.Core.Bool.{Bool, true, false, cond, ◌||◌}
use mathlib.Core.List.{List, [], ◌∷◌}
use lib.Dec.{ltb, leb}
use lib.ListN.{length, drop, drop_of_length-le}
use borrow.Author.Tests.{lt-ltb, le-ltb, le-leb, ltb-true, ltb-false, leb-true}
use Rattle.std.specs.Prelude.{Option, Some, None}
use Rattle.kinds.specs.Limits.{atom_limit}
use Rattle.kinds.specs.declared.limits.Kind.TheVariants.{Preference}
use Rattle.kinds.specs.declared.refusals.Refusal.TheVariants.{BrokenClauses, LiteralBeyond, Limit}
use Rattle.rules.specs.Lists.{some}
use Rattle.rules.proofs.Booleans.{or_assoc, or-true}
use Rattle.clauses.specs.Items.{items, items_from}
use Rattle.clauses.specs.Literals.{Literal, atom_of, signed}
use Rattle.clauses.specs.Tokens.{Token, literal, ends, is_wrong, is_beyond, line_tokens}
use Rattle.clause_items.specs.Found.{capped, item_at, TokenAt, ItemSays}
use Rattle.clause_items.specs.declared.items.Item.{Item}
use Rattle.clause_items.proofs.CappedLaws.{capped_over}
use Rattle.clause_items.proofs.ItemLaws.{item_says}
use Rattle.clause_reader.specs.declared.later.Pending.{Pending}
use Rattle.clause_reader.specs.declared.later.Later.{Later}
use Rattle.clause_reader.specs.Later.{begun_after, later_refusal, refusal_from, BegunSays, BegunIs, LaterSays, LaterIs}
use Rattle.clause_reader.proofs.TokenSteps.{after_more}

-- no token behind the last byte
pub none_left : (line : List ℕ) (at : ℕ) → length line ≤ at → line_tokens (drop at line) ≡ []
unfolding items items_from
none_left line at l = rw (drop_of_length-le line l)

module _ (n m k : ℕ) (u b : Bool) where
  later_ends : (ts : List Token) → later_refusal n m k u b (ends ∷ ts) ≡ later_refusal n m (cond u k (suc k)) false b ts
  unfolding later_refusal
  later_ends ts = refl

  later_literal : (l : Literal) (ts : List Token) → later_refusal n m k u b (literal l ∷ ts) ≡ later_refusal n m (cond u k (suc k)) true (b || leb n (atom_of l)) ts
  unfolding later_refusal
  later_literal l ts =
      ap (λ c. cond (some is_wrong ts || ltb m (begun_after (cond u k (suc k)) true ts)) BrokenClauses (cond c LiteralBeyond Limit)) (or_assoc b (leb n (atom_of l)) (some (is_beyond n) ts))

  later_wrong : (ts : List Token) → some is_wrong ts ≡ true → later_refusal n m k u b ts ≡ BrokenClauses
  unfolding later_refusal
  later_wrong ts e = rw e

  -- more clauses have begun than the header has
  later_surplus : (ts : List Token) → m < k → later_refusal n m k u b ts ≡ BrokenClauses
  unfolding later_refusal
  later_surplus ts l = rw (lt-ltb m (begun_after k u ts) (omega (arith, after_more k u ts)), or-true (some is_wrong ts))

  later_end : {ts : List Token} → ts ≡ [] → k ≤ m → later_refusal n m k u b ts ≡ cond b LiteralBeyond Limit
  unfolding later_refusal
  later_end e l = ap (later_refusal n m k u b) e ∙ go b
    where
      go : (c : Bool) → cond (ltb m k) BrokenClauses (cond (c || false) LiteralBeyond Limit) ≡ cond c LiteralBeyond Limit
      go true = rw (le-ltb m k l)
      go false = rw (le-ltb m k l)

-- what an item leaves
abbrev later : Pending → ℕ → Option Later
later p to = Some (record { pending = p; at = to })

module _ {m k : ℕ} {r : Option ℕ} (b : BegunIs m k r) where
  begun_is : {j : ℕ} → r ≡ Some j → BegunSays m k (Some j)
  begun_is e = subst (BegunSays m k) e b.says

  begun_none : r ≡ None → m < k
  begun_none e = subst (BegunSays m k) e b.says

pub atom_signed : (p : Bool) (a : ℕ) → atom_of (signed p a) ≡ a
atom_signed true a = refl
atom_signed false a = refl

-- a number beyond n is that of an atom beyond n
pub over_beyond : {n : ℕ} → n ≤ atom_limit Preference → (a : ℕ) → ltb n (capped (suc a)) ≡ leb n a
over_beyond {n} l a = go (ltb n (capped (suc a))) refl
  where
    go : (c : Bool) → ltb n (capped (suc a)) ≡ c → c ≡ leb n a
    go true e = let x = (capped_over (suc a) n (omega arith)).0 (ltb-true n (capped (suc a)) e) in sym (le-leb n a (omega arith))
    go false e = go₂ (leb n a) refl
      where
        go₂ : (d : Bool) → leb n a ≡ d → false ≡ d
        go₂ true f = absurd (let y = (capped_over (suc a) n (omega arith)).1 (omega (arith, leb-true n a f)) in omega (arith, ltb-false n (capped (suc a)) e))
        go₂ false f = refl

module _ (line : List ℕ) (at n m : ℕ) (p : Pending) (inside : at < length line) {item : Item} (found : item ≡ item_at at (drop at line)) where
  said : {i : Item} → item ≡ i → ItemSays line at i
  said e = subst (ItemSays line at) (sym found ∙ e) (item_says line at (omega arith))

  pub later_stop : item ≡ Item.Stop → p.begun ≤ m → {to : ℕ} → to ≡ length line → LaterIs line at n m p (later p to)
  later_stop e l {to} d = record { says = (ap (refusal_from n m p) (said e ∙ sym (none_left line to (omega arith))), omega arith, omega arith, l) }

  pub later_broken : item ≡ Item.Broken → LaterIs line at n m p None
  later_broken e = record { says = later_wrong n m p.begun p.unended p.beyond (line_tokens (drop at line)) (said e) }

  abbrev k : ℕ
  k = cond p.unended p.begun (suc p.begun)

  module _ {begun : Option ℕ} (b : BegunIs m k begun) where
    module _ {to : ℕ} (e : item ≡ Item.Ends to) where
      rest_ended : refusal_from n m p (line_tokens (drop at line)) ≡ later_refusal n m k false p.beyond (line_tokens (drop to line))
      rest_ended = ap (refusal_from n m p) (said e).tokens ∙ later_ends n m p.begun p.unended p.beyond (line_tokens (drop to line))

      pub later_ended : {j : ℕ} → begun ≡ Some j → LaterIs line at n m p (later (record { begun = j; unended = false; beyond = p.beyond }) to)
      later_ended d =
          let q = begun_is b d in
          record { says = (rest_ended ∙ ap (λ i. later_refusal n m i false p.beyond (line_tokens (drop to line))) (sym q.0), (said e).further, (said e).inside, q.1) }

      pub later_ended_surplus : begun ≡ None → LaterIs line at n m p None
      later_ended_surplus d = record { says = rest_ended ∙ later_surplus n m k false p.beyond (line_tokens (drop to line)) (begun_none b d) }

    module _ {positive : Bool} {number to : ℕ} (e : item ≡ Item.Literal positive number to) where
      rest_taken : (a : ℕ) → TokenAt line at (literal (signed positive a)) to → refusal_from n m p (line_tokens (drop at line)) ≡ later_refusal n m k true (p.beyond || leb n a) (line_tokens (drop to line))
      rest_taken a t =
          ap (refusal_from n m p) t.tokens
          ∙ later_literal n m p.begun p.unended p.beyond (signed positive a) (line_tokens (drop to line))
          ∙ ap (λ c. later_refusal n m k true (p.beyond || leb n c) (line_tokens (drop to line))) (atom_signed positive a)

      pub later_taken : n ≤ atom_limit Preference → {j : ℕ} → begun ≡ Some j → {c : Bool} → c ≡ (p.beyond || ltb n number) → LaterIs line at n m p (later (record { begun = j; unended = true; beyond = c }) to)
      later_taken f g {c} d =
          let t = said e in
          let q = begun_is b g in
          let same : (p.beyond || leb n t.0) ≡ c = ap (λ x. p.beyond || x) (sym (ap (ltb n) t.1 ∙ over_beyond f t.0)) ∙ sym d in
          record { says = (rest_taken t.0 t.2 ∙ ap₂ (λ i x. later_refusal n m i true x (line_tokens (drop to line))) (sym q.0) same, t.2.further, t.2.inside, q.1) }

      pub later_taken_surplus : begun ≡ None → LaterIs line at n m p None
      later_taken_surplus d = let t = said e in record { says = rest_taken t.0 t.2 ∙ later_surplus n m k true (p.beyond || leb n t.0) (line_tokens (drop to line)) (begun_none b d) }

-- the walk over the rest of the line
pub record Walked (line : List ℕ) (at n m : ℕ) (p : Pending) (place : ℕ) (q : Pending) : Type 0 where
  pub inside : place ≤ length line
  pub few : q.begun ≤ m
  pub left : refusal_from n m p (line_tokens (drop at line)) ≡ refusal_from n m q (line_tokens (drop place line))

module _ {line : List ℕ} {at n m : ℕ} {p : Pending} {place : ℕ} {q : Pending} (w : Walked line at n m p place q) where
  module _ {r : Option Later} (i : LaterIs line place n m q r) where
    pub walked_on : {s : Later} → r ≡ Some s → Walked line at n m p s.at s.pending × (place < s.at)
    walked_on {s} e = let t : LaterSays line place n m q (Some s) = subst (LaterSays line place n m q) e i.says in (record { inside = t.2; few = t.3; left = w.left ∙ t.0 }, t.1)

    pub walk_broken : r ≡ None → BrokenClauses ≡ refusal_from n m p (line_tokens (drop at line))
    walk_broken e = let t : LaterSays line place n m q None = subst (LaterSays line place n m q) e i.says in sym (w.left ∙ t)

  pub walk_ended : length line ≤ place → {b : Bool} → q.beyond ≡ b → cond b LiteralBeyond Limit ≡ refusal_from n m p (line_tokens (drop at line))
  walk_ended l e = sym (w.left ∙ later_end n m q.begun q.unended q.beyond (none_left line place l) w.few ∙ ap (λ b. cond b LiteralBeyond Limit) e)
