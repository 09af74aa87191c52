-- A rule that closes a choice is broken in every set below it; a set that is not closed with all atoms decided is a model.
use Prim.Native.Nat.{ℕ, ◌%◌, ◌^◌, ◌<◌}
use mathlib.Core.Path.{◌≡◌, sym}
use mathlib.Core.Logic.{◌⊎◌, inl, inr}
use mathlib.Core.Bool.{Bool, false, not, ◌&&◌}
use mathlib.Core.List.{List, [], ◌∷◌}
use lib.Dec.{T, ltb, ltb→lt, lt→ltb}
use Rattle.rules.specs.Lists.{All, Any, every, some}
use Rattle.rules.specs.Sets.{has, In, Out}
use Rattle.rules.specs.Rules.{Rule, rule, reduct, is_holding, is_model}
use Rattle.rules.proofs.Booleans.{T_of, T_and, T-and-l, T-and-r, T-not-in, T-not-out, is_false}
use Rattle.rules.proofs.Lists.{all_keep, all_imp, all_any, all_zip, any_or_none}
use Rattle.rules.proofs.Rules.{all_in, any_in, all_out, holds_law}
use Rattle.rules.proofs.Sets.{cut_has, lt_pow}
use Rattle.choices.specs.Choices.{is_in, is_out, is_broken, is_closed, RuleBelow, RulesBelow}
use Rattle.choices.proofs.MoreAtoms.{Extends}
use Rattle.choices.proofs.Finals.{Sound}

-- the parts of a broken rule
pub record Parts (d x : ℕ) (r : Rule ℕ) : Type 0 where
  pub body : T (every (is_in d x) r.body)
  pub nots : T (every (is_out d x) r.nots)
  pub head : T (every (is_out d x) r.head)

pub parts : (d x : ℕ) (r : Rule ℕ) → T (is_broken d x r) → Parts d x r
parts d x r t =
    let rest = T-and-r (every (is_in d x) r.body) (every (is_out d x) r.nots && every (is_out d x) r.head) t in
    record {
      body = T-and-l (every (is_in d x) r.body) (every (is_out d x) r.nots && every (is_out d x) r.head) t;
      nots = T-and-l (every (is_out d x) r.nots) (every (is_out d x) r.head) rest;
      head = T-and-r (every (is_out d x) r.nots) (every (is_out d x) r.head) rest;
    }

pub whole : (d x : ℕ) (r : Rule ℕ) → Parts d x r → T (is_broken d x r)
whole d x r p = T_and (every (is_in d x) r.body) (every (is_out d x) r.nots && every (is_out d x) r.head) p.body (T_and (every (is_out d x) r.nots) (every (is_out d x) r.head) p.nots p.head)

module _ (n d x s : ℕ) (e : Extends n d x s) where
  ins_stay : (l : List ℕ) → T (every (is_in d x) l) → All (In (has s)) l
  ins_stay l t = all_imp (In (is_in d x)) (In (has s)) (λ a k. T_of (sym (e.same a (ltb→lt a d (T-and-l (ltb a d) (has x a) k)))) (T-and-r (ltb a d) (has x a) k)) l ((all_in (is_in d x) l).0 t)

  outs_stay : (l : List ℕ) → T (every (is_out d x) l) → All (Out (has s)) l
  outs_stay l t = all_imp (In (is_out d x)) (Out (has s)) (λ a k q. T-not-out (has x a) (T-and-r (ltb a d) (not (has x a)) k) (T_of (e.same a (ltb→lt a d (T-and-l (ltb a d) (not (has x a)) k))) q)) l ((all_in (is_out d x) l).0 t)

  broken_out : (r : Rule ℕ) → T (is_broken d x r) → T (is_holding (has s) r) → ⊥
  broken_out r t h =
      let p = parts d x r t in
      let q = all_any (Out (has s)) (In (has s)) r.head (outs_stay r.head p.head) ((holds_law (has s) r).0 h (ins_stay r.body p.body) (outs_stay r.nots p.nots)) in
      q.1 q.2

  pub closed_out : (rs : List (Rule ℕ)) → T (is_closed rs d x) → T (is_model rs (has s)) → ⊥
  unfolding is_closed
  closed_out rs t h = let q = all_any (In (is_holding (has s))) (In (is_broken d x)) rs ((all_in (is_holding (has s)) rs).0 h) ((any_in (is_broken d x) rs).0 t) in broken_out q.0 q.2 q.1

module _ (n s : ℕ) where
  ins_now : (l : List ℕ) → All (λ a. a < n) l → All (In (has s)) l → T (every (is_in n s) l)
  ins_now l w h = (all_in (is_in n s) l).1 (all_zip (λ a. a < n) (In (has s)) (In (is_in n s)) (λ a k t. T_and (ltb a n) (has s a) (lt→ltb a n k) t) l w h)

  outs_now : (l : List ℕ) → All (λ a. a < n) l → All (Out (has s)) l → T (every (is_out n s) l)
  outs_now l w h = (all_in (is_out n s) l).1 (all_zip (λ a. a < n) (Out (has s)) (In (is_out n s)) (λ a k o. T_and (ltb a n) (not (has s a)) (lt→ltb a n k) (T-not-in (has s a) o)) l w h)

  unbroken_in : (r : Rule ℕ) → RuleBelow n r → (T (is_broken n s r) → ⊥) → T (is_holding (has s) r)
  unbroken_in r w h = (holds_law (has s) r).1 (λ b o. step b o (any_or_none (has s) r.head))
    where
      step : All (In (has s)) r.body → All (Out (has s)) r.nots → Any (In (has s)) r.head ⊎ All (Out (has s)) r.head → Any (In (has s)) r.head
      step b o (inl k) = k
      step b o (inr k) = absurd (h (whole n s r (record { body = ins_now r.body w.0 b; nots = outs_now r.nots w.1 o; head = outs_now r.head w.2 k })))

  pub closed_in : (rs : List (Rule ℕ)) → RulesBelow n rs → (T (is_closed rs n s) → ⊥) → T (is_model rs (has s))
  unfolding is_closed
  closed_in rs w h = (all_in (is_holding (has s)) rs).1 (all_zip (RuleBelow n) (Out (is_broken n s)) (In (is_holding (has s))) unbroken_in rs w ((all_out (is_broken n s) rs).0 (T-not-in (some (is_broken n s) rs) h)))

-- so the rules close a walk soundly
pub rules_sound : (n : ℕ) (rs : List (Rule ℕ)) (may : ℕ → Bool → Bool) → RulesBelow n rs → Sound (record { closed = is_closed rs; may = may }) n (λ s. is_model rs (has s))
rules_sound n rs may w = record { closes = λ d x s t e. closed_out n d x s e rs t; leaves = λ s h o. closed_in n s rs w o }

-- the first atoms of a model are not closed
pub prefix_open : (rs : List (Rule ℕ)) (m : ℕ) → T (is_model rs (has m)) → (d : ℕ) → is_closed rs d (m % 2 ^ d) ≡ false
prefix_open rs m h d = is_false (is_closed rs d (m % 2 ^ d)) (λ t. closed_out m d (m % 2 ^ d) m (record { set = lt_pow m; same = λ a l. sym (cut_has m d a l) }) rs t h)

-- the reduct has no new atoms
pub reduct_below : (n : ℕ) (rs : List (Rule ℕ)) (m : ℕ → Bool) → RulesBelow n rs → RulesBelow n (reduct rs m)
reduct_below n [] m w = tt
reduct_below n (r ∷ rs) m w = all_keep (RuleBelow n) (not (some m r.nots)) (rule r.head r.body []) (reduct rs m) (λ t. (w.0.0, tt, w.0.2)) (reduct_below n rs m w.1)
