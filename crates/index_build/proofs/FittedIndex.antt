-- The answer for an index whose size the counts give.
use Prim.Native.Nat.{ℕ, zero, suc, ◌≤◌, ◌<◌}
use native.Mathlib.Omega.{arith}
use mathlib.Core.Path.{◌≡◌, refl, sym, ap, ap₂, ◌∙◌}
use mathlib.Core.Bool.{Bool, cond}
use mathlib.Core.List.{List, ◌++◌}
use lib.ListN.{length, get_or, take, drop, replicate, length-replicate}
use lib.Seq.{length-take-le}
use borrow.Author.Tests.{le-leb, lt-leb}
use Rattle.std.specs.Prelude.{Ok, Err}
use Rattle.kinds.specs.declared.refusals.Refusal.TheVariants.{Output}
use Rattle.rules.specs.Lists.{over, sum}
use Rattle.rules.specs.Rules.{Rule}
use Rattle.rule_index.specs.Index.{rules_with, index}
use Rattle.rule_index.specs.Answers.{fitted}
use Rattle.index_build.proofs.FilledLists.{index_size}

-- places for n atoms, none of them counted
pub unset_part : (n m a : ℕ) → get_or {A = ℕ} (take n (replicate m 0)) a 0 ≡ 0
unset_part zero m a = refl
unset_part (suc n) zero a = refl
unset_part (suc n) (suc m) zero = refl
unset_part (suc n) (suc m) (suc a) = unset_part n m a

pub part_length : (n m : ℕ) → n ≤ m → length {A = ℕ} (take n (replicate m 0)) ≡ n
part_length n m l = length-take-le n (replicate m 0) (omega (arith, length-replicate {A = ℕ} m 0))

module _ (n : ℕ) (rs : List (Rule ℕ)) (counts : List ℕ) (e : length counts ≡ n) (c : (a : ℕ) → get_or counts a 0 ≡ length (rules_with a rs)) where
  pub counted_size : sum suc counts ≡ length (index n rs)
  counted_size = index_size counts rs (λ a l. c a) ∙ ap (λ (k : ℕ). length (index k rs)) e

  module _ {size : ℕ} (s : size ≡ sum suc counts) where
    pub no_room : {room : ℕ} → room < size → Err Output ≡ fitted (index n rs) room
    no_room {room} l = ap (λ (b : Bool). cond b (Ok (length (index n rs))) (Err Output)) (sym (lt-leb (length (index n rs)) room (omega (arith, s, counted_size))))

    pub has_room : {room : ℕ} → size ≤ room → Ok size ≡ fitted (index n rs) room
    has_room {room} l = ap₂ (λ (k : ℕ) (b : Bool). cond b (Ok k) (Err Output)) (s ∙ counted_size) (sym (le-leb (length (index n rs)) room (omega (arith, s, counted_size))))

    pub written : (before : List ℕ) {ws : List ℕ} → ws ≡ index (length counts) rs → ws ++ drop size before ≡ over (index n rs) before
    written before w = ap₂ (λ (u : List ℕ) (k : ℕ). u ++ drop k before) (w ∙ ap (λ (k : ℕ). index k rs) e) (s ∙ counted_size)
