-- The numbers of the rules that pass a test, from a rule on.
use Prim.Native.Nat.{ℕ, zero, suc, ◌+◌, ◌≤◌, ◌<◌}
use native.Mathlib.Omega.{arith}
use mathlib.Core.Path.{◌≡◌, ap, ◌∙◌}
use mathlib.Core.Bool.{Bool, false}
use mathlib.Core.List.{List, []}
use lib.ListN.{length, drop, drop_of_length-le}
use lib.Seq.{drop-cons}
use Rattle.rules.specs.Lists.{keep}
use Rattle.rules.specs.Rules.{Rule, rule}
use Rattle.rule_index.specs.Index.{numbers_of}
use Rattle.rule_index.specs.Meanings.{numbered}

module _ (t : ℕ → Rule ℕ → Bool) (rs : List (Rule ℕ)) where
  abbrev pub numbers_from : ℕ → List ℕ
  numbers_from m = numbers_of t m (drop m rs)

  pub numbers_step : (m : ℕ) → m < length rs → numbers_from m ≡ keep (t m (numbered rs m)) m (numbers_from (suc m))
  numbers_step m l = ap (numbers_of t m) (drop-cons rs m (rule [] [] []) l)

  pub numbers_end : (m : ℕ) → length rs ≤ m → numbers_from m ≡ []
  numbers_end m l = ap (numbers_of t m) (drop_of_length-le rs l)

  -- no rule between passes
  pub numbers_gap : (d b m : ℕ) → b + d ≡ m → m ≤ length rs → ((k : ℕ) → b ≤ k → k < m → t k (numbered rs k) ≡ false) → numbers_from b ≡ numbers_from m
  numbers_gap zero b m e l h = let q : b ≡ m = omega arith in ap numbers_from q
  numbers_gap (suc d) b m e l h =
      numbers_step b (omega arith) ∙ ap (λ (x : Bool). keep x b (numbers_from (suc b))) (h b (omega arith) (omega arith))
      ∙ numbers_gap d (suc b) m (omega arith) l (λ k u v. h k (omega arith) v)
