-- A class cut in two, on the smallest programs that show it.
use Prim.Native.Nat.{ℕ, zero, suc, ◌<◌}
use mathlib.Core.Path.{◌≡◌, refl}
use mathlib.Core.List.{List, [], ◌∷◌, map}
use mathlib.Core.Bool.{true, false}
use mathlib.Core.Logic.{inl, inr}
use native.Mathlib.Omega.{arith}
use lib.ListN.{get_or}
use Rattle.rules.specs.Lists.{All}
use Rattle.rules.specs.Rules.{Rule, rule}
use Rattle.rules.specs.Preferred.{is_preferred}
use Rattle.rules.specs.CutClass.{CutClass}
use Rattle.rules.specs.Renumbering.{Bijection, Within, NoneNewRenumbered}
use Rattle.rules.proofs.Renumbering.{words_renumbered, cut_renumbered}

-- a set may be lost: of `a or b`, both of class 1, {a} and {b} are preferred; with a before b, {b} alone
both_before : map (is_preferred (1 ∷ 1 ∷ []) (rule (0 ∷ 1 ∷ []) [] [] ∷ [])) (1 ∷ 2 ∷ []) ≡ true ∷ true ∷ []
both_before = refl

one_after : map (is_preferred (1 ∷ 2 ∷ []) (rule (0 ∷ 1 ∷ []) [] [] ∷ [])) (1 ∷ 2 ∷ []) ≡ false ∷ true ∷ []
one_after = refl

-- a file: `(min a b c)` cut into `(min b)` and `(min a c)`; b then has number 0, and a number 1

each_of_three : (P : ℕ → Type 0) → P 0 → P 1 → P 2 → (a : ℕ) → a < 3 → P a
each_of_three P x y z zero l = x
each_of_three P x y z (suc zero) l = y
each_of_three P x y z (suc (suc zero)) l = z
each_of_three P x y z (suc (suc (suc a))) l = absurd (omega arith)

abbrev before : List ℕ
before = 1 ∷ 1 ∷ 1 ∷ []

abbrev cut : List ℕ
cut = 2 ∷ 1 ∷ 2 ∷ []

abbrev after : List ℕ
after = 1 ∷ 2 ∷ 2 ∷ []

of_class_1 : (a : ℕ) → a < 3 → get_or before a 0 ≡ 1
of_class_1 = each_of_three (λ a. get_or before a 0 ≡ 1) refl refl refl

before_cut : CutClass 1 before cut
before_cut = record {
  is_class_holds = (omega arith, omega arith);
  size = refl;
  room = λ a l e. omega (arith, of_class_1 a l);
  before = λ a l u. absurd (omega (arith, of_class_1 a l));
  parts = each_of_three _ (λ e. inr refl) (λ e. inl refl) (λ e. inr refl);
  later = λ a l u k. absurd (omega (arith, of_class_1 a l));
  others = λ a l u. absurd (omega (arith, of_class_1 a l));
}

abbrev exchange : ℕ → ℕ
exchange zero = 1
exchange (suc zero) = 0
exchange (suc (suc a)) = suc (suc a)

exchanged : Bijection 3 exchange exchange
exchanged = record {
  there = each_of_three (λ a. exchange a < 3) (omega arith) (omega arith) (omega arith);
  back = each_of_three (λ a. exchange a < 3) (omega arith) (omega arith) (omega arith);
  there_back = each_of_three (λ a. exchange (exchange a) ≡ a) refl refl refl;
  back_there = each_of_three (λ a. exchange (exchange a) ≡ a) refl refl refl;
}

file_cut : (rs : List (Rule ℕ)) → All (Within (λ a. a < 3)) rs → NoneNewRenumbered exchange before after rs
file_cut = cut_renumbered 1 before cut after exchange exchange before_cut (words_renumbered exchange exchange cut exchanged)
