-- Preferred sets (document 01, "Verdicts"; document 001, Definition 3). Class word i says how atom i is taken: 1 to 16 its class, 17 varying, 18 fixed.
use Rattle.std.specs.Prelude.{ℕ, ◌^◌, ◌≤◌, ◌<◌, ◌≡◌, List, [], ◌∷◌, Bool, true, false, not, ◌&&◌, ◌||◌, eqb, length, get_or}
use Rattle.kinds.specs.Limits.{class_limit, fixed}
use Rattle.rules.specs.Lists.{every, filter, from}
use Rattle.rules.specs.Sets.{has, In, Out, Agree}
use Rattle.rules.specs.Rules.{Rule, Model, is_model}

-- atom a has class word w
abbrev pub OfClass : List ℕ → ℕ → ℕ → Type 0
OfClass ws w a = (a < length ws) × (get_or ws a 0 ≡ w)

-- s beats m: a model that agrees with m on the fixed atoms and on all classes before some class, while its part of that class is a proper subset of m's
pub record Beats (ws : List ℕ) (rs : List (Rule ℕ)) (s m : ℕ) : Type 0 where
  pub model : Model rs (has s)
  pub agrees : Agree (OfClass ws fixed) s m
  pub class : ℕ
  pub is_class_holds : (1 ≤ class) × (class ≤ class_limit)
  pub earlier : (j : ℕ) → 1 ≤ j → j < class → Agree (OfClass ws j) s m
  pub subset : (a : ℕ) → OfClass ws class a → In (has s) a → In (has m) a
  pub proper : (a : ℕ) × OfClass ws class a × In (has m) a × Out (has s) a

-- a model that nothing beats
pub record Preferred (ws : List ℕ) (rs : List (Rule ℕ)) (m : ℕ) : Type 0 where
  pub model : Model rs (has m)
  pub unbeaten : (s : ℕ) → s < 2 ^ length ws → Beats ws rs s m → ⊥

-- the tests
abbrev pub of_class : List ℕ → ℕ → List ℕ
of_class ws w = filter (λ a. eqb (get_or ws a 0) w) (from 0 (length ws))

abbrev pub is_same : Bool → Bool → Bool
is_same true b = b
is_same false b = not b

abbrev pub are_agreeing : List ℕ → ℕ → ℕ → Bool
are_agreeing xs s m = every (λ a. is_same (has s a) (has m a)) xs

abbrev pub is_within : List ℕ → ℕ → ℕ → Bool
is_within xs s m = every (λ a. not (has s a) || has m a) xs

-- at the first of the classes on which the two differ, s's part is within m's
abbrev pub is_sparing : List ℕ → List ℕ → ℕ → ℕ → Bool
is_sparing ws [] s m = false
is_sparing ws (c ∷ cs) s m = (is_within (of_class ws c) s m && not (are_agreeing (of_class ws c) s m)) || (are_agreeing (of_class ws c) s m && is_sparing ws cs s m)

abbrev pub is_beating : List ℕ → List (Rule ℕ) → ℕ → ℕ → Bool
is_beating ws rs s m = is_model rs (has s) && (are_agreeing (of_class ws fixed) s m && is_sparing ws (from 1 class_limit) s m)

abbrev pub is_preferred : List ℕ → List (Rule ℕ) → ℕ → Bool
is_preferred ws rs m = is_model rs (has m) && every (λ s. not (is_beating ws rs s m)) (from 0 (2 ^ length ws))
