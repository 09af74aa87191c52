-- The rules that a set breaks, and what a flip makes of a list of rules (document 02, W-209).
use Rattle.std.specs.Prelude.{ℕ, suc, ◌+◌, ◌-◌, ◌^◌, Bool, true, not, ◌&&◌, cond, List, [], ◌∷◌, leb, ltb}
use Rattle.rules.specs.Rules.{Rule, is_holding}
use Rattle.rules.specs.Sets.{has}
use Rattle.restriction.specs.Atoms.{is_member}
use Rattle.rule_index.specs.Index.{numbers_of, is_standing}

abbrev pub is_broken : ℕ → Rule ℕ → Bool
is_broken x r = not (is_holding (has x) r)

unfoldable pub broken_rules : List (Rule ℕ) → ℕ → List ℕ
broken_rules rs x = numbers_of (λ i r. is_broken x r) 0 rs

-- the set with atom a taken out or put in
unfoldable pub flipped : ℕ → ℕ → ℕ
flipped x a = cond (has x a) (x - 2 ^ a) (x + 2 ^ a)

-- "its rules that don't hold the atom, joined with those of the atom's rules that the flipped set breaks, in rising order"
unfoldable pub after_flip : List (Rule ℕ) → List ℕ → ℕ → ℕ → List ℕ
after_flip rs list x a = numbers_of (λ i r. cond (is_standing a r) (is_broken (flipped x a) r) (is_member list i)) 0 rs

-- rising numbers from b on, below r
unfoldable pub is_rising : ℕ → ℕ → List ℕ → Bool
is_rising b r [] = true
is_rising b r (i ∷ is) = leb b i && (ltb i r && is_rising (suc i) r is)
