-- A number that was found, and bytes that are none.
use Prim.Native.Nat.{ℕ, ◌+◌}
use native.Mathlib.Omega.{arith}
use mathlib.Core.Path.{◌≡◌, refl, sym, ◌∙◌}
use mathlib.Core.List.{List}
use mathlib.Core.Bool.{Bool, true, false, cond}
use Rattle.names.specs.Numerals.{is_numeral, value}
use Rattle.clauses.specs.Items.{run}
use Rattle.clause_items.specs.Found.{capped, front, found, number_at}
use Rattle.clause_items.specs.declared.numbers.Number.{Number}
use Rattle.std.specs.Prelude.{Option, Some, None}

-- the bytes before the first separator are a number, which says v and ends before `to`
pub record NumberAt (s : List ℕ) (at v to : ℕ) : Type 0 where
  pub numeral : is_numeral (front s) ≡ true
  pub says : v ≡ capped (value (front s))
  pub place : to ≡ at + run s

module _ (s : List ℕ) (at : ℕ) {r : Option Number} (e : r ≡ number_at at s) where
  pub number_is : {k : Number} → r ≡ Some k → NumberAt s at k.value k.to
  unfolding number_at
  number_is {k} q = go (is_numeral (front s)) refl (sym e ∙ q)
    where
      go : (b : Bool) → is_numeral (front s) ≡ b → cond b (found (capped (value (front s))) (at + run s)) None ≡ Some k → NumberAt s at k.value k.to
      go true n p = record { numeral = n; says = cc; place = cc }
      go false n p = absurd (let z : ◌≡◌ {A = ℕ} 0 1 = cc in omega arith)

  pub number_not : r ≡ None → is_numeral (front s) ≡ false
  unfolding number_at
  number_not q = go (is_numeral (front s)) refl (sym e ∙ q)
    where
      go : (b : Bool) → is_numeral (front s) ≡ b → cond b (found (capped (value (front s))) (at + run s)) None ≡ None → is_numeral (front s) ≡ false
      go true n p = absurd (let z : ◌≡◌ {A = ℕ} 0 1 = cc in omega arith)
      go false n p = n
