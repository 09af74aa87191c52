-- The names of atoms by number, one after another in a name store.
use Prim.Native.Nat.{ℕ, suc, ◌+◌, ◌-◌, ◌≤◌, ◌<◌}
use native.Mathlib.Numerals.{add-one}
use native.Mathlib.Omega.{arith}
use mathlib.Core.Path.{◌≡◌, sym, ap, ◌∙◌}
use mathlib.Core.List.{List, [], ◌++◌, map}
use Rattle.rules.specs.Lists.{from}
use Rattle.name_store.specs.NameStore.{name_bytes, encode_names}

module _ (name : ℕ → List ℕ) where
  -- those of the numbers from i on that are below n
  unfoldable pub numbered_names : ℕ → ℕ → List ℕ
  numbered_names i n = encode_names (map name (from i (n - i)))

  pub numbered_all : (s n : ℕ) → encode_names (map name (from s n)) ≡ numbered_names s (s + n)
  unfolding numbered_names
  numbered_all s n = let e : n ≡ s + n - s = omega arith in ap (λ k. encode_names (map name (from s k))) e

  pub numbered_next : (i n : ℕ) → i < n → numbered_names i n ≡ name_bytes (name i) ++ numbered_names (i + 1) n
  unfolding numbered_names encode_names
  numbered_next i n l =
      let e : n - i ≡ suc (n - (i + 1)) = omega arith in
      ap (λ k. encode_names (map name (from i k))) e ∙ ap (λ j. name_bytes (name i) ++ encode_names (map name (from j (n - (i + 1))))) (sym (add-one i))

  pub numbered_none : (i n : ℕ) → n ≤ i → numbered_names i n ≡ []
  unfolding numbered_names encode_names
  numbered_none i n l = let e : n - i ≡ 0 = omega arith in ap (λ k. encode_names (map name (from i k))) e
