-- The lists of an index found by its counts.
use Prim.Native.Nat.{ℕ, zero, suc, ◌+◌, ◌-◌, ◌≤◌, ◌<◌}
use native.Mathlib.Numerals.{add-one}
use native.Mathlib.Decide.{ℕ_discrete}
use native.Mathlib.Omega.{arith}
use mathlib.Core.Path.{◌≡◌, refl, sym, ap, ◌∙◌}
use mathlib.Core.Bool.{Bool, true, false}
use mathlib.Core.List.{List}
use lib.Dec.{eqb}
use lib.ListN.{length, get_or, set, length-set}
use lib.Seq.{get_or-set_same, get_or-set_other}
use borrow.Author.Count.{below_more}
use borrow.Author.Tests.{ne_eqb, eqb-true}
use Rattle.rule_index.specs.Places.{list_at}
use Rattle.rule_index.proofs.ListPlaces.{list_next}
use Rattle.index_check.specs.Lists.{Lists}

-- a later list stands further on
pub lists_rise : (ws : List ℕ) (a n : ℕ) → a ≤ n → list_at ws a ≤ list_at ws n
lists_rise ws a zero l = let e : a ≡ 0 = omega arith in rw e (omega arith)
lists_rise ws a (suc n) l = step (lists_rise ws a n) (ℕ_discrete a (suc n))
  where
    step : (a ≤ n → list_at ws a ≤ list_at ws n) → Dec (a ≡ suc n) → list_at ws a ≤ list_at ws (suc n)
    step f (yes e) = rw e (omega arith)
    step f (no e) = omega (arith, f (omega arith), list_next ws n)

-- the words have no list a in full
pub lists_short : (ws : List ℕ) (a n : ℕ) → a < n → length ws < list_at ws (suc a) → false ≡ eqb (list_at ws n) (length ws)
lists_short ws a n l o = sym (ne_eqb (list_at ws n) (length ws) (λ e. omega (arith, lists_rise ws (suc a) n l)))

-- a table with one entry more
set_more : (xs : List ℕ) (a v : ℕ) (f : ℕ → ℕ) → a < length xs → ((b : ℕ) → b < a → get_or xs b 0 ≡ f b) → v ≡ f a → (b : ℕ) → b < a + 1 → get_or (set xs a v) b 0 ≡ f b
set_more xs a v f l h e =
    below_more (λ b. get_or (set xs a v) b 0 ≡ f b) a
    (λ b u. let n : b ≡ a → ⊥ = λ q. omega arith in get_or-set_other xs a b v 0 n ∙ h b u) (get_or-set_same xs a v 0 l ∙ e)

-- the lists of the first a atoms are found
pub record Finding (ws next₀ ends₀ next ends : List ℕ) (at a : ℕ) : Type 0 where
  pub room : length next₀ ≤ length ends₀
  pub next_long : length next ≡ length next₀
  pub ends_long : length ends ≡ length ends₀
  pub low : a ≤ length next₀
  pub place : at ≡ list_at ws a
  pub inside : at ≤ length ws
  pub begins : (b : ℕ) → b < a → get_or next b 0 ≡ suc (list_at ws b)
  pub ended : (b : ℕ) → b < a → get_or ends b 0 ≡ list_at ws (suc b)

pub find_begin : (ws : List ℕ) {next ends : List ℕ} → length next ≤ length ends → Finding ws next ends next ends 0 0
unfolding list_at
find_begin ws r = record {
  room = r;
  next_long = refl;
  ends_long = refl;
  low = omega arith;
  place = refl;
  inside = omega arith;
  begins = λ b l. absurd (omega arith);
  ended = λ b l. absurd (omega arith);
}

module _ {ws next₀ ends₀ next ends : List ℕ} {at a : ℕ} (h : Finding ws next₀ ends₀ next ends at a) where
  -- what is answered of the lists
  abbrev Answer : Bool → Type 0
  Answer r = (r ≡ eqb (list_at ws (length next₀)) (length ws)) × (r ≡ true → Lists ws next ends)

  short : a < length next₀ → length ws < list_at ws (suc a) → Answer false
  short l o = (lists_short ws a (length next₀) l o, λ e. absurd (let z : ◌≡◌ {A = ℕ} 0 1 = cc in omega arith))

  pub find_end : length next ≤ a → Answer (eqb at (length ws))
  find_end l =
      let e : a ≡ length next₀ = omega (arith, h.low, h.next_long) in
      let n : length next ≡ a = omega (arith, e, h.next_long) in (
        ap (λ (k : ℕ). eqb k (length ws)) (h.place ∙ ap (list_at ws) e),
        λ t. record {
          begin = λ b u. h.begins b (omega arith);
          end = λ b u. h.ended b (omega arith);
          whole = ap (list_at ws) n ∙ sym h.place ∙ eqb-true at (length ws) t;
        },
      )

  module _ (l : a < length next) where
    more : a < length next₀
    more = omega (arith, h.next_long)

    pub find_none : length ws ≤ at → Answer false
    find_none o = short more (omega (arith, list_next ws a, h.place))

    module _ (i : at < length ws) where
      count_there : list_at ws (suc a) ≡ at + 1 + get_or ws at 0
      count_there = list_next ws a ∙ ap (λ (k : ℕ). k + 1 + get_or ws k 0) (sym h.place)

      pub find_cut : length ws - (at + 1) < get_or ws at 0 → Answer false
      find_cut o = short more (omega (arith, count_there))

      pub find_again : get_or ws at 0 ≤ length ws - (at + 1) → Finding ws next₀ ends₀ (set next a (at + 1)) (set ends a (at + 1 + get_or ws at 0)) (at + 1 + get_or ws at 0) (a + 1)
      find_again o = record {
        room = h.room;
        next_long = length-set next a (at + 1) ∙ h.next_long;
        ends_long = length-set ends a (at + 1 + get_or ws at 0) ∙ h.ends_long;
        low = omega (arith, more);
        place = sym count_there ∙ ap (list_at ws) (sym (add-one a));
        inside = omega arith;
        begins = set_more next a (at + 1) (λ b. suc (list_at ws b)) l h.begins (omega (arith, h.place));
        ended = set_more ends a (at + 1 + get_or ws at 0) (λ b. list_at ws (suc b)) (omega (arith, h.room, h.ends_long, more)) h.ended (sym count_there);
      }
