-- The next state of a walk over sets in any order: the one of the least place from the start on.
use Prim.Native.Nat.{ℕ, zero, suc, ◌+◌, ◌-◌, ◌^◌, ◌≤◌, ◌<◌}
use mathlib.Core.Path.{◌≡◌, refl, sym, ap, ◌∙◌, subst}
use mathlib.Core.Logic.{◌↔◌}
use mathlib.Core.Bool.{true}
use mathlib.Core.List.{List, [], ◌∷◌, map}
use native.Mathlib.Omega.{arith}
use lib.Dec.{T}
use lib.ListN.{length, take, drop, length-map}
use Rattle.rules.specs.Lists.{All, from}
use Rattle.rules.specs.Rules.{Rule}
use Rattle.rules.specs.Preferred.{Preferred}
use Rattle.rules.specs.Renumbering.{Bijection}
use Rattle.rules.proofs.Lists.{from_all, map_all, map_from_at, length_from}
use Rattle.walks.specs.FullWalk.{next_by}
use Rattle.walks.specs.Meanings.{First}
use Rattle.walks.specs.declared.answers.Verdict.{Verdict}
use Rattle.walks.specs.declared.answers.Verdict.TheVariants.{Yes}
use Rattle.walks.specs.declared.answers.NextState.{NextState}
use Rattle.walks.specs.declared.answers.NextState.TheVariants.{State, Nothing}
use Rattle.walks.proofs.Searches.{Answered}
use Rattle.walks.proofs.FirstStates.{NextAnswered, first_answered, first_nothing, first_state_lem}
use Rattle.walks.proofs.Order.{sets_by, sets_from}

take_map : (f : ℕ → ℕ) (k : ℕ) (l : List ℕ) → take k (map f l) ≡ map f (take k l)
take_map f zero l = refl
take_map f (suc k) [] = refl
take_map f (suc k) (x ∷ l) = ap (λ (t : List ℕ). f x ∷ t) (take_map f k l)

take_from : (a c k : ℕ) → k ≤ c → take k (from a c) ≡ from a k
take_from a c zero h = refl
take_from a zero (suc k) h = absurd (omega arith)
take_from a (suc c) (suc k) h = ap (λ (l : List ℕ). a ∷ l) (take_from (suc a) c k (omega arith))

-- s has the least place, from a on, of the sets of n atoms that are P
pub record Foremost (P : ℕ → Type 0) (n : ℕ) (place : ℕ → ℕ) (a s : ℕ) : Type 0 where
  pub inside : s < 2 ^ n
  pub after : a ≤ place s
  pub here : P s
  pub foremost : (t : ℕ) → t < 2 ^ n → a ≤ place t → place t < place s → P t → ⊥

module _ (P : ℕ → Type 0) (n : ℕ) (at place : ℕ → ℕ) (b : Bijection (2 ^ n) at place) (a : ℕ) where
  abbrev later : List ℕ
  later = map at (from a (2 ^ n - a))

  abbrev None : ℕ → Type 0
  None x = P x → ⊥

  -- what holds of the entries holds of the sets whose places they are
  at_places : (c : ℕ) → All None (map at (from a c)) → (t : ℕ) → t < 2 ^ n → a ≤ place t → place t < a + c → None t
  at_places c h t l g u = subst None (b.back_there t l) (from_all (λ p. None (at p)) a c (map_all None at (from a c) h) (place t) g u)

  pub first_found_lem : (s k : ℕ) → First 0 P (drop a (sets_by n at place b)) s k → Foremost P n place a s
  first_found_lem s k f₀ =
      let f : First 0 P later s k = subst (λ (l : List ℕ). First 0 P l s k) (sets_from n at place b a) f₀ in
      let i : k < 2 ^ n - a = omega (arith, f.inside, length-map (from a (2 ^ n - a)) at, length_from a (2 ^ n - a)) in
      let e : s ≡ at (a + k) = sym f.place ∙ map_from_at at 0 a (2 ^ n - a) k i in
      let p : place s ≡ a + k = ap place e ∙ b.there_back (a + k) (omega arith) in
      let before = subst (All None) (take_map at k (from a (2 ^ n - a)) ∙ ap (map at) (take_from a (2 ^ n - a) k (omega arith))) f.earlier in
      record {
        inside = subst (λ (x : ℕ). x < 2 ^ n) (sym e) (b.there (a + k) (omega arith));
        after = omega arith;
        here = f.here;
        foremost = λ t l g u. at_places k before t l g (omega arith);
      }

  pub none_found : All None (drop a (sets_by n at place b)) → (t : ℕ) → t < 2 ^ n → a ≤ place t → None t
  none_found h t l g = at_places (2 ^ n - a) (subst (All None) (sets_from n at place b a) h) t l g (omega (arith, b.back t l))

-- the next state from each place on, whatever the budget: the foremost preferred set, or that there is none
pub record NextFound (ws : List ℕ) (rs : List (Rule ℕ)) (place : ℕ → ℕ) (needs : ℕ → NextState) : Type 0 where
  pub answered : (t : ℕ) → NextAnswered (needs t)
  pub found : (t s u : ℕ) → needs t ≡ State s u → Foremost (Preferred ws rs) (length ws) place t s
  pub none : (t u : ℕ) → needs t ≡ Nothing u → (s : ℕ) → s < 2 ^ length ws → t ≤ place s → Preferred ws rs s → ⊥

module _ (ws : List ℕ) (rs : List (Rule ℕ)) (at place : ℕ → ℕ) (b : Bijection (2 ^ length ws) at place)
    (verdict : ℕ → Verdict) (answered : (s : ℕ) → Answered (verdict s)) (says_yes : (s : ℕ) → ((u : ℕ) × (verdict s ≡ Yes u)) ↔ Preferred ws rs s) where
  abbrev sets : ℕ → List ℕ
  sets t = drop t (sets_by (length ws) at place b)

  -- every set is final
  law : (s : ℕ) → (T true × ((u : ℕ) × (verdict s ≡ Yes u))) ↔ Preferred ws rs s
  law s = (λ h. (says_yes s).0 h.1, λ p. (tt, (says_yes s).1 p))

  pub sets_found : NextFound ws rs place (λ t. next_by verdict (drop t (sets_by (length ws) at place b)))
  sets_found = record {
    answered = λ t. first_answered (λ s. s) 0 (λ s. true) verdict (Preferred ws rs) answered law (sets t) 0;
    found = λ t s u e.
        let f = (first_state_lem (λ s. s) 0 (λ s. true) verdict (Preferred ws rs) answered law (sets t) 0 s u).0 e in
        first_found_lem (Preferred ws rs) (length ws) at place b t s f.0 (subst (λ (x : ℕ). First 0 (Preferred ws rs) (sets t) x f.0) f.1.1 f.1.2);
    none = λ t u e. none_found (Preferred ws rs) (length ws) at place b t ((first_nothing (λ s. s) 0 (λ s. true) verdict (Preferred ws rs) answered law (sets t) 0 u).0 e).0;
  }
