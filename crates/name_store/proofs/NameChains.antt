-- Finding a name along the chain of its hash, and entering one.
use Prim.Native.Nat.{ℕ, zero, suc, ◌+◌, ◌-◌, ◌≤◌, ◌<◌}
use native.Mathlib.Nat.{add-zero}
use native.Mathlib.Decide.{ℕ_discrete, dec_le}
use native.Mathlib.Omega.{arith}
use mathlib.Core.Path.{◌≡◌, refl, sym, ap, ap₂, ◌∙◌, subst}
use mathlib.Core.Logic.{◌≢◌, inl, inr}
use mathlib.Core.List.{List, [], ◌∷◌}
use mathlib.Core.Bool.{Bool, true, false, ◌||◌, cond}
use lib.Dec.{T, eqb}
use lib.ListN.{length, get_or}
use borrow.Author.Tests.{eqb-true, eqb-false}
use Rattle.rules.specs.Lists.{All, Distinct, some}
use Rattle.rules.proofs.Booleans.{T-or, is_true_lem, is_false}
use Rattle.rules.proofs.Lists.{all_at}
use Rattle.name_store.specs.NameStore.{decode_names, same_bytes}
use Rattle.name_store.specs.NameIndex.{found_from, found, name_hash, hashes, last_with, Indexed}
use Rattle.std.specs.Prelude.{Some, None}
use Rattle.name_store.proofs.NameStores.{same_law, same_equal}
use Rattle.name_store.proofs.ByteLoops.{hash_small}
use Rattle.name_store.proofs.NamePlaces.{length_decode}

-- the last number with a value

module _ (f : ℕ → ℕ) (h : ℕ) where
  last_below : (i : ℕ) → last_with f h i ≤ i
  unfolding last_with
  last_below zero = omega arith
  last_below (suc i) = go (eqb (f i) h) (last_below i)
    where
      go : (b : Bool) → last_with f h i ≤ i → cond b (suc i) (last_with f h i) ≤ suc i
      go true l = omega arith
      go false l = omega arith

  last_hit : (i j : ℕ) → last_with f h i ≡ suc j → f j ≡ h
  unfolding last_with
  last_hit zero j e = absurd (omega arith)
  last_hit (suc i) j e = go (eqb (f i) h) refl e (last_hit i j)
    where
      go : (b : Bool) → eqb (f i) h ≡ b → cond b (suc i) (last_with f h i) ≡ suc j → (last_with f h i ≡ suc j → f j ≡ h) → f j ≡ h
      go true t e r = let s : j ≡ i = omega arith in ap f s ∙ eqb-true (f i) h t
      go false t e r = r e

  last_miss : (i k : ℕ) → last_with f h i ≤ k → k < i → f k ≡ h → ⊥
  unfolding last_with
  last_miss zero k l u e = omega arith
  last_miss (suc i) k l u e = go (eqb (f i) h) refl l (λ (m : last_with f h i ≤ k) (v : k < i). last_miss i k m v e) (ℕ_discrete k i)
    where
      go : (b : Bool) → eqb (f i) h ≡ b → cond b (suc i) (last_with f h i) ≤ k → (last_with f h i ≤ k → k < i → ⊥) → Dec (k ≡ i) → ⊥
      go true t l r d = omega arith
      go false t l r (yes s) = eqb-false (f i) h t (sym (ap f s) ∙ e)
      go false t l r (no s) = r l (omega arith)

pub last_ext : (f g : ℕ → ℕ) (h i : ℕ) → ((j : ℕ) → j < i → f j ≡ g j) → last_with f h i ≡ last_with g h i
unfolding last_with
last_ext f g h zero e = refl
last_ext f g h (suc i) e = ap₂ (λ (a b : ℕ). cond (eqb a h) (suc i) b) (e i (omega arith)) (last_ext f g h i (λ j l. e j (omega arith)))

-- what `found` says

module _ (x : List ℕ) where
  skip : (i : ℕ) (y : List ℕ) (names : List (List ℕ)) → (y ≡ x → ⊥) → found_from i x (y ∷ names) ≡ found_from (suc i) x names
  unfolding found_from
  skip i y names h = ap (λ b. cond b (Some i) (found_from (suc i) x names)) (is_false (same_bytes y x) (λ t. h (same_equal y x t)))

  pub found_none : (i : ℕ) (names : List (List ℕ)) → ((k : ℕ) → k < length names → get_or names k [] ≡ x → ⊥) → found_from i x names ≡ None
  unfolding found_from
  found_none i [] h = refl
  found_none i (y ∷ names) h = skip i y names (h 0 (omega arith)) ∙ found_none (suc i) names (λ k l e. h (suc k) (omega arith) e)

  pub found_at : (i : ℕ) (names : List (List ℕ)) (j : ℕ) → Distinct names → j < length names → get_or names j [] ≡ x → found_from i x names ≡ Some (i + j)
  unfolding found_from
  found_at i [] j d l e = absurd (omega arith)
  found_at i (y ∷ names) zero d l e = ap (λ b. cond b (Some i) (found_from (suc i) x names)) (is_true_lem (same_bytes y x) ((same_law y x).1 e)) ∙ ap Some (sym (add-zero i))
  found_at i (y ∷ names) (suc j) d l e =
      let other : y ≢ get_or names j [] = all_at (λ z. y ≢ z) [] names d.0 j (omega arith) in
      let s : suc i + j ≡ i + suc j = omega arith in
      skip i y names (λ k. other (k ∙ sym e)) ∙ found_at (suc i) names j d.1 (omega arith) e ∙ ap Some s

  -- a found number bears the name
  pub found_name : (i : ℕ) (names : List (List ℕ)) {j : ℕ} → found_from i x names ≡ Some j → (k : ℕ) × (j ≡ i + k) × (k < length names) × (get_or names k [] ≡ x)
  unfolding found_from
  found_name i [] e = absurd (let z : ◌≡◌ {A = ℕ} 0 1 = cc in omega arith)
  found_name i (y ∷ names) {j} e = go (same_bytes y x) refl e (λ (q : found_from (suc i) x names ≡ Some j). found_name (suc i) names q)
    where
      go : (b : Bool) → same_bytes y x ≡ b → cond b (Some i) (found_from (suc i) x names) ≡ Some j
          → (found_from (suc i) x names ≡ Some j → (k : ℕ) × (j ≡ suc i + k) × (k < length names) × (get_or names k [] ≡ x))
          → (k : ℕ) × (j ≡ i + k) × (k < suc (length names)) × (get_or (y ∷ names) k [] ≡ x)
      go true t e r = let q : i ≡ j = cc in (0, omega arith, omega arith, same_equal y x (subst T (sym t) tt))
      go false t e r = let w = r e in (suc w.0, omega arith, omega arith, w.3)

  -- a missing name differs from each
  pub missing_differs : (i : ℕ) (names : List (List ℕ)) → found_from i x names ≡ None → All (λ y. x ≢ y) names
  unfolding found_from
  missing_differs i [] e = tt
  missing_differs i (y ∷ names) e = go (same_bytes y x) refl e (missing_differs (suc i) names)
    where
      go : (b : Bool) → same_bytes y x ≡ b → cond b (Some i) (found_from (suc i) x names) ≡ None → (found_from (suc i) x names ≡ None → All (λ z. x ≢ z) names) → (x ≢ y) × All (λ z. x ≢ z) names
      go true t e r = absurd (let z : ◌≡◌ {A = ℕ} 0 1 = cc in omega arith)
      go false t e r = (λ k. let z : ◌≡◌ {A = Bool} true false = sym (is_true_lem (same_bytes y x) ((same_law y x).1 (sym k))) ∙ t in let w : ◌≡◌ {A = ℕ} 0 1 = cc in omega arith, r e)

  -- a found name is among them
  pub found_among : (i : ℕ) (names : List (List ℕ)) {j : ℕ} → found_from i x names ≡ Some j → T (some (same_bytes x) names)
  unfolding found_from
  found_among i [] e = absurd (let z : ◌≡◌ {A = ℕ} 0 1 = cc in omega arith)
  found_among i (y ∷ names) {j} e = go (same_bytes y x) refl e (λ (k : found_from (suc i) x names ≡ Some j). found_among (suc i) names k)
    where
      go : (b : Bool) → same_bytes y x ≡ b → cond b (Some i) (found_from (suc i) x names) ≡ Some j → (found_from (suc i) x names ≡ Some j → T (some (same_bytes x) names)) → T (same_bytes x y || some (same_bytes x) names)
      go true t e r = T-or (same_bytes x y) (some (same_bytes x) names) (inl ((same_law x y).1 (sym (same_equal y x (subst T (sym t) tt)))))
      go false t e r = T-or (same_bytes x y) (some (same_bytes x) names) (inr (r e))

-- the walk along a chain: link is the links atom plus one

pub record Walk (names : List (List ℕ)) (x : List ℕ) (link : ℕ) : Type 0 where
  pub low : link ≤ length names
  pub hashed : (j : ℕ) → link ≡ suc j → hashes names j ≡ name_hash x
  pub above : (k : ℕ) → link ≤ k → k < length names → get_or names k [] ≡ x → ⊥

pub walk_ends : {names : List (List ℕ)} {x : List ℕ} {link : ℕ} → Walk names x link → link ≤ 0 → None ≡ found x names
walk_ends {names} {x} w l = sym (found_none x 0 names (λ k u e. w.above k (omega arith) u e))

module _ {names : List (List ℕ)} {bytes starts firsts links : List ℕ} (ix : Indexed names bytes starts firsts links) (x : List ℕ) where
  pub walk_begins : Walk names x (get_or firsts (name_hash x) 0)
  walk_begins =
      let e : get_or firsts (name_hash x) 0 ≡ last_with (hashes names) (name_hash x) (length names) = ix.first (name_hash x) (hash_small x) in
      record {
        low = omega (arith, last_below (hashes names) (name_hash x) (length names));
        hashed = λ j s. last_hit (hashes names) (name_hash x) (length names) j (sym e ∙ s);
        above = λ k l u s. last_miss (hashes names) (name_hash x) (length names) k (omega arith) u (ap name_hash s);
      }

  module _ {link : ℕ} (w : Walk names x link) (pos : 0 < link) where
    atom_low : link - 1 < length names
    atom_low = omega (arith, w.low)

    links_is : get_or links (link - 1) 0 ≡ last_with (hashes names) (name_hash x) (link - 1)
    links_is =
        let s : link ≡ suc (link - 1) = omega arith in
        ix.link (link - 1) atom_low ∙ ap (λ h. last_with (hashes names) h (link - 1)) (w.hashed (link - 1) s)

    pub walk_less : get_or links (link - 1) 0 < link
    walk_less = omega (arith, links_is, last_below (hashes names) (name_hash x) (link - 1))

    module _ {r : Bool} (is : r ≡ same_bytes (get_or names (link - 1) []) x) where
      pub walk_hit : r ≡ true → Some (link - 1) ≡ found x names
      walk_hit e =
          let here : get_or names (link - 1) [] ≡ x = same_equal (get_or names (link - 1) []) x (subst T (sym e ∙ is) tt) in
          let s : 0 + (link - 1) ≡ link - 1 = omega arith in
          ap Some (sym s) ∙ sym (found_at x 0 names (link - 1) ix.different atom_low here)

      pub walk_again : r ≡ false → Walk names x (get_or links (link - 1) 0)
      walk_again e = record {
        low = omega (arith, walk_less, w.low);
        hashed = λ j s. last_hit (hashes names) (name_hash x) (link - 1) j (sym links_is ∙ s);
        above = λ k l u s. go k l u s (ℕ_discrete k (link - 1));
      }
        where
          differs : get_or names (link - 1) [] ≡ x → ⊥
          differs s = subst T (sym is ∙ e) ((same_law (get_or names (link - 1) []) x).1 s)

          go : (k : ℕ) → get_or links (link - 1) 0 ≤ k → k < length names → get_or names k [] ≡ x → Dec (k ≡ link - 1) → ⊥
          go k l u s (yes d) = differs (ap (λ j. get_or names j []) (sym d) ∙ s)
          go k l u s (no d) = beyond (dec_le link k)
            where
              beyond : Dec (link ≤ k) → ⊥
              beyond (yes m) = w.above k m u s
              beyond (no m) = last_miss (hashes names) (name_hash x) (link - 1) k (omega (arith, links_is)) (omega arith) (ap name_hash s)

-- the same for the names that `starts` counts
pub record Search (bytes starts firsts links x : List ℕ) (link : ℕ) : Type 0 where
  pub index : Indexed (decode_names (length starts) bytes) bytes starts firsts links
  pub walk : Walk (decode_names (length starts) bytes) x link

pub search_begins : {bytes starts firsts links x : List ℕ} {h : ℕ} → Indexed (decode_names (length starts) bytes) bytes starts firsts links → h ≡ name_hash x
    → Search bytes starts firsts links x (get_or firsts h 0)
search_begins {bytes} {starts} {firsts} {links} {x} ix e = record {
  index = ix;
  walk = subst (λ k. Walk (decode_names (length starts) bytes) x (get_or firsts k 0)) (sym e) (walk_begins ix x);
}

module _ {bytes starts firsts links x : List ℕ} {link : ℕ} (s : Search bytes starts firsts links x link) where
  pub search_ends : link ≤ 0 → None ≡ found x (decode_names (length starts) bytes)
  search_ends l = walk_ends s.walk l

  module _ (pos : 0 < link) where
    pub search_inside : (link - 1 < length starts) × (link - 1 < length links)
    search_inside =
        let n = length_decode (length starts) bytes in
        let l = s.walk.low in
        let r = s.index.links_room in
        (omega arith, omega arith)

    pub search_less : get_or links (link - 1) 0 < link
    search_less = walk_less s.index x s.walk pos

    module _ {name : List ℕ} {r : Bool} (is_name : name ≡ get_or (decode_names (length starts) bytes) (link - 1) []) (is : r ≡ same_bytes name x) where
      same : r ≡ same_bytes (get_or (decode_names (length starts) bytes) (link - 1) []) x
      same = is ∙ ap (λ y. same_bytes y x) is_name

      pub search_hit : r ≡ true → Some (link - 1) ≡ found x (decode_names (length starts) bytes)
      search_hit e = walk_hit s.index x s.walk pos same e

      pub search_again : r ≡ false → Search bytes starts firsts links x (get_or links (link - 1) 0)
      search_again e = record { index = s.index; walk = walk_again s.index x s.walk pos same e }
