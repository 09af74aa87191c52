-- The names of one class word, and what rising class words make of them.
use Prim.Native.Nat.{ℕ, zero, suc, ◌≤◌, ◌<◌}
use native.Mathlib.Omega.{arith}
use native.Mathlib.Decide.{dec_le}
use mathlib.Core.Path.{◌≡◌, refl, sym, ap, ap₂, ◌∙◌, subst}
use mathlib.Core.Logic.{◌⊎◌, inl, inr, ◌≢◌}
use mathlib.Core.Bool.{Bool, true, false, ◌&&◌, cond}
use mathlib.Core.List.{List, [], ◌∷◌, ◌++◌, map, map-map, append-nil}
use lib.Dec.{T, leb, eqb, leb→le, eqb→eq}
use lib.ListN.{length, get_or, replicate, length-append, length-replicate}
use borrow.Author.Tests.{eq-eqb, ne_eqb, le-leb, lt-leb}
use Rattle.rules.specs.Lists.{All, Distinct, keep, filter, from}
use Rattle.rules.specs.Preferred.{of_class}
use Rattle.rules.proofs.Booleans.{T-and-l}
use Rattle.rules.proofs.Lists.{all_imp, all_keep, all_both}
use Rattle.rules.proofs.MappedLists.{map_keep, filter_map, from_suc}
use Rattle.kinds.specs.Limits.{class_limit, varying, fixed}
use Rattle.stores.specs.Program.{NeverFalling, RoleForm, role_of}
use Rattle.stores.specs.declared.roles.Role.{Role}
use Rattle.stores.specs.declared.roles.Role.TheVariants.{Minimised, Varying, Fixed, Unknown}
use Rattle.stores.proofs.ClassWord.{minimised}
use Rattle.text.specs.Text.{named}

-- the entries whose class words pass a test
abbrev pub chosen : {A : Type 0} → (ℕ → Bool) → List ℕ → List A → List A
chosen p [] xs = []
chosen p (w ∷ ws) [] = []
chosen p (w ∷ ws) (x ∷ xs) = keep (p w) x (chosen p ws xs)

abbrev pub is : ℕ → ℕ → Bool
is w v = eqb v w

abbrev pub up_to : ℕ → ℕ → Bool
up_to w v = leb v w

-- the atoms of a class, by their names

chosen_names : (p : ℕ → Bool) (ws : List ℕ) (names : List (List ℕ)) → length ws ≡ length names → named names (filter (λ a. p (get_or ws a 0)) (from 0 (length ws))) ≡ chosen p ws names
chosen_names p [] names e = refl
chosen_names p (w ∷ ws) [] e = absurd (omega arith)
chosen_names p (w ∷ ws) (x ∷ xs) e =
    let name : ℕ → List ℕ = λ a. get_or (x ∷ xs) a [] in
    let passes : ℕ → Bool = λ a. p (get_or (w ∷ ws) a 0) in
    let later = filter (λ a. p (get_or ws a 0)) (from 0 (length ws)) in
    map_keep name (p w) 0 (filter passes (from 1 (length ws)))
    ∙ ap (λ l. keep (p w) x (map name l)) (ap (filter passes) (from_suc 0 (length ws)) ∙ filter_map suc passes (from 0 (length ws)))
    ∙ ap (keep (p w) x) (map-map name suc later ∙ chosen_names p ws xs (omega arith))

-- the names of class word w
abbrev pub class_names : List ℕ → List (List ℕ) → ℕ → List (List ℕ)
class_names ws names w = named names (of_class ws w)

pub class_chosen : (ws : List ℕ) (names : List (List ℕ)) (w : ℕ) → length ws ≡ length names → class_names ws names w ≡ chosen (is w) ws names
class_chosen ws names w e = chosen_names (is w) ws names e

module _ {A : Type 0} where
  keep_app : (b : Bool) (x : A) (l m : List A) → keep b x (l ++ m) ≡ keep b x l ++ m
  keep_app true x l m = refl
  keep_app false x l m = refl

  kept : {b : Bool} (x : A) (l : List A) → b ≡ true → keep b x l ≡ x ∷ l
  kept x l e = ap (λ c. keep c x l) e

  left_out : {b : Bool} (x : A) (l : List A) → b ≡ false → keep b x l ≡ l
  left_out x l e = ap (λ c. keep c x l) e

  chosen_app : (p : ℕ → Bool) (ws vs : List ℕ) (xs ys : List A) → length ws ≡ length xs → chosen p (ws ++ vs) (xs ++ ys) ≡ chosen p ws xs ++ chosen p vs ys
  chosen_app p [] vs [] ys e = refl
  chosen_app p [] vs (x ∷ xs) ys e = absurd (omega arith)
  chosen_app p (w ∷ ws) vs [] ys e = absurd (omega arith)
  chosen_app p (w ∷ ws) vs (x ∷ xs) ys e =
      ap (keep (p w) x) (chosen_app p ws vs xs ys (omega arith)) ∙ keep_app (p w) x (chosen p ws xs) (chosen p vs ys)

  pub chosen_none : (p : ℕ → Bool) (ws : List ℕ) (xs : List A) → All (λ w. p w ≡ false) ws → chosen p ws xs ≡ []
  chosen_none p [] xs h = refl
  chosen_none p (w ∷ ws) [] h = refl
  chosen_none p (w ∷ ws) (x ∷ xs) h = left_out x (chosen p ws xs) h.0 ∙ chosen_none p ws xs h.1

  pub chosen_every : (p : ℕ → Bool) (ws : List ℕ) (xs : List A) → All (λ w. p w ≡ true) ws → length ws ≡ length xs → chosen p ws xs ≡ xs
  chosen_every p [] [] h e = refl
  chosen_every p [] (x ∷ xs) h e = absurd (omega arith)
  chosen_every p (w ∷ ws) [] h e = refl
  chosen_every p (w ∷ ws) (x ∷ xs) h e = kept x (chosen p ws xs) h.0 ∙ ap (λ l. x ∷ l) (chosen_every p ws xs h.1 (omega arith))

  pub all_chosen : (P : A → Type 0) (p : ℕ → Bool) (ws : List ℕ) (xs : List A) → All P xs → All P (chosen p ws xs)
  all_chosen P p [] xs h = tt
  all_chosen P p (w ∷ ws) [] h = tt
  all_chosen P p (w ∷ ws) (x ∷ xs) h = all_keep P (p w) x (chosen p ws xs) (λ t. h.0) (all_chosen P p ws xs h.1)

  pub distinct_chosen : (p : ℕ → Bool) (ws : List ℕ) (xs : List A) → Distinct xs → Distinct (chosen p ws xs)
  distinct_chosen p [] xs d = tt
  distinct_chosen p (w ∷ ws) [] d = tt
  distinct_chosen p (w ∷ ws) (x ∷ xs) d = go (p w) (all_chosen (λ y. x ≢ y) p ws xs d.0) (distinct_chosen p ws xs d.1)
    where
      go : (b : Bool) → All (λ y. x ≢ y) (chosen p ws xs) → Distinct (chosen p ws xs) → Distinct (keep b x (chosen p ws xs))
      go true n r = (n, r)
      go false n r = r

  pub length_chosen : (p : ℕ → Bool) (ws : List ℕ) (xs : List A) → length (chosen p ws xs) ≤ length xs
  length_chosen p [] xs = omega arith
  length_chosen p (w ∷ ws) [] = omega arith
  length_chosen p (w ∷ ws) (x ∷ xs) = go (p w) (length_chosen p ws xs)
    where
      go : (b : Bool) → length (chosen p ws xs) ≤ length xs → length (keep b x (chosen p ws xs)) ≤ suc (length xs)
      go true h = omega arith
      go false h = omega arith

pub all_replicate : (P : ℕ → Type 0) (c v : ℕ) → P v → All P (replicate c v)
all_replicate P zero v h = tt
all_replicate P (suc c) v h = (h, all_replicate P c v h)

-- the words of one class are all the same
pub chosen_words : {A : Type 0} (w : ℕ) (ws : List ℕ) (xs : List A) → length ws ≡ length xs → chosen (is w) ws ws ≡ replicate (length (chosen (is w) ws xs)) w
chosen_words w [] xs e = refl
chosen_words w (v ∷ ws) [] e = absurd (omega arith)
chosen_words w (v ∷ ws) (x ∷ xs) e = go (eqb v w) (eqb→eq v w) (chosen_words w ws xs (omega arith))
  where
    go : (b : Bool) → (T b → v ≡ w) → chosen (is w) ws ws ≡ replicate (length (chosen (is w) ws xs)) w → keep b v (chosen (is w) ws ws) ≡ replicate (length (keep b x (chosen (is w) ws xs))) w
    go true k r = ap₂ ◌∷◌ (k tt) r
    go false k r = r

-- one more line, its atoms of class word v

module _ (ws : List ℕ) (names : List (List ℕ)) (same : length ws ≡ length names) (v : ℕ) (xs : List (List ℕ)) where
  pub words_fit : length (ws ++ replicate (length xs) v) ≡ length (names ++ xs)
  words_fit = omega (arith, length-append ws (replicate (length xs) v), length-append names xs, length-replicate (length xs) v)

  split : (w : ℕ) → class_names (ws ++ replicate (length xs) v) (names ++ xs) w ≡ chosen (is w) ws names ++ chosen (is w) (replicate (length xs) v) xs
  split w =
      class_chosen (ws ++ replicate (length xs) v) (names ++ xs) w words_fit ∙ chosen_app (is w) ws (replicate (length xs) v) names xs same

  pub class_kept : (w : ℕ) → w ≢ v → class_names (ws ++ replicate (length xs) v) (names ++ xs) w ≡ class_names ws names w
  class_kept w n =
      let old = chosen (is w) ws names in
      let none = chosen_none (is w) (replicate (length xs) v) xs (all_replicate (λ u. is w u ≡ false) (length xs) v (ne_eqb v w (λ e. n (sym e)))) in
      split w ∙ ap (λ l. old ++ l) none ∙ append-nil old ∙ sym (class_chosen ws names w same)

  pub class_new : All (λ w. w ≢ v) ws → class_names (ws ++ replicate (length xs) v) (names ++ xs) v ≡ xs
  class_new h =
      let none = chosen_none (is v) ws names (all_imp (λ w. w ≢ v) (λ w. is v w ≡ false) (λ w n. ne_eqb w v n) ws h) in
      let all = chosen_every (is v) (replicate (length xs) v) xs (all_replicate (λ u. is v u ≡ true) (length xs) v (eq-eqb v v refl)) (length-replicate (length xs) v) in
      split v ∙ ap₂ ◌++◌ none all

pub rising_app : (b v c : ℕ) (ws : List ℕ) → NeverFalling b ws → All (λ w. w ≤ v) ws → b ≤ v → NeverFalling b (ws ++ replicate c v)
rising_app b v zero [] r h l = tt
rising_app b v (suc c) [] r h l = (l, rising_app v v c [] tt tt (omega arith))
rising_app b v c (w ∷ ws) r h l = (r.0, rising_app w v c ws r.1 h.1 h.0)

-- rising class words: the classes up to a, then class word b

rising_least : (b : ℕ) (ws : List ℕ) → NeverFalling b ws → All (λ w. b ≤ w) ws
rising_least b [] r = tt
rising_least b (w ∷ ws) r = (r.0, all_imp (λ v. w ≤ v) (λ v. b ≤ v) (λ v h. let l : b ≤ w = r.0 in omega arith) ws (rising_least w ws r.1))

chosen_same : {A : Type 0} (p q : ℕ → Bool) (ws : List ℕ) (xs : List A) → All (λ w. p w ≡ q w) ws → chosen p ws xs ≡ chosen q ws xs
chosen_same p q [] xs h = refl
chosen_same p q (w ∷ ws) [] h = refl
chosen_same p q (w ∷ ws) (x ∷ xs) h = ap₂ (λ b l. keep b x l) h.0 (chosen_same p q ws xs h.1)

-- no class word between a and b
abbrev pub Next : ℕ → ℕ → ℕ → Type 0
Next a b w = w ≤ b → (w ≤ a) ⊎ (w ≡ b)

module _ (a b : ℕ) (below : a < b) where
  after : (w : ℕ) → a < w → Next a b w → up_to b w ≡ is b w
  after w l h = go (dec_le w b)
    where
      found : w ≤ b → (w ≤ a) ⊎ (w ≡ b) → up_to b w ≡ is b w
      found k (inl e) = absurd (omega arith)
      found k (inr e) = le-leb w b k ∙ sym (eq-eqb w b e)

      go : Dec (w ≤ b) → up_to b w ≡ is b w
      go (yes k) = found k (h k)
      go (no k) = lt-leb w b (omega arith) ∙ sym (ne_eqb w b (λ e. k (omega arith)))

  pub chosen_next : {A : Type 0} (c : ℕ) (ws : List ℕ) (xs : List A) → NeverFalling c ws → All (Next a b) ws → chosen (up_to b) ws xs ≡ chosen (up_to a) ws xs ++ chosen (is b) ws xs
  chosen_next c [] xs r h = refl
  chosen_next c (w ∷ ws) [] r h = refl
  chosen_next {A} c (w ∷ ws) (x ∷ xs) r h = go (dec_le w a) (chosen_next w ws xs r.1 h.1)
    where
      go : Dec (w ≤ a)
          → chosen (up_to b) ws xs ≡ chosen (up_to a) ws xs ++ chosen (is b) ws xs
          → chosen (up_to b) (w ∷ ws) (x ∷ xs) ≡ chosen (up_to a) (w ∷ ws) (x ∷ xs) ++ chosen (is b) (w ∷ ws) (x ∷ xs)
      go (yes k) e =
          kept x (chosen (up_to b) ws xs) (le-leb w b (omega arith))
          ∙ ap (λ l. x ∷ l) e
          ∙ sym (ap₂ ◌++◌ (kept x (chosen (up_to a) ws xs) (le-leb w a k)) (left_out x (chosen (is b) ws xs) (ne_eqb w b (λ i. omega arith))))
      go (no k) e =
          let least : All (λ v. a < v) (w ∷ ws) = rising_least (suc a) (w ∷ ws) (omega arith, r.1) in
          chosen_same (up_to b) (is b) (w ∷ ws) (x ∷ xs) (all_imp (λ v. (a < v) × Next a b v) (λ v. up_to b v ≡ is b v) (λ v i. after v i.0 i.1) (w ∷ ws) (all_both (λ v. a < v) (Next a b) (w ∷ ws) least h))
          ∙ ap (λ l. l ++ chosen (is b) (w ∷ ws) (x ∷ xs)) (sym (chosen_none (up_to a) (w ∷ ws) (x ∷ xs) (all_imp (λ v. a < v) (λ v. up_to a v ≡ false) (λ v i. lt-leb v a i) (w ∷ ws) least)))

-- the class words of k classes

pub role_parts : (k w : ℕ) → RoleForm k (role_of w) → ((1 ≤ w) × (w ≤ k)) ⊎ ((w ≡ varying) ⊎ (w ≡ fixed))
unfolding role_of
role_parts k w h =
    go (leb 1 w && leb w 16) (eqb w 17) (eqb w 18) (λ t. leb→le 1 w (T-and-l (leb 1 w) (leb w 16) t)) (eqb→eq w 17) (eqb→eq w 18) h
  where
    go : (a b c : Bool) → (T a → 1 ≤ w) → (T b → w ≡ 17) → (T c → w ≡ 18) → RoleForm k (cond a (Minimised w) (cond b Varying (cond c Fixed Unknown))) → ((1 ≤ w) × (w ≤ k)) ⊎ ((w ≡ 17) ⊎ (w ≡ 18))
    go true b c f g i r = inl (f tt, r)
    go false true c f g i r = inr (inl (g tt))
    go false false true f g i r = inr (inr (i tt))
    go false false false f g i r = absurd r

pub role_more : (k j : ℕ) (r : Role) → k ≤ j → RoleForm k r → RoleForm j r
role_more k j (Minimised i) l h = omega arith
role_more k j Varying l h = tt
role_more k j Fixed l h = tt
role_more k j Unknown l h = h

pub role_new : (k : ℕ) → suc k ≤ class_limit → RoleForm (suc k) (role_of (suc k))
role_new k l = subst (RoleForm (suc k)) (minimised (suc k) (omega arith) l) (omega arith)
