-- Renumbering the atoms, class words and rules alike, keeps the preferred sets, both ways.
use Prim.Native.Nat.{ℕ, ◌^◌, ◌≤◌, ◌<◌}
use mathlib.Core.Path.{◌≡◌, refl, sym, ap, ap₂, subst, ◌∙◌}
use mathlib.Core.List.{List, [], ◌∷◌, map, map-map}
use mathlib.Core.Bool.{Bool, not, ◌&&◌, ◌||◌}
use mathlib.Core.Logic.{◌⊎◌, inl, inr, ◌↔◌}
use native.Mathlib.Omega.{arith}
use lib.ListN.{length, get_or, length-map}
use Rattle.kinds.specs.Limits.{class_limit, fixed}
use Rattle.rules.specs.Lists.{All, every, some, from}
use Rattle.rules.specs.Sets.{has, In, Out, Agree}
use Rattle.rules.specs.Rules.{Rule, rule, Model, is_holding, is_model, first_broken, count_if, rename}
use Rattle.rules.specs.Preferred.{OfClass, Beats, Preferred}
use Rattle.rules.specs.CutClass.{CutClass}
use Rattle.rules.specs.Renumbering.{Bijection, Renumbered, renumber_words, Within, SameAtoms, SamePreferred, NoneNewRenumbered}
use Rattle.rules.proofs.Booleans.{T_of}
use Rattle.rules.proofs.Lists.{all_imp, length_from, map_from_at}
use Rattle.rules.proofs.ListLaws.{map_same, map_eq, map_itself}
use Rattle.rules.proofs.MappedLists.{every_map, some_map}
use Rattle.rules.proofs.Rules.{model_law}
use Rattle.rules.proofs.Sets.{same_set, set_of_lem}
use Rattle.rules.proofs.CutClass.{cut_none_new}

pub words_renumbered : (f g : ℕ → ℕ) (ws : List ℕ) → Bijection (length ws) f g → Renumbered f g ws (renumber_words g ws)
words_renumbered f g ws k = record {
  size = length-map (from 0 (length ws)) (λ a. get_or ws (g a) 0) ∙ length_from 0 (length ws);
  bijection = k;
  words = λ a l. map_from_at (λ b. get_or ws (g b) 0) 0 0 (length ws) (f a) (k.there a l) ∙ ap (λ (b : ℕ). get_or ws b 0) (ap g (omega arith) ∙ k.there_back a l);
}

-- rules

pub within_imp : {A : Type 0} (P Q : A → Type 0) → ((a : A) → P a → Q a) → (rs : List (Rule A)) → All (Within P) rs → All (Within Q) rs
within_imp P Q f = all_imp (Within P) (Within Q) (λ r w. record { head = all_imp P Q f r.head w.head; body = all_imp P Q f r.body w.body; nots = all_imp P Q f r.nots w.nots })

pub rename_same : {A B : Type 0} (f g : A → B) (rs : List (Rule A)) → All (Within (λ a. f a ≡ g a)) rs → map (rename f) rs ≡ map (rename g) rs
rename_same f g rs h = map_same (rename f) (rename g) rs
    (all_imp (Within (λ a. f a ≡ g a)) _ (λ r w i. rule (map_same f g r.head w.head i) (map_same f g r.body w.body i) (map_same f g r.nots w.nots i)) rs h)

pub rename_itself : (f : ℕ → ℕ) (rs : List (Rule ℕ)) → All (Within (λ a. f a ≡ a)) rs → map (rename f) rs ≡ rs
rename_itself f rs h = map_itself (rename f) rs
    (all_imp (Within (λ a. f a ≡ a)) _ (λ r w i. rule (map_itself f r.head w.head i) (map_itself f r.body w.body i) (map_itself f r.nots w.nots i)) rs h)

pub rename_again : {A B C : Type 0} (g : B → C) (f : A → B) (rs : List (Rule A)) → map (rename g) (map (rename f) rs) ≡ map (rename (λ c. g (f c))) rs
rename_again g f rs = map-map (rename g) (rename f) rs ∙ map_eq (λ r. rename g (rename f r)) (rename (λ c. g (f c))) (λ r i. rule (map-map g f r.head i) (map-map g f r.body i) (map-map g f r.nots i)) rs

-- s' has, by their new numbers, the atoms that are Q as s has them
module _ (f : ℕ → ℕ) (Q : ℕ → Type 0) (s s' : ℕ) (same : (a : ℕ) → Q a → has s' (f a) ≡ has s a) where
  every_moved : (xs : List ℕ) → All Q xs → every (has s') (map f xs) ≡ every (has s) xs
  every_moved xs h = every_map f (has s') (has s) xs (all_imp Q _ same xs h)

  some_moved : (xs : List ℕ) → All Q xs → some (has s') (map f xs) ≡ some (has s) xs
  some_moved xs h = some_map f (has s') (has s) xs (all_imp Q _ same xs h)

  holds_moved : (r : Rule ℕ) → Within Q r → is_holding (has s') (rename f r) ≡ is_holding (has s) r
  holds_moved r h = ap₂ (λ (x y : Bool). not x || y) (ap₂ (λ (x y : Bool). x && not y) (every_moved r.body h.body) (some_moved r.nots h.nots)) (some_moved r.head h.head)

  model_moved : (rs : List (Rule ℕ)) → All (Within Q) rs → is_model (map (rename f) rs) (has s') ≡ is_model rs (has s)
  model_moved rs h = every_map (rename f) (is_holding (has s')) (is_holding (has s)) rs (all_imp (Within Q) _ holds_moved rs h)

  pub first_moved : (rs : List (Rule ℕ)) → All (Within Q) rs → first_broken (map (rename f) rs) (has s') ≡ first_broken rs (has s)
  first_moved [] h = refl
  first_moved (r ∷ rs) h = ap₂ count_if (holds_moved r h.0) (first_moved rs h.1)

  pub model_renumbered : (rs : List (Rule ℕ)) → All (Within Q) rs → Model rs (has s) ↔ Model (map (rename f) rs) (has s')
  model_renumbered rs h = (
    λ m. (model_law (map (rename f) rs) (has s')).0 (T_of (sym (model_moved rs h)) ((model_law rs (has s)).1 m)),
    λ m. (model_law rs (has s)).0 (T_of (model_moved rs h) ((model_law (map (rename f) rs) (has s')).1 m)),
  )

-- sets

-- s' beats m' over ws' as s beats m over ws
module _ (ws ws' : List ℕ) (s m s' m' : ℕ) where
  -- s' and m' have atom i as s and m have an atom of the same class word, or both alike
  abbrev pub Like : ℕ → ℕ → Type 0
  Like j i = ((a : ℕ) × OfClass ws j a × (has s' i ≡ has s a) × (has m' i ≡ has m a)) ⊎ (has s' i ≡ has m' i)

  module _ (rs rs' : List (Rule ℕ)) (like : (j i : ℕ) → OfClass ws' j i → Like j i) where
    agree : (j : ℕ) → Agree (OfClass ws j) s m → Agree (OfClass ws' j) s' m'
    agree j h i c = step (like j i c)
      where
        step : Like j i → In (has s') i ↔ In (has m') i
        step (inl q) =
            let k = h q.0 q.1 in
            (λ t. T_of (sym q.3) (k.0 (T_of q.2 t)), λ t. T_of (sym q.2) (k.1 (T_of q.3 t)))
        step (inr e) = (T_of e, T_of (sym e))

    part : (j : ℕ) → ((a : ℕ) → OfClass ws j a → In (has s) a → In (has m) a) → (i : ℕ) → OfClass ws' j i → In (has s') i → In (has m') i
    part j h i c t = step (like j i c)
      where
        step : Like j i → In (has m') i
        step (inl q) = T_of (sym q.3) (h q.0 q.1 (T_of q.2 t))
        step (inr e) = T_of e t

    pub beats_moved : ((j a : ℕ) → 1 ≤ j → j ≤ class_limit → OfClass ws j a → In (has m) a → Out (has s) a → (i : ℕ) × OfClass ws' j i × In (has m') i × Out (has s') i)
        → Model rs' (has s') → Beats ws rs s m → Beats ws' rs' s' m'
    beats_moved lacks model b =
        let q = b.proper in
        record {
          model = model;
          agrees = agree fixed b.agrees;
          class = b.class;
          is_class_holds = b.is_class_holds;
          earlier = λ j l u. agree j (b.earlier j l u);
          subset = part b.class b.subset;
          proper = lacks b.class q.0 b.is_class_holds.0 b.is_class_holds.1 q.1 q.2 q.3;
        }

module _ (f g : ℕ → ℕ) (ws ws' : List ℕ) (k : Renumbered f g ws ws') where
  abbrev n : ℕ
  n = length ws

  inside : (a : ℕ) → a < length ws' → a < n
  inside a l = omega (arith, k.size)

  outside : (a : ℕ) → a < n → a < length ws'
  outside a l = omega (arith, k.size)

  -- and back again
  turned : Renumbered g f ws' ws
  turned = record {
    size = sym k.size;
    bijection = record {
      there = λ a l. outside (g a) (k.bijection.back a (inside a l));
      back = λ a l. outside (f a) (k.bijection.there a (inside a l));
      there_back = λ a l. k.bijection.back_there a (inside a l);
      back_there = λ a l. k.bijection.there_back a (inside a l);
    };
    words = λ a l. sym (k.words (g a) (k.bijection.back a (inside a l))) ∙ ap (λ (b : ℕ). get_or ws' b 0) (k.bijection.back_there a (inside a l));
  }

  atoms_turned : (m m' : ℕ) → SameAtoms f n m m' → SameAtoms g (length ws') m' m
  atoms_turned m m' same a l = sym (same (g a) (k.bijection.back a (inside a l))) ∙ ap (has m') (k.bijection.back_there a (inside a l))

  -- each set has its renumbered one, and no other
  pub moved : (m : ℕ) → (m' : ℕ) × (m' < 2 ^ n) × SameAtoms f n m m'
  moved m =
      let x = set_of_lem n (λ a. has m (g a)) in
      (x.0, x.1, λ a l. x.2 (f a) (k.bijection.there a l) ∙ ap (has m) (k.bijection.there_back a l))

  pub moved_one : (m x y : ℕ) → x < 2 ^ n → y < 2 ^ n → SameAtoms f n m x → SameAtoms f n m y → x ≡ y
  moved_one m x y lx ly h i = same_set n x y lx ly (λ a l. sym (atoms_turned m x h a (outside a l)) ∙ atoms_turned m y i a (outside a l))

  of_class_lem : (j a : ℕ) → OfClass ws' j a → OfClass ws j (g a)
  of_class_lem j a c = (k.bijection.back a (inside a c.0), turned.words a c.0 ∙ c.1)

  module _ (s s' m m' : ℕ) (same_s : SameAtoms f n s s') (same-m : SameAtoms f n m m') where
    beats_renumbered : (rs rs' : List (Rule ℕ)) → Model rs' (has s') → Beats ws rs s m → Beats ws' rs' s' m'
    beats_renumbered rs rs' = beats_moved ws ws' s m s' m' rs rs'
        (λ j a c. inl (g a, of_class_lem j a c, sym (atoms_turned s s' same_s a c.0), sym (atoms_turned m m' same-m a c.0)))
        (λ j a l u c h o. (
          f a,
          (outside (f a) (k.bijection.there a c.0), k.words a c.0 ∙ c.1),
          T_of (sym (same-m a c.0)) h,
          λ t. o (T_of (same_s a c.0) t),
        ))

-- one way, for any rules that have the same models
module _ (f g : ℕ → ℕ) (ws ws' : List ℕ) (k : Renumbered f g ws ws') (rs rs' : List (Rule ℕ)) where
  preferred_moved : ((s s' : ℕ) → SameAtoms f (length ws) s s' → Model rs (has s) ↔ Model rs' (has s')) → (m m' : ℕ) → SameAtoms f (length ws) m m' → Preferred ws rs m → Preferred ws' rs' m'
  preferred_moved models m m' same h = record {
    model = (models m m' same).0 h.model;
    unbeaten = λ s' l b.
        let back = turned f g ws ws' k in
        let x = moved g f ws' ws back s' in
        let same_s = atoms_turned g f ws' ws back s' x.0 x.2 in
        h.unbeaten x.0 (subst (λ (c : ℕ). x.0 < 2 ^ c) k.size x.1)
        (beats_renumbered g f ws' ws back s' x.0 m' m x.2 (atoms_turned f g ws ws' k m m' same) rs' rs ((models x.0 s' same_s).1 b.model) b);
  }

module _ (f g : ℕ → ℕ) (ws ws' : List ℕ) (k : Renumbered f g ws ws') (rs : List (Rule ℕ)) (below : All (Within (λ a. a < length ws)) rs) where
  pub preferred_renumbered : SamePreferred f ws ws' rs
  preferred_renumbered m m' same = (
    preferred_moved f g ws ws' k rs (map (rename f) rs) (λ s s' h. model_renumbered f (λ a. a < length ws) s s' h rs below) m m' same,
    preferred_moved g f ws' ws back (map (rename f) rs) rs (λ s' s h. let i = model_renumbered f (λ a. a < length ws) s s' (atoms_turned g f ws' ws back s' s h) rs below in (i.1, i.0)) m' m (atoms_turned f g ws ws' k m m' same),
  )
    where
      back : Renumbered g f ws' ws
      back = turned f g ws ws' k

-- a class cut in two and the atoms then numbered class by class, as a file's are
pub cut_renumbered : (i : ℕ) (ws cut ws' : List ℕ) (f g : ℕ → ℕ) → CutClass i ws cut → Renumbered f g cut ws' → (rs : List (Rule ℕ)) → All (Within (λ a. a < length cut)) rs → NoneNewRenumbered f ws ws' rs
cut_renumbered i ws cut ws' f g c k rs below m m' same h =
    let same-cut : SameAtoms f (length cut) m m' = subst (λ (n : ℕ). SameAtoms f n m m') (sym c.size) same in
    cut_none_new i ws cut c rs m ((preferred_renumbered f g cut ws' k rs below m m' same-cut).1 h)
