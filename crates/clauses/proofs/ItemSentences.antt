-- The items of a line are what document 02's words say.
use Prim.Native.Nat.{ℕ, zero, suc}
use native.Mathlib.Omega.{arith}
use mathlib.Core.Path.{◌≡◌, refl, sym, ap, ap₂, subst, ◌∙◌}
use mathlib.Core.Logic.{◌⊎◌, inl, inr, ◌↔◌, ◌≢◌}
use mathlib.Core.List.{List, [], ◌∷◌, ◌++◌, append-nil}
use mathlib.Core.Bool.{Bool, true, false, cond}
use lib.Dec.{T, eqb, eqb→eq}
use lib.ListN.{length, take, drop, take-append-drop}
use lib.Seq.{take-append_seam, drop-append_seam}
use Rattle.kinds.specs.Words.{space, line_end_lem}
use Rattle.rules.specs.Lists.{All}
use Rattle.rules.proofs.Booleans.{T-or, T-or-out, is_true_lem, is_false, eq_to_eqb}
use Rattle.clauses.specs.Items.{is_separator, run, items_from, items}
use Rattle.clauses.specs.Sentences.{Separator, Parted, AreItems}

separator_iff : (b : ℕ) → T (is_separator b) ↔ Separator b
separator_iff b = (λ t. there (T-or-out (eqb b space) (eqb b line_end_lem) t), λ h. T-or (eqb b space) (eqb b line_end_lem) (back h))
  where
    there : T (eqb b space) ⊎ T (eqb b line_end_lem) → Separator b
    there (inl t) = inl (eqb→eq b space t)
    there (inr t) = inr (eqb→eq b line_end_lem t)

    back : Separator b → T (eqb b space) ⊎ T (eqb b line_end_lem)
    back (inl e) = inl (eq_to_eqb b space e)
    back (inr e) = inr (eq_to_eqb b line_end_lem e)

-- no byte of an item
abbrev Other : ℕ → Type 0
Other b = Separator b → ⊥

-- what is found

run_parts : (s : List ℕ) → All Other (take (run s) s) × Parted (drop (run s) s)
unfolding run
run_parts [] = (tt, tt)
run_parts (b ∷ s) = go (is_separator b) (separator_iff b) (run_parts s)
  where
    go : (c : Bool) → T c ↔ Separator b → All Other (take (run s) s) × Parted (drop (run s) s) → All Other (take (cond c 0 (suc (run s))) (b ∷ s)) × Parted (drop (cond c 0 (suc (run s))) (b ∷ s))
    go true law r = (tt, law.0 tt)
    go false law r = ((law.1, r.0), r.1)

spaced : (b : ℕ) (l : List ℕ) (xs : List (List ℕ)) → Separator b → AreItems l xs → AreItems (b ∷ l) xs
spaced b l [] h a = (h, a)
spaced b l (x ∷ xs) h a = (b ∷ a.0, a.1, (h, a.2), a.3, a.4, a.5, ap (λ (s : List ℕ). b ∷ s) a.6, a.7)

found : (k : ℕ) (s : List ℕ) → AreItems (drop k s) (items_from k s)
unfolding items_from
found zero [] = tt
found (suc k) [] = tt
found zero (b ∷ s) = go (is_separator b) (separator_iff b) (found 0 s) (found (run s) s)
  where
    go : (c : Bool) → T c ↔ Separator b → AreItems s (items_from 0 s) → AreItems (drop (run s) s) (items_from (run s) s) → AreItems (b ∷ s) (cond c (items_from 0 s) ((b ∷ take (run s) s) ∷ items_from (run s) s))
    go true law i j = spaced b s (items_from 0 s) (law.0 tt) i
    go false law i j = (
      [],
      drop (run s) s,
      tt,
      λ e. omega (arith, ap length e),
      (law.1, (run_parts s).0),
      (run_parts s).1,
      ap (λ (t : List ℕ). b ∷ t) (sym (take-append-drop (run s) s)),
      j,
    )
found (suc k) (b ∷ s) = found k s

-- and back

skipped : (k : ℕ) (s : List ℕ) → items_from k s ≡ items (drop k s)
unfolding items items_from
skipped zero [] = refl
skipped (suc k) [] = refl
skipped zero (b ∷ s) = refl
skipped (suc k) (b ∷ s) = skipped k s

no_items : items [] ≡ []
unfolding items items_from
no_items = refl

past_spaces : (s t : List ℕ) → All Separator s → items (s ++ t) ≡ items t
unfolding items items_from
past_spaces [] t h = refl
past_spaces (b ∷ s) t h =
    ap (λ (c : Bool). cond c (items_from 0 (s ++ t)) (take (suc (run (s ++ t))) (b ∷ s ++ t) ∷ items_from (run (s ++ t)) (s ++ t))) (is_true_lem (is_separator b) ((separator_iff b).1 h.0))
    ∙ past_spaces s t h.1

run_over : (x rest : List ℕ) → All Other x → Parted rest → run (x ++ rest) ≡ length x
unfolding run
run_over [] [] h p = refl
run_over [] (b ∷ s) h p = ap (λ (c : Bool). cond c 0 (suc (run s))) (is_true_lem (is_separator b) ((separator_iff b).1 p))
run_over (b ∷ x) rest h p =
    ap (λ (c : Bool). cond c 0 (suc (run (x ++ rest)))) (is_false (is_separator b) (λ t. h.0 ((separator_iff b).0 t)))
    ∙ ap suc (run_over x rest h.1 p)

one_item : (x rest : List ℕ) → x ≢ [] → All Other x → Parted rest → items (x ++ rest) ≡ x ∷ items rest
unfolding items items_from
one_item [] rest n h p = absurd (n refl)
one_item (b ∷ x) rest n h p =
    let e = run_over x rest h.1 p in
    ap (λ (c : Bool). cond c (items_from 0 (x ++ rest)) (take (suc (run (x ++ rest))) (b ∷ x ++ rest) ∷ items_from (run (x ++ rest)) (x ++ rest))) (is_false (is_separator b) (λ t. h.0 ((separator_iff b).0 t)))
    ∙ ap₂ (λ (y : List ℕ) (ys : List (List ℕ)). (b ∷ y) ∷ ys)
    (ap (λ (k : ℕ). take k (x ++ rest)) e ∙ take-append_seam x rest)
    (skipped (run (x ++ rest)) (x ++ rest) ∙ ap (λ (k : ℕ). items (drop k (x ++ rest))) e ∙ ap items (drop-append_seam x rest))

back : (l : List ℕ) (xs : List (List ℕ)) → AreItems l xs → items l ≡ xs
back l [] a = ap items (sym (append-nil l)) ∙ past_spaces l [] a ∙ no_items
back l (x ∷ xs) a =
    ap items a.6
    ∙ past_spaces a.0 (x ++ a.1) a.2
    ∙ one_item x a.1 a.3 a.4 a.5
    ∙ ap (λ (ys : List (List ℕ)). x ∷ ys) (back a.1 xs a.7)

pub items_are : (l : List ℕ) (xs : List (List ℕ)) → items l ≡ xs ↔ AreItems l xs
unfolding items
items_are l xs = (λ e. subst (AreItems l) e (found 0 l), back l xs)
