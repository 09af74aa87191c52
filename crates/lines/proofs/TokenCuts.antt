-- Brackets and words in two parts of the bytes.
use Prim.Native.Nat.{ℕ, zero, suc, ◌+◌, ◌≤◌, zero-le}
use native.Mathlib.Nat.{zero-add}
use native.Mathlib.Numerals.{add-one}
use native.Mathlib.Omega.{arith}
use mathlib.Core.Path.{◌≡◌, refl, sym, ap, ap₂, ◌∙◌, subst}
use mathlib.Core.List.{List, [], ◌∷◌, ◌++◌}
use mathlib.Core.Bool.{Bool, true, false, cond}
use lib.Dec.{T, eqb, eqb→eq}
use lib.ListN.{take, drop}
use lib.Seq.{drop-cons, drop-drop, take-take}
use Rattle.kinds.specs.Words.{space, open_bracket, close_bracket}
use Rattle.lines.specs.declared.scan.Item.{Item}
use Rattle.std.specs.Prelude.{Option, None}
use Rattle.lines.specs.declared.scan.Bracket.{Bracket}
use Rattle.lines.specs.Tokens.{Token, opening, closing, word, is_ending, is_delimiter, run, tokens_from, tokens, leading, items}
use Rattle.lines.specs.Shapes.{gap, spaced, word_behind, item_of, ByteBehind, is_bracket, BracketSays, BracketIs}
use Rattle.lines.proofs.Scanning.{run_ends}
use Rattle.lines.proofs.TokenPlaces.{open_tokens, close_tokens, item_parts, items_end}
use Rattle.lines.proofs.BracketPlaces.{no_end, tokens_at}

-- how many bytes stand before one behind which nothing counts
unfoldable pub reach : List ℕ → ℕ
reach [] = 0
reach (b ∷ s) = cond (is_ending b) 0 (suc (reach s))

reach_gap : (s : List ℕ) → reach s ≡ gap s + reach (drop (gap s) s)
unfolding reach gap
reach_gap [] = refl
reach_gap (b ∷ s) = go (eqb b space) (eqb→eq b space) (reach_gap s)
  where
    go : (x : Bool) → (T x → b ≡ space) → reach s ≡ gap s + reach (drop (gap s) s) → reach (b ∷ s) ≡ cond x (suc (gap s)) 0 + reach (drop (cond x (suc (gap s)) 0) (b ∷ s))
    go true f e = ap (λ (c : ℕ). reach (c ∷ s)) (f tt) ∙ (let z : suc (reach s) ≡ suc (gap s) + reach (drop (gap s) s) = omega (arith, e) in z)
    go false f e = sym (zero-add (reach (b ∷ s)))

reach_run : (s : List ℕ) → reach s ≡ run s + reach (drop (run s) s)
unfolding reach run
reach_run [] = refl
reach_run (b ∷ s) = go (is_delimiter b) (no_end (eqb b space) (eqb b open_bracket) (eqb b close_bracket) (is_ending b)) (reach_run s)
  where
    go : (x : Bool) → (x ≡ false → is_ending b ≡ false) → reach s ≡ run s + reach (drop (run s) s) → reach (b ∷ s) ≡ cond x 0 (suc (run s)) + reach (drop (cond x 0 (suc (run s))) (b ∷ s))
    go true f e = sym (zero-add (reach (b ∷ s)))
    go false f e = ap (λ (y : Bool). cond y 0 (suc (reach s))) (f refl) ∙ (let z : suc (reach s) ≡ suc (run s) + reach (drop (run s) s) = omega (arith, e) in z)

-- a run ends where another is empty

run_bound : (n : ℕ) (s : List ℕ) → run (drop n s) ≡ 0 → run s ≤ n
unfolding run
run_bound zero s e = omega arith
run_bound (suc n) [] e = zero-le
run_bound (suc n) (b ∷ s) e = go (is_delimiter b) (run_bound n s e)
  where
    go : (x : Bool) → run s ≤ n → cond x 0 (suc (run s)) ≤ suc n
    go true h = zero-le
    go false h = omega arith

run_take : (n : ℕ) (s : List ℕ) → run s ≤ n → run (take n s) ≡ run s
unfolding run
run_take zero [] h = refl
run_take (suc n) [] h = refl
run_take zero (b ∷ s) h = omega arith
run_take (suc n) (b ∷ s) h = go (is_delimiter b) h (run_take n s)
  where
    go : (x : Bool) → cond x 0 (suc (run s)) ≤ suc n → (run s ≤ n → run (take n s) ≡ run s) → cond x 0 (suc (run (take n s))) ≡ cond x 0 (suc (run s))
    go true h r = refl
    go false h r = ap suc (r (omega arith))

cut_from : (k n : ℕ) (s : List ℕ) → k ≤ n → n ≤ reach s → run (drop n s) ≡ 0 → tokens_from k s ≡ tokens_from k (take n s) ++ tokens (drop n s)
unfolding tokens tokens_from reach
cut_from k zero [] h l e = refl
cut_from k (suc n) [] h l e = refl
cut_from zero zero (b ∷ s) h l e = refl
cut_from (suc k) zero (b ∷ s) h l e = absurd (omega arith)
cut_from (suc k) (suc n) (b ∷ s) h l e = shorter (is_ending b) l (λ m. cut_from k n s (omega arith) m e)
  where
    shorter : (a : Bool) → suc n ≤ cond a 0 (suc (reach s)) → (n ≤ reach s → tokens_from k s ≡ tokens_from k (take n s) ++ tokens (drop n s)) → tokens_from k s ≡ tokens_from k (take n s) ++ tokens (drop n s)
    shorter true l r = absurd (omega arith)
    shorter false l r = r (omega arith)
cut_from zero (suc n) (b ∷ s) h l e = go (is_ending b) (eqb b space) (eqb b open_bracket) (eqb b close_bracket) l (λ m. cut_from 0 n s zero-le m e) (λ m. cut_from (run s) n s (run_bound n s e) m e)
  where
    go : (a c d f : Bool) → suc n ≤ cond a 0 (suc (reach s)) → (n ≤ reach s → tokens_from 0 s ≡ tokens_from 0 (take n s) ++ tokens (drop n s)) → (n ≤ reach s → tokens_from (run s) s ≡ tokens_from (run s) (take n s) ++ tokens (drop n s))
        → cond a [] (cond c (tokens_from 0 s) (cond d (opening ∷ tokens_from 0 s) (cond f (closing ∷ tokens_from 0 s) (word (b ∷ take (run s) s) ∷ tokens_from (run s) s))))
        ≡ cond a [] (cond c (tokens_from 0 (take n s)) (cond d (opening ∷ tokens_from 0 (take n s)) (cond f (closing ∷ tokens_from 0 (take n s)) (word (b ∷ take (run (take n s)) (take n s)) ∷ tokens_from (run (take n s)) (take n s))))) ++ tokens (drop n s)
    go true c d f l p q = absurd (omega arith)
    go false true d f l p q = p (omega arith)
    go false false true f l p q = ap (λ ts. opening ∷ ts) (p (omega arith))
    go false false false true l p q = ap (λ ts. closing ∷ ts) (p (omega arith))
    go false false false false l p q =
        let bound : run s ≤ n = run_bound n s e in
        ap₂ (λ x ts. word (b ∷ x) ∷ ts) (sym (take-take (run s) n s bound)) (q (omega arith))
        ∙ ap (λ (m : ℕ). word (b ∷ take m (take n s)) ∷ (tokens_from m (take n s) ++ tokens (drop n s))) (sym (run_take n s bound))

-- the tokens of the bytes before a place and from it on, where no word goes over it
pub tokens_cut : (n : ℕ) (s : List ℕ) → n ≤ reach s → run (drop n s) ≡ 0 → tokens s ≡ tokens (take n s) ++ tokens (drop n s)
unfolding tokens
tokens_cut n s l e = cut_from 0 n s zero-le l e

-- a bracket at its place
module _ {s : List ℕ} {at b p : ℕ} (h : ByteBehind s at b p) where
  there : drop p s ≡ b ∷ drop (p + 1) s
  there = drop-cons s p 0 h.inside ∙ ap₂ (λ (c k : ℕ). c ∷ drop k s) h.byte (sym (add-one p))

  pub from_there : tokens (drop at s) ≡ tokens (drop p s)
  from_there = tokens_at s at refl ∙ ap (λ (k : ℕ). tokens (drop k s)) (sym h.place)

  pub opening_is : b ≡ open_bracket → tokens (drop at s) ≡ opening ∷ tokens (drop (p + 1) s)
  opening_is e = from_there ∙ ap tokens there ∙ open_tokens b (drop (p + 1) s) e

  pub closing_is : b ≡ close_bracket → tokens (drop at s) ≡ closing ∷ tokens (drop (p + 1) s)
  closing_is e = from_there ∙ ap tokens there ∙ close_tokens b (drop (p + 1) s) e

  -- the bytes up to it count
  pub reach_before : at + reach (drop at s) ≡ p + reach (drop p s)
  reach_before =
      omega (arith, reach_gap (drop at s), h.place, ap reach (drop-drop (gap (drop at s)) at s), ap (λ (k : ℕ). reach (drop k s)) h.place)

  pub reach_behind : is_ending b ≡ false → p + reach (drop p s) ≡ p + 1 + reach (drop (p + 1) s)
  unfolding reach
  reach_behind e =
      let z : reach (drop p s) ≡ suc (reach (drop (p + 1) s)) = ap reach there ∙ ap (λ (y : Bool). cond y 0 (suc (reach (drop (p + 1) s)))) e in
      omega arith

  pub no_run : is_delimiter b ≡ true → run (drop p s) ≡ 0
  no_run e = run_ends s p h.inside (ap is_delimiter h.byte ∙ e)

-- a word at its place
module _ (s : List ℕ) (i : ℕ) {g n : ℕ} (e : item_of (drop i s) ≡ spaced g n) where
  gap_and_run : (g ≡ gap (drop i s)) × (n ≡ run (drop g (drop i s)))
  unfolding item_of word_behind
  gap_and_run = go (drop (gap (drop i s)) (drop i s)) refl e
    where
      found : (b : ℕ) (u : List ℕ) → drop (gap (drop i s)) (drop i s) ≡ b ∷ u → (x : Bool) → cond x None (spaced (gap (drop i s)) (run (b ∷ u))) ≡ spaced g n → (g ≡ gap (drop i s)) × (n ≡ run (drop g (drop i s)))
      found b u q true f = absurd (let z : ◌≡◌ {A = ℕ} 0 1 = cc in omega arith)
      found b u q false f =
          let x = (item_parts f).0 in
          let y = (item_parts f).1 in
          (sym x, sym y ∙ ap run (sym q) ∙ ap (λ (k : ℕ). run (drop k (drop i s))) x)

      go : (u : List ℕ) → drop (gap (drop i s)) (drop i s) ≡ u → word_behind (gap (drop i s)) u ≡ spaced g n → (g ≡ gap (drop i s)) × (n ≡ run (drop g (drop i s)))
      go [] q f = absurd (let z : ◌≡◌ {A = ℕ} 0 1 = cc in omega arith)
      go (b ∷ u) q f = found b u q (is_delimiter b) f

  pub reach_word : i + reach (drop i s) ≡ i + g + n + reach (drop (i + g + n) s)
  reach_word =
      let u : List ℕ = drop g (drop i s) in
      let a : reach (drop i s) ≡ g + reach u = reach_gap (drop i s) ∙ ap (λ (k : ℕ). k + reach (drop k (drop i s))) (sym gap_and_run.0) in
      let b : reach u ≡ n + reach (drop n u) = reach_run u ∙ ap (λ (k : ℕ). k + reach (drop k u)) (sym gap_and_run.1) in
      let c : drop n u ≡ drop (i + g + n) s = ap (drop n) (drop-drop g i s) ∙ drop-drop n (i + g) s in
      omega (arith, a, b, ap reach c)

-- neither word nor bracket
pub nothing_left : (s : List ℕ) (i : ℕ) {r : Option Item} → r ≡ item_of (drop i s) → r ≡ None → {q : Bracket} → BracketIs s i q → q ≡ Bracket.Absent → tokens (drop i s) ≡ []
unfolding items
nothing_left s i e d c f = go (tokens (drop i s)) (items_end s i e d) (subst (BracketSays s i) f c.says)
  where
    go : (ts : List Token) → leading ts ≡ [] → is_bracket ts ≡ false → ts ≡ []
    go [] l f = refl
    go (opening ∷ ts) l f = absurd (let z : ◌≡◌ {A = ℕ} 0 1 = cc in omega arith)
    go (closing ∷ ts) l f = absurd (let z : ◌≡◌ {A = ℕ} 0 1 = cc in omega arith)
    go (word x ∷ ts) l f = absurd (let z : ◌≡◌ {A = ℕ} 0 1 = cc in omega arith)
