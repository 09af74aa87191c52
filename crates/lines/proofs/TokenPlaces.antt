-- Brackets and words by their places.
use Prim.Native.Nat.{ℕ, zero, suc, ◌+◌, ◌-◌, ◌≤◌, zero-le}
use native.Mathlib.Omega.{arith}
use mathlib.Core.Path.{◌≡◌, refl, sym, ap, ap₂, ◌∙◌, subst}
use mathlib.Core.List.{List, [], ◌∷◌}
use mathlib.Core.Bool.{Bool, true, false, cond, ◌||◌}
use lib.Dec.{T, eqb, eqb→eq}
use lib.ListN.{length, get_or, take, drop, length-drop}
use lib.Seq.{drop-drop, length-take-le}
use borrow.Author.Tests.{eq-eqb}
use Rattle.kinds.specs.Words.{space, open_bracket, close_bracket}
use Rattle.rules.proofs.Lists.{part_sized}
use Rattle.lines.specs.declared.scan.Item.{Item}
use Rattle.std.specs.Prelude.{Option, None}
use Rattle.lines.specs.Tokens.{Token, opening, closing, word, is_ending, is_delimiter, run, tokens_from, tokens, leading, behind, items}
use Rattle.lines.specs.Shapes.{gap, spaced, word_behind, item_of}
use Rattle.lines.proofs.Scanning.{run_le, gap_le}

tokens_skip : (k : ℕ) (s : List ℕ) → tokens_from k s ≡ tokens (drop k s)
unfolding tokens tokens_from
tokens_skip zero [] = refl
tokens_skip (suc k) [] = refl
tokens_skip zero (b ∷ s) = refl
tokens_skip (suc k) (b ∷ s) = tokens_skip k s

-- spaces do not count
pub tokens_gap : (s : List ℕ) → tokens s ≡ tokens (drop (gap s) s)
unfolding tokens tokens_from gap
tokens_gap [] = refl
tokens_gap (b ∷ s) = go (eqb b space) (eqb→eq b space) (tokens_gap s)
  where
    go : (x : Bool) → (T x → b ≡ space) → tokens_from 0 s ≡ tokens_from 0 (drop (gap s) s) → tokens_from 0 (b ∷ s) ≡ tokens_from 0 (drop (cond x (suc (gap s)) 0) (b ∷ s))
    go true f e = ap (λ (c : ℕ). tokens_from 0 (c ∷ s)) (f tt) ∙ e
    go false f e = refl

-- what the first byte that is no space says
pub data First (b : ℕ) : Type 0 where
  is_end_lem : is_ending b ≡ true → First b
  is_space : b ≡ space → First b
  is_open : b ≡ open_bracket → First b
  is_close : b ≡ close_bracket → First b
  is_other_lem : is_delimiter b ≡ false → First b

pub first_of : (b : ℕ) → First b
first_of b = go (is_ending b) (eqb b space) (eqb b open_bracket) (eqb b close_bracket) (λ e. is_end_lem e) (λ t. is_space (eqb→eq b space t)) (λ t. is_open (eqb→eq b open_bracket t)) (λ t. is_close (eqb→eq b close_bracket t)) (λ e. is_other_lem e) refl refl
  where
    go : (a c d e : Bool) → (is_ending b ≡ true → First b) → (T c → First b) → (T d → First b) → (T e → First b) → (is_delimiter b ≡ false → First b) → is_ending b ≡ a → is_delimiter b ≡ (c || (d || (e || is_ending b))) → First b
    go true c d e f g h i j p q = f p
    go false true d e f g h i j p q = g tt
    go false false true e f g h i j p q = h tt
    go false false false true f g h i j p q = i tt
    go false false false false f g h i j p q = j (q ∙ p)

-- the tokens that begin with a byte
module _ (b : ℕ) (s : List ℕ) where
  pub end_tokens : is_ending b ≡ true → tokens (b ∷ s) ≡ []
  unfolding tokens tokens_from
  end_tokens e = rw e

  pub open_tokens : b ≡ open_bracket → tokens (b ∷ s) ≡ opening ∷ tokens s
  unfolding tokens tokens_from
  open_tokens e = ap (λ (c : ℕ). tokens_from 0 (c ∷ s)) e

  pub close_tokens : b ≡ close_bracket → tokens (b ∷ s) ≡ closing ∷ tokens s
  unfolding tokens tokens_from
  close_tokens e = ap (λ (c : ℕ). tokens_from 0 (c ∷ s)) e

  pub word_tokens : is_delimiter b ≡ false → tokens (b ∷ s) ≡ word (take (run (b ∷ s)) (b ∷ s)) ∷ tokens (drop (run (b ∷ s)) (b ∷ s))
  unfolding tokens tokens_from run
  word_tokens e = go (eqb b space) (eqb b open_bracket) (eqb b close_bracket) (is_ending b) e e
    where
      go : (a c d f : Bool) → (a || (c || (d || f))) ≡ false → is_delimiter b ≡ false
          → cond f [] (cond a (tokens_from 0 s) (cond c (opening ∷ tokens_from 0 s) (cond d (closing ∷ tokens_from 0 s) (word (b ∷ take (run s) s) ∷ tokens_from (run s) s)))) ≡ word (take (cond (is_delimiter b) 0 (suc (run s))) (b ∷ s)) ∷ tokens_from 0 (drop (cond (is_delimiter b) 0 (suc (run s))) (b ∷ s))
      go true c d f p q = absurd (let z : ◌≡◌ {A = ℕ} 0 1 = cc in omega arith)
      go false true d f p q = absurd (let z : ◌≡◌ {A = ℕ} 0 1 = cc in omega arith)
      go false false true f p q = absurd (let z : ◌≡◌ {A = ℕ} 0 1 = cc in omega arith)
      go false false false true p q = absurd (let z : ◌≡◌ {A = ℕ} 0 1 = cc in omega arith)
      go false false false false p q = rw q (ap (λ l. word (b ∷ take (run s) s) ∷ l) (tokens_skip (run s) s))

-- behind a gap stands no space
pub past_gap : (s : List ℕ) (b : ℕ) (t : List ℕ) → drop (gap s) s ≡ b ∷ t → b ≡ space → ⊥
unfolding gap
past_gap [] b t e f = absurd (let z : 0 ≡ suc (length t) = ap length e in omega arith)
past_gap (c ∷ s) b t e f = go (eqb c space) refl e (past_gap s b t)
  where
    go : (x : Bool) → eqb c space ≡ x → drop (cond x (suc (gap s)) 0) (c ∷ s) ≡ b ∷ t → (drop (gap s) s ≡ b ∷ t → b ≡ space → ⊥) → ⊥
    go true p e r = r e f
    go false p e r =
        let q : get_or (c ∷ s) 0 0 ≡ get_or (b ∷ t) 0 0 = ap (λ l. get_or l 0 0) e in
        let z : false ≡ true = sym p ∙ eq-eqb c space (q ∙ f) in
        let y : ◌≡◌ {A = ℕ} 0 1 = cc in omega arith

-- no word at the front
abbrev pub NoWord : List Token → Type 0
NoWord ts = (leading ts ≡ []) × (behind ts ≡ ts)

no_word : (s : List ℕ) → item_of s ≡ None → NoWord (tokens s)
unfolding item_of word_behind tokens tokens_from
no_word s e = subst NoWord (sym (tokens_gap s)) (go (drop (gap s) s) (past_gap s) e)
  where
    stopped : (b : ℕ) (t : List ℕ) → (b ≡ space → ⊥) → (x : Bool) → is_delimiter b ≡ x → cond x None (spaced (gap s) (run (b ∷ t))) ≡ None → First b → NoWord (tokens (b ∷ t))
    stopped b t n x p q (is_end_lem f) = subst NoWord (sym (end_tokens b t f)) (refl, refl)
    stopped b t n x p q (is_space f) = absurd (n f)
    stopped b t n x p q (is_open f) = subst NoWord (sym (open_tokens b t f)) (refl, refl)
    stopped b t n x p q (is_close f) = subst NoWord (sym (close_tokens b t f)) (refl, refl)
    stopped b t n true p q (is_other_lem f) = absurd (let z : true ≡ false = sym p ∙ f in let y : ◌≡◌ {A = ℕ} 0 1 = cc in omega arith)
    stopped b t n false p q (is_other_lem f) = absurd (let y : ◌≡◌ {A = ℕ} 0 1 = cc in omega arith)

    go : (u : List ℕ) → ((b : ℕ) (t : List ℕ) → u ≡ b ∷ t → b ≡ space → ⊥) → word_behind (gap s) u ≡ None → NoWord (tokens u)
    go [] n q = (refl, refl)
    go (b ∷ t) n q = stopped b t (n b t refl) (is_delimiter b) refl q (first_of b)

-- a word at the front, behind g spaces
record WordAt (s : List ℕ) (g n : ℕ) : Type 0 where
  is : tokens s ≡ word (take n (drop g s)) ∷ tokens (drop (g + n) s)
  fits : g + n ≤ length s
  long : 1 ≤ n

-- the numbers of an item
pub item_parts : {g n a b : ℕ} → spaced g n ≡ spaced a b → (g ≡ a) × (n ≡ b)
item_parts {g} {n} {a} {b} e =
    let r : ◌≡◌ {A = Item} (record { gap = g; size = n }) (record { gap = a; size = b }) = cc in
    (ap (λ (i : Item). i.gap) r, ap (λ (i : Item). i.size) r)

one_word : (s : List ℕ) (g n : ℕ) → item_of s ≡ spaced g n → WordAt s g n
unfolding item_of word_behind run
one_word s g n e = go (drop (gap s) s) refl e
  where
    found : (b : ℕ) (t : List ℕ) → drop (gap s) s ≡ b ∷ t → (x : Bool) → is_delimiter b ≡ x → cond x None (spaced (gap s) (run (b ∷ t))) ≡ spaced g n → WordAt s g n
    found b t p true q r = absurd (let y : ◌≡◌ {A = ℕ} 0 1 = cc in omega arith)
    found b t p false q r =
        let i = (item_parts r).0 in
        let j = (item_parts r).1 in
        let size : length (b ∷ t) ≡ length s - gap s = ap length (sym p) ∙ length-drop (gap s) s in
        let at : drop g s ≡ b ∷ t = ap (λ (k : ℕ). drop k s) (sym i) ∙ p in
        record {
          is =
              tokens_gap s ∙ ap tokens p ∙ word_tokens b t q
              ∙ ap₂ (λ (k : ℕ) (l : List ℕ). word (take k l) ∷ tokens (drop k l)) j (sym at)
              ∙ ap (λ l. word (take n (drop g s)) ∷ tokens l) (drop-drop n g s);
          fits = omega (arith, run_le (b ∷ t), gap_le s);
          long = let h : run (b ∷ t) ≡ suc (run t) = rw q in omega arith;
        }

    go : (u : List ℕ) → drop (gap s) s ≡ u → word_behind (gap s) u ≡ spaced g n → WordAt s g n
    go [] p q = absurd (let y : ◌≡◌ {A = ℕ} 0 1 = cc in omega arith)
    go (b ∷ t) p q = found b t p (is_delimiter b) refl q

-- at each step of a walk over words
module _ (s : List ℕ) (i : ℕ) {r : Option Item} (e : r ≡ item_of (drop i s)) where
  pub items_end : r ≡ None → items (drop i s) ≡ []
  unfolding items
  items_end d = (no_word (drop i s) (sym e ∙ d)).0

  pub behind_end : r ≡ None → behind (tokens (drop i s)) ≡ tokens (drop i s)
  behind_end d = (no_word (drop i s) (sym e ∙ d)).1

  module _ {g n : ℕ} (d : r ≡ spaced g n) where
    at_word : WordAt (drop i s) g n
    at_word = one_word (drop i s) g n (sym e ∙ d)

    pub item_fits : i + g + n ≤ length s
    item_fits = omega (arith, at_word.fits, at_word.long, length-drop i s)

    pub item_long : 1 ≤ n
    item_long = at_word.long

    -- its bytes, as the code takes them
    abbrev pub item : List ℕ
    item = take (i + g + n - (i + g)) (drop (i + g) s)

    abbrev pub later : List (List ℕ)
    later = items (drop (i + g + n) s)

    pub word_is : tokens (drop i s) ≡ word item ∷ tokens (drop (i + g + n) s)
    word_is =
        let q : i + (g + n) ≡ i + g + n = omega arith in
        at_word.is
        ∙ ap₂ (λ (a b : List ℕ). word (take n a) ∷ tokens b) (drop-drop g i s) (drop-drop (g + n) i s ∙ ap (λ (k : ℕ). drop k s) q)
        ∙ ap (λ (l : List ℕ). word l ∷ tokens (drop (i + g + n) s)) (sym (part_sized (i + g) n (drop (i + g) s)))

    pub item_is : items (drop i s) ≡ item ∷ later
    unfolding items
    item_is = ap leading word_is

    pub behind_is : behind (tokens (drop i s)) ≡ behind (tokens (drop (i + g + n) s))
    behind_is = ap behind word_is

    pub item_length : length item ≡ n
    item_length =
        ap length (part_sized (i + g) n (drop (i + g) s))
        ∙ length-take-le n (drop (i + g) s) (omega (arith, item_fits, length-drop (i + g) s))

-- there are no more words than bytes
few_from : (k : ℕ) (s : List ℕ) → length (leading (tokens_from k s)) ≤ length s
unfolding tokens_from
few_from k [] = zero-le
few_from zero (b ∷ s) = go (is_ending b) (eqb b space) (eqb b open_bracket) (eqb b close_bracket) (few_from 0 s) (few_from (run s) s)
  where
    go : (a c d e : Bool) → length (leading (tokens_from 0 s)) ≤ length s → length (leading (tokens_from (run s) s)) ≤ length s
        → length (leading (cond a [] (cond c (tokens_from 0 s) (cond d (opening ∷ tokens_from 0 s) (cond e (closing ∷ tokens_from 0 s) (word (b ∷ take (run s) s) ∷ tokens_from (run s) s)))))) ≤ suc (length s)
    go true c d e h k = zero-le
    go false true d e h k = omega arith
    go false false true e h k = zero-le
    go false false false true h k = zero-le
    go false false false false h k = omega arith
few_from (suc k) (b ∷ s) = let h = few_from k s in omega arith

pub items_few : (s : List ℕ) (from : ℕ) → length (items (drop from s)) ≤ length s
unfolding items tokens
items_few s from = omega (arith, few_from 0 (drop from s), length-drop from s)
