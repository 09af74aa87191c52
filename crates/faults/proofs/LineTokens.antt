-- The brackets and words of a line: they are what the documents' words say.
use Prim.Native.Nat.{ℕ, zero, suc, ◌≤◌}
use native.Mathlib.Omega.{arith}
use mathlib.Core.Path.{◌≡◌, refl, sym, ap, ap₂, ◌∙◌, subst}
use mathlib.Core.Logic.{◌⊎◌, inl, inr, ◌↔◌, ◌≢◌}
use mathlib.Core.Bool.{Bool, true, false, cond, ◌||◌}
use mathlib.Core.List.{List, [], ◌∷◌, ◌++◌}
use lib.Dec.{T, eqb}
use lib.ListN.{length, take, drop, length-drop, take-append-drop}
use lib.Seq.{take-append_seam, drop-append_seam}
use Rattle.kinds.specs.Words.{space, open_bracket, close_bracket, line_end_lem, comment_mark}
use Rattle.rules.specs.Lists.{All}
use Rattle.rules.proofs.Booleans.{is_true_lem, is_false}
use Rattle.rules.proofs.Connectives.{or_law}
use Rattle.lines.specs.Tokens.{Token, opening, closing, word, is_ending, is_delimiter, run, tokens_from, tokens}
use Rattle.lines.proofs.TokenPlaces.{First, is_end_lem, is_space, is_open, is_close, is_other_lem, first_of, end_tokens, open_tokens, close_tokens, word_tokens}
use Rattle.faults.specs.LineForms.{WordByte, IsWord, WordEnds, NothingLeft, behind_spaces, AreTokens}
use Rattle.faults.proofs.NameClasses.{eq_law}

-- the bytes, one by one

ends_law : (b : ℕ) → T (is_ending b) ↔ ((b ≡ comment_mark) ⊎ (b ≡ line_end_lem))
ends_law b = or_law (eqb b comment_mark) (eqb b line_end_lem) (eq_law b comment_mark) (eq_law b line_end_lem)

delimiter_law : (b : ℕ) → T (is_delimiter b) ↔ ((b ≡ space) ⊎ ((b ≡ open_bracket) ⊎ ((b ≡ close_bracket) ⊎ ((b ≡ comment_mark) ⊎ (b ≡ line_end_lem)))))
delimiter_law b =
    or_law (eqb b space) (eqb b open_bracket || (eqb b close_bracket || is_ending b)) (eq_law b space)
    (or_law (eqb b open_bracket) (eqb b close_bracket || is_ending b) (eq_law b open_bracket) (or_law (eqb b close_bracket) (is_ending b) (eq_law b close_bracket) (ends_law b)))

byte_law : (b : ℕ) → (T (is_delimiter b) → ⊥) ↔ WordByte b
byte_law b = let law = delimiter_law b in (
  λ n. (λ e. n (law.1 (inl e)), λ e. n (law.1 (inr (inl e))), λ e. n (law.1 (inr (inr (inl e)))), λ e. n (law.1 (inr (inr (inr (inl e))))), λ e. n (law.1 (inr (inr (inr (inr e)))))),
  λ w t. go w (law.0 t),
)
  where
    go : WordByte b → (b ≡ space) ⊎ ((b ≡ open_bracket) ⊎ ((b ≡ close_bracket) ⊎ ((b ≡ comment_mark) ⊎ (b ≡ line_end_lem)))) → ⊥
    go w (inl e) = w.0 e
    go w (inr (inl e)) = w.1 e
    go w (inr (inr (inl e))) = w.2 e
    go w (inr (inr (inr (inl e)))) = w.3 e
    go w (inr (inr (inr (inr e)))) = w.4 e

word_byte : (b : ℕ) → WordByte b → is_delimiter b ≡ false
word_byte b w = is_false (is_delimiter b) ((byte_law b).1 w)

-- a word's run

word_ends : (s : List ℕ) → WordEnds s ↔ (run s ≡ 0)
unfolding run
word_ends [] = (λ h. refl, λ e. tt)
word_ends (b ∷ s) = go (is_delimiter b) (delimiter_law b)
  where
    go : (d : Bool) → T d ↔ WordEnds (b ∷ s) → WordEnds (b ∷ s) ↔ (cond d 0 (suc (run s)) ≡ 0)
    go true law = (λ h. refl, λ e. law.0 tt)
    go false law = (λ h. absurd (law.1 h), λ e. absurd (omega arith))

run_word : (x s : List ℕ) → All WordByte x → run s ≡ 0 → run (x ++ s) ≡ length x
unfolding run
run_word [] s h e = e
run_word (b ∷ x) s h e = ap (λ d. cond d 0 (suc (run (x ++ s)))) (word_byte b h.0) ∙ ap suc (run_word x s h.1 e)

pub run_bytes : (s : List ℕ) → All WordByte (take (run s) s) × (run (drop (run s) s) ≡ 0)
unfolding run
run_bytes [] = (tt, refl)
run_bytes (b ∷ s) = go (is_delimiter b) refl (run_bytes s)
  where
    go : (d : Bool) → is_delimiter b ≡ d → All WordByte (take (run s) s) × (run (drop (run s) s) ≡ 0)
        → All WordByte (take (cond d 0 (suc (run s))) (b ∷ s)) × (run (drop (cond d 0 (suc (run s))) (b ∷ s)) ≡ 0)
    go true e r = (tt, ap (λ d. cond d 0 (suc (run s))) e)
    go false e r = (((byte_law b).0 (λ t. subst T e t), r.0), r.1)

-- what is found are the brackets and words

one_space : (s : List ℕ) → tokens (space ∷ s) ≡ tokens s
unfolding tokens tokens_from
one_space s = refl

no_tokens : tokens [] ≡ []
unfolding tokens tokens_from
no_tokens = refl

pub space_before : (s : List ℕ) (ts : List Token) → AreTokens s ts → AreTokens (space ∷ s) ts
space_before s [] (k, r, e, h) = (suc k, r, ap (λ l. space ∷ l) e, h)
space_before s (opening ∷ ts) (k, r, e, h) = (suc k, r, ap (λ l. space ∷ l) e, h)
space_before s (closing ∷ ts) (k, r, e, h) = (suc k, r, ap (λ l. space ∷ l) e, h)
space_before s (word x ∷ ts) (k, r, e, w, n, h) = (suc k, r, ap (λ l. space ∷ l) e, w, n, h)

found_none : AreTokens [] (tokens [])
found_none = subst (AreTokens []) (sym no_tokens) (0, [], refl, tt)

-- one byte more than what is left
found_more : (b : ℕ) (s : List ℕ) → ((r : List ℕ) → length r ≤ length s → AreTokens r (tokens r)) → AreTokens (b ∷ s) (tokens (b ∷ s))
unfolding run
found_more b s later = go (first_of b)
  where
    go : First b → AreTokens (b ∷ s) (tokens (b ∷ s))
    go (is_end_lem e) = subst (AreTokens (b ∷ s)) (sym (end_tokens b s e)) (0, b ∷ s, refl, (ends_law b).0 (subst T (sym e) tt))
    go (is_space e) = subst (λ c. AreTokens (c ∷ s) (tokens (c ∷ s))) (sym e) (subst (AreTokens (space ∷ s)) (sym (one_space s)) (space_before s (tokens s) (later s (omega arith))))
    go (is_open e) = subst (AreTokens (b ∷ s)) (sym (open_tokens b s e)) (0, s, ap (λ c. c ∷ s) e, later s (omega arith))
    go (is_close e) = subst (AreTokens (b ∷ s)) (sym (close_tokens b s e)) (0, s, ap (λ c. c ∷ s) e, later s (omega arith))
    go (is_other_lem e) =
        subst (AreTokens (b ∷ s)) (sym (word_tokens b s e))
        (0, rest, sym (take-append-drop (run (b ∷ s)) (b ∷ s)), (some, (run_bytes (b ∷ s)).0), (word_ends rest).1 (run_bytes (b ∷ s)).1, later rest (omega (arith, length-drop (run (b ∷ s)) (b ∷ s), long)))
      where
        rest : List ℕ
        rest = drop (run (b ∷ s)) (b ∷ s)

        long : run (b ∷ s) ≡ suc (run s)
        long = ap (λ d. cond d 0 (suc (run s))) e

        some : take (run (b ∷ s)) (b ∷ s) ≢ []
        some q = absurd (let z : suc (length (take (run s) s)) ≡ 0 = ap (λ (k : ℕ). length (take k (b ∷ s))) (sym long) ∙ ap length q in omega arith)

found : (n : ℕ) (s : List ℕ) → length s ≤ n → AreTokens s (tokens s)
found zero [] l = found_none
found zero (b ∷ s) l = absurd (omega arith)
found (suc n) [] l = found_none
found (suc n) (b ∷ s) l = found_more b s (λ r k. found n r (omega arith))

-- and back

spaces_out : (k : ℕ) (s : List ℕ) → tokens (behind_spaces k s) ≡ tokens s
spaces_out zero s = refl
spaces_out (suc k) s = one_space (behind_spaces k s) ∙ spaces_out k s

nothing_left : (s : List ℕ) → NothingLeft s → tokens s ≡ []
nothing_left [] h = no_tokens
nothing_left (b ∷ s) h = end_tokens b s (is_true_lem (is_ending b) ((ends_law b).1 h))

one_word : (x s : List ℕ) → IsWord x → WordEnds s → tokens (x ++ s) ≡ word x ∷ tokens s
one_word [] s h e = absurd (h.0 refl)
one_word (b ∷ x) s h e =
    let n = run_word (b ∷ x) s h.1 ((word_ends s).0 e) in
    word_tokens b (x ++ s) (word_byte b h.1.0)
    ∙ ap₂ (λ y t. word y ∷ tokens t)
    (ap (λ (k : ℕ). take k (b ∷ x ++ s)) n ∙ take-append_seam (b ∷ x) s) (ap (λ (k : ℕ). drop k (b ∷ x ++ s)) n ∙ drop-append_seam (b ∷ x) s)

back : (ts : List Token) (l : List ℕ) → AreTokens l ts → tokens l ≡ ts
back [] l (k, s, e, h) = ap tokens e ∙ spaces_out k s ∙ nothing_left s h
back (opening ∷ ts) l (k, s, e, h) = ap tokens e ∙ spaces_out k (open_bracket ∷ s) ∙ open_tokens open_bracket s refl ∙ ap (λ us. opening ∷ us) (back ts s h)
back (closing ∷ ts) l (k, s, e, h) = ap tokens e ∙ spaces_out k (close_bracket ∷ s) ∙ close_tokens close_bracket s refl ∙ ap (λ us. closing ∷ us) (back ts s h)
back (word x ∷ ts) l (k, s, e, w, n, h) = ap tokens e ∙ spaces_out k (x ++ s) ∙ one_word x s w n ∙ ap (λ us. word x ∷ us) (back ts s h)

pub tokens_iff : (l : List ℕ) (ts : List Token) → tokens l ≡ ts ↔ AreTokens l ts
tokens_iff l ts = (λ e. subst (AreTokens l) e (found (length l) l (omega arith)), back ts l)
