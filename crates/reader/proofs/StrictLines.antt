-- Strict lines: they have the brackets and words that they are spelled from, and byte 10 ends each.
use Prim.Native.Nat.{ℕ}
use native.Mathlib.Omega.{arith}
use mathlib.Core.Path.{refl, ap, ◌∙◌}
use mathlib.Core.Logic.{◌≢◌, inl, inr}
use mathlib.Core.List.{List, [], ◌∷◌, ◌++◌, append_assoc}
use Rattle.kinds.specs.Words.{open_bracket, close_bracket, line_end_lem}
use Rattle.rules.specs.Lists.{All}
use Rattle.rules.proofs.Lists.{all_app, all_imp}
use Rattle.lines.specs.Tokens.{Token, opening, closing, word}
use Rattle.lines.specs.Strict.{token_bytes, spacing, spelled, strict_line}
use Rattle.faults.specs.LineForms.{WordByte, IsWord, WordEnds, NothingLeft, AreTokens}
use Rattle.faults.specs.TextLines.{NoEnd, EndedLine}
use Rattle.faults.proofs.LineTokens.{space_before}

-- a word among the tokens has no byte that ends it
abbrev pub TokenForm : Token → Type 0
TokenForm opening = Unit {0}
TokenForm closing = Unit {0}
TokenForm (word x) = IsWord x

pub token_forms : (ts : List Token) (l : List ℕ) → AreTokens l ts → All TokenForm ts
token_forms [] l h = tt
token_forms (opening ∷ ts) l (k, s, e, h) = (tt, token_forms ts s h)
token_forms (closing ∷ ts) l (k, s, e, h) = (tt, token_forms ts s h)
token_forms (word x ∷ ts) l (k, s, e, w, n, h) = (w, token_forms ts s h)

-- what is spelled has the tokens

behind_spacing : (t : Token) (ts : List Token) (s : List ℕ) → AreTokens s ts → AreTokens (spacing t ts ++ s) ts
behind_spacing t [] s h = h
behind_spacing t (closing ∷ ts) s h = h
behind_spacing opening (opening ∷ ts) s h = h
behind_spacing closing (opening ∷ ts) s h = space_before s (opening ∷ ts) h
behind_spacing (word x) (opening ∷ ts) s h = space_before s (opening ∷ ts) h
behind_spacing opening (word y ∷ ts) s h = h
behind_spacing closing (word y ∷ ts) s h = space_before s (word y ∷ ts) h
behind_spacing (word x) (word y ∷ ts) s h = space_before s (word y ∷ ts) h

word_ends : (x : List ℕ) (ts : List Token) (rest : List ℕ) → NothingLeft rest → WordEnds (spacing (word x) ts ++ (spelled ts ++ rest))
unfolding spelled
word_ends x [] [] h = tt
word_ends x [] (b ∷ rest) h = inr (inr (inr h))
word_ends x (opening ∷ ts) rest h = inl refl
word_ends x (closing ∷ ts) rest h = inr (inr (inl refl))
word_ends x (word y ∷ ts) rest h = inl refl

spelled_tokens : (ts : List Token) → All TokenForm ts → (rest : List ℕ) → NothingLeft rest → AreTokens (spelled ts ++ rest) ts
unfolding spelled
spelled_tokens [] f rest n = (0, rest, refl, n)
spelled_tokens (opening ∷ ts) f rest n =
    (0, spacing opening ts ++ (spelled ts ++ rest), ap (λ l. open_bracket ∷ l) (append_assoc (spacing opening ts) (spelled ts) rest), behind_spacing opening ts (spelled ts ++ rest) (spelled_tokens ts f.1 rest n))
spelled_tokens (closing ∷ ts) f rest n =
    (0, spacing closing ts ++ (spelled ts ++ rest), ap (λ l. close_bracket ∷ l) (append_assoc (spacing closing ts) (spelled ts) rest), behind_spacing closing ts (spelled ts ++ rest) (spelled_tokens ts f.1 rest n))
spelled_tokens (word x ∷ ts) f rest n =
    let s = spacing (word x) ts ++ (spelled ts ++ rest) in
    (0, s, append_assoc x (spacing (word x) ts ++ spelled ts) rest ∙ ap (λ l. x ++ l) (append_assoc (spacing (word x) ts) (spelled ts) rest), f.0, word_ends x ts rest n, behind_spacing (word x) ts (spelled ts ++ rest) (spelled_tokens ts f.1 rest n))

pub strict_tokens : (ts : List Token) → All TokenForm ts → AreTokens (strict_line ts) ts
strict_tokens [] f = (0, [], refl, tt)
strict_tokens (t ∷ ts) f = spelled_tokens (t ∷ ts) f (line_end_lem ∷ []) (inr refl)

-- and byte 10 is its last alone

token_bytes_lem : (t : Token) → TokenForm t → NoEnd (token_bytes t)
token_bytes_lem opening f = (λ e. omega arith, tt)
token_bytes_lem closing f = (λ e. omega arith, tt)
token_bytes_lem (word x) f = all_imp WordByte (λ b. b ≢ line_end_lem) (λ b w. w.4) x f.1

spacing_bytes : (t : Token) (ts : List Token) → NoEnd (spacing t ts)
spacing_bytes t [] = tt
spacing_bytes t (closing ∷ ts) = tt
spacing_bytes opening (opening ∷ ts) = tt
spacing_bytes closing (opening ∷ ts) = (λ e. omega arith, tt)
spacing_bytes (word x) (opening ∷ ts) = (λ e. omega arith, tt)
spacing_bytes opening (word y ∷ ts) = tt
spacing_bytes closing (word y ∷ ts) = (λ e. omega arith, tt)
spacing_bytes (word x) (word y ∷ ts) = (λ e. omega arith, tt)

spelled_bytes : (ts : List Token) → All TokenForm ts → NoEnd (spelled ts)
unfolding spelled
spelled_bytes [] f = tt
spelled_bytes (t ∷ ts) f =
    all_app (λ b. b ≢ line_end_lem) (token_bytes t) (spacing t ts ++ spelled ts) (token_bytes_lem t f.0)
    (all_app (λ b. b ≢ line_end_lem) (spacing t ts) (spelled ts) (spacing_bytes t ts) (spelled_bytes ts f.1))

pub strict_ended : (t : Token) (ts : List Token) → All TokenForm (t ∷ ts) → EndedLine (strict_line (t ∷ ts))
strict_ended t ts f = (spelled (t ∷ ts), spelled_bytes (t ∷ ts) f, refl)
