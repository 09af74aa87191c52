-- Brackets, and the word behind one, by their places.
use Prim.Native.Nat.{ℕ, suc, ◌+◌, ◌<◌, ◌≤◌}
use native.Mathlib.Numerals.{add-one}
use native.Mathlib.Omega.{arith}
use mathlib.Core.Path.{◌≡◌, refl, sym, ap, ap₂, ◌∙◌, subst}
use mathlib.Core.List.{List, [], ◌∷◌}
use mathlib.Core.Bool.{Bool, true, false, cond, not, ◌||◌}
use lib.Dec.{T, eqb}
use lib.ListN.{length, get_or, take, drop, length-drop, drop_of_length-le}
use lib.Seq.{drop-cons, drop-drop, length-take-le}
use borrow.Author.Tests.{not-true, not-false}
use Rattle.kinds.specs.Words.{space, open_bracket, close_bracket}
use Rattle.rules.specs.Lists.{is_empty}
use Rattle.name_store.specs.NameStore.{same_bytes}
use Rattle.name_store.proofs.ByteLoops.{other_length}
use Rattle.name_store.proofs.NameStores.{same_law}
use Rattle.rules.proofs.Booleans.{is_true_lem}
use Rattle.std.specs.Prelude.{Option, Some, None, MatchOption}
use Rattle.lines.specs.declared.scan.Bracket.TheVariants as Bracket
use Rattle.lines.specs.Tokens.{word, is_ending, is_delimiter, run, tokens, tokens_from}
use Rattle.lines.specs.Forms.{unopened, opened_by, opened_of}
use Rattle.lines.specs.Shapes.{begins, gap, spaced, word_behind, item_of, is_closing, opens_with, Onward, ClosedIs, OpenedIs, is_bracket, BracketIs}
use Rattle.lines.proofs.Scanning.{run_goes_on, run_ends, run_out, run_le, gap_le}
use Rattle.lines.proofs.TokenPlaces.{tokens_gap, past_gap, First, is_end_lem, is_space, is_open, is_close, is_other_lem, first_of, end_tokens, open_tokens, close_tokens, word_tokens}

pub no_end : (a c d f : Bool) → (a || (c || (d || f))) ≡ false → f ≡ false
no_end a c d false p = refl
no_end true c d true p = p
no_end false true d true p = p
no_end false false true true p = p
no_end false false false true p = p

-- behind the gap at a place
module _ (s : List ℕ) (at : ℕ) {g : ℕ} (e : g ≡ gap (drop at s)) where
  pub gap_inside : at ≤ length s → at + g ≤ length s
  gap_inside h = omega (arith, gap_le (drop at s), length-drop at s)

  left : drop (gap (drop at s)) (drop at s) ≡ drop (at + g) s
  left = drop-drop (gap (drop at s)) at s ∙ ap (λ (k : ℕ). drop (at + k) s) (sym e)

  pub tokens_at : tokens (drop at s) ≡ tokens (drop (at + g) s)
  tokens_at = tokens_gap (drop at s) ∙ ap tokens left

  pub nothing_out : length s ≤ at + g → tokens (drop at s) ≡ []
  unfolding tokens tokens_from
  nothing_out l = tokens_at ∙ ap tokens (drop_of_length-le s l)

  pub closing_out : length s ≤ at + g → ClosedIs s at None
  closing_out l = record { says = ap is_closing (nothing_out l) }

  pub bracket_out : length s ≤ at + g → BracketIs s at Bracket.Absent
  bracket_out l = record { says = ap is_bracket (nothing_out l) }

  pub opening_out : length s ≤ at + g → (w : List ℕ) → OpenedIs s at w None
  unfolding opened_of
  opening_out l w = record { says = ap (λ ts. opens_with w (opened_of ts)) (nothing_out l) }

  pub item_out : length s ≤ at + g → None ≡ item_of (drop at s)
  unfolding item_of word_behind
  item_out l = sym (ap (word_behind (gap (drop at s))) (left ∙ drop_of_length-le s l))

  module _ (l : at + g < length s) where
    abbrev b : ℕ
    b = get_or s (at + g) 0

    abbrev rest : List ℕ
    rest = drop (at + g + 1) s

    front : drop (at + g) s ≡ b ∷ rest
    front = drop-cons s (at + g) 0 l ∙ ap (λ (k : ℕ). b ∷ drop k s) (sym (add-one (at + g)))

    no_space : b ≡ space → ⊥
    no_space = past_gap (drop at s) b rest (left ∙ front)

    all : tokens (drop at s) ≡ tokens (b ∷ rest)
    all = tokens_at ∙ ap tokens front

    onward : Onward s at (at + g + 1)
    onward = record { inside = omega arith; onward = omega arith }

    pub nothing_here : is_empty (tokens (drop at s)) ≡ is_ending b
    nothing_here = ap is_empty all ∙ go (first_of b)
      where
        go : First b → is_empty (tokens (b ∷ rest)) ≡ is_ending b
        go (is_end_lem f) = ap is_empty (end_tokens b rest f) ∙ sym f
        go (is_space f) = absurd (no_space f)
        go (is_open f) = ap is_empty (open_tokens b rest f) ∙ sym (ap is_ending f)
        go (is_close f) = ap is_empty (close_tokens b rest f) ∙ sym (ap is_ending f)
        go (is_other_lem f) = ap is_empty (word_tokens b rest f) ∙ sym (no_end (eqb b space) (eqb b open_bracket) (eqb b close_bracket) (is_ending b) f)

    pub item_stops : is_delimiter b ≡ true → None ≡ item_of (drop at s)
    unfolding item_of word_behind
    item_stops f = sym (ap (word_behind (gap (drop at s))) (left ∙ front) ∙ ap (λ (x : Bool). cond x None (spaced (gap (drop at s)) (run (b ∷ rest)))) f)

    pub item_found : is_delimiter b ≡ false → {n : ℕ} → n ≡ run (drop (at + g) s) → spaced g n ≡ item_of (drop at s)
    unfolding item_of word_behind
    item_found f p =
        sym (ap (word_behind (gap (drop at s))) (left ∙ front) ∙ ap (λ (x : Bool). cond x None (spaced (gap (drop at s)) (run (b ∷ rest)))) f ∙ ap₂ spaced (sym e) (ap run (sym front) ∙ sym p))

    pub closing_here : b ≡ close_bracket → ClosedIs s at (Some (at + g + 1))
    closing_here f = record { says = (onward, all ∙ close_tokens b rest f) }

    pub opening_here : b ≡ open_bracket → opened_of (tokens (drop at s)) ≡ opened_by (tokens rest)
    unfolding opened_of
    opening_here f = ap opened_of (all ∙ open_tokens b rest f)

    pub no_closing : (b ≡ close_bracket → ⊥) → ClosedIs s at None
    no_closing n = record { says = ap is_closing all ∙ go (first_of b) }
      where
        go : First b → is_closing (tokens (b ∷ rest)) ≡ false
        go (is_end_lem f) = ap is_closing (end_tokens b rest f)
        go (is_space f) = absurd (no_space f)
        go (is_open f) = ap is_closing (open_tokens b rest f)
        go (is_close f) = absurd (n f)
        go (is_other_lem f) = ap is_closing (word_tokens b rest f)

    pub no_bracket : (b ≡ open_bracket → ⊥) → (b ≡ close_bracket → ⊥) → BracketIs s at Bracket.Absent
    no_bracket m n = record { says = ap is_bracket all ∙ go (first_of b) }
      where
        go : First b → is_bracket (tokens (b ∷ rest)) ≡ false
        go (is_end_lem f) = ap is_bracket (end_tokens b rest f)
        go (is_space f) = absurd (no_space f)
        go (is_open f) = absurd (m f)
        go (is_close f) = absurd (n f)
        go (is_other_lem f) = ap is_bracket (word_tokens b rest f)

    pub no_opening : (b ≡ open_bracket → ⊥) → (w : List ℕ) → OpenedIs s at w None
    unfolding opened_of
    no_opening n w = record { says = ap (opens_with w) (ap opened_of all ∙ go (first_of b)) }
      where
        go : First b → opened_of (tokens (b ∷ rest)) ≡ unopened
        go (is_end_lem f) = ap opened_of (end_tokens b rest f)
        go (is_space f) = absurd (no_space f)
        go (is_open f) = absurd (n f)
        go (is_close f) = ap opened_of (close_tokens b rest f)
        go (is_other_lem f) = ap opened_of (word_tokens b rest f)

-- nothing counts there: no byte is left, or one behind which nothing counts
pub nothing_is : (s : List ℕ) (at : ℕ) {g : ℕ} → g ≡ gap (drop at s) → {A : Type 0} (f : A → ℕ) (q : Option A) {r : Bool} → MatchOption q (length s ≤ at + g) (λ x. (at + g < length s) × (f x ≡ get_or s (at + g) 0)) → MatchOption q (r ≡ true) (λ x. r ≡ is_ending (f x)) → r ≡ is_empty (tokens (drop at s))
nothing_is s at e f None m n = n ∙ sym (ap is_empty (nothing_out s at e m))
nothing_is s at e f (Some x) m n = n ∙ ap is_ending m.1 ∙ sym (nothing_here s at e m.0)

-- a word without delimiters, at the front of the bytes
module _ (w u : List ℕ) (whole : run w ≡ length w) where
  no_begin : begins w u ≡ false → same_bytes (take (run u) u) w ≡ false
  no_begin e = go (same_bytes (take (run u) u) w) refl
    where
      go : (x : Bool) → same_bytes (take (run u) u) w ≡ x → x ≡ false
      go false p = refl
      go true p =
          let q : take (run u) u ≡ w = (same_law (take (run u) u) w).0 (subst T (sym p) tt) in
          let n : run u ≡ length w = sym (length-take-le (run u) u (run_le u)) ∙ ap length q in
          sym (sym (ap (λ (k : ℕ). same_bytes (take k u) w) n ∙ e) ∙ p)

run_through : (w u : List ℕ) → run w ≡ length w → take (length w) u ≡ w → run u ≡ length w + run (drop (length w) u)
unfolding run
run_through [] u p e = sym (omega arith)
run_through (c ∷ w) [] p e = absurd (let z : 0 ≡ suc (length w) = ap length e in omega arith)
run_through (c ∷ w) (b ∷ u) p e = go (is_delimiter c) refl p (run_through w u)
  where
    go : (x : Bool) → is_delimiter c ≡ x → cond x 0 (suc (run w)) ≡ suc (length w) → (run w ≡ length w → take (length w) u ≡ w → run u ≡ length w + run (drop (length w) u)) → cond (is_delimiter b) 0 (suc (run u)) ≡ suc (length w) + run (drop (length w) u)
    go true q p r = absurd (omega arith)
    go false q p r =
        let same : b ≡ c = cc in
        let more : take (length w) u ≡ w = cc in
        let rest = r (omega arith) more in
        rw (ap is_delimiter same ∙ q) (let z : suc (run u) ≡ suc (length w) + run (drop (length w) u) = omega (arith, rest) in z)

module _ (s : List ℕ) (at : ℕ) (w : List ℕ) (whole : run w ≡ length w) {r : Bool} (e : r ≡ begins w (drop at s)) where
  abbrev u : List ℕ
  u = drop at s

  abbrev found : Bool
  found = same_bytes (take (run u) u) w

  pub word_absent : not r ≡ true → false ≡ found
  word_absent d = sym (no_begin w u whole (sym e ∙ not-true r d))

  module _ (d : not r ≡ false) where
    begun : take (length w) u ≡ w
    begun = (same_law (take (length w) u) w).0 (subst T (sym (not-false r d) ∙ e) tt)

    long : run u ≡ length w + run (drop (length w) u)
    long = run_through w u whole begun

    is_found_lem : run (drop (length w) u) ≡ 0 → true ≡ found
    is_found_lem z = sym (is_true_lem found ((same_law (take (run u) u) w).1 (ap (λ (k : ℕ). take k u) (let q : run u ≡ length w = omega (arith, long) in q) ∙ begun)))

    pub word_last : length s ≤ at + length w → true ≡ found
    word_last l = is_found_lem (ap run (drop-drop (length w) at s) ∙ run_out s (at + length w) l)

    pub word_bounded : at + length w < length s → {q : Bool} → q ≡ is_delimiter (get_or s (at + length w) 0) → q ≡ found
    word_bounded l {q} f = go q f
      where
        go : (x : Bool) → x ≡ is_delimiter (get_or s (at + length w) 0) → x ≡ found
        go true p = is_found_lem (ap run (drop-drop (length w) at s) ∙ run_ends s (at + length w) l (sym p))
        go false p =
            let n : run u ≡ length w + suc (run (drop (at + length w + 1) s)) = long ∙ ap (λ (k : ℕ). length w + k) (ap run (drop-drop (length w) at s) ∙ run_goes_on s (at + length w) l (sym p)) in
            other_length (take (run u) u) w (λ z. omega (arith, n, length-take-le (run u) u (run_le u)))

run_none : run [] ≡ 0
unfolding run
run_none = refl

run_first : (b : ℕ) (u : List ℕ) → run (b ∷ u) ≡ cond (is_delimiter b) 0 (suc (run u))
unfolding run
run_first b u = refl

none_opened : (w : List ℕ) → opens_with w (opened_by (tokens [])) ≡ false
unfolding tokens tokens_from
none_opened w = refl

-- an opening bracket, and whether the word is behind it
module _ (s : List ℕ) (at : ℕ) {g : ℕ} (e : g ≡ gap (drop at s)) (l : at + g < length s) (o : get_or s (at + g) 0 ≡ open_bracket)
    {h : ℕ} (f : h ≡ gap (drop (at + g + 1) s)) (w : List ℕ) (some : 1 ≤ length w) where
  abbrev start : ℕ
  start = at + g + 1 + h

  abbrev behind : List ℕ
  behind = drop start s

  pub start_inside : start ≤ length s
  start_inside = gap_inside s (at + g + 1) f (omega arith)

  opened_word : opened_of (tokens (drop at s)) ≡ opened_by (tokens behind)
  opened_word = opening_here s at e l o ∙ ap opened_by (tokens_at s (at + g + 1) f)

  module _ {r : Bool} (d : r ≡ same_bytes (take (run behind) behind) w) where
    pub opened_there : r ≡ true → OpenedIs s at w (Some (start + length w))
    opened_there t = go behind refl
      where
        same : take (run behind) behind ≡ w
        same = (same_law (take (run behind) behind) w).0 (subst T (sym t ∙ d) tt)

        size : run behind ≡ length w
        size = sym (length-take-le (run behind) behind (run_le behind)) ∙ ap length same

        found : (b : ℕ) (u : List ℕ) → behind ≡ b ∷ u → is_delimiter b ≡ false → OpenedIs s at w (Some (start + length w))
        found b u p q =
            let words : tokens behind ≡ word w ∷ tokens (drop (start + length w) s) =
            ap tokens p ∙ word_tokens b u q ∙ ap (λ t. word (take (run t) t) ∷ tokens (drop (run t) t)) (sym p)
            ∙ ap₂ (λ x (k : ℕ). word x ∷ tokens (drop k behind)) same size ∙ ap (λ t. word w ∷ tokens t) (drop-drop (length w) start s) in
            record {
              says = (
                record { inside = omega (arith, size, run_le behind, length-drop start s, start_inside); onward = omega arith },
                opened_word ∙ ap opened_by words,
              );
            }

        bounded : (b : ℕ) (u : List ℕ) → behind ≡ b ∷ u → (x : Bool) → is_delimiter b ≡ x → run (b ∷ u) ≡ cond x 0 (suc (run u)) → OpenedIs s at w (Some (start + length w))
        bounded b u p true q z = absurd (let n : run behind ≡ 0 = ap run p ∙ z in omega (arith, size))
        bounded b u p false q z = found b u p q

        go : (t : List ℕ) → behind ≡ t → OpenedIs s at w (Some (start + length w))
        go [] p = absurd (let n : run behind ≡ 0 = ap run p ∙ run_none in omega (arith, size))
        go (b ∷ u) p = bounded b u p (is_delimiter b) refl (run_first b u)

    pub opened_other : r ≡ false → OpenedIs s at w None
    opened_other t = record { says = ap (opens_with w) opened_word ∙ go behind refl }
      where
        other : (b : ℕ) (u : List ℕ) → behind ≡ b ∷ u → First b → opens_with w (opened_by (tokens (b ∷ u))) ≡ false
        other b u p (is_end_lem q) = ap (λ ts. opens_with w (opened_by ts)) (end_tokens b u q)
        other b u p (is_space q) = absurd (past_gap (drop (at + g + 1) s) b u (drop-drop (gap (drop (at + g + 1) s)) (at + g + 1) s ∙ ap (λ (k : ℕ). drop (at + g + 1 + k) s) (sym f) ∙ p) q)
        other b u p (is_open q) = ap (λ ts. opens_with w (opened_by ts)) (open_tokens b u q)
        other b u p (is_close q) = ap (λ ts. opens_with w (opened_by ts)) (close_tokens b u q)
        other b u p (is_other_lem q) = ap (λ ts. opens_with w (opened_by ts)) (word_tokens b u q) ∙ ap (λ t. same_bytes (take (run t) t) w) (sym p) ∙ sym d ∙ t

        go : (t : List ℕ) → behind ≡ t → opens_with w (opened_by (tokens behind)) ≡ false
        go [] p = ap (λ t. opens_with w (opened_by (tokens t))) p ∙ none_opened w
        go (b ∷ u) p = ap (λ t. opens_with w (opened_by (tokens t))) p ∙ other b u p (first_of b)
