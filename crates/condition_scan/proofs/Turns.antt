-- With brackets that pair, tokens are a condition exactly when parts and connectives take turns.
use Prim.Native.Nat.{ℕ, suc}
use native.Mathlib.Omega.{arith}
use mathlib.Core.Path.{◌≡◌, refl, sym, subst}
use mathlib.Core.Bool.{Bool, true, false}
use mathlib.Core.List.{List, [], ◌∷◌}
use Rattle.conditions.specs.Conditions.{Cond, name, NOT, AND, OR}
use Rattle.lines.specs.Tokens.{Token, opening, closing, word}
use Rattle.lines.specs.Conditions.{WordSort, negation, conjunction, disjunction, called, sort_of, by_sort, pairs, Pending, bracket, negate, conjoin, disjoin, with_and, with_or, Ending, bracketed, free, ending_of, Parsed, parsed, unparsed, on_closing, whole_of, Turn, part, after, parse_from, parse}
use Rattle.condition_scan.specs.Scans.{is_scan}

-- the open brackets among what awaits a part
unfoldable brackets : List Pending → ℕ
brackets [] = 0
brackets (bracket ∷ ps) = suc (brackets ps)
brackets (negate u ∷ ps) = brackets ps
brackets (conjoin l u ∷ ps) = brackets ps
brackets (disjoin l u ∷ ps) = brackets ps

and_brackets : (t : ℕ) (ps : List Pending) (c : Cond) → brackets (with_and t ps c) ≡ brackets ps
unfolding brackets with_and
and_brackets t [] c = refl
and_brackets t (bracket ∷ ps) c = refl
and_brackets t (negate u ∷ ps) c = and_brackets t ps (NOT u c)
and_brackets t (conjoin l u ∷ ps) c = and_brackets t ps (AND l u c)
and_brackets t (disjoin l u ∷ ps) c = refl

or_brackets : (t : ℕ) (ps : List Pending) (c : Cond) → brackets (with_or t ps c) ≡ brackets ps
unfolding brackets with_or
or_brackets t [] c = refl
or_brackets t (bracket ∷ ps) c = refl
or_brackets t (negate u ∷ ps) c = or_brackets t ps (NOT u c)
or_brackets t (conjoin l u ∷ ps) c = or_brackets t ps (AND l u c)
or_brackets t (disjoin l u ∷ ps) c = or_brackets t ps (OR l u c)

abbrev Closes : Ending → ℕ → Type 0
Closes (bracketed qs c) n = n ≡ suc (brackets qs)
Closes (free c) n = n ≡ 0

ending_brackets : (ps : List Pending) (c : Cond) → Closes (ending_of ps c) (brackets ps)
unfolding brackets ending_of
ending_brackets [] c = refl
ending_brackets (bracket ∷ ps) c = refl
ending_brackets (negate u ∷ ps) c = ending_brackets ps (NOT u c)
ending_brackets (conjoin l u ∷ ps) c = ending_brackets ps (AND l u c)
ending_brackets (disjoin l u ∷ ps) c = ending_brackets ps (OR l u c)

abbrev Tells : Bool → Parsed → Type 0
Tells true p = (c : Cond) × (p ≡ parsed c)
Tells false p = p ≡ unparsed

abbrev awaits : Turn → Bool
awaits part = true
awaits (after c) = false

module _ (numbers : List ℕ → ℕ) where
  tells : (t : ℕ) (ps : List Pending) (turn : Turn) (ts : List Token) → pairs (brackets ps) ts ≡ true → Tells (is_scan (awaits turn) ts) (parse_from numbers t ps turn ts)
  unfolding brackets pairs is_scan parse_from
  tells t ps part [] p = refl
  tells t ps part (opening ∷ ts) p = tells t (bracket ∷ ps) part ts p
  tells t ps part (closing ∷ ts) p = refl
  tells t ps part (word x ∷ ts) p = go (sort_of x) (tells (suc t) (negate t ∷ ps) part ts p) (tells t ps (after (name (numbers x))) ts p)
    where
      go : (z : WordSort) → Tells (is_scan true ts) (parse_from numbers (suc t) (negate t ∷ ps) part ts) → Tells (is_scan false ts) (parse_from numbers t ps (after (name (numbers x))) ts)
          → Tells (by_sort z (is_scan true ts) false false (is_scan false ts)) (by_sort z (parse_from numbers (suc t) (negate t ∷ ps) part ts) unparsed unparsed (parse_from numbers t ps (after (name (numbers x))) ts))
      go negation h k = h
      go conjunction h k = refl
      go disjunction h k = refl
      go called h k = k
  tells t ps (after c) [] p = go (ending_of ps c) (ending_brackets ps c)
    where
      go : (e : Ending) → Closes e (brackets ps) → Tells true (whole_of e)
      go (bracketed qs d) k = absurd (let y : false ≡ true = subst (λ n. pairs n [] ≡ true) k p in let z : ◌≡◌ {A = ℕ} 0 1 = cc in omega arith)
      go (free d) k = (d, refl)
  tells t ps (after c) (opening ∷ ts) p = refl
  tells t ps (after c) (closing ∷ ts) p = go (ending_of ps c) (ending_brackets ps c) (λ qs d k. tells t qs (after d) ts k)
    where
      go : (e : Ending) → Closes e (brackets ps) → ((qs : List Pending) (d : Cond) → pairs (brackets qs) ts ≡ true → Tells (is_scan false ts) (parse_from numbers t qs (after d) ts)) → Tells (is_scan false ts) (on_closing e (λ qs d. parse_from numbers t qs (after d) ts))
      go (bracketed qs d) k r = r qs d (subst (λ n. pairs n (closing ∷ ts) ≡ true) k p)
      go (free d) k r = absurd (let y : false ≡ true = subst (λ n. pairs n (closing ∷ ts) ≡ true) k p in let z : ◌≡◌ {A = ℕ} 0 1 = cc in omega arith)
  tells t ps (after c) (word x ∷ ts) p =
      go (sort_of x) (tells (suc t) (with_and t ps c) part ts (subst (λ n. pairs n ts ≡ true) (sym (and_brackets t ps c)) p)) (tells (suc t) (with_or t ps c) part ts (subst (λ n. pairs n ts ≡ true) (sym (or_brackets t ps c)) p))
    where
      go : (z : WordSort) → Tells (is_scan true ts) (parse_from numbers (suc t) (with_and t ps c) part ts) → Tells (is_scan true ts) (parse_from numbers (suc t) (with_or t ps c) part ts)
          → Tells (by_sort z false (is_scan true ts) (is_scan true ts) false) (by_sort z unparsed (parse_from numbers (suc t) (with_and t ps c) part ts) (parse_from numbers (suc t) (with_or t ps c) part ts) unparsed)
      go negation h k = refl
      go conjunction h k = h
      go disjunction h k = k
      go called h k = refl

  module _ (t : ℕ) (ts : List Token) (p : pairs 0 ts ≡ true) where
    pub parses : is_scan true ts ≡ true → (c : Cond) × (parse numbers t ts ≡ parsed c)
    unfolding parse brackets
    parses e = subst (λ (b : Bool). Tells b (parse numbers t ts)) e (tells t [] part ts p)

    pub parses_not : is_scan true ts ≡ false → parse numbers t ts ≡ unparsed
    unfolding parse brackets
    parses_not e = subst (λ (b : Bool). Tells b (parse numbers t ts)) e (tells t [] part ts p)
