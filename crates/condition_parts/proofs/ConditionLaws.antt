-- How the words of a condition bind: what awaits a part is joined with it, or goes on waiting.
use Prim.Native.Nat.{ℕ, suc}
use native.Mathlib.Omega.{arith}
use mathlib.Core.Path.{◌≡◌, refl, sym, ap, ◌∙◌, subst}
use mathlib.Core.Bool.{Bool, true, false, cond}
use mathlib.Core.List.{List, [], ◌∷◌}
use Rattle.kinds.specs.Words.{not_word, and_word, or_word}
use Rattle.rules.specs.Lists.{is_empty}
use Rattle.name_store.specs.NameStore.{same_bytes}
use Rattle.conditions.specs.Conditions.{Cond, name, NOT, AND, OR}
use Rattle.lines.specs.Tokens.{Token, opening, closing, word}
use Rattle.lines.specs.Conditions.{WordSort, negation, conjunction, disjunction, called, sort_of, by_sort, names_in, connectives_in, Pending, bracket, negate, conjoin, disjoin, with_and, with_or, ending_of, parsed, unparsed, part, after, parse_from}
use Rattle.lines.specs.Shapes.{is_closing}
use Rattle.condition_parts.specs.Places.{is_leading}

-- the sorts of words

pub called_sort : (x : List ℕ) → same_bytes x not_word ≡ false → same_bytes x and_word ≡ false → same_bytes x or_word ≡ false → sort_of x ≡ called
unfolding sort_of
called_sort x n a o = rw (n, a, o)

-- a word of a sort is that sort's word
abbrev Says : Bool → Bool → Bool → WordSort → Type 0
Says n a o negation = n ≡ true
Says n a o conjunction = a ≡ true
Says n a o disjunction = o ≡ true
Says n a o called = Unit {0}

sort_says : (n a o : Bool) → Says n a o (cond n negation (cond a conjunction (cond o disjunction called)))
sort_says true a o = refl
sort_says false true o = refl
sort_says false false true = refl
sort_says false false false = tt

module _ (x : List ℕ) where
  word_says : {k : WordSort} → sort_of x ≡ k → Says (same_bytes x not_word) (same_bytes x and_word) (same_bytes x or_word) k
  unfolding sort_of
  word_says e = subst (Says (same_bytes x not_word) (same_bytes x and_word) (same_bytes x or_word)) e (sort_says (same_bytes x not_word) (same_bytes x and_word) (same_bytes x or_word))

  no_conjunction : same_bytes x and_word ≡ false → sort_of x ≡ conjunction → ⊥
  no_conjunction p q = let e : false ≡ true = sym p ∙ word_says q in let z : ◌≡◌ {A = ℕ} 0 1 = cc in omega arith

  no_disjunction : same_bytes x or_word ≡ false → sort_of x ≡ disjunction → ⊥
  no_disjunction p q = let e : false ≡ true = sym p ∙ word_says q in let z : ◌≡◌ {A = ℕ} 0 1 = cc in omega arith

-- the names and the connectives among words

module _ (x : List ℕ) (ts : List Token) (e : sort_of x ≡ called) where
  pub names_called : names_in (word x ∷ ts) ≡ x ∷ names_in ts
  unfolding names_in
  names_called = ap (λ k. by_sort k (names_in ts) (names_in ts) (names_in ts) (x ∷ names_in ts)) e

  pub connectives_called : connectives_in (word x ∷ ts) ≡ connectives_in ts
  unfolding connectives_in
  connectives_called = ap (λ k. by_sort k (suc (connectives_in ts)) (suc (connectives_in ts)) (suc (connectives_in ts)) (connectives_in ts)) e

-- a connective's word
pub data IsConnective : List ℕ → Type 0 where
  is_not_lem : IsConnective not_word
  is_and : IsConnective and_word
  is_or : IsConnective or_word

pub names_connective : {w : List ℕ} → IsConnective w → (ts : List Token) → names_in (word w ∷ ts) ≡ names_in ts
unfolding names_in sort_of same_bytes
names_connective is_not_lem ts = refl
names_connective is_and ts = refl
names_connective is_or ts = refl

pub connectives_connective : {w : List ℕ} → IsConnective w → (ts : List Token) → connectives_in (word w ∷ ts) ≡ suc (connectives_in ts)
unfolding connectives_in sort_of same_bytes
connectives_connective is_not_lem ts = refl
connectives_connective is_and ts = refl
connectives_connective is_or ts = refl

pub names_opening : (ts : List Token) → names_in (opening ∷ ts) ≡ names_in ts
unfolding names_in
names_opening ts = refl

pub connectives_opening : (ts : List Token) → connectives_in (opening ∷ ts) ≡ connectives_in ts
unfolding connectives_in
connectives_opening ts = refl

pub names_closing : (ts : List Token) → names_in (closing ∷ ts) ≡ names_in ts
unfolding names_in
names_closing ts = refl

pub connectives_closing : (ts : List Token) → connectives_in (closing ∷ ts) ≡ connectives_in ts
unfolding connectives_in
connectives_closing ts = refl

module _ (numbers : List ℕ → ℕ) (t : ℕ) (ps : List Pending) where
  -- where a part must come

  pub part_called : (x : List ℕ) (ts : List Token) → sort_of x ≡ called → parse_from numbers t ps part (word x ∷ ts) ≡ parse_from numbers t ps (after (name (numbers x))) ts
  unfolding parse_from
  part_called x ts e =
      ap (λ k. by_sort k (parse_from numbers (suc t) (negate t ∷ ps) part ts) unparsed unparsed (parse_from numbers t ps (after (name (numbers x))) ts)) e

  pub part_not : (ts : List Token) → parse_from numbers t ps part (word not_word ∷ ts) ≡ parse_from numbers (suc t) (negate t ∷ ps) part ts
  unfolding parse_from sort_of same_bytes
  part_not ts = refl

  pub part_opening : (ts : List Token) → parse_from numbers t ps part (opening ∷ ts) ≡ parse_from numbers t (bracket ∷ ps) part ts
  unfolding parse_from
  part_opening ts = refl

  pub part_nothing : parse_from numbers t ps part [] ≡ unparsed
  unfolding parse_from
  part_nothing = refl

  pub part_closing : (ts : List Token) → parse_from numbers t ps part (closing ∷ ts) ≡ unparsed
  unfolding parse_from
  part_closing ts = refl

  pub part_and : (ts : List Token) → parse_from numbers t ps part (word and_word ∷ ts) ≡ unparsed
  unfolding parse_from sort_of same_bytes
  part_and ts = refl

  pub part_or : (ts : List Token) → parse_from numbers t ps part (word or_word ∷ ts) ≡ unparsed
  unfolding parse_from sort_of same_bytes
  part_or ts = refl

  -- behind a part

  pub after_and : (c : Cond) (ts : List Token) → with_and t ps c ≡ conjoin c t ∷ ps → parse_from numbers t ps (after c) (word and_word ∷ ts) ≡ parse_from numbers (suc t) (conjoin c t ∷ ps) part ts
  unfolding parse_from sort_of same_bytes
  after_and c ts e = ap (λ qs. parse_from numbers (suc t) qs part ts) e

  pub after_or : (c : Cond) (ts : List Token) → with_or t ps c ≡ disjoin c t ∷ ps → parse_from numbers t ps (after c) (word or_word ∷ ts) ≡ parse_from numbers (suc t) (disjoin c t ∷ ps) part ts
  unfolding parse_from sort_of same_bytes
  after_or c ts e = ap (λ qs. parse_from numbers (suc t) qs part ts) e

  pub negated : (u : ℕ) (c : Cond) (ts : List Token) → parse_from numbers t (negate u ∷ ps) (after c) ts ≡ parse_from numbers t ps (after (NOT u c)) ts
  unfolding parse_from with_and with_or ending_of
  negated u c [] = refl
  negated u c (opening ∷ ts) = refl
  negated u c (closing ∷ ts) = refl
  negated u c (word x ∷ ts) = refl

  pub conjoined : (l : Cond) (u : ℕ) (c : Cond) (ts : List Token) → parse_from numbers t (conjoin l u ∷ ps) (after c) ts ≡ parse_from numbers t ps (after (AND l u c)) ts
  unfolding parse_from with_and with_or ending_of
  conjoined l u c [] = refl
  conjoined l u c (opening ∷ ts) = refl
  conjoined l u c (closing ∷ ts) = refl
  conjoined l u c (word x ∷ ts) = refl

  pub disjoined : (l : Cond) (u : ℕ) (c : Cond) (ts : List Token) → is_leading and_word ts ≡ false → parse_from numbers t (disjoin l u ∷ ps) (after c) ts ≡ parse_from numbers t ps (after (OR l u c)) ts
  unfolding parse_from with_and with_or ending_of
  disjoined l u c [] n = refl
  disjoined l u c (opening ∷ ts) n = refl
  disjoined l u c (closing ∷ ts) n = refl
  disjoined l u c (word x ∷ ts) n = go (sort_of x) (no_conjunction x n)
    where
      go : (k : WordSort) → (k ≡ conjunction → ⊥)
          → by_sort k unparsed (parse_from numbers (suc t) (conjoin c t ∷ disjoin l u ∷ ps) part ts) (parse_from numbers (suc t) (with_or t ps (OR l u c)) part ts) unparsed
          ≡ by_sort k unparsed (parse_from numbers (suc t) (with_and t ps (OR l u c)) part ts) (parse_from numbers (suc t) (with_or t ps (OR l u c)) part ts) unparsed
      go negation m = refl
      go conjunction m = absurd (m refl)
      go disjunction m = refl
      go called m = refl

  pub unbracketed : (c : Cond) (ts : List Token) → parse_from numbers t (bracket ∷ ps) (after c) (closing ∷ ts) ≡ parse_from numbers t ps (after c) ts
  unfolding parse_from ending_of
  unbracketed c ts = refl

-- behind a part, where no connective stands
module _ (numbers : List ℕ → ℕ) (t : ℕ) (c : Cond) where
  no_word : (ps : List Pending) (x : List ℕ) (ts : List Token) → same_bytes x and_word ≡ false → same_bytes x or_word ≡ false → parse_from numbers t ps (after c) (word x ∷ ts) ≡ unparsed
  unfolding parse_from
  no_word ps x ts a o = go (sort_of x) (no_conjunction x a) (no_disjunction x o)
    where
      go : (k : WordSort) → (k ≡ conjunction → ⊥) → (k ≡ disjunction → ⊥) → by_sort k unparsed (parse_from numbers (suc t) (with_and t ps c) part ts) (parse_from numbers (suc t) (with_or t ps c) part ts) unparsed ≡ unparsed
      go negation m n = refl
      go conjunction m n = absurd (m refl)
      go disjunction m n = absurd (n refl)
      go called m n = refl

  -- a bracket that is not closed
  pub unclosed : (ps : List Pending) (ts : List Token) → is_leading and_word ts ≡ false → is_leading or_word ts ≡ false → is_closing ts ≡ false → parse_from numbers t (bracket ∷ ps) (after c) ts ≡ unparsed
  unfolding parse_from ending_of
  unclosed ps [] a o n = refl
  unclosed ps (opening ∷ ts) a o n = refl
  unclosed ps (closing ∷ ts) a o n = absurd (let z : ◌≡◌ {A = ℕ} 0 1 = cc in omega arith)
  unclosed ps (word x ∷ ts) a o n = no_word (bracket ∷ ps) x ts a o

  -- more than the condition
  pub more_behind : (ts : List Token) → is_leading and_word ts ≡ false → is_leading or_word ts ≡ false → is_empty ts ≡ false → parse_from numbers t [] (after c) ts ≡ unparsed
  unfolding parse_from ending_of
  more_behind [] a o n = absurd (let z : ◌≡◌ {A = ℕ} 0 1 = cc in omega arith)
  more_behind (opening ∷ ts) a o n = refl
  more_behind (closing ∷ ts) a o n = refl
  more_behind (word x ∷ ts) a o n = no_word [] x ts a o

  pub nothing_behind : parse_from numbers t [] (after c) [] ≡ parsed c
  unfolding parse_from ending_of
  nothing_behind = refl
