-- What a parsed condition holds: its connectives and its names, in file order.
use Prim.Native.Nat.{ℕ, suc}
use mathlib.Core.Path.{◌≡◌, refl, sym, ap, ap₂, ◌∙◌, subst}
use mathlib.Core.List.{List, [], ◌∷◌, ◌++◌, map, append_assoc, append-nil}
use Rattle.rules.specs.Lists.{from}
use Rattle.conditions.specs.Conditions.{Cond, name, NOT, AND, OR, connectives, names_of}
use Rattle.lines.specs.Tokens.{Token, opening, closing, word}
use Rattle.lines.specs.Conditions.{WordSort, negation, conjunction, disjunction, called, sort_of, by_sort, names_in, connectives_in, Pending, bracket, negate, conjoin, disjoin, with_and, with_or, Ending, bracketed, free, ending_of, Parsed, parsed, unparsed, on_closing, whole_of, Turn, part, after, parse_from, parse}

-- a function after the choice of a word's sort
by_sort_lem : {A B : Type 0} (f : A → B) (s : WordSort) (n c d x : A) → by_sort s (f n) (f c) (f d) (f x) ≡ f (by_sort s n c d x)
by_sort_lem f negation n c d x = refl
by_sort_lem f conjunction n c d x = refl
by_sort_lem f disjunction n c d x = refl
by_sort_lem f called n c d x = refl

-- a list of a condition has its parts' own in file order: N of each name, U of each connective
module _ (N U : ℕ → List ℕ) where
  -- that of the tokens that are left
  abbrev ahead : (List ℕ → ℕ) → ℕ → List Token → List ℕ
  ahead numbers t [] = []
  ahead numbers t (opening ∷ ts) = ahead numbers t ts
  ahead numbers t (closing ∷ ts) = ahead numbers t ts
  ahead numbers t (word x ∷ ts) =
      let more = U t ++ ahead numbers (suc t) ts in
      by_sort (sort_of x) more more more (N (numbers x) ++ ahead numbers t ts)

module _ (F : Cond → List ℕ) (U : ℕ → List ℕ) where
  -- that of what awaits a part
  abbrev held : List Pending → List ℕ
  held [] = []
  held (bracket ∷ ps) = held ps
  held (negate u ∷ ps) = held ps ++ U u
  held (conjoin l u ∷ ps) = held ps ++ (F l ++ U u)
  held (disjoin l u ∷ ps) = held ps ++ (F l ++ U u)

module _ (F : Cond → List ℕ) (N U : ℕ → List ℕ) (at_name : (a : ℕ) → F (name a) ≡ N a) (at-not : (t : ℕ) (c : Cond) → F (NOT t c) ≡ U t ++ F c) (at-and : (l : Cond) (t : ℕ) (r : Cond) → F (AND l t r) ≡ F l ++ (U t ++ F r)) (at-or : (l : Cond) (t : ℕ) (r : Cond) → F (OR l t r) ≡ F l ++ (U t ++ F r)) where
  joined_not : (ps : List Pending) (u : ℕ) (c : Cond) (xs : List ℕ) → held F U ps ++ (F (NOT u c) ++ xs) ≡ (held F U ps ++ U u) ++ (F c ++ xs)
  joined_not ps u c xs = ap (λ ys. held F U ps ++ (ys ++ xs)) (at-not u c) ∙ simp append_assoc

  joined : (ps : List Pending) (l : Cond) (u : ℕ) (c d : Cond) (xs : List ℕ) → F d ≡ F l ++ (U u ++ F c) → held F U ps ++ (F d ++ xs) ≡ (held F U ps ++ (F l ++ U u)) ++ (F c ++ xs)
  joined ps l u c d xs e = ap (λ ys. held F U ps ++ (ys ++ xs)) e ∙ simp append_assoc

  held_and : (t : ℕ) (ps : List Pending) (c : Cond) → held F U (with_and t ps c) ≡ held F U ps ++ (F c ++ U t)
  unfolding with_and
  held_and t [] c = refl
  held_and t (bracket ∷ ps) c = refl
  held_and t (negate u ∷ ps) c = held_and t ps (NOT u c) ∙ joined_not ps u c (U t)
  held_and t (conjoin l u ∷ ps) c = held_and t ps (AND l u c) ∙ joined ps l u c (AND l u c) (U t) (at-and l u c)
  held_and t (disjoin l u ∷ ps) c = refl

  held_or : (t : ℕ) (ps : List Pending) (c : Cond) → held F U (with_or t ps c) ≡ held F U ps ++ (F c ++ U t)
  unfolding with_or
  held_or t [] c = refl
  held_or t (bracket ∷ ps) c = refl
  held_or t (negate u ∷ ps) c = held_or t ps (NOT u c) ∙ joined_not ps u c (U t)
  held_or t (conjoin l u ∷ ps) c = held_or t ps (AND l u c) ∙ joined ps l u c (AND l u c) (U t) (at-and l u c)
  held_or t (disjoin l u ∷ ps) c = held_or t ps (OR l u c) ∙ joined ps l u c (OR l u c) (U t) (at-or l u c)

  abbrev ended : Ending → List ℕ
  ended (bracketed ps c) = held F U ps ++ F c
  ended (free c) = F c

  joined_end : (ps : List Pending) (xs ys zs : List ℕ) → held F U ps ++ (xs ++ []) ≡ ys ++ (zs ++ []) → held F U ps ++ xs ≡ ys ++ zs
  joined_end ps xs ys zs e = ap (λ l. held F U ps ++ l) (sym (append-nil xs)) ∙ e ∙ ap (λ l. ys ++ l) (append-nil zs)

  held_ending : (ps : List Pending) (c : Cond) → ended (ending_of ps c) ≡ held F U ps ++ F c
  unfolding ending_of
  held_ending [] c = refl
  held_ending (bracket ∷ ps) c = refl
  held_ending (negate u ∷ ps) c = held_ending ps (NOT u c) ∙ joined_end ps (F (NOT u c)) (held F U ps ++ U u) (F c) (joined_not ps u c [])
  held_ending (conjoin l u ∷ ps) c = held_ending ps (AND l u c) ∙ joined_end ps (F (AND l u c)) (held F U ps ++ (F l ++ U u)) (F c) (joined ps l u c (AND l u c) [] (at-and l u c))
  held_ending (disjoin l u ∷ ps) c = held_ending ps (OR l u c) ∙ joined_end ps (F (OR l u c)) (held F U ps ++ (F l ++ U u)) (F c) (joined ps l u c (OR l u c) [] (at-or l u c))

  module _ (numbers : List ℕ → ℕ) where
    abbrev read : Turn → List ℕ
    read part = []
    read (after c) = F c

    abbrev Holds : List ℕ → Parsed → Type 0
    Holds xs (parsed c) = F c ≡ xs
    Holds xs unparsed = Unit {0}

    holds : (t : ℕ) (ps : List Pending) (turn : Turn) (ts : List Token) → Holds (held F U ps ++ (read turn ++ ahead N U numbers t ts)) (parse_from numbers t ps turn ts)
    unfolding parse_from
    holds t ps part [] = tt
    holds t ps part (opening ∷ ts) = holds t (bracket ∷ ps) part ts
    holds t ps part (closing ∷ ts) = tt
    holds t ps part (word x ∷ ts) = go (sort_of x) (holds (suc t) (negate t ∷ ps) part ts) (holds t ps (after (name (numbers x))) ts)
      where
        go : (s : WordSort)
            → Holds ((held F U ps ++ U t) ++ ahead N U numbers (suc t) ts) (parse_from numbers (suc t) (negate t ∷ ps) part ts)
            → Holds (held F U ps ++ (F (name (numbers x)) ++ ahead N U numbers t ts)) (parse_from numbers t ps (after (name (numbers x))) ts)
            → Holds (held F U ps ++ by_sort s (U t ++ ahead N U numbers (suc t) ts) (U t ++ ahead N U numbers (suc t) ts) (U t ++ ahead N U numbers (suc t) ts) (N (numbers x) ++ ahead N U numbers t ts))
            (by_sort s (parse_from numbers (suc t) (negate t ∷ ps) part ts) unparsed unparsed (parse_from numbers t ps (after (name (numbers x))) ts))
        go negation h k = subst (λ xs. Holds xs (parse_from numbers (suc t) (negate t ∷ ps) part ts)) (append_assoc (held F U ps) (U t) (ahead N U numbers (suc t) ts)) h
        go conjunction h k = tt
        go disjunction h k = tt
        go called h k = subst (λ xs. Holds (held F U ps ++ (xs ++ ahead N U numbers t ts)) (parse_from numbers t ps (after (name (numbers x))) ts)) (at_name (numbers x)) k
    holds t ps (after c) [] = go (ending_of ps c) (held_ending ps c)
      where
        go : (e : Ending) → ended e ≡ held F U ps ++ F c → Holds (held F U ps ++ (F c ++ [])) (whole_of e)
        go (bracketed qs d) h = tt
        go (free d) h = h ∙ ap (λ xs. held F U ps ++ xs) (sym (append-nil (F c)))
    holds t ps (after c) (opening ∷ ts) = tt
    holds t ps (after c) (closing ∷ ts) = go (ending_of ps c) (held_ending ps c) (λ (qs : List Pending) (d : Cond). holds t qs (after d) ts)
      where
        go : (e : Ending) → ended e ≡ held F U ps ++ F c
            → ((qs : List Pending) (d : Cond) → Holds (held F U qs ++ (F d ++ ahead N U numbers t ts)) (parse_from numbers t qs (after d) ts))
            → Holds (held F U ps ++ (F c ++ ahead N U numbers t ts)) (on_closing e (λ qs d. parse_from numbers t qs (after d) ts))
        go (bracketed qs d) h k =
            subst (λ xs. Holds xs (parse_from numbers t qs (after d) ts))
            (sym (append_assoc (held F U qs) (F d) (ahead N U numbers t ts)) ∙ ap (λ xs. xs ++ ahead N U numbers t ts) h ∙ append_assoc (held F U ps) (F c) (ahead N U numbers t ts)) (k qs d)
        go (free d) h k = tt
    holds t ps (after c) (word x ∷ ts) = go (sort_of x) (holds (suc t) (with_and t ps c) part ts) (holds (suc t) (with_or t ps c) part ts)
      where
        rest : List ℕ
        rest = ahead N U numbers (suc t) ts

        on : (qs : List Pending) → held F U qs ≡ held F U ps ++ (F c ++ U t) → held F U qs ++ rest ≡ held F U ps ++ (F c ++ (U t ++ rest))
        on qs e = ap (λ xs. xs ++ rest) e ∙ simp append_assoc

        go : (s : WordSort)
            → Holds (held F U (with_and t ps c) ++ rest) (parse_from numbers (suc t) (with_and t ps c) part ts)
            → Holds (held F U (with_or t ps c) ++ rest) (parse_from numbers (suc t) (with_or t ps c) part ts)
            → Holds (held F U ps ++ (F c ++ by_sort s (U t ++ rest) (U t ++ rest) (U t ++ rest) (N (numbers x) ++ ahead N U numbers t ts)))
            (by_sort s unparsed (parse_from numbers (suc t) (with_and t ps c) part ts) (parse_from numbers (suc t) (with_or t ps c) part ts) unparsed)
        go negation h k = tt
        go conjunction h k = subst (λ xs. Holds xs (parse_from numbers (suc t) (with_and t ps c) part ts)) (on (with_and t ps c) (held_and t ps c)) h
        go disjunction h k = subst (λ xs. Holds xs (parse_from numbers (suc t) (with_or t ps c) part ts)) (on (with_or t ps c) (held_or t ps c)) k
        go called h k = tt

    parsed_holds : (t : ℕ) (ts : List Token) (c : Cond) → parse numbers t ts ≡ parsed c → F c ≡ ahead N U numbers t ts
    unfolding parse
    parsed_holds t ts c e = subst (Holds (ahead N U numbers t ts)) e (holds t [] part ts)

-- its connectives have the numbers from t on
pub parsed_connectives : (numbers : List ℕ → ℕ) (t : ℕ) (ts : List Token) (c : Cond) → parse numbers t ts ≡ parsed c → connectives c ≡ from t (connectives_in ts)
unfolding connectives connectives_in
parsed_connectives numbers t ts c e =
    parsed_holds connectives (λ a. []) (λ u. u ∷ []) (λ a. refl) (λ u d. refl) (λ l u r. refl) (λ l u r. refl) numbers t ts c e ∙ counted t ts
  where
    counted : (u : ℕ) (us : List Token) → ahead (λ a. []) (λ v. v ∷ []) numbers u us ≡ from u (connectives_in us)
    counted u [] = refl
    counted u (opening ∷ us) = counted u us
    counted u (closing ∷ us) = counted u us
    counted u (word x ∷ us) = ap₂ (λ k l. by_sort (sort_of x) k k k l) (ap (λ l. u ∷ l) (counted (suc u) us)) (counted u us) ∙ by_sort_lem (from u) (sort_of x) _ _ _ _

-- and its atoms are those of the names
pub parsed_names : (numbers : List ℕ → ℕ) (t : ℕ) (ts : List Token) (c : Cond) → parse numbers t ts ≡ parsed c → names_of c ≡ map numbers (names_in ts)
unfolding names_of names_in
parsed_names numbers t ts c e = parsed_holds names_of (λ a. a ∷ []) (λ u. []) (λ a. refl) (λ u d. refl) (λ l u r. refl) (λ l u r. refl) numbers t ts c e ∙ numbered t ts
  where
    numbered : (u : ℕ) (us : List Token) → ahead (λ a. a ∷ []) (λ v. []) numbers u us ≡ map numbers (names_in us)
    numbered u [] = refl
    numbered u (opening ∷ us) = numbered u us
    numbered u (closing ∷ us) = numbered u us
    numbered u (word x ∷ us) = ap₂ (λ k l. by_sort (sort_of x) k k k l) (numbered (suc u) us) (ap (λ l. numbers x ∷ l) (numbered u us)) ∙ by_sort_lem (map numbers) (sort_of x) _ _ _ _
