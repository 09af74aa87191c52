-- The condition that is parsed is the one that the documents' words say.
use Prim.Native.Nat.{ℕ, zero, suc, ◌+◌, ◌≤◌, ◌<◌, max}
use native.Mathlib.Omega.{arith}
use native.Mathlib.Decide.{dec_lt}
use native.Mathlib.Nat.{add-zero, zero-add}
use mathlib.Core.Path.{◌≡◌, refl, sym, ap, ap₂, ◌∙◌, subst}
use mathlib.Core.Logic.{◌⊎◌, inl, inr, ◌↔◌}
use mathlib.Core.Bool.{cond}
use mathlib.Core.List.{List, [], ◌∷◌, ◌++◌, append_assoc, append-nil}
use lib.Dec.{T}
use lib.Seq.{append_snoc}
use Rattle.kinds.specs.Words.{not_word, and_word, or_word}
use Rattle.rules.proofs.Booleans.{is_false}
use Rattle.rules.proofs.Connectives.{on_cond}
use Rattle.name_store.specs.NameStore.{same_bytes}
use Rattle.name_store.proofs.NameStores.{same_law, same_equal}
use Rattle.conditions.specs.Conditions.{Cond, name, NOT, AND, OR}
use Rattle.lines.specs.Tokens.{Token, opening, closing, word}
use Rattle.lines.specs.Conditions.{WordSort, negation as not-sort, conjunction as and-sort, disjunction as or-sort, called as name-sort, sort_of, by_sort, words_in, names_in, connectives_in, Pending, bracket, negate, conjoin, disjoin, with_and, with_or, Ending, bracketed, free, ending_of, Parsed, parsed, unparsed, on_closing, whole_of, Turn, part, after, parse_from, parse, deeper}
use Rattle.faults.specs.Sentences.{Among}
use Rattle.faults.specs.Conditions.{Typed, called, brackets, negation, conjunction, disjunction, typed_as, NoConnective, binding, Grouped, Spells, IsCondition, connectives_typed, meant, depth, DeeperThan}

-- the sorts of words

not_is : sort_of not_word ≡ not-sort
unfolding sort_of same_bytes
not_is = refl

and_is : sort_of and_word ≡ and-sort
unfolding sort_of same_bytes
and_is = refl

or_is : sort_of or_word ≡ or-sort
unfolding sort_of same_bytes
or_is = refl

name_is : (x : List ℕ) → NoConnective x → sort_of x ≡ name-sort
unfolding sort_of
name_is x (n, a, o) =
    ap (λ b. cond b not-sort (cond (same_bytes x and_word) and-sort (cond (same_bytes x or_word) or-sort name-sort))) (is_false (same_bytes x not_word) (λ t. n (same_equal x not_word t)))
    ∙ ap₂ (λ b d. cond b and-sort (cond d or-sort name-sort)) (is_false (same_bytes x and_word) (λ t. a (same_equal x and_word t))) (is_false (same_bytes x or_word) (λ t. o (same_equal x or_word t)))

abbrev SortSays : List ℕ → WordSort → Type 0
SortSays x not-sort = x ≡ not_word
SortSays x and-sort = x ≡ and_word
SortSays x or-sort = x ≡ or_word
SortSays x name-sort = NoConnective x

sort_says : (x : List ℕ) → SortSays x (sort_of x)
unfolding sort_of
sort_says x =
    on_cond (SortSays x) (same_bytes x not_word) not-sort _ (λ t. same_equal x not_word t) (λ n.
    on_cond (SortSays x) (same_bytes x and_word) and-sort _ (λ t. same_equal x and_word t) (λ a.
    on_cond (SortSays x) (same_bytes x or_word) or-sort name-sort (λ t. same_equal x or_word t) (λ o.
    (λ e. n ((same_law x not_word).1 e), λ e. a ((same_law x and_word).1 e), λ e. o ((same_law x or_word).1 e)))))

-- how loosely the part may bind that stands behind what awaits it
abbrev room : List Pending → ℕ
room [] = 2
room (bracket ∷ ps) = 2
room (negate u ∷ ps) = 0
room (conjoin l u ∷ ps) = 0
room (disjoin l u ∷ ps) = 1

loosest : (c : Typed) → binding c ≤ 2
loosest (called x) = omega arith
loosest (brackets c) = omega arith
loosest (negation c) = omega arith
loosest (conjunction l r) = omega arith
loosest (disjunction l r) = omega arith

-- `and` joins what stands before it unless that is a disjunction
abbrev NoAnd : List Token → Type 0
NoAnd [] = Unit {0}
NoAnd (opening ∷ ts) = Unit {0}
NoAnd (closing ∷ ts) = Unit {0}
NoAnd (word x ∷ ts) = x ≡ or_word

abbrev Follows : Typed → List Token → Type 0
Follows c ts = (binding c ≤ 1) ⊎ NoAnd ts

module _ (numbers : List ℕ → ℕ) where
  -- a condition that is typed is parsed

  name_next : (t : ℕ) (ps : List Pending) (x : List ℕ) (ts : List Token) → NoConnective x → parse_from numbers t ps part (word x ∷ ts) ≡ parse_from numbers t ps (after (name (numbers x))) ts
  unfolding parse_from
  name_next t ps x ts n = ap (λ s. by_sort s (parse_from numbers (suc t) (negate t ∷ ps) part ts) unparsed unparsed (parse_from numbers t ps (after (name (numbers x))) ts)) (name_is x n)

  not_next : (t : ℕ) (ps : List Pending) (ts : List Token) → parse_from numbers t ps part (word not_word ∷ ts) ≡ parse_from numbers (suc t) (negate t ∷ ps) part ts
  unfolding parse_from
  not_next t ps ts = ap (λ s. by_sort s (parse_from numbers (suc t) (negate t ∷ ps) part ts) unparsed unparsed (parse_from numbers t ps (after (name (numbers not_word))) ts)) not_is

  and_next : (t : ℕ) (ps : List Pending) (c : Cond) (ts : List Token) → 1 ≤ room ps → parse_from numbers t ps (after c) (word and_word ∷ ts) ≡ parse_from numbers (suc t) (conjoin c t ∷ ps) part ts
  unfolding parse_from with_and
  and_next t ps c ts p =
      ap (λ s. by_sort s unparsed (parse_from numbers (suc t) (with_and t ps c) part ts) (parse_from numbers (suc t) (with_or t ps c) part ts) unparsed) and_is
      ∙ ap (λ qs. parse_from numbers (suc t) qs part ts) (here ps p)
    where
      here : (qs : List Pending) → 1 ≤ room qs → with_and t qs c ≡ conjoin c t ∷ qs
      here [] h = refl
      here (bracket ∷ qs) h = refl
      here (negate u ∷ qs) h = absurd (omega arith)
      here (conjoin l u ∷ qs) h = absurd (omega arith)
      here (disjoin l u ∷ qs) h = refl

  or_next : (t : ℕ) (ps : List Pending) (c : Cond) (ts : List Token) → 2 ≤ room ps → parse_from numbers t ps (after c) (word or_word ∷ ts) ≡ parse_from numbers (suc t) (disjoin c t ∷ ps) part ts
  unfolding parse_from with_or
  or_next t ps c ts p =
      ap (λ s. by_sort s unparsed (parse_from numbers (suc t) (with_and t ps c) part ts) (parse_from numbers (suc t) (with_or t ps c) part ts) unparsed) or_is
      ∙ ap (λ qs. parse_from numbers (suc t) qs part ts) (here ps p)
    where
      here : (qs : List Pending) → 2 ≤ room qs → with_or t qs c ≡ disjoin c t ∷ qs
      here [] h = refl
      here (bracket ∷ qs) h = refl
      here (negate u ∷ qs) h = absurd (omega arith)
      here (conjoin l u ∷ qs) h = absurd (omega arith)
      here (disjoin l u ∷ qs) h = absurd (omega arith)

  -- what awaits a part may join it at once

  not_joins : (t : ℕ) (ps : List Pending) (u : ℕ) (c : Cond) (ts : List Token) → parse_from numbers t (negate u ∷ ps) (after c) ts ≡ parse_from numbers t ps (after (NOT u c)) ts
  unfolding parse_from with_and with_or ending_of
  not_joins t ps u c [] = refl
  not_joins t ps u c (opening ∷ ts) = refl
  not_joins t ps u c (closing ∷ ts) = refl
  not_joins t ps u c (word x ∷ ts) = refl

  and_joins : (t : ℕ) (ps : List Pending) (l : Cond) (u : ℕ) (c : Cond) (ts : List Token) → parse_from numbers t (conjoin l u ∷ ps) (after c) ts ≡ parse_from numbers t ps (after (AND l u c)) ts
  unfolding parse_from with_and with_or ending_of
  and_joins t ps l u c [] = refl
  and_joins t ps l u c (opening ∷ ts) = refl
  and_joins t ps l u c (closing ∷ ts) = refl
  and_joins t ps l u c (word x ∷ ts) = refl

  -- where no `and` follows
  or_joins : (t : ℕ) (ps : List Pending) (l : Cond) (u : ℕ) (c : Cond) (ts : List Token) → NoAnd ts → parse_from numbers t (disjoin l u ∷ ps) (after c) ts ≡ parse_from numbers t ps (after (OR l u c)) ts
  unfolding parse_from with_or ending_of
  or_joins t ps l u c [] n = refl
  or_joins t ps l u c (opening ∷ ts) n = refl
  or_joins t ps l u c (closing ∷ ts) n = refl
  or_joins t ps l u c (word x ∷ ts) n =
      let e : sort_of x ≡ or-sort = ap sort_of n ∙ or_is in
      let joined = parse_from numbers (suc t) (with_or t ps (OR l u c)) part ts in
      ap (λ s. by_sort s unparsed (parse_from numbers (suc t) (with_and t (disjoin l u ∷ ps) c) part ts) joined unparsed) e
      ∙ sym (ap (λ s. by_sort s unparsed (parse_from numbers (suc t) (with_and t ps (OR l u c)) part ts) joined unparsed) e)

  close_bracket : (t : ℕ) (ps : List Pending) (c : Cond) (ts : List Token) → parse_from numbers t (bracket ∷ ps) (after c) (closing ∷ ts) ≡ parse_from numbers t ps (after c) ts
  unfolding parse_from ending_of
  close_bracket t ps c ts = refl

  open_bracket : (t : ℕ) (ps : List Pending) (ts : List Token) → parse_from numbers t ps part (opening ∷ ts) ≡ parse_from numbers t (bracket ∷ ps) part ts
  unfolding parse_from
  open_bracket t ps ts = refl

  reads : (c : Typed) → Grouped c → (t : ℕ) (ps : List Pending) (ts : List Token) → binding c ≤ room ps → Follows c ts → parse_from numbers t ps part (typed_as c ++ ts) ≡ parse_from numbers (t + connectives_typed c) ps (after (meant numbers t c)) ts
  reads (called x) g t ps ts p f = name_next t ps x ts g ∙ ap (λ n. parse_from numbers n ps (after (name (numbers x))) ts) (sym (add-zero t))
  reads (brackets c) g t ps ts p f =
      open_bracket t ps ((typed_as c ++ (closing ∷ [])) ++ ts)
      ∙ ap (parse_from numbers t (bracket ∷ ps) part) (append_assoc (typed_as c) (closing ∷ []) ts)
      ∙ reads c g t (bracket ∷ ps) (closing ∷ ts) (loosest c) (inr tt)
      ∙ close_bracket (t + connectives_typed c) ps (meant numbers t c) ts
  reads (negation c) g t ps ts p f =
      let e : suc t + connectives_typed c ≡ t + suc (connectives_typed c) = omega arith in
      not_next t ps (typed_as c ++ ts)
      ∙ reads c g.1 (suc t) (negate t ∷ ps) ts g.0 (inl (omega (arith, g.0)))
      ∙ not_joins (suc t + connectives_typed c) ps t (meant numbers (suc t) c) ts
      ∙ ap (λ n. parse_from numbers n ps (after (NOT t (meant numbers (suc t) c))) ts) e
  reads (conjunction l r) g t ps ts p f =
      let m = t + connectives_typed l in
      let e : suc m + connectives_typed r ≡ t + (connectives_typed l + suc (connectives_typed r)) = omega arith in
      let left = meant numbers t l in
      let right = meant numbers (suc m) r in
      ap (parse_from numbers t ps part) (append_assoc (typed_as l) (word and_word ∷ typed_as r) ts)
      ∙ reads l g.2 t ps (word and_word ∷ (typed_as r ++ ts)) (omega (arith, g.0)) (inl g.0)
      ∙ and_next m ps left (typed_as r ++ ts) p
      ∙ reads r g.3 (suc m) (conjoin left m ∷ ps) ts (omega (arith, g.1)) (inl (omega (arith, g.1)))
      ∙ and_joins (suc m + connectives_typed r) ps left m right ts
      ∙ ap (λ n. parse_from numbers n ps (after (AND left m right)) ts) e
  reads (disjunction l r) g t ps ts p f =
      let m = t + connectives_typed l in
      let e : suc m + connectives_typed r ≡ t + (connectives_typed l + suc (connectives_typed r)) = omega arith in
      let left = meant numbers t l in
      let right = meant numbers (suc m) r in
      ap (parse_from numbers t ps part) (append_assoc (typed_as l) (word or_word ∷ typed_as r) ts)
      ∙ reads l g.2 t ps (word or_word ∷ (typed_as r ++ ts)) (omega (arith, g.0)) (inr refl)
      ∙ or_next m ps left (typed_as r ++ ts) p
      ∙ reads r g.3 (suc m) (disjoin left m ∷ ps) ts (omega (arith, g.1)) (inl (omega (arith, g.1)))
      ∙ or_joins (suc m + connectives_typed r) ps left m right ts (no_and f)
      ∙ ap (λ n. parse_from numbers n ps (after (OR left m right)) ts) e
    where
      no_and : (2 ≤ 1) ⊎ NoAnd ts → NoAnd ts
      no_and (inl h) = absurd (omega arith)
      no_and (inr h) = h

  spelled : (t : ℕ) (c : Typed) (ts : List Token) → Spells c ts → parse numbers t ts ≡ parsed (meant numbers t c)
  unfolding parse parse_from ending_of
  spelled t c ts (g, e) = ap (parse_from numbers t [] part) (sym e ∙ sym (append-nil (typed_as c))) ∙ reads c g t [] [] (loosest c) (inr tt)

  -- and what is parsed is a condition that is typed: us is read, from the number start on

  module _ (start : ℕ) where
    -- a part with the connective behind it
    record Left (Earlier : List Token → ℕ → Type 0) (loosest-left : ℕ) (w : List ℕ) (l : Cond) (u : ℕ) (us : List Token) (t : ℕ) : Type 0 where
      earlier : List Token
      first : ℕ
      tree : Typed
      read : us ≡ earlier ++ (typed_as tree ++ (word w ∷ []))
      grouped : Grouped tree
      binds : binding tree ≤ loosest-left
      means : meant numbers first tree ≡ l
      number : u ≡ first + connectives_typed tree
      next : t ≡ suc u
      awaits : Earlier earlier first

    -- what awaits a part is typed and grouped right
    abbrev Awaits : List Pending → List Token → ℕ → Type 0
    Awaits [] us t = (us ≡ []) × (t ≡ start)
    Awaits (bracket ∷ ps) us t = (vs : List Token) × (us ≡ vs ++ (opening ∷ [])) × Awaits ps vs t
    Awaits (negate u ∷ ps) us t = (vs : List Token) × (us ≡ vs ++ (word not_word ∷ [])) × (t ≡ suc u) × Awaits ps vs u
    Awaits (conjoin l u ∷ ps) us t = Left (Awaits ps) 1 and_word l u us t × (1 ≤ room ps)
    Awaits (disjoin l u ∷ ps) us t = Left (Awaits ps) 2 or_word l u us t × (2 ≤ room ps)

    -- and so is the part
    record Behind (ps : List Pending) (c : Cond) (us : List Token) (t : ℕ) : Type 0 where
      earlier : List Token
      first : ℕ
      tree : Typed
      read : us ≡ earlier ++ typed_as tree
      grouped : Grouped tree
      place : binding tree ≤ room ps
      means : meant numbers first tree ≡ c
      number : t ≡ first + connectives_typed tree
      awaits : Awaits ps earlier first

    joined_not : {ps : List Pending} {u : ℕ} {c : Cond} {us : List Token} {t : ℕ} → Behind (negate u ∷ ps) c us t → (b : Behind ps (NOT u c) us t) × (binding b.tree ≤ 1)
    joined_not {ps} {u} h = let (vs, e, n, a) = h.awaits in let d = h.number in (
      record {
        earlier = vs;
        first = u;
        tree = negation h.tree;
        read = h.read ∙ ap (λ us. us ++ typed_as h.tree) e ∙ append_assoc vs (word not_word ∷ []) (typed_as h.tree);
        grouped = (h.place, h.grouped);
        place = omega arith;
        means = ap (NOT u) (ap (λ k. meant numbers k h.tree) (sym n) ∙ h.means);
        number = omega arith;
        awaits = a;
      },
      omega arith,
    )

    -- a part joined to the left

    read_joined : {us vs : List Token} (es : List Token) (k : Token) (xs ys : List Token) → us ≡ vs ++ ys → vs ≡ es ++ (xs ++ (k ∷ [])) → us ≡ es ++ (xs ++ (k ∷ ys))
    read_joined es k xs ys e d = e ∙ ap (λ l. l ++ ys) d ∙ simp append_assoc

    means_joined : (join : Cond → ℕ → Cond → Cond) (x y : Typed) (v : ℕ) {u t : ℕ} {l c : Cond} → meant numbers v x ≡ l → u ≡ v + connectives_typed x → t ≡ suc u → meant numbers t y ≡ c → join (meant numbers v x) (v + connectives_typed x) (meant numbers (suc (v + connectives_typed x)) y) ≡ join l u c
    means_joined join x y v {u = u} {l = l} left n m right = ap₂ (λ d k. join d k (meant numbers (suc k) y)) left (sym n) ∙ ap (join l u) (ap (λ k. meant numbers k y) (sym m) ∙ right)

    joined_and : {ps : List Pending} {l : Cond} {u : ℕ} {c : Cond} {us : List Token} {t : ℕ} → Behind (conjoin l u ∷ ps) c us t → (b : Behind ps (AND l u c) us t) × (binding b.tree ≤ 1)
    joined_and {ps} {l} {u} h = let a = h.awaits.0 in let n = a.next in let m = a.number in let d = h.number in (
      record {
        earlier = a.earlier;
        first = a.first;
        tree = conjunction a.tree h.tree;
        read = read_joined a.earlier (word and_word) (typed_as a.tree) (typed_as h.tree) h.read a.read;
        grouped = (a.binds, omega (arith, h.place), a.grouped, h.grouped);
        place = h.awaits.1;
        means = means_joined AND a.tree h.tree a.first a.means a.number a.next h.means;
        number = omega arith;
        awaits = a.awaits;
      },
      omega arith,
    )

    joined_or : {ps : List Pending} {l : Cond} {u : ℕ} {c : Cond} {us : List Token} {t : ℕ} → Behind (disjoin l u ∷ ps) c us t → Behind ps (OR l u c) us t
    joined_or {ps} {l} {u} h = let a = h.awaits.0 in let n = a.next in let m = a.number in let d = h.number in record {
      earlier = a.earlier;
      first = a.first;
      tree = disjunction a.tree h.tree;
      read = read_joined a.earlier (word or_word) (typed_as a.tree) (typed_as h.tree) h.read a.read;
      grouped = (a.binds, omega (arith, h.place), a.grouped, h.grouped);
      place = h.awaits.1;
      means = means_joined OR a.tree h.tree a.first a.means a.number a.next h.means;
      number = omega arith;
      awaits = a.awaits;
    }

    -- with a connective behind it
    left_of : {ps : List Pending} {c : Cond} {us : List Token} {t : ℕ} (n : ℕ) (w : List ℕ) (h : Behind ps c us t) → binding h.tree ≤ n → Left (Awaits ps) n w c t (us ++ (word w ∷ [])) (suc t)
    left_of n w h b = record {
      earlier = h.earlier;
      first = h.first;
      tree = h.tree;
      read = ap (λ l. l ++ (word w ∷ [])) h.read ∙ append_assoc h.earlier (typed_as h.tree) (word w ∷ []);
      grouped = h.grouped;
      binds = b;
      means = h.means;
      number = h.number;
      next = refl;
      awaits = h.awaits;
    }

    with_and_lem : (ps : List Pending) (c : Cond) (us : List Token) (t : ℕ) (h : Behind ps c us t) → binding h.tree ≤ 1 → Awaits (with_and t ps c) (us ++ (word and_word ∷ [])) (suc t)
    unfolding with_and
    with_and_lem [] c us t h b = (left_of 1 and_word h b, omega arith)
    with_and_lem (bracket ∷ ps) c us t h b = (left_of 1 and_word h b, omega arith)
    with_and_lem (negate u ∷ ps) c us t h b = let j = joined_not h in with_and_lem ps (NOT u c) us t j.0 j.1
    with_and_lem (conjoin l u ∷ ps) c us t h b = let j = joined_and h in with_and_lem ps (AND l u c) us t j.0 j.1
    with_and_lem (disjoin l u ∷ ps) c us t h b = (left_of 1 and_word h b, omega arith)

    with_or_lem : (ps : List Pending) (c : Cond) (us : List Token) (t : ℕ) → Behind ps c us t → Awaits (with_or t ps c) (us ++ (word or_word ∷ [])) (suc t)
    unfolding with_or
    with_or_lem [] c us t h = (left_of 2 or_word h (loosest h.tree), omega arith)
    with_or_lem (bracket ∷ ps) c us t h = (left_of 2 or_word h (loosest h.tree), omega arith)
    with_or_lem (negate u ∷ ps) c us t h = with_or_lem ps (NOT u c) us t (joined_not h).0
    with_or_lem (conjoin l u ∷ ps) c us t h = with_or_lem ps (AND l u c) us t (joined_and h).0
    with_or_lem (disjoin l u ∷ ps) c us t h = with_or_lem ps (OR l u c) us t (joined_or h)

    -- the tokens are the condition that was parsed
    abbrev Tells : List Token → Parsed → Type 0
    Tells ts (parsed d) = (c : Typed) × Spells c ts × (meant numbers start c ≡ d)
    Tells ts unparsed = Unit {0}

    abbrev EndTells : List Token → ℕ → Ending → Type 0
    EndTells us t (bracketed ps c) = Behind (bracket ∷ ps) c us t
    EndTells us t (free c) = Tells us (parsed c)

    at_end_lem : (ps : List Pending) (c : Cond) (us : List Token) (t : ℕ) → Behind ps c us t → EndTells us t (ending_of ps c)
    unfolding ending_of
    at_end_lem [] c us t h =
        let (e, n) = h.awaits in
        (h.tree, (h.grouped, sym (h.read ∙ ap (λ l. l ++ typed_as h.tree) e)), ap (λ k. meant numbers k h.tree) (sym n) ∙ h.means)
    at_end_lem (bracket ∷ ps) c us t h = h
    at_end_lem (negate u ∷ ps) c us t h = at_end_lem ps (NOT u c) us t (joined_not h).0
    at_end_lem (conjoin l u ∷ ps) c us t h = at_end_lem ps (AND l u c) us t (joined_and h).0
    at_end_lem (disjoin l u ∷ ps) c us t h = at_end_lem ps (OR l u c) us t (joined_or h)

    abbrev State : List Pending → Turn → List Token → ℕ → Type 0
    State ps part us t = Awaits ps us t
    State ps (after c) us t = (b : Behind ps c us t) × (binding b.tree ≤ 1)

    in_brackets : {ps : List Pending} {c : Cond} {us : List Token} {t : ℕ} → Behind (bracket ∷ ps) c us t → State ps (after c) (us ++ (closing ∷ [])) t
    in_brackets h = let (vs, e, a) = h.awaits in (
      record {
        earlier = vs;
        first = h.first;
        tree = brackets h.tree;
        read = ap (λ l. l ++ (closing ∷ [])) (h.read ∙ ap (λ l. l ++ typed_as h.tree) e) ∙ simp append_assoc;
        grouped = h.grouped;
        place = omega arith;
        means = h.means;
        number = h.number;
        awaits = a;
      },
      omega arith,
    )

    tells : (ts : List Token) (ps : List Pending) (turn : Turn) (us : List Token) (t : ℕ) → State ps turn us t → Tells (us ++ ts) (parse_from numbers t ps turn ts)
    unfolding parse_from
    tells [] ps part us t h = tt
    tells (opening ∷ ts) ps part us t h = subst (λ l. Tells l (parse_from numbers t (bracket ∷ ps) part ts)) (append_snoc us opening ts) (tells ts (bracket ∷ ps) part (us ++ (opening ∷ [])) t (us, refl, h))
    tells (closing ∷ ts) ps part us t h = tt
    tells (word x ∷ ts) ps part us t h =
        go (sort_of x) (sort_says x) (λ (k : State (negate t ∷ ps) part read (suc t)). tells ts (negate t ∷ ps) part read (suc t) k) (λ (k : State ps (after (name (numbers x))) read t). tells ts ps (after (name (numbers x))) read t k)
      where
        read : List Token
        read = us ++ (word x ∷ [])

        go : (s : WordSort) → SortSays x s
            → (State (negate t ∷ ps) part read (suc t) → Tells (read ++ ts) (parse_from numbers (suc t) (negate t ∷ ps) part ts))
            → (State ps (after (name (numbers x))) read t → Tells (read ++ ts) (parse_from numbers t ps (after (name (numbers x))) ts))
            → Tells (us ++ (word x ∷ ts)) (by_sort s (parse_from numbers (suc t) (negate t ∷ ps) part ts) unparsed unparsed (parse_from numbers t ps (after (name (numbers x))) ts))
        go not-sort e f g = subst (λ l. Tells l (parse_from numbers (suc t) (negate t ∷ ps) part ts)) (append_snoc us (word x) ts) (f (us, ap (λ y. us ++ (word y ∷ [])) e, refl, h))
        go and-sort e f g = tt
        go or-sort e f g = tt
        go name-sort e f g = subst (λ l. Tells l (parse_from numbers t ps (after (name (numbers x))) ts)) (append_snoc us (word x) ts) (g (
          record {
            earlier = us;
            first = t;
            tree = called x;
            read = refl;
            grouped = e;
            place = omega arith;
            means = refl;
            number = sym (add-zero t);
            awaits = h;
          },
          omega arith,
        ))
    tells [] ps (after c) us t h = go (ending_of ps c) (at_end_lem ps c us t h.0)
      where
        go : (e : Ending) → EndTells us t e → Tells (us ++ []) (whole_of e)
        go (bracketed qs d) k = tt
        go (free d) k = subst (λ l. Tells l (parsed d)) (sym (append-nil us)) k
    tells (opening ∷ ts) ps (after c) us t h = tt
    tells (closing ∷ ts) ps (after c) us t h = go (ending_of ps c) (at_end_lem ps c us t h.0) (λ (qs : List Pending) (d : Cond) (k : State qs (after d) (us ++ (closing ∷ [])) t). tells ts qs (after d) (us ++ (closing ∷ [])) t k)
      where
        go : (e : Ending) → EndTells us t e
            → ((qs : List Pending) (d : Cond) → State qs (after d) (us ++ (closing ∷ [])) t → Tells ((us ++ (closing ∷ [])) ++ ts) (parse_from numbers t qs (after d) ts))
            → Tells (us ++ (closing ∷ ts)) (on_closing e (λ qs d. parse_from numbers t qs (after d) ts))
        go (bracketed qs d) k f = subst (λ l. Tells l (parse_from numbers t qs (after d) ts)) (append_snoc us closing ts) (f qs d (in_brackets k))
        go (free d) k f = tt
    tells (word x ∷ ts) ps (after c) us t h =
        go (sort_of x) (sort_says x) (λ (k : Awaits (with_and t ps c) read (suc t)). tells ts (with_and t ps c) part read (suc t) k) (λ (k : Awaits (with_or t ps c) read (suc t)). tells ts (with_or t ps c) part read (suc t) k)
      where
        read : List Token
        read = us ++ (word x ∷ [])

        go : (s : WordSort) → SortSays x s
            → (Awaits (with_and t ps c) read (suc t) → Tells (read ++ ts) (parse_from numbers (suc t) (with_and t ps c) part ts))
            → (Awaits (with_or t ps c) read (suc t) → Tells (read ++ ts) (parse_from numbers (suc t) (with_or t ps c) part ts))
            → Tells (us ++ (word x ∷ ts)) (by_sort s unparsed (parse_from numbers (suc t) (with_and t ps c) part ts) (parse_from numbers (suc t) (with_or t ps c) part ts) unparsed)
        go not-sort e f g = tt
        go and-sort e f g =
            subst (λ l. Tells l (parse_from numbers (suc t) (with_and t ps c) part ts)) (append_snoc us (word x) ts)
            (f (subst (λ y. Awaits (with_and t ps c) (us ++ (word y ∷ [])) (suc t)) (sym e) (with_and_lem ps c us t h.0 h.1)))
        go or-sort e f g =
            subst (λ l. Tells l (parse_from numbers (suc t) (with_or t ps c) part ts)) (append_snoc us (word x) ts)
            (g (subst (λ y. Awaits (with_or t ps c) (us ++ (word y ∷ [])) (suc t)) (sym e) (with_or_lem ps c us t h.0)))
        go name-sort e f g = tt

    parse_tells : (ts : List Token) → Tells ts (parse numbers start ts)
    unfolding parse
    parse_tells ts = tells ts [] part [] start (refl, refl)

  pub parse_iff : (t : ℕ) (ts : List Token) (d : Cond) → parse numbers t ts ≡ parsed d ↔ ((c : Typed) × Spells c ts × (meant numbers t c ≡ d))
  parse_iff t ts d = (λ e. subst (Tells t ts) e (parse_tells t ts), λ (c, s, m). spelled t c ts s ∙ ap parsed m)

  pub unparsed_iff : (t : ℕ) (ts : List Token) → parse numbers t ts ≡ unparsed ↔ (IsCondition ts → ⊥)
  unparsed_iff t ts = (λ e (c, s). apart (sym (spelled t c ts s) ∙ e), λ n. go n (parse numbers t ts) refl)
    where
      apart : {c : Cond} → parsed c ≡ unparsed → ⊥
      apart e = absurd (let z : ◌≡◌ {A = ℕ} 0 1 = cc in omega arith)

      go : (IsCondition ts → ⊥) → (p : Parsed) → parse numbers t ts ≡ p → p ≡ unparsed
      go n (parsed d) e = let (c, s, m) = (parse_iff t ts d).0 e in absurd (n (c, s))
      go n unparsed e = refl

-- the tests on the tokens

nested : {A B : Type 0} (r m : ℕ) → A ↔ ((r < m) ⊎ B) → A ↔ ((suc r < suc m) ⊎ B)
nested {A} {B} r m law = (λ a. up (law.0 a), λ h. law.1 (down h))
  where
    up : (r < m) ⊎ B → (suc r < suc m) ⊎ B
    up (inl h) = inl (omega arith)
    up (inr h) = inr h

    down : (suc r < suc m) ⊎ B → (r < m) ⊎ B
    down (inl h) = inl (omega arith)
    down (inr h) = inr h

side_by_side : {A B C : Type 0} (r m n : ℕ) → A ↔ ((r < m) ⊎ B) → B ↔ ((r < n) ⊎ C) → A ↔ ((r < max m n) ⊎ C)
side_by_side {A} {B} {C} r m n left right = (λ a. there (left.0 a), λ h. left.1 (back h (dec_lt r m)))
  where
    later : (r < n) ⊎ C → (r < max m n) ⊎ C
    later (inl h) = inl (omega arith)
    later (inr h) = inr h

    there : (r < m) ⊎ B → (r < max m n) ⊎ C
    there (inl h) = inl (omega arith)
    there (inr h) = later (right.0 h)

    back : (r < max m n) ⊎ C → Dec (r < m) → (r < m) ⊎ B
    back h (yes k) = inl k
    back (inl h) (no k) = inr (right.1 (inl (omega arith)))
    back (inr h) (no k) = inr (right.1 (inr h))

depth_law : (c : Typed) (r : ℕ) (ts : List Token) → T (deeper r (typed_as c ++ ts)) ↔ ((r < depth c) ⊎ T (deeper r ts))
unfolding deeper
depth_law (called x) r ts = (λ t. inr t, back)
  where
    back : (r < 0) ⊎ T (deeper r ts) → T (deeper r ts)
    back (inl h) = absurd (omega arith)
    back (inr h) = h
depth_law (brackets c) zero ts = (λ t. inl (omega arith), λ h. tt)
depth_law (brackets c) (suc r) ts =
    subst (λ us. T (deeper r us) ↔ ((suc r < suc (depth c)) ⊎ T (deeper (suc r) ts))) (sym (append_assoc (typed_as c) (closing ∷ []) ts)) (nested r (depth c) (depth_law c r (closing ∷ ts)))
depth_law (negation c) r ts = depth_law c r ts
depth_law (conjunction a b) r ts =
    subst (λ us. T (deeper r us) ↔ ((r < max (depth a) (depth b)) ⊎ T (deeper r ts))) (sym (append_assoc (typed_as a) (word and_word ∷ typed_as b) ts))
    (side_by_side r (depth a) (depth b) (depth_law a r (word and_word ∷ (typed_as b ++ ts))) (depth_law b r ts))
depth_law (disjunction a b) r ts =
    subst (λ us. T (deeper r us) ↔ ((r < max (depth a) (depth b)) ⊎ T (deeper r ts))) (sym (append_assoc (typed_as a) (word or_word ∷ typed_as b) ts))
    (side_by_side r (depth a) (depth b) (depth_law a r (word or_word ∷ (typed_as b ++ ts))) (depth_law b r ts))

-- of a condition, its brackets nest deeper than n
pub deep_law : (n : ℕ) (ts : List Token) → IsCondition ts → T (deeper n ts) ↔ DeeperThan n ts
unfolding deeper
deep_law n ts (c, s) = (λ t. (c, s, only ((law c s).0 t)), λ (d, q, h). (law d q).1 (inl h))
  where
    law : (d : Typed) → Spells d ts → T (deeper n ts) ↔ ((n < depth d) ⊎ ⊥)
    law d (g, e) = subst (λ us. T (deeper n us) ↔ ((n < depth d) ⊎ ⊥)) (append-nil (typed_as d) ∙ e) (depth_law d n [])

    only : (n < depth c) ⊎ ⊥ → n < depth c
    only (inl h) = h
    only (inr h) = absurd h

pub connectives_law : (c : Typed) (ts : List Token) → Spells c ts → connectives_in ts ≡ connectives_typed c
unfolding connectives_in
connectives_law c ts (g, e) = ap connectives_in (sym e ∙ sym (append-nil (typed_as c))) ∙ counted c g [] ∙ add-zero (connectives_typed c)
  where
    one_word : (x : List ℕ) (us : List Token) {s : WordSort} → sort_of x ≡ s → connectives_in (word x ∷ us) ≡ by_sort s (suc (connectives_in us)) (suc (connectives_in us)) (suc (connectives_in us)) (connectives_in us)
    one_word x us q = ap (λ s. by_sort s (suc (connectives_in us)) (suc (connectives_in us)) (suc (connectives_in us)) (connectives_in us)) q

    counted : (d : Typed) → Grouped d → (us : List Token) → connectives_in (typed_as d ++ us) ≡ connectives_typed d + connectives_in us
    counted (called x) h us = one_word x us (name_is x h) ∙ sym (zero-add (connectives_in us))
    counted (brackets d) h us = ap connectives_in (append_assoc (typed_as d) (closing ∷ []) us) ∙ counted d h (closing ∷ us)
    counted (negation d) h us = let r = counted d h.1 us in one_word not_word (typed_as d ++ us) not_is ∙ omega arith
    counted (conjunction l r) h us =
        let a = counted l h.2 (word and_word ∷ (typed_as r ++ us)) in
        let b = counted r h.3 us in
        let w = one_word and_word (typed_as r ++ us) and_is in
        ap connectives_in (append_assoc (typed_as l) (word and_word ∷ typed_as r) us) ∙ omega arith
    counted (disjunction l r) h us =
        let a = counted l h.2 (word or_word ∷ (typed_as r ++ us)) in
        let b = counted r h.3 us in
        let w = one_word or_word (typed_as r ++ us) or_is in
        ap connectives_in (append_assoc (typed_as l) (word or_word ∷ typed_as r) us) ∙ omega arith

-- what the sentences go by, said of the words and of the condition

pub names_in_lem : (ts : List Token) (x : List ℕ) → Among (names_in ts) x ↔ (Among (words_in ts) x × NoConnective x)
unfolding names_in words_in
names_in_lem [] x = (λ h. absurd h, λ h. absurd h.0)
names_in_lem (opening ∷ ts) x = names_in_lem ts x
names_in_lem (closing ∷ ts) x = names_in_lem ts x
names_in_lem (word y ∷ ts) x = go (sort_of y) (sort_says y) (names_in_lem ts x)
  where
    Told : List (List ℕ) → Type 0
    Told xs = Among xs x ↔ (((x ≡ y) ⊎ Among (words_in ts) x) × NoConnective x)

    passed : (x ≡ y → NoConnective x → ⊥) → Among (names_in ts) x ↔ (Among (words_in ts) x × NoConnective x) → Told (names_in ts)
    passed n law = (λ h. let r = law.0 h in (inr r.0, r.1), λ h. law.1 (other h.0 h.1, h.1))
      where
        other : (x ≡ y) ⊎ Among (words_in ts) x → NoConnective x → Among (words_in ts) x
        other (inl q) k = absurd (n q k)
        other (inr h) k = h

    kept : NoConnective y → Among (names_in ts) x ↔ (Among (words_in ts) x × NoConnective x) → Told (y ∷ names_in ts)
    kept e law = (there, λ h. back h.0 h.1)
      where
        there : (x ≡ y) ⊎ Among (names_in ts) x → ((x ≡ y) ⊎ Among (words_in ts) x) × NoConnective x
        there (inl q) = (inl q, subst NoConnective (sym q) e)
        there (inr h) = let r = law.0 h in (inr r.0, r.1)

        back : (x ≡ y) ⊎ Among (words_in ts) x → NoConnective x → (x ≡ y) ⊎ Among (names_in ts) x
        back (inl q) k = inl q
        back (inr h) k = inr (law.1 (h, k))

    go : (s : WordSort) → SortSays y s → Among (names_in ts) x ↔ (Among (words_in ts) x × NoConnective x) → Told (by_sort s (names_in ts) (names_in ts) (names_in ts) (y ∷ names_in ts))
    go not-sort e law = passed (λ q n. n.0 (q ∙ e)) law
    go and-sort e law = passed (λ q n. n.1 (q ∙ e)) law
    go or-sort e law = passed (λ q n. n.2 (q ∙ e)) law
    go name-sort e law = kept e law
