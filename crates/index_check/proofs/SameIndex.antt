-- Words are the index exactly when their lists are all the words, hold each rule where it belongs, and nothing more.
use Prim.Native.Nat.{ℕ, zero, suc, ◌+◌, ◌≤◌, ◌<◌}
use native.Mathlib.Decide.{ℕ_discrete}
use native.Mathlib.Omega.{arith}
use mathlib.Core.Path.{◌≡◌, refl, sym, ap, subst, ◌∙◌}
use mathlib.Core.Logic.{◌⊎◌, inl, inr}
use mathlib.Core.Bool.{Bool, true, false, cond}
use mathlib.Core.List.{List, [], ◌∷◌}
use lib.Dec.{T, ltb, eqb, lt→ltb, eqb→eq, eqb_refl}
use lib.ListN.{length, get_or, take}
use lib.Seq.{take-length}
use Rattle.rules.specs.Lists.{All, every, flat, from}
use Rattle.rules.specs.Rules.{Rule, rule}
use Rattle.rules.proofs.Booleans.{T_of, T_and, T-and-l, T-and-r, T-or-out, eq_to_eqb}
use Rattle.rules.proofs.Lists.{all_at, all_zip, every_all, every_from, some_each}
use Rattle.name_store.specs.NameStore.{same_bytes as same_words}
use Rattle.name_store.proofs.NameStores.{same_law}
use Rattle.restriction.specs.Atoms.{is_member, atoms_of}
use Rattle.rule_index.specs.Index.{is_standing, rules_with, counted, index}
use Rattle.rule_index.specs.Meanings.{numbered}
use Rattle.rule_index.proofs.RuleNumbers.{with_count, with_at}
use Rattle.rule_index.proofs.ListPlaces.{list_next, counts_place, index_places}
use Rattle.rule_index.proofs.Segments.{flat_next, flat_at, flat_from}
use Rattle.rule_index.specs.Places.{list_at}
use Rattle.index_check.specs.Lists.{entry_at, is_entry, is_listed, are_all_listed}

-- every entry of a list passes its test
every_member : (p : ℕ → Bool) (l : List ℕ) → T (every p l) → (a : ℕ) → T (is_member l a) → T (p a)
every_member p [] h a k = absurd k
every_member p (x ∷ l) h a k = step (every_member p l (T-and-r (p x) (every p l) h) a) (T-or-out (eqb a x) (is_member l a) k)
  where
    step : (T (is_member l a) → T (p a)) → T (eqb a x) ⊎ T (is_member l a) → T (p a)
    step f (inl q) = subst (λ (b : ℕ). T (p b)) (sym (eqb→eq a x q)) (T-and-l (p x) (every p l) h)
    step f (inr q) = f q

module _ (ws : List ℕ) (n : ℕ) (rs : List (Rule ℕ)) where
  -- the list of an atom, and where the index has it
  abbrev list : ℕ → List ℕ
  list a = counted (rules_with a rs)

  abbrev start : ℕ → ℕ
  start a = length (flat list (from 0 a))

  all_rules : (a : ℕ) → entry_at ws rs (length rs) a ≡ suc (list_at ws a) + length (rules_with a rs)
  unfolding entry_at
  all_rules a = ap (λ (qs : List (Rule ℕ)). suc (list_at ws a) + length (rules_with a qs)) (take-length rs)

  -- where the words are the index, each test holds

  module _ (same : T (same_words ws (index n rs))) where
    words_are : ws ≡ flat list (from 0 n)
    unfolding index
    words_are = (same_law ws (index n rs)).0 same

    word_at : (a k : ℕ) → a < n → k < length (list a) → get_or ws (start a + k) 0 ≡ get_or (list a) k 0
    word_at a k l u = ap (λ (xs : List ℕ). get_or xs (start a + k) 0) words_are ∙ flat_at list n a k l u

    places : (a : ℕ) → a ≤ n → list_at ws a ≡ start a
    places a l = ap (λ (xs : List ℕ). list_at xs a) ((same_law ws (index n rs)).0 same) ∙ index_places n rs a l

    pub same_whole : list_at ws n ≡ length ws
    same_whole = places n (omega arith) ∙ sym (ap length words_are)

    ends : (a : ℕ) → a < n → list_at ws (suc a) ≡ suc (list_at ws a) + length (rules_with a rs)
    ends a l = omega (arith, places a (omega arith), places (suc a) l, flat_next list a)

    pub same_read : (a : ℕ) → a < n → entry_at ws rs (length rs) a ≡ list_at ws (suc a)
    same_read a l = all_rules a ∙ sym (ends a l)

    entry_here : (i a : ℕ) → i < length rs → a < n → T (is_standing a (numbered rs i)) → T (is_entry ws (entry_at ws rs i a) (list_at ws (suc a)) i)
    unfolding is_entry entry_at
    entry_here i a l u s =
        let before : ℕ = length (rules_with a (take i rs)) in
        let q = with_at a i rs l s in
        let p : suc (list_at ws a) + before ≡ start a + suc before = omega (arith, places a (omega arith)) in
        T_and (ltb (suc (list_at ws a) + before) (list_at ws (suc a))) (eqb (get_or ws (suc (list_at ws a) + before) 0) i)
        (lt→ltb (suc (list_at ws a) + before) (list_at ws (suc a)) (omega (arith, q.0, ends a u)))
        (eq_to_eqb (get_or ws (suc (list_at ws a) + before) 0) i (ap (λ (k : ℕ). get_or ws k 0) p ∙ word_at a (suc before) u (omega (arith, q.0)) ∙ q.1))

    pub same_listed : All (λ r. All (λ a. a < n) (atoms_of r)) rs → T (are_all_listed ws rs)
    unfolding is_listed
    same_listed b = (every_from (is_listed ws rs) (λ i. T (is_listed ws rs i)) (λ i. (λ t. t, λ t. t)) 0 (length rs)).1 (λ i o u. rule_here i (omega arith))
      where
        rule_here : (i : ℕ) → i < length rs → T (every (λ a. is_entry ws (entry_at ws rs i a) (list_at ws (suc a)) i) (atoms_of (numbered rs i)))
        rule_here i l =
            let atoms = atoms_of (numbered rs i) in
            (every_all (λ a. is_entry ws (entry_at ws rs i a) (list_at ws (suc a)) i) (λ a. T (is_entry ws (entry_at ws rs i a) (list_at ws (suc a)) i)) (λ a. (λ t. t, λ t. t)) atoms).1
            (all_zip (λ a. a < n) (λ a. (x : ℕ) → T (eqb x a) → T (is_member atoms x)) (λ a. T (is_entry ws (entry_at ws rs i a) (list_at ws (suc a)) i)) (λ a u m. entry_here i a l u (m a (eqb_refl a))) atoms
            (all_at (λ r. All (λ a. a < n) (atoms_of r)) (rule [] [] []) rs b i l) (some_each eqb atoms))

  -- where each test holds, the words are the index

  module _ (whole : list_at ws n ≡ length ws) (all : T (are_all_listed ws rs)) (read : (a : ℕ) → a < n → entry_at ws rs (length rs) a ≡ list_at ws (suc a)) where
    count_is : (a : ℕ) → a < n → get_or ws (list_at ws a) 0 ≡ length (rules_with a rs)
    count_is a l = omega (arith, list_next ws a, read a l, all_rules a)

    found : (a : ℕ) → a ≤ n → list_at ws a ≡ start a
    found = counts_place n rs ws (λ a l e. count_is a l)

    rule_at_lem : (i a : ℕ) → i < length rs → T (is_standing a (numbered rs i)) → get_or ws (entry_at ws rs i a) 0 ≡ i
    unfolding is_entry is_listed
    rule_at_lem i a l s =
        let t = (every_from (is_listed ws rs) (λ j. T (is_listed ws rs j)) (λ j. (λ t. t, λ t. t)) 0 (length rs)).0 all i (omega arith) (omega arith) in
        let e = every_member (λ b. is_entry ws (entry_at ws rs i b) (list_at ws (suc b)) i) (atoms_of (numbered rs i)) t a s in
        eqb→eq (get_or ws (entry_at ws rs i a) 0) i (T-and-r (ltb (entry_at ws rs i a) (list_at ws (suc a))) (eqb (get_or ws (entry_at ws rs i a) 0) i) e)

    entry_at_lem : (i a j : ℕ) → i < length rs → j ≡ length (rules_with a (take i rs)) → T (is_standing a (numbered rs i)) → get_or ws (suc (list_at ws a) + j) 0 ≡ get_or (rules_with a rs) j 0
    unfolding entry_at
    entry_at_lem i a j l q s =
        ap (λ (k : ℕ). get_or ws (suc (list_at ws a) + k) 0) q ∙ rule_at_lem i a l s
        ∙ sym (with_at a i rs l s).1 ∙ ap (λ (k : ℕ). get_or (rules_with a rs) k 0) (sym q)

    -- the entries of the first i rules
    entries : (a i : ℕ) → i ≤ length rs → (j : ℕ) → j < length (rules_with a (take i rs)) → get_or ws (suc (list_at ws a) + j) 0 ≡ get_or (rules_with a rs) j 0
    unfolding rules_with
    entries a zero l j u = absurd (omega arith)
    entries a (suc i) l j u = step (is_standing a (numbered rs i)) refl (entries a i (omega arith) j) (subst (λ (k : ℕ). j < k) (with_count a i rs l) u) (ℕ_discrete j (length (rules_with a (take i rs))))
      where
        step : (b : Bool) → is_standing a (numbered rs i) ≡ b → (j < length (rules_with a (take i rs)) → get_or ws (suc (list_at ws a) + j) 0 ≡ get_or (rules_with a rs) j 0) → j < cond b (suc (length (rules_with a (take i rs)))) (length (rules_with a (take i rs)))
            → Dec (j ≡ length (rules_with a (take i rs))) → get_or ws (suc (list_at ws a) + j) 0 ≡ get_or (rules_with a rs) j 0
        step true e f v (yes q) = entry_at_lem i a j l q (T_of (sym e) tt)
        step true e f v (no q) = f (omega arith)
        step false e f v q = f v

    pub tests_same : T (same_words ws (index n rs))
    unfolding index
    tests_same = (same_law ws (index n rs)).1 (flat_from list n ws (sym whole ∙ found n (omega arith)) each)
      where
        each : (a k : ℕ) → a < n → k < length (list a) → get_or ws (start a + k) 0 ≡ get_or (list a) k 0
        each a zero l u = let z : start a + 0 ≡ list_at ws a = omega (arith, found a (omega arith)) in ap (λ (k : ℕ). get_or ws k 0) z ∙ count_is a l
        each a (suc j) l u =
            let z : start a + suc j ≡ suc (list_at ws a) + j = omega (arith, found a (omega arith)) in
            ap (λ (k : ℕ). get_or ws k 0) z ∙ entries a (length rs) (omega arith) j (omega (arith, ap (λ (qs : List (Rule ℕ)). length (rules_with a qs)) (take-length rs)))
