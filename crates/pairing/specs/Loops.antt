-- The translation as loops over numbers write it. N.a has the number n + a, S.a s + a, D.a d + a, E.j e + j, and U u; proofs/Looped says that this is the translation.
use Rattle.std.specs.Prelude.{ℕ, suc, ◌+◌, ◌-◌, ◌*◌, List, [], ◌∷◌, ◌++◌, map, Bool, not, ltb, length, get_or, take}
use Rattle.kinds.specs.Words.{bytes, byte, decimal}
use Rattle.rules.specs.Lists.{keep, filter, flat, from}
use Rattle.rules.specs.Rules.{Rule, rule}
use Rattle.rules.specs.Preferred.{of_class}
use Rattle.stores.specs.Program.{Program}
use Rattle.pairing.specs.Atoms.{minimised_atoms, unfixed_atoms}

-- the atoms below m, and those from m on
abbrev pub below : ℕ → ℕ → Bool
below m a = ltb a m

abbrev pub beyond : ℕ → ℕ → Bool
beyond m a = not (ltb a m)

-- step 1, atom a; the minimised atoms are those below m
abbrev pub loop1 : ℕ → ℕ → ℕ → List (Rule ℕ)
loop1 m n a = keep (beyond m a) (rule (a ∷ []) [] ((n + a) ∷ [])) (rule ((n + a) ∷ []) [] (a ∷ []) ∷ [])

-- step 2, rule r
abbrev pub loop2 : ℕ → ℕ → Rule ℕ → Rule ℕ
loop2 m n r = rule
    (filter (below m) r.head)
    (filter (below m) r.body)
    (filter (beyond m) r.head ++ map (λ a. n + a) (filter (beyond m) r.body))

-- step 3, rule r; the unfixed atoms are those below q
abbrev pub loop3 : ℕ → ℕ → ℕ → Rule ℕ → Rule ℕ
loop3 q s u r = rule
    (map (λ a. s + a) (filter (below q) r.head) ++ (u ∷ []))
    (map (λ a. s + a) (filter (below q) r.body) ++ filter (beyond q) r.body)
    (filter (beyond q) r.head)

-- step 4
abbrev pub loop4 : ℕ → ℕ → Rule ℕ
loop4 e u = rule ((e + 0) ∷ u ∷ []) [] []

-- step 5, class i
abbrev pub loop5 : List ℕ → ℕ → ℕ → ℕ → ℕ → Rule ℕ
loop5 ws d e u i = rule (map (λ a. d + a) (of_class ws i) ++ ((e + i) ∷ u ∷ [])) ((e + (i - 1)) ∷ []) []

-- step 6, atom a of class i
abbrev pub loop6 : ℕ → ℕ → ℕ → ℕ → ℕ → ℕ → ℕ → List (Rule ℕ)
loop6 n s d e u i a =
    rule (u ∷ []) ((d + a) ∷ []) (a ∷ [])
    ∷ rule (u ∷ []) ((d + a) ∷ (s + a) ∷ []) []
    ∷ rule (u ∷ []) ((e + (i - 1)) ∷ (s + a) ∷ []) (a ∷ [])
    ∷ rule ((s + a) ∷ u ∷ []) ((e + i) ∷ []) ((n + a) ∷ [])
    ∷ []

-- steps 7, 8 and 9, the atom with number b
abbrev pub loop789 : ℕ → ℕ → Rule ℕ
loop789 u b = rule (b ∷ []) (u ∷ []) []

-- step 10
abbrev pub loop10 : ℕ → ℕ → ℕ → List (Rule ℕ)
loop10 e u k = rule (u ∷ []) ((e + k) ∷ []) [] ∷ rule [] [] (u ∷ []) ∷ []

-- n atoms, k classes, q unfixed atoms, m minimised ones: these are the first atoms
abbrev pub loops : List ℕ → List (Rule ℕ) → ℕ → ℕ → ℕ → ℕ → List (Rule ℕ)
loops ws rs n k q m =
    let s : ℕ = 2 * n in
    let d : ℕ = 2 * n + q in
    let e : ℕ = 2 * n + q + m in
    let u : ℕ = 2 * n + q + m + suc k in
    flat (loop1 m n) (from 0 n)
    ++ (map (loop2 m n) rs
    ++ (map (loop3 q s u) rs
    ++ ((loop4 e u ∷ [])
    ++ (map (loop5 ws d e u) (from 1 k)
    ++ (flat (λ a. loop6 n s d e u (get_or ws a 0) a) (from 0 m)
    ++ (map (λ a. loop789 u (s + a)) (from 0 q)
    ++ (map (λ a. loop789 u (d + a)) (from 0 m)
    ++ (map (λ j. loop789 u (e + j)) (from 0 (suc k))
    ++ loop10 e u k))))))))

unfoldable pub looped : Program → List (Rule ℕ)
looped p = loops p.words p.rules p.atoms p.classes (length (unfixed_atoms p)) (length (minimised_atoms p))

-- a byte and a dot before a name
abbrev pub dot : ℕ → List ℕ → List ℕ
dot c x = c ∷ byte "." ∷ x

abbrev pub names_loops : List (List ℕ) → ℕ → ℕ → ℕ → List (List ℕ)
names_loops names k q m =
    names
    ++ (map (dot (byte "N")) names
    ++ (map (dot (byte "S")) (take q names)
    ++ (map (dot (byte "D")) (take m names)
    ++ (map (λ j. dot (byte "E") (decimal j)) (from 0 (suc k))
    ++ (bytes "U" ∷ [])))))

unfoldable pub looped_names : Program → List (List ℕ) → List (List ℕ)
looped_names p names = names_loops names p.classes (length (unfixed_atoms p)) (length (minimised_atoms p))
