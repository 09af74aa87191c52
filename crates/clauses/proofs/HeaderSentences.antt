-- The header of a clause file, in document 02's words.
use Prim.Native.Nat.{ℕ}
use native.Mathlib.Omega.{arith}
use mathlib.Core.Path.{◌≡◌, refl, sym, ap, ap₂, subst, ◌∙◌}
use mathlib.Core.Logic.{◌⊎◌, inl, inr, ◌↔◌}
use mathlib.Core.List.{List, [], ◌∷◌}
use mathlib.Core.Bool.{Bool, true, false, not, ◌&&◌}
use lib.Dec.{T}
use lib.ListN.{length}
use Rattle.kinds.specs.Words.{bytes}
use Rattle.kinds.specs.declared.refusals.Refusal.TheVariants.{BrokenClauses}
use Rattle.rules.proofs.Connectives.{and_law}
use Rattle.name_store.specs.NameStore.{same_bytes}
use Rattle.name_store.proofs.NameStores.{same_law}
use Rattle.names.specs.Numerals.{is_numeral, value, DecimalWriting}
use Rattle.names.proofs.Numerals.{numeral_iff}
use Rattle.clauses.specs.Items.{items}
use Rattle.clauses.specs.Faults.{Step, fault, first, header_with, header_line}
use Rattle.clauses.specs.Sentences.{Header}

module _ (l : List ℕ) where
  pub one_header : {n m i j : ℕ} → Header l n m → Header l i j → (n ≡ i) × (m ≡ j)
  one_header {n} {m} {i} {j} h k =
      let e = sym h.four ∙ k.four in
      let a : h.atoms ≡ k.atoms = cc in
      let c : h.clauses ≡ k.clauses = cc in
      (sym h.values.0 ∙ ap value a ∙ k.values.0, sym h.values.1 ∙ ap value c ∙ k.values.1)

  -- a line is the header of two numbers, or of none
  abbrev pub HeaderSaid : Step → Type 0
  HeaderSaid s = ((n : ℕ) × (m : ℕ) × Header l n m × (s ≡ header_with n m)) ⊎ (((n m : ℕ) → Header l n m → ⊥) × (s ≡ fault BrokenClauses))

  not_four : (xs : List (List ℕ)) → items l ≡ xs → (length xs ≡ 4 → ⊥) → HeaderSaid (fault BrokenClauses)
  not_four xs q other = inr (λ n m h. other (ap length (sym q ∙ h.four)), refl)

  four_items : (p cnf n m : List ℕ) → items l ≡ p ∷ cnf ∷ n ∷ m ∷ [] → HeaderSaid (header_line (p ∷ cnf ∷ n ∷ m ∷ []))
  unfolding header_line
  four_items p cnf n m q = go test law
    where
      test : Bool
      test = same_bytes p (bytes "p") && (same_bytes cnf (bytes "cnf") && (is_numeral n && is_numeral m))

      Says : Type 0
      Says = (p ≡ bytes "p") × ((cnf ≡ bytes "cnf") × (DecimalWriting n × DecimalWriting m))

      law : T test ↔ Says
      law =
          and_law (same_bytes p (bytes "p")) (same_bytes cnf (bytes "cnf") && (is_numeral n && is_numeral m)) (same_law p (bytes "p"))
          (and_law (same_bytes cnf (bytes "cnf")) (is_numeral n && is_numeral m) (same_law cnf (bytes "cnf"))
          (and_law (is_numeral n) (is_numeral m) (numeral_iff n) (numeral_iff m)))

      says : (i j : ℕ) → Header l i j → Says
      says i j h =
          let e = sym h.four ∙ q in
          let a : h.atoms ≡ n = cc in
          let c : h.clauses ≡ m = cc in
          (cc, (cc, (subst DecimalWriting a h.are_numbers.0, subst DecimalWriting c h.are_numbers.1)))

      go : (b : Bool) → T b ↔ Says → HeaderSaid (first (not b) BrokenClauses (header_with (value n) (value m)))
      go true law =
          let s = law.0 tt in
          inl (value n, value m, record { atoms = n; clauses = m; four = q ∙ ap₂ (λ (x y : List ℕ). x ∷ y ∷ n ∷ m ∷ []) s.0 s.1.0; are_numbers = s.1.1; values = (refl, refl) }, refl)
      go false law = inr (λ i j h. law.1 (says i j h), refl)

  pub header_said : HeaderSaid (header_line (items l))
  unfolding header_line
  header_said = go (items l) refl
    where
      go : (xs : List (List ℕ)) → items l ≡ xs → HeaderSaid (header_line xs)
      go [] q = not_four [] q (λ e. omega arith)
      go (p ∷ []) q = not_four (p ∷ []) q (λ e. omega arith)
      go (p ∷ cnf ∷ []) q = not_four (p ∷ cnf ∷ []) q (λ e. omega arith)
      go (p ∷ cnf ∷ n ∷ []) q = not_four (p ∷ cnf ∷ n ∷ []) q (λ e. omega arith)
      go (p ∷ cnf ∷ n ∷ m ∷ []) q = four_items p cnf n m q
      go (p ∷ cnf ∷ n ∷ m ∷ x ∷ xs) q = not_four (p ∷ cnf ∷ n ∷ m ∷ x ∷ xs) q (λ e. omega arith)
