-- What a line of a clause file gives: its end, a comment, a blank line, the header.
use Prim.Native.Nat.{ℕ, suc, ◌+◌, ◌≤◌, ◌<◌, zero-le}
use native.Mathlib.Omega.{arith}
use mathlib.Core.Path.{◌≡◌, refl, sym, ap, ap₂, ◌∙◌, subst}
use mathlib.Core.Bool.{true, false}
use mathlib.Core.List.{List, [], ◌∷◌, map}
use lib.Dec.{T, eqb}
use lib.ListN.{length, get_or, drop, drop_of_length-le}
use lib.Seq.{drop-cons}
use borrow.Author.Tests.{eq-eqb, ne_eqb}
use Rattle.kinds.specs.Limits.{atom_limit, rule_limit}
use Rattle.kinds.specs.Words.{byte}
use Rattle.kinds.specs.declared.limits.Kind.TheVariants.{Preference}
use Rattle.kinds.specs.declared.refusals.Refusal.{Refusal}
use Rattle.kinds.specs.declared.refusals.Refusal.TheVariants.{BrokenClauses}
use Rattle.clauses.specs.Items.{items, items_from, is_comment}
use Rattle.lines.specs.Lines.{is_ended}
use Rattle.clauses.specs.Tokens.{token_of, line_tokens}
use Rattle.clauses.specs.Gathered.{Gathered, nothing}
use Rattle.clauses.specs.Faults.{State, unheaded, headed, Step, next, fault, header_line, clause_line, step_items, step_line}
use Rattle.clauses.proofs.HeadedLines.{header_begun}
use Rattle.clause_items.specs.Found.{gap, header_step}
use Rattle.clause_items.specs.declared.header.Header.{Header}
use Rattle.std.specs.Prelude.{Option, Some, Result, Ok, Err}
use Rattle.clause_items.proofs.Gaps.{from_inside, item_byte, behind_gap, items_gap, items_first}
use Rattle.clause_rules.specs.declared.clause.ClauseCounts.{ClauseCounts}
use Rattle.clause_rules.specs.HeldClauses.{Started}
use Rattle.clause_rules.proofs.HeldGathered.{held_clauses_is}
use Rattle.clause_reader.specs.Reading.{Gathers, Empty, LineIs}

pub ended_filled : (l : List ℕ) → is_ended l ≡ true → 0 < length l
ended_filled [] e = absurd (subst T (sym e) tt)
ended_filled (b ∷ s) e = omega arith

first_byte : (l : List ℕ) → 0 < length l → is_comment l ≡ eqb (get_or l 0 0) (byte "c")
first_byte [] h = absurd (omega arith)
first_byte (b ∷ s) h = refl

module _ (st : State) (l : List ℕ) where
  pub line_unended : is_ended l ≡ false → step_line st l ≡ fault BrokenClauses
  unfolding step_line
  line_unended e = rw e

  module _ (e : is_ended l ≡ true) where
    pub line_comment : get_or l 0 0 ≡ byte "c" → step_line st l ≡ next st
    unfolding step_line
    line_comment c = rw (e, first_byte l (ended_filled l e), eq-eqb (get_or l 0 0) (byte "c") c)

    module _ (c : get_or l 0 0 ≡ byte "c" → ⊥) where
      by_items : step_line st l ≡ step_items st (items l)
      unfolding step_line
      by_items = rw (e, first_byte l (ended_filled l e), ne_eqb (get_or l 0 0) (byte "c") c)

      module _ {from : ℕ} (q : from ≡ 0 + gap (drop 0 l)) where
        -- nothing but separators
        pub line_blank : from ≡ length l → step_line st l ≡ next st
        unfolding items items_from
        line_blank f = by_items ∙ ap (step_items st) (items_gap l ∙ ap items (behind_gap l 0 q ∙ drop_of_length-le l {i = from} (omega arith)))

        items_filled : (from ≡ length l → ⊥) → (x : List ℕ) × (xs : List (List ℕ)) × (items l ≡ x ∷ xs)
        items_filled f = (_, _, items_gap l ∙ ap items (behind_gap l 0 q ∙ drop-cons l from 0 (inside)) ∙ items_first (get_or l from 0) (drop (suc from) l) (item_byte l 0 q inside))
          where
            inside : from < length l
            inside = omega (arith, from_inside l 0 q zero-le)

        module _ (f : from ≡ length l → ⊥) where
          pub line_headed : {n m : ℕ} {g : Gathered} → st ≡ headed n m g → step_line st l ≡ clause_line n m g (line_tokens l)
          line_headed {n} {m} {g} k =
              let t = items_filled f in
              by_items ∙ ap₂ step_items k t.2 ∙ ap (λ xs. clause_line n m g (map token_of xs)) (sym t.2)

          pub line_unheaded : st ≡ unheaded → step_line st l ≡ header_line (items l)
          line_unheaded k = let t = items_filled f in by_items ∙ ap₂ step_items k t.2 ∙ ap header_line (sym t.2)

pub step_is : {s t : Step} → s ≡ t → {words bodies marks : List ℕ} {r : Result (Option ClauseCounts) Refusal} → LineIs t words bodies marks r → LineIs s words bodies marks r
step_is e {words} {bodies} {marks} {r} h = subst (λ x. LineIs x words bodies marks r) (sym e) h

-- the header

pub header_fits : (l : List ℕ) {r : Result Header Refusal} → header_line (items l) ≡ header_step r → {h : Header} → r ≡ Ok h → (h.atoms ≤ atom_limit Preference) × (h.clauses ≤ rule_limit Preference)
header_fits l e {h} k =
    let b = header_begun (items l) (headed h.atoms h.clauses nothing) (e ∙ ap header_step k) in
    let x : h.atoms ≡ b.atoms = ap atoms_of b.after_is in
    let y : h.clauses ≡ b.clauses = ap clauses_of b.after_is in
    (omega (arith, b.atoms_fit), omega (arith, b.clauses_fit))
  where
    atoms_of : State → ℕ
    atoms_of unheaded = 0
    atoms_of (headed a c g) = a

    clauses_of : State → ℕ
    clauses_of unheaded = 0
    clauses_of (headed a c g) = c

module _ (l : List ℕ) {words bodies marks : List ℕ} (empty : Empty words bodies marks) {r : Result Header Refusal} (e : header_line (items l) ≡ header_step r) where
  pub header_taken : {h : Header} → r ≡ Ok h → {words' : List ℕ} {c : ClauseCounts} → Started h.atoms h.clauses words' c → LineIs (header_line (items l)) words' bodies marks (Ok (Some c))
  header_taken k {words'} {c} s =
      let h = s.holds bodies empty.bodies_room in
      let is = held_clauses_is h in
      record {
        says = (
          e ∙ ap header_step k ∙ (λ i. next (headed (sym s.atoms i) (sym s.clauses i) (is i))),
          subst (λ g. Gathers g c words' bodies marks) is (record { holds = h; marked = empty.marked; few = zero-le }),
        );
      }

  pub header_refused : {f : Refusal} → r ≡ Err f → {words' : List ℕ} → LineIs (header_line (items l)) words' bodies marks (Err f)
  header_refused k = record { says = e ∙ ap header_step k }
