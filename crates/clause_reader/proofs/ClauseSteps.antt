-- What an item of a line of clauses adds to what the scratch holds.
use Prim.Native.Nat.{ℕ, suc, ◌+◌, ◌≤◌, ◌<◌}
use native.Mathlib.Omega.{arith}
use mathlib.Core.Path.{◌≡◌, refl, sym, ap, ap₂, ◌∙◌, subst}
use mathlib.Core.Bool.{Bool, true, false, cond, ◌&&◌}
use mathlib.Core.List.{List, [], ◌∷◌}
use lib.Dec.{T, eqb, leb, ltb}
use lib.ListN.{length, drop}
use borrow.Author.Tests.{eqb-true, eqb-false, ne_eqb, lt-ltb, le-ltb}
use Rattle.kinds.specs.Limits.{occurrence_limit}
use Rattle.kinds.specs.declared.limits.Kind.TheVariants.{Preference}
use Rattle.kinds.specs.declared.refusals.Refusal.{Refusal}
use Rattle.kinds.specs.declared.refusals.Refusal.TheVariants.{BrokenClauses}
use Rattle.rules.specs.Lists.{is_empty}
use Rattle.rules.proofs.Booleans.{both_true, and_comm}
use Rattle.clauses.specs.Literals.{Literal, signed, atom_of}
use Rattle.clauses.specs.Tokens.{literal, ends, line_tokens}
use Rattle.clauses.specs.Gathered.{Gathered, with_literal, with_end, is_closed, begun, occurrences_in}
use Rattle.clauses.specs.Faults.{fault, clause_line}
use Rattle.std.specs.Prelude.{Option, Some, None, Result, Ok, Err}
use Rattle.clause_items.specs.Found.{capped, item_at, ItemSays}
use Rattle.clause_items.specs.declared.items.Item.{Item}
use Rattle.clause_items.proofs.ItemLaws.{item_says}
use Rattle.clause_items.proofs.CappedLaws.{capped_same, capped_over}
use Rattle.clause_rules.specs.declared.clause.ClauseCounts.{ClauseCounts}
use Rattle.clause_rules.specs.HeldClauses.{held, HeldClauses, SameHeader, TakenSays, TakenIs, EndedAs}
use Rattle.clause_rules.proofs.HeldGathered.{held_clauses_is}
use Rattle.clause_rules.proofs.LiteralMarks.{marked_end}
use Rattle.clause_reader.specs.declared.clause_line.Progress.{Progress}
use Rattle.clause_reader.specs.Later.{later_refusal}
use Rattle.clause_reader.specs.Reading.{Gathers, InClauses, is_full, ProgressIs, LiteralSays, LiteralIs}
use Rattle.clause_reader.proofs.TokenSteps.{begun_literal, begun_end, literal_unended, token_passed, token_surplus, token_beyond, token_full, line_wrong}
use Rattle.clause_reader.proofs.LaterSteps.{none_left, atom_signed, over_beyond}

no_entry : {A : Type 0} (xs : List A) {n : ℕ} → n ≡ length xs → eqb n 0 ≡ is_empty xs
no_entry [] e = rw e
no_entry (x ∷ xs) {n} e = ne_eqb n 0 (λ z. absurd (let q : suc (length xs) ≡ 0 = sym e ∙ z in omega arith))

-- the test of the counts is that of what is gathered
pub full_is : {g : Gathered} {c : ClauseCounts} {words bodies : List ℕ} → HeldClauses g c words bodies → is_full c ≡ (is_closed g && eqb (length g.rules) c.clauses)
full_is {g} {c} h = rw (no_entry g.heads h.heads_are, no_entry g.bodies h.bodies_are, sym h.rules_are) (and_comm (eqb c.rules c.clauses) (is_empty g.heads && is_empty g.bodies))

module _ {g : Gathered} {c : ClauseCounts} {words bodies marks : List ℕ} (k : Gathers g c words bodies marks) where
  pub surplus : is_full c ≡ true → c.clauses < suc (length g.rules)
  surplus e = let b = (both_true (is_closed g) (eqb (length g.rules) c.clauses) (sym (full_is k.holds) ∙ e)).1 in omega (arith, eqb-true (length g.rules) c.clauses b)

  pub no_surplus : is_full c ≡ false → length g.rules < c.clauses
  no_surplus e = go (is_closed g) refl (eqb (length g.rules) c.clauses) refl (sym (full_is k.holds) ∙ e)
    where
      go : (a : Bool) → is_closed g ≡ a → (b : Bool) → eqb (length g.rules) c.clauses ≡ b → (is_closed g && eqb (length g.rules) c.clauses) ≡ false → length g.rules < c.clauses
      go false q b r f = omega (arith, k.few, ap (λ x. cond x (length g.rules) (suc (length g.rules))) q)
      go true q false r f = omega (arith, eqb-false (length g.rules) c.clauses r, k.holds.rules_are, k.holds.rules_fit_lem)
      go true q true r f = absurd (subst T (sym (ap₂ ◌&&◌ q r) ∙ f) tt)

-- what an item gives
abbrev progress : ClauseCounts → ℕ → Result Progress Refusal
progress d to = Ok (record { counts = d; at = to })

-- an item at `at`
module _ (line : List ℕ) (at : ℕ) (inside : at < length line) {c : ClauseCounts} {words bodies marks : List ℕ} (k : InClauses c words bodies marks) {item : Item} (found : item ≡ item_at at (drop at line)) where
  abbrev g : Gathered
  g = held c words bodies

  said : {i : Item} → item ≡ i → ItemSays line at i
  said e = subst (ItemSays line at) (sym found ∙ e) (item_says line at (omega arith))

  same_header : SameHeader c c
  same_header = record { atoms = refl; clauses = refl }

  pub progress_stop : item ≡ Item.Stop → {to : ℕ} → to ≡ length line → ProgressIs line at c g words bodies marks (progress c to)
  progress_stop e {to} d =
      record { says = (same_header, k, omega arith, omega arith, ap (clause_line c.atoms c.clauses g) (said e ∙ sym (none_left line to (omega arith)))) }

  pub progress_ended : {to : ℕ} → item ≡ Item.Ends to → is_full c ≡ false → {words' : List ℕ} {d : ClauseCounts} → EndedAs g c words' bodies d → ProgressIs line at c g words' bodies marks (progress d to)
  progress_ended {to} e f {words'} {d} h =
      let is = held_clauses_is h.holds in
      let few : begun (with_end g) ≤ d.clauses = omega (arith, begun_end g, no_surplus k f, h.header.clauses) in
      record {
        says = (
          h.header,
          subst (λ x. Gathers x d words' bodies marks) is (record { holds = h.holds; marked = marked_end k.marked; few = few }),
          (said e).further,
          (said e).inside,
          ap (clause_line c.atoms c.clauses g) (said e).tokens ∙ token_passed c.atoms c.clauses g ends (line_tokens (drop to line)) refl refl ∙ ap (λ x. clause_line c.atoms c.clauses x (line_tokens (drop to line))) is,
        );
      }

  pub literal_found : {p : Bool} {number to : ℕ} → item ≡ Item.Literal p number to → (to ≤ length line) × (1 ≤ number)
  literal_found e = let t = said e in (t.2.inside, omega (arith, t.1, (capped_over (suc t.0) 0 (omega arith)).1 (omega arith)))

  module _ {words' bodies' marks' : List ℕ} where
    pub progress_broken : item ≡ Item.Broken → ProgressIs line at c g words' bodies' marks' (Err BrokenClauses)
    progress_broken e = record { says = line_wrong c.atoms c.clauses g (line_tokens (drop at line)) (said e) }

    module _ {to : ℕ} (e : item ≡ Item.Ends to) where
      pub progress_surplus : is_full c ≡ true → ProgressIs line at c g words' bodies' marks' (Err BrokenClauses)
      progress_surplus f =
          record { says = ap (clause_line c.atoms c.clauses g) (said e).tokens ∙ token_surplus c.atoms c.clauses g ends (line_tokens (drop to line)) (omega (arith, surplus k f, begun_end g)) }

    module _ {p : Bool} {number to : ℕ} (e : item ≡ Item.Literal p number to) {r : Result ClauseCounts Refusal} (l : LiteralIs line to c g p number words' bodies' marks' r) where
      pub progress_literal : {d : ClauseCounts} → r ≡ Ok d → ProgressIs line at c g words' bodies' marks' (progress d to)
      progress_literal {d} q =
          let t = said e in
          let h : LiteralSays line to c g p number words' bodies' marks' (Ok d) = subst (LiteralSays line to c g p number words' bodies' marks') q l.says in
          record { says = (h.0, h.1, t.2.further, t.2.inside, ap (clause_line c.atoms c.clauses g) t.2.tokens ∙ h.2 t.0 t.1) }

      pub progress_refused : {f : Refusal} → r ≡ Err f → ProgressIs line at c g words' bodies' marks' (Err f)
      progress_refused {f} q =
          let t = said e in
          let h : LiteralSays line to c g p number words' bodies' marks' (Err f) = subst (LiteralSays line to c g p number words' bodies' marks') q l.says in
          record { says = ap (clause_line c.atoms c.clauses g) t.2.tokens ∙ h t.0 t.1 }

-- a literal that ends at `to`
module _ (line : List ℕ) (to : ℕ) {c : ClauseCounts} {words bodies marks : List ℕ} (k : InClauses c words bodies marks) (p : Bool) (number : ℕ) where
  abbrev before : Gathered
  before = held c words bodies

  pub literal_surplus : is_full c ≡ true → {words' bodies' marks' : List ℕ} → LiteralIs line to c before p number words' bodies' marks' (Err BrokenClauses)
  literal_surplus f = record { says = λ a e. token_surplus c.atoms c.clauses before (literal (signed p a)) (line_tokens (drop to line)) (omega (arith, surplus k f, begun_literal before (signed p a))) }

  begun_is : (l : Literal) → begun (with_literal before l) ≡ c.rules + 1
  begun_is l = omega (arith, begun_literal before l, k.holds.rules_are)

  is_beyond_lem : (a : ℕ) → number ≡ capped (suc a) → leb c.atoms (atom_of (signed p a)) ≡ ltb c.atoms number
  is_beyond_lem a e = ap (leb c.atoms) (atom_signed p a) ∙ sym (ap (ltb c.atoms) e ∙ over_beyond k.holds.atoms_fit a)

  pub literal_beyond : c.atoms < number → {words' bodies' marks' : List ℕ} {r : Refusal} → r ≡ later_refusal c.atoms c.clauses (c.rules + 1) true true (line_tokens (drop to line)) → LiteralIs line to c before p number words' bodies' marks' (Err r)
  literal_beyond l q = record {
    says = λ a e. (
        token_beyond c.atoms c.clauses before (literal (signed p a)) (line_tokens (drop to line)) refl (literal_unended before (signed p a)) (is_beyond_lem a e ∙ lt-ltb c.atoms number l)
        ∙ ap (λ x. fault (later_refusal c.atoms c.clauses x true true (line_tokens (drop to line)))) (begun_is (signed p a))
        ∙ ap fault (sym q)
        );
  }

  -- within the header's atoms the number is the atom's
  module _ (l : number ≤ c.atoms) (atom : ℕ) (n : atom + 1 ≡ number) where
    atom_is : (a : ℕ) → number ≡ capped (suc a) → a ≡ atom
    atom_is a e = let s = capped_same (suc a) (omega (arith, k.holds.atoms_fit)) in omega arith

    not_beyond : (a : ℕ) → number ≡ capped (suc a) → leb c.atoms (atom_of (signed p a)) ≡ false
    not_beyond a e = is_beyond_lem a e ∙ le-ltb c.atoms number l

    module _ {words' bodies' marks' : List ℕ} {r : Option ClauseCounts} (w : TakenIs before c (signed p atom) words' bodies' marks' r) where
      pub literal_taken : is_full c ≡ false → {d : ClauseCounts} → r ≡ Some d → LiteralIs line to c before p number words' bodies' marks' (Ok d)
      literal_taken f {d} q =
          let t : TakenSays before c (signed p atom) words' bodies' marks' (Some d) = subst (TakenSays before c (signed p atom) words' bodies' marks') q w.says in
          let is = held_clauses_is t.1 in
          let few : begun (with_literal before (signed p atom)) ≤ d.clauses = omega (arith, begun_literal before (signed p atom), no_surplus k f, t.0.clauses) in
          record {
            says = (
              t.0,
              subst (λ x. Gathers x d words' bodies' marks') is (record { holds = t.1; marked = t.2; few = few }),
              λ a e. (
                  token_passed c.atoms c.clauses before (literal (signed p a)) (line_tokens (drop to line)) refl (not_beyond a e)
                  ∙ ap (λ x. clause_line c.atoms c.clauses (with_literal before (signed p x)) (line_tokens (drop to line))) (atom_is a e)
                  ∙ ap (λ x. clause_line c.atoms c.clauses x (line_tokens (drop to line))) is
                  ),
            );
          }

      pub literal_full : r ≡ None → {q : Refusal} → q ≡ later_refusal c.atoms c.clauses (c.rules + 1) true false (line_tokens (drop to line)) → LiteralIs line to c before p number words' bodies' marks' (Err q)
      literal_full x {q} y =
          let full : occurrence_limit Preference < occurrences_in (with_literal before (signed p atom)) = subst (TakenSays before c (signed p atom) words' bodies' marks') x w.says in
          record {
            says = λ a e. (
                token_full c.atoms c.clauses before (literal (signed p a)) (line_tokens (drop to line)) refl (literal_unended before (signed p a)) (not_beyond a e) (subst (λ z. occurrence_limit Preference < occurrences_in (with_literal before (signed p z))) (sym (atom_is a e)) full)
                ∙ ap (λ z. fault (later_refusal c.atoms c.clauses z true false (line_tokens (drop to line)))) (begun_is (signed p a))
                ∙ ap fault (sym y)
                );
          }
