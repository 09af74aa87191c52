-- One literal more in the scratch.
use Prim.Native.Nat.{ℕ, suc, ◌+◌, ◌≤◌, ◌<◌}
use native.Mathlib.Numerals.{add-one}
use native.Mathlib.Omega.{arith}
use mathlib.Core.Path.{◌≡◌, refl, sym, ap, ap₂, ◌∙◌, subst}
use mathlib.Core.List.{List, [], ◌∷◌, ◌++◌}
use lib.ListN.{length, get_or, take, drop, set, length-append, length-drop, length-set, take-append-drop}
use lib.Seq.{take_at, take-set-le, take-suc-set, drop-set-add}
use Rattle.std.specs.Prelude.{Some, None}
use Rattle.kinds.specs.Limits.{atom_limit, occurrence_limit}
use Rattle.kinds.specs.declared.limits.Kind.TheVariants.{Preference}
use Rattle.gathering.specs.Gathered.{Filled}
use Rattle.clauses.specs.Literals.{Literal, positive}
use Rattle.clauses.specs.Gathered.{Gathered, with_literal}
use Rattle.clause_rules.specs.declared.clause.ClauseCounts.{ClauseCounts}
use Rattle.clause_rules.specs.HeldClauses.{HeldClauses, Marked, SameHeader, TakenIs}
use Rattle.clause_rules.proofs.HeldGathered.{words_used}
use Rattle.clause_rules.proofs.LiteralMarks.{with_head, head_there, head_new, mark_head}

-- a word written behind what is filled
fill_past : {d : List ℕ} {skipped used : ℕ} {list : List ℕ} → Filled d skipped used list → (p x : ℕ) → used ≤ p → Filled (set d p x) skipped used list
fill_past {d} {skipped} {used} {list} f p x l =
    let long : length (f.front ++ list) ≡ used = length-append f.front list ∙ omega (arith, f.before, f.ends) in
    record {
      front = f.front;
      rest = drop used (set d p x);
      is =
          sym (take-append-drop used (set d p x))
          ∙ ap (λ y. y ++ drop used (set d p x)) (take-set-le used d p x l ∙ ap (take used) f.is ∙ take_at (f.front ++ list) f.rest used long);
      before = f.before;
      ends = f.ends;
    }

-- an atom behind a list that stands from a place on
write_last : (d : List ℕ) (from count a : ℕ) {xs : List ℕ} → take count (drop from d) ≡ xs → from + count < length d → take (count + 1) (drop from (set d (from + count) a)) ≡ xs ++ (a ∷ [])
write_last d from count a e l =
    ap₂ take (add-one count) (drop-set-add from d count a)
    ∙ take-suc-set (drop from d) count a (omega (arith, length-drop from d))
    ∙ ap (λ y. y ++ (a ∷ [])) e

-- one occurrence more
abbrev head_counts : ClauseCounts → ClauseCounts
head_counts c = record {
  atoms = c.atoms;
  clauses = c.clauses;
  rules = c.rules;
  words = c.words;
  heads = c.heads + 1;
  bodies = c.bodies;
  occurrences = c.occurrences + 1;
}

taken : {g s : Gathered} {c d : ClauseCounts} {l : Literal} {words bodies marks : List ℕ} → with_literal g l ≡ s → SameHeader c d → HeldClauses s d words bodies → Marked s marks
    → TakenIs g c l words bodies marks (Some d)
taken {d} {words} {bodies} {marks} e same h m = record { says = (same, subst (λ s. HeldClauses s d words bodies) (sym e) h, subst (λ s. Marked s marks) (sym e) m) }

module _ {g : Gathered} {c : ClauseCounts} {words bodies : List ℕ} (h : HeldClauses g c words bodies) where
  pub head_room : c.words + 3 + c.heads < length words
  head_room = omega (arith, words_used h, h.words_room, h.atoms_fit, h.clauses_fit, h.rules_fit_lem, h.occurrences_fit)

  module _ (few : c.occurrences ≡ occurrence_limit Preference → ⊥) where
    one_more : c.occurrences + 1 ≤ occurrence_limit Preference
    one_more = omega (arith, h.occurrences_fit)

    hold_head : (a : ℕ) → HeldClauses (with_head g a) (head_counts c) (set words (c.words + 3 + c.heads) a) bodies
    hold_head a =
        let longer = length-append g.heads (a ∷ []) in
        record {
          stored = fill_past h.stored (c.words + 3 + c.heads) a (omega arith);
          rules_are = h.rules_are;
          heads_stored = write_last words (c.words + 3) c.heads a h.heads_stored head_room;
          heads_are = omega (arith, h.heads_are, longer);
          bodies_stored = h.bodies_stored;
          bodies_are = h.bodies_are;
          occurrences_are = omega (arith, h.occurrences_are, longer);
          atoms_fit = h.atoms_fit;
          clauses_fit = h.clauses_fit;
          rules_fit_lem = h.rules_fit_lem;
          occurrences_fit = one_more;
          words_room = length-set words (c.words + 3 + c.heads) a ∙ h.words_room;
          bodies_room = h.bodies_room;
        }

  module _ {marks : List ℕ} (m : Marked g marks) {a stamp : ℕ} (p : (a < c.atoms) × (stamp ≡ c.rules + 1)) where
    below_limit : a < atom_limit Preference
    below_limit = omega (arith, p.0, h.atoms_fit)

    stamp_is : stamp ≡ suc (length g.rules)
    stamp_is = omega (arith, p.1, h.rules_are)

    pub head_repeated : get_or marks a 0 ≡ stamp → TakenIs g c (positive a) words bodies marks (Some c)
    head_repeated e = taken (head_there m a below_limit (e ∙ stamp_is)) (record { atoms = refl; clauses = refl }) h m

    module _ (new : get_or marks a 0 ≡ stamp → ⊥) where
      head_is : with_literal g (positive a) ≡ with_head g a
      head_is = head_new m a below_limit (λ e. new (e ∙ sym stamp_is))

      pub head_full : c.occurrences ≡ occurrence_limit Preference → TakenIs g c (positive a) words bodies marks None
      head_full e = record { says = omega (arith, h.occurrences_are, length-append g.heads (a ∷ []), ap (λ s. length s.heads) head_is) }

      pub head_taken : (c.occurrences ≡ occurrence_limit Preference → ⊥)
          → TakenIs g c (positive a) (set words (c.words + 3 + c.heads) a) bodies (set marks a stamp) (Some (head_counts c))
      head_taken few = taken head_is (record { atoms = refl; clauses = refl }) (hold_head few a) (subst (λ n. Marked (with_head g a) (set marks a n)) (sym stamp_is) (mark_head m a below_limit))
