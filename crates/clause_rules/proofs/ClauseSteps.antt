-- The scratch at the header, and after a clause's end.
use Prim.Native.Nat.{ℕ, ◌+◌, ◌≤◌, ◌<◌}
use native.Mathlib.Omega.{arith}
use mathlib.Core.Path.{◌≡◌, refl, sym, ap, ap₂, ◌∙◌, subst}
use mathlib.Core.List.{List, [], ◌∷◌, ◌++◌, append_assoc, append-nil}
use lib.ListN.{length, take, drop, replicate, length-append, length-replicate, take-append-drop}
use lib.Seq.{length-take-le, drop-drop, sets, sets-eq}
use Rattle.kinds.specs.Limits.{atom_limit, rule_limit}
use Rattle.kinds.specs.Sizes.{store_words}
use Rattle.kinds.specs.declared.limits.Kind.TheVariants.{Preference}
use Rattle.rules.specs.Lists.{flat}
use Rattle.rules.specs.Rules.{Rule, rule}
use Rattle.stores.specs.RuleStore.{rule_words}
use Rattle.output.specs.Emitted.{Emitted, InRange}
use Rattle.output.proofs.Emitting.{sets_append, sets_front, same_length}
use Rattle.gathering.specs.Gathered.{Filled}
use Rattle.gathering.proofs.HeldState.{fill_more, flat_last, sum_last}
use Rattle.clauses.specs.Gathered.{Gathered, with_end}
use Rattle.clause_rules.specs.declared.clause.ClauseCounts.{ClauseCounts}
use Rattle.clause_rules.specs.HeldClauses.{HeldClauses, Started, EndedAs}
use Rattle.clause_rules.proofs.HeldGathered.{words_used}

-- the header's atoms

fill_none : (d : List ℕ) (n : ℕ) → n ≤ length d → Filled d n n []
fill_none d n l = record {
  front = take n d;
  rest = drop n d;
  is = sym (ap (λ y. y ++ drop n d) (append-nil (take n d)) ∙ take-append-drop n d);
  before = length-take-le n d l;
  ends = omega arith;
}

abbrev start_counts : ℕ → ℕ → ℕ → ClauseCounts
start_counts n m end = record {
  atoms = n;
  clauses = m;
  rules = 0;
  words = end;
  heads = 0;
  bodies = 0;
  occurrences = 0;
}

pub started : {n m end : ℕ} {before after : List ℕ} → (n ≤ atom_limit Preference) × (m ≤ rule_limit Preference) × (length before ≡ store_words) → Emitted before 4 (replicate n 1) after end
    → Started n m after (start_counts n m end)
started {n} {m} {end} {before} {after} p w =
    let ones : List ℕ = replicate n 1 in
    let filled = fill_more (fill_none before 4 (omega arith)) ones (omega (arith, length-replicate {A = ℕ} n 1)) in
    record {
      atoms = refl;
      clauses = refl;
      holds = λ bodies room. record {
        stored =
            subst (Filled after 4 end) (sym (append-nil ones))
            (subst (λ k. Filled after 4 k ones) (sym w.place)
            (subst (λ d. Filled d 4 (4 + length ones) ones) (sym w.bytes) filled));
        rules_are = refl;
        heads_stored = refl;
        heads_are = refl;
        bodies_stored = refl;
        bodies_are = refl;
        occurrences_are = refl;
        atoms_fit = p.0;
        clauses_fit = p.1;
        rules_fit_lem = omega arith;
        occurrences_fit = omega arith;
        words_room = same_length w ∙ p.2;
        bodies_room = room;
      };
    }

-- a clause's end

-- what stands there already
sets_same : (d : List ℕ) (p : ℕ) (w : List ℕ) → take (length w) (drop p d) ≡ w → p + length w ≤ length d → sets d p w ≡ d
sets_same d p w e l =
    sets-eq w d p l
    ∙ append_assoc (take p d) w (drop (p + length w) d)
    ∙ ap₂ (λ x y. take p d ++ (x ++ y)) (sym e) (sym (drop-drop (length w) p d))
    ∙ ap (λ x. take p d ++ x) (take-append-drop (length w) (drop p d))
    ∙ take-append-drop p d

abbrev end_counts : ClauseCounts → ℕ → ClauseCounts
end_counts c end = record {
  atoms = c.atoms;
  clauses = c.clauses;
  rules = c.rules + 1;
  words = end;
  heads = 0;
  bodies = 0;
  occurrences = c.occurrences;
}

module _ {g : Gathered} {c : ClauseCounts} {words bodies : List ℕ} (h : HeldClauses g c words bodies) where
  clause_room : c.words + 3 + c.heads + c.bodies ≤ length words
  clause_room = omega (arith, words_used h, h.words_room, h.atoms_fit, h.clauses_fit, h.rules_fit_lem, h.occurrences_fit)

  pub counts_range : (c.heads < 65536) × (c.bodies < 65536) × (0 < 65536) × (c.words < 4611686018427387904)
  counts_range = (omega (arith, clause_room, h.words_room), omega (arith, clause_room, h.words_room), omega arith, omega (arith, clause_room, h.words_room))

  pub body_part_lem : c.bodies ≡ length (take c.bodies bodies)
  body_part_lem = h.bodies_are ∙ sym (ap length h.bodies_stored)

  module _ {after : List ℕ} {next : ℕ} (p : Emitted words c.words (c.heads ∷ c.bodies ∷ 0 ∷ []) after next) where
    pub behind_range : InRange (next + c.heads) (take c.bodies bodies)
    behind_range = record { below = omega (arith, p.place, body_part_lem, clause_room, h.words_room) }

    abbrev new : Rule ℕ
    new = rule g.heads g.bodies []

    new_length : length (rule_words new) ≡ 3 + c.heads + c.bodies
    new_length = omega (arith, length-append g.heads (g.bodies ++ []), length-append g.bodies [], h.heads_are, h.bodies_are)

    module _ {last : List ℕ} {end : ℕ} (q : Emitted after (next + c.heads) (take c.bodies bodies) last end) where
      rule_end : end ≡ c.words + length (rule_words new)
      rule_end = omega (arith, p.place, q.place, body_part_lem, new_length)

      rule_written : last ≡ sets words c.words (rule_words new)
      rule_written =
          let counts = c.heads ∷ c.bodies ∷ 0 ∷ [] in
          let heads : sets words (c.words + 3) g.heads ≡ words =
          sets_same words (c.words + 3) g.heads (ap (λ n. take n (drop (c.words + 3) words)) (sym h.heads_are) ∙ h.heads_stored) (omega (arith, h.heads_are, clause_room)) in
          let with-heads : after ≡ sets words c.words (counts ++ g.heads) =
          p.bytes ∙ ap (λ d. sets d c.words counts) (sym heads) ∙ sets_front words c.words counts (c.words + 3) g.heads refl in
          let place : next + c.heads ≡ c.words + length (counts ++ g.heads) = omega (arith, p.place, h.heads_are) in
          let is : (counts ++ g.heads) ++ g.bodies ≡ rule_words new = λ i. h.heads_are i ∷ h.bodies_are i ∷ 0 ∷ (g.heads ++ sym (append-nil g.bodies) i) in
          q.bytes
          ∙ (λ i. sets (with-heads i) (place i) (h.bodies_stored i))
          ∙ sets_append words c.words (counts ++ g.heads) g.bodies
          ∙ ap (sets words c.words) is

      pub ended : c.rules < c.clauses → EndedAs g c last bodies (end_counts c end)
      ended more =
          let filled = fill_more h.stored (rule_words new) (omega (arith, new_length, clause_room)) in
          let all : (replicate c.atoms 1 ++ flat rule_words g.rules) ++ rule_words new ≡ replicate c.atoms 1 ++ flat rule_words (with_end g).rules =
          append_assoc (replicate c.atoms 1) (flat rule_words g.rules) (rule_words new) ∙ ap (λ l. replicate c.atoms 1 ++ l) (sym (flat_last g.rules new)) in
          record {
            header = record { atoms = refl; clauses = refl };
            holds = record {
              stored =
                  subst (λ d. Filled d 4 end (replicate c.atoms 1 ++ flat rule_words (with_end g).rules)) (sym rule_written)
                  (subst (λ k. Filled (sets words c.words (rule_words new)) 4 k (replicate c.atoms 1 ++ flat rule_words (with_end g).rules)) (sym rule_end)
                  (subst (Filled (sets words c.words (rule_words new)) 4 (c.words + length (rule_words new))) all filled));
              rules_are = omega (arith, h.rules_are, length-append g.rules (new ∷ []));
              heads_stored = refl;
              heads_are = refl;
              bodies_stored = refl;
              bodies_are = refl;
              occurrences_are = omega (arith, h.occurrences_are, sum_last g.rules new);
              atoms_fit = h.atoms_fit;
              clauses_fit = h.clauses_fit;
              rules_fit_lem = omega arith;
              occurrences_fit = h.occurrences_fit;
              words_room = same_length q ∙ same_length p ∙ h.words_room;
              bodies_room = h.bodies_room;
            };
          }
