-- The scratch decodes to the state that it holds, and a list written behind what is filled.
use Prim.Native.Nat.{ℕ, ◌+◌, ◌≤◌}
use native.Mathlib.Omega.{arith}
use mathlib.Core.Path.{◌≡◌, sym, ap, ap₂, ◌∙◌}
use mathlib.Core.Bool.{true, ◌&&◌}
use mathlib.Core.List.{List, [], ◌∷◌, ◌++◌, append_assoc, append-nil}
use lib.Dec.{leb}
use lib.ListN.{length, take, drop, length-append}
use lib.Seq.{take_at, drop_at, drop-drop, sets}
use Rattle.kinds.specs.Sizes.{store_words, store_bytes}
use Rattle.kinds.specs.Limits.{atom_limit, rule_limit, occurrence_limit, within}
use Rattle.kinds.specs.declared.limits.Counts.{Counts}
use Rattle.kinds.specs.declared.limits.Kind.{Kind}
use Rattle.kinds.specs.declared.limits.Kind.TheVariants.{Plain, Preference}
use borrow.Author.Tests.{leb-true, le-leb}
use Rattle.rules.specs.Lists.{sum, flat}
use Rattle.rules.specs.Rules.{Rule, occurrences}
use Rattle.rules.proofs.Booleans.{both_true}
use Rattle.name_store.specs.NameStore.{encode_names, decode_names}
use Rattle.stores.specs.RuleStore.{rule_words, word_count, rules_from}
use Rattle.name_store.specs.NameIndex.{Indexed}
use Rattle.stores.proofs.RuleStores.{rules_front}
use Rattle.name_store.proofs.NameStores.{decode_front}
use Rattle.name_store.proofs.NameEntries.{length_filled, filled}
use Rattle.output.proofs.Emitting.{sets_seam}
use Rattle.gathering.specs.declared.gathered.Gathered.{Gathered}
use Rattle.lines.specs.Faults.{SoFar}
use Rattle.gathering.specs.Gathered.{state_of, stored_words, Filled, Held, HeldIndex}

-- what is filled

module _ {d : List ℕ} {skipped used : ℕ} {list : List ℕ} (f : Filled d skipped used list) where
  pub behind : drop skipped d ≡ list ++ f.rest
  behind = ap (drop skipped) (f.is ∙ append_assoc f.front list f.rest) ∙ drop_at f.front (list ++ f.rest) skipped f.before

pub fill_more : {d : List ℕ} {skipped used : ℕ} {list : List ℕ} → Filled d skipped used list → (w : List ℕ) → used + length w ≤ length d → Filled (sets d used w) skipped (used + length w) (list ++ w)
fill_more {d} {skipped} {used} {list} f w l =
    let p = f.front ++ list in
    let long : length p ≡ used = length-append f.front list ∙ ap (λ k. k + length list) f.before ∙ sym f.ends in
    let room : length w ≤ length f.rest = omega (arith, ap length f.is ∙ length-append p f.rest) in
    record {
      front = f.front;
      rest = drop (length w) f.rest;
      is =
          ap₂ (λ (x : List ℕ) (k : ℕ). sets x k w) f.is (sym long)
          ∙ sets_seam p f.rest w room
          ∙ sym (append_assoc p w (drop (length w) f.rest))
          ∙ ap (λ x. x ++ drop (length w) f.rest) (append_assoc f.front list w);
      before = f.before;
      ends = omega (arith, f.ends, length-append list w);
    }

-- the counts, one by one
module _ {kind : Kind} {st : SoFar} {g : Gathered} {words bytes : List ℕ} (h : Held kind st g words bytes) where
  pub atoms_is : g.counts.atoms ≡ length st.names
  atoms_is = ap (λ c. c.atoms) h.counts_are

  pub rules_is : g.counts.rules ≡ length st.program_rules
  rules_is = ap (λ c. c.rules) h.counts_are

  pub occurrences_is : g.counts.occurrences ≡ sum occurrences st.program_rules
  occurrences_is = ap (λ c. c.occurrences) h.counts_are

  -- the state that is held is the decoded one
  pub held_is : st ≡ state_of kind g words bytes
  unfolding state_of
  held_is =
      let rest = h.stored.rest in
      let c = word_count kind g.counts.atoms in
      let all : drop 4 words ≡ st.words ++ (flat rule_words st.program_rules ++ rest) = behind h.stored ∙ append_assoc st.words (flat rule_words st.program_rules) rest in
      let class_words_lem : take c (drop 4 words) ≡ st.words = ap (take c) all ∙ take_at st.words (flat rule_words st.program_rules ++ rest) c h.class_words_lem in
      let names : decode_names g.counts.atoms bytes ≡ st.names =
      ap₂ decode_names atoms_is (sym h.names_stored) ∙ decode_front st.names (drop (length (encode_names st.names)) bytes) in
      let rules : rules_from g.counts.rules (drop (4 + c) words) ≡ st.program_rules =
      ap₂ rules_from rules_is (sym (drop-drop c 4 words) ∙ ap (drop c) all ∙ drop_at st.words (flat rule_words st.program_rules ++ rest) c h.class_words_lem)
      ∙ rules_front st.program_rules rest in
      λ i. record {
        kind = h.kind_is i;
        stage = sym h.stage_is i;
        classes = sym h.classes_is i;
        words = sym class_words_lem i;
        names = sym names i;
        program_rules = sym rules i;
        made = sym h.made_is i;
      }

  -- its names are those of the index
  pub names_are : st.names ≡ decode_names g.counts.atoms bytes
  unfolding state_of
  names_are = ap (λ s. s.names) held_is

-- the words of rules
pub flat_last : (rs : List (Rule ℕ)) (r : Rule ℕ) → flat rule_words (rs ++ (r ∷ [])) ≡ flat rule_words rs ++ rule_words r
flat_last [] r = append-nil (rule_words r)
flat_last (s ∷ rs) r = ap (λ l. rule_words s ++ l) (flat_last rs r) ∙ sym (append_assoc (rule_words s) (flat rule_words rs) (rule_words r))

pub sum_last : (rs : List (Rule ℕ)) (r : Rule ℕ) → sum occurrences (rs ++ (r ∷ [])) ≡ sum occurrences rs + occurrences r
sum_last [] r = omega arith
sum_last (s ∷ rs) r = omega (arith, sum_last rs r)

pub occurrences_small : (kind : Kind) → occurrence_limit kind ≤ occurrence_limit Plain
occurrences_small Plain = omega arith
occurrences_small Preference = omega arith

pub rules_small : (kind : Kind) → rule_limit kind ≤ rule_limit Plain
rules_small Plain = omega arith
rules_small Preference = omega arith

pub atoms_small : (kind : Kind) → atom_limit kind ≤ atom_limit Plain
atoms_small Plain = omega arith
atoms_small Preference = omega arith

-- the counts within their limits
pub record Fits (kind : Kind) (c : Counts) : Type 0 where
  pub atoms : c.atoms ≤ atom_limit kind
  pub rules : c.rules ≤ rule_limit kind
  pub occurrences : c.occurrences ≤ occurrence_limit kind

pub within_limits : (kind : Kind) (c : Counts) → within kind c ≡ true → Fits kind c
within_limits kind c e =
    let a = both_true (leb c.atoms (atom_limit kind)) (leb c.rules (rule_limit kind) && leb c.occurrences (occurrence_limit kind)) e in
    let b = both_true (leb c.rules (rule_limit kind)) (leb c.occurrences (occurrence_limit kind)) a.1 in
    record { atoms = leb-true _ _ a.0; rules = leb-true _ _ b.0; occurrences = leb-true _ _ b.1 }

pub limits_within : {kind : Kind} {c : Counts} → Fits kind c → within kind c ≡ true
limits_within f = rw (le-leb _ _ f.atoms, le-leb _ _ f.rules, le-leb _ _ f.occurrences)

-- the counts are small
pub record Small (g : Gathered) : Type 0 where
  pub words : g.words ≤ store_words
  pub bytes : g.bytes ≤ store_bytes
  pub atoms : g.counts.atoms ≤ atom_limit Plain
  pub rules : g.counts.rules ≤ rule_limit Plain
  pub occurrences : g.counts.occurrences ≤ occurrence_limit Plain

pub held_small : {kind : Kind} {st : SoFar} {g : Gathered} {words bytes : List ℕ} → Held kind st g words bytes → Small g
held_small {kind} {st} {g} {words} h =
    let f = h.stored in
    let l = within_limits kind g.counts h.counts_fit in
    record {
      words = omega (arith, f.ends, f.before, h.words_room, ap length f.is ∙ length-append (f.front ++ stored_words st) f.rest, length-append f.front (stored_words st));
      bytes = omega (arith, h.short, l.atoms, atoms_small kind);
      atoms = omega (arith, l.atoms, atoms_small kind);
      rules = omega (arith, l.rules, rules_small kind);
      occurrences = omega (arith, l.occurrences, occurrences_small kind);
    }

-- the index, cut to the atoms so far
module _ {g : Gathered} {bytes starts firsts links : List ℕ} (x : HeldIndex g bytes starts firsts links) where
  pub known_starts : length (take g.counts.atoms starts) ≡ g.counts.atoms
  known_starts = length_filled g.counts.atoms x.index

  pub known_index : Indexed (decode_names (length (take g.counts.atoms starts)) bytes) bytes (take g.counts.atoms starts) firsts links
  known_index = filled g.counts.atoms x.index

  pub known_names : {kind : Kind} {st : SoFar} {words : List ℕ} → Held kind st g words bytes → decode_names (length (take g.counts.atoms starts)) bytes ≡ st.names
  known_names h = ap (λ n. decode_names n bytes) known_starts ∙ sym (names_are h)
