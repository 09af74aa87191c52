-- The class words and the rules of a held preference program, as the code takes them.
use Prim.Native.Nat.{ℕ, ◌+◌, ◌-◌, ◌≤◌, ◌<◌}
use native.Mathlib.Omega.{arith}
use mathlib.Core.Path.{◌≡◌, sym, ap, ◌∙◌, subst}
use mathlib.Core.List.{List, ◌++◌, append_assoc}
use lib.ListN.{length, take, drop}
use lib.Seq.{drop_at, drop-drop}
use Rattle.kinds.specs.declared.limits.Kind.TheVariants.{Preference}
use Rattle.rules.specs.Lists.{All, flat}
use Rattle.rules.specs.Renumbering.{Within}
use Rattle.rules.proofs.Lists.{part_rest, part_sized}
use Rattle.stores.specs.RuleStore.{rule_words, rules_from}
use Rattle.stores.specs.StoredRules.{StoredRules}
use Rattle.stores.proofs.StoredRules.{rules_front}
use Rattle.lines.specs.Faults.{SoFar}
use Rattle.gathering.specs.declared.gathered.Gathered.{Gathered}
use Rattle.gathering.specs.Gathered.{state_of, Held}
use Rattle.gathering.proofs.HeldState.{behind, rules_is, occurrences_is, held_small}

abbrev pub class_part : ℕ → List ℕ → List ℕ
class_part n words = take (4 + n - 4) (drop 4 words)

abbrev pub rule_part : ℕ → List ℕ → List ℕ
rule_part n words = take (length words - (4 + n)) (drop (4 + n) words)

module _ {g : Gathered} {words bytes : List ℕ} (h : Held Preference (state_of Preference g words bytes) g words bytes) where
  abbrev st : SoFar
  st = state_of Preference g words bytes

  abbrev n : ℕ
  n = g.counts.atoms

  pub end_inside : 4 + n ≤ length words
  end_inside = omega (arith, (held_small h).atoms, h.words_room)

  pub class_part_lem : class_part n words ≡ st.words
  unfolding state_of
  class_part_lem = part_sized 4 n (drop 4 words)

  pub rule_part_lem : rules_from g.counts.rules (rule_part n words) ≡ st.program_rules
  unfolding state_of
  rule_part_lem = ap (rules_from g.counts.rules) (part_rest (4 + n) words)

  words_there : rule_part n words ≡ flat rule_words st.program_rules ++ h.stored.rest
  words_there =
      part_rest (4 + n) words ∙ sym (drop-drop n 4 words)
      ∙ ap (drop n) (behind h.stored ∙ append_assoc st.words (flat rule_words st.program_rules) h.stored.rest)
      ∙ drop_at st.words (flat rule_words st.program_rules ++ h.stored.rest) n h.class_words_lem

  pub rules_stored : (k : ℕ) → All (Within (λ a. a < k)) st.program_rules → StoredRules k g.counts.rules (rule_part n words)
  rules_stored k a =
      subst (StoredRules k g.counts.rules) (sym words_there)
      (subst (λ (c : ℕ). StoredRules k c (flat rule_words st.program_rules ++ h.stored.rest)) (sym (rules_is h))
      (rules_front k st.program_rules h.stored.rest a (omega (arith, occurrences_is h, (held_small h).occurrences))))
