-- The parts of a store's words, and a header written in front of the rules.
use Prim.Native.Nat.{ℕ, ◌+◌, ◌-◌}
use mathlib.Core.Path.{◌≡◌, ap, ap₂, ◌∙◌}
use mathlib.Core.List.{List, [], ◌∷◌, ◌++◌}
use native.Mathlib.Omega.{arith}
use lib.ListN.{length, get_or, take, drop, length-append, length-drop}
use lib.Seq.{sets, length-take-le}
use borrow.Author.Tests.{ne_eqb}
use Rattle.rules.specs.Lists.{flat}
use Rattle.stores.specs.RuleStore.{rule_words, kind_of, word_count}
use Rattle.output.specs.Emitted.{Emitted, InRange}
use Rattle.output.proofs.Emitting.{then, sets_front}
use Rattle.canonical_store.specs.KeptRules.{kept_rules, kept_words, class_count, Header, WrittenRules}
use Rattle.canonical_store.specs.declared.written_rules.Written.{Written}

pub plain_start : (w n : ℕ) → w ≡ 0 → 4 ≡ 4 + word_count (kind_of w) n
plain_start w n e = rw e

pub preference_start : (w n : ℕ) → (w ≡ 0 → ⊥) → 4 + n ≡ 4 + word_count (kind_of w) n
preference_start w n f = rw (ne_eqb w 0 f)

module _ (ws order : List ℕ) (h : Header ws) where
  abbrev header : ℕ → List ℕ
  header n = get_or ws 0 0 ∷ get_or ws 1 0 ∷ get_or ws 2 0 ∷ n ∷ []

  abbrev rules : List ℕ
  rules = flat rule_words (kept_rules ws order)

  classes_length : length (take (class_count ws) (drop 4 ws)) ≡ class_count ws
  classes_length = length-take-le (class_count ws) (drop 4 ws) (let k = h.inside in omega (arith, length-drop 4 ws))

  kept_length : length (kept_words ws order) ≡ 4 + (class_count ws + length rules)
  unfolding kept_words
  kept_length = let e = length-append (take (class_count ws) (drop 4 ws)) rules in let f = classes_length in omega arith

  module _ {start : ℕ} (s : start ≡ 4 + class_count ws) (r : InRange 0 (kept_words ws order)) where
    pub rules_range : InRange start rules
    rules_range = record { below = let b = r.below in let k = kept_length in omega arith }

    pub front_written :
        {before one two three : List ℕ} {w : Written} {headed ended : ℕ}
        → WrittenRules before start (kept_rules ws order) one w
        → Emitted one 0 (header w.rules) two headed
        → Emitted two headed (take (start - 4) (drop 4 ws)) three ended
        → Emitted before 0 (kept_words ws order) three w.next
    unfolding kept_words
    front_written {before} {one} {two} {three} {w} {headed} {ended} a b c =
        let classes = take (start - 4) (drop 4 ws) in
        let e : start - 4 ≡ class_count ws = omega arith in
        let both = then b c in
        let sized : length classes ≡ class_count ws = ap (λ (k : ℕ). length (take k (drop 4 ws))) e ∙ classes_length in
        record {
          place = let p = a.words.place in let k = kept_length in omega arith;
          bytes =
              both.bytes
              ∙ ap (λ (d : List ℕ). sets d 0 (header w.rules ++ classes)) a.words.bytes
              ∙ sets_front before 0 (header w.rules ++ classes) start rules (omega arith)
              ∙ ap₂ (λ (n k : ℕ). sets before 0 (get_or ws 0 0 ∷ get_or ws 1 0 ∷ get_or ws 2 0 ∷ n ∷ (take k (drop 4 ws) ++ rules))) a.count e;
        }
