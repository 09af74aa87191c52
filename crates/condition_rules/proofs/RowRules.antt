-- Rules written one after the other, and the rows of a table walked through.
use Prim.Native.Nat.{ℕ, ◌+◌, ◌*◌, ◌-◌, ◌≤◌, ◌<◌}
use native.Mathlib.Nat.{add-zero}
use native.Mathlib.Numerals.{add-one}
use native.Mathlib.Omega.{arith}
use mathlib.Core.Path.{◌≡◌, refl, sym, ap, ◌∙◌, subst}
use mathlib.Core.Bool.{Bool, true, false, not}
use mathlib.Core.List.{List, [], ◌∷◌, ◌++◌, append_assoc, append-nil}
use lib.Dec.{eqb}
use lib.ListN.{length, get_or, drop, length-append, drop_of_length-le}
use lib.Seq.{drop-cons}
use borrow.Author.Tests.{eq-eqb, ne_eqb}
use Rattle.rules.specs.Lists.{keep, flat, sum}
use Rattle.rules.specs.Rules.{Rule, rule, occurrences}
use Rattle.rules.proofs.ListLaws.{flat_append}
use Rattle.stores.specs.RuleStore.{rule_words}
use Rattle.stores.proofs.RuleStores.{rules_length}
use Rattle.output.specs.Emitted.{Emitted}
use Rattle.output.proofs.Emitting.{none, then, renamed}
use Rattle.conditions.specs.declared.table.Connective.{Connective}
use Rattle.conditions.specs.declared.table.Connective.TheVariants.{Not, And, Or}
use Rattle.conditions.specs.declared.table.TableRow.{TableRow}
use Rattle.condition_rules.specs.declared.RowsPut.{RowsPut}
use Rattle.condition_rules.specs.TableRules.{once_in, not_atoms, and_atoms, or_atoms, kind_rules, table_rules, RowsPutIs, RulesPutIs}

-- an atom once
module _ (l r : ℕ) where
  pub once_same : l ≡ r → l ∷ [] ≡ once_in l r
  once_same e = ap (λ (b : Bool). l ∷ keep (not b) r []) (sym (eq-eqb l r e))

  pub once_both : (l ≡ r → ⊥) → l ∷ r ∷ [] ≡ once_in l r
  once_both n = ap (λ (b : Bool). l ∷ keep (not b) r []) (sym (ne_eqb l r n))

once_short : (l r : ℕ) → length (once_in l r) ≤ 2
once_short l r = go (eqb l r)
  where
    go : (b : Bool) → length (l ∷ keep (not b) r []) ≤ 2
    go true = omega arith
    go false = omega arith

-- one rule more
pub one_rule_lem : {d d₁ : List ℕ} {at p : ℕ} (r : Rule ℕ) → Emitted d at (rule_words r) d₁ p → Emitted d at (flat rule_words (r ∷ [])) d₁ p
one_rule_lem r e = renamed e (sym (append-nil (rule_words r)))

pub then_rule_lem : {d d₁ d₂ : List ℕ} {at p q : ℕ} (rs : List (Rule ℕ)) (r : Rule ℕ) → Emitted d at (flat rule_words rs) d₁ p → Emitted d₁ p (rule_words r) d₂ q → Emitted d at (flat rule_words (rs ++ (r ∷ []))) d₂ q
then_rule_lem rs r e f = renamed (then e (one_rule_lem r f)) (sym (flat_append rule_words rs (r ∷ [])))

pub three_rules : {d d₁ d₂ d₃ : List ℕ} {at p q end : ℕ} (a b c : Rule ℕ) → Emitted d at (rule_words a) d₁ p → Emitted d₁ p (rule_words b) d₂ q → Emitted d₂ q (rule_words c) d₃ end
    → Emitted d at (flat rule_words (a ∷ b ∷ c ∷ [])) d₃ end
three_rules a b c e f g = then_rule_lem (a ∷ b ∷ []) c (then_rule_lem (a ∷ []) b (one_rule_lem a e) f) g

-- where a rule with both parts ends

pub both_end : {d d₁ : List ℕ} {at p : ℕ} (h l r : ℕ) → Emitted d at (rule_words (rule (h ∷ []) (once_in l r) [])) d₁ p → p ≤ at + 6
both_end h l r e = omega (arith, e.place, once_short l r, length-append (once_in l r) [])

pub either_end : {d d₁ : List ℕ} {at p : ℕ} (l r b : ℕ) → Emitted d at (rule_words (rule (once_in l r) (b ∷ []) [])) d₁ p → p ≤ at + 6
either_end l r b e = omega (arith, e.place, once_short l r, length-append (once_in l r) (b ∷ []))

-- the rules of a row

module _ {before after : List ℕ} {at end : ℕ} (row : TableRow) (t : ℕ) where
  pub not_row_put : row.kind ≡ Not → Emitted before at (flat rule_words (not_atoms t row.left)) after end → RowsPutIs (kind_rules row.kind t row.left row.right) before at after (record { end = end; rules = 2 })
  unfolding kind_rules
  not_row_put e w = subst (λ k. RowsPutIs (kind_rules k t row.left row.right) before at after (record { end = end; rules = 2 })) (sym e) (record { written = w; is_rules = refl })

  pub and_row_put : row.kind ≡ And → Emitted before at (flat rule_words (and_atoms t row.left row.right)) after end → RowsPutIs (kind_rules row.kind t row.left row.right) before at after (record { end = end; rules = 3 })
  unfolding kind_rules
  and_row_put e w = subst (λ k. RowsPutIs (kind_rules k t row.left row.right) before at after (record { end = end; rules = 3 })) (sym e) (record { written = w; is_rules = refl })

  pub or_row_put : row.kind ≡ Or → Emitted before at (flat rule_words (or_atoms t row.left row.right)) after end → RowsPutIs (kind_rules row.kind t row.left row.right) before at after (record { end = end; rules = 3 })
  unfolding kind_rules
  or_row_put e w = subst (λ k. RowsPutIs (kind_rules k t row.left row.right) before at after (record { end = end; rules = 3 })) (sym e) (record { written = w; is_rules = refl })

kind_few : (kind : Connective) (t l r : ℕ) → length (kind_rules kind t l r) ≤ 3
unfolding kind_rules
kind_few Not t l r = omega arith
kind_few And t l r = omega arith
kind_few Or t l r = omega arith

kind_occurrences : (kind : Connective) (t l r : ℕ) → sum occurrences (kind_rules kind t l r) ≤ 7
unfolding kind_rules
kind_occurrences Not t l r = omega arith
kind_occurrences And t l r = let h = once_short l r in omega arith
kind_occurrences Or t l r = let h = once_short l r in omega arith

kind_short : (kind : Connective) (t l r : ℕ) → length (flat rule_words (kind_rules kind t l r)) ≤ 16
kind_short kind t l r = omega (arith, rules_length (kind_rules kind t l r), kind_few kind t l r, kind_occurrences kind t l r)

-- the first i rows are walked through
pub record Putting (table : List TableRow) (first : ℕ) (before : List ℕ) (at : ℕ) (now : List ℕ) (end rules i : ℕ) : Type 0 where
  pub done : List (Rule ℕ)
  pub all : done ++ table_rules (first + i) (drop i table) ≡ table_rules first table
  pub written : Emitted before at (flat rule_words done) now end
  pub is_rules : rules ≡ length done
  pub short : end ≤ at + 16 * i
  pub few_rules : rules ≤ 3 * i

pub putting : (table : List TableRow) (first : ℕ) (before : List ℕ) (at : ℕ) → Putting table first before at before at 0 0
putting table first before at =
    record { done = []; all = ap (λ (t : ℕ). table_rules t table) (add-zero first); written = none; is_rules = refl; short = omega arith; few_rules = omega arith }

module _ {table : List TableRow} {first : ℕ} {before : List ℕ} {at : ℕ} {now : List ℕ} {end rules i : ℕ} (h : Putting table first before at now end rules i) where
  pub all_put : length table ≤ i → RowsPutIs (table_rules first table) before at now (record { end = end; rules = rules })
  unfolding table_rules
  all_put l =
      let out : drop i table ≡ [] = drop_of_length-le table l in
      let whole : h.done ≡ table_rules first table = sym (append-nil h.done) ∙ sym (ap (λ rs. h.done ++ table_rules (first + i) rs) out) ∙ h.all in
      record { written = renamed h.written (ap (flat rule_words) whole); is_rules = h.is_rules ∙ ap length whole }

  module _ (l : i < length table) (d : TableRow) {now' : List ℕ} {r : RowsPut} (p : RowsPutIs (kind_rules (get_or table i d).kind (first + i) (get_or table i d).left (get_or table i d).right) now end now' r) where
    abbrev row : TableRow
    row = get_or table i d

    abbrev row_rules_lem : List (Rule ℕ)
    row_rules_lem = kind_rules row.kind (first + i) row.left row.right

    pub rows_fit : (r.rules ≤ 3) × (r.end ≤ end + 16)
    rows_fit = (
      omega (arith, p.is_rules, kind_few row.kind (first + i) row.left row.right),
      omega (arith, p.written.place, kind_short row.kind (first + i) row.left row.right),
    )

    pub put_again : Putting table first before at now' r.end (rules + r.rules) (i + 1)
    unfolding table_rules
    put_again =
        let after : first + i + 1 ≡ first + (i + 1) = omega arith in
        let here : drop i table ≡ row ∷ drop (i + 1) table = drop-cons table i d l ∙ ap (λ (k : ℕ). row ∷ drop k table) (sym (add-one i)) in
        record {
          done = h.done ++ row_rules_lem;
          all =
              append_assoc h.done row_rules_lem (table_rules (first + (i + 1)) (drop (i + 1) table))
              ∙ ap (λ (k : ℕ). h.done ++ (row_rules_lem ++ table_rules k (drop (i + 1) table))) (sym after)
              ∙ ap (λ rs. h.done ++ table_rules (first + i) rs) (sym here)
              ∙ h.all;
          written = renamed (then h.written p.written) (sym (flat_append rule_words h.done row_rules_lem));
          is_rules = omega (arith, h.is_rules, p.is_rules, length-append h.done row_rules_lem);
          short = omega (arith, h.short, rows_fit.1);
          few_rules = omega (arith, h.few_rules, rows_fit.0);
        }

-- the rows' rules are short

rules_short : (first : ℕ) (table : List TableRow) → length (flat rule_words (table_rules first table)) ≤ 16 * length table
unfolding table_rules
rules_short first [] = omega arith
rules_short first (r ∷ rs) =
    omega (
      arith,
      ap length (flat_append rule_words (kind_rules r.kind first r.left r.right) (table_rules (first + 1) rs)),
      length-append (flat rule_words (kind_rules r.kind first r.left r.right)) (flat rule_words (table_rules (first + 1) rs)),
      kind_short r.kind first r.left r.right,
      rules_short (first + 1) rs,
    )

-- and last the condition's own rule
module _ (first : ℕ) (table : List TableRow) {before now : List ℕ} {at : ℕ} {r : RowsPut} (h : RowsPutIs (table_rules first table) before at now r) where
  pub rows_end : r.end ≤ at + 16 * length table
  rows_end = omega (arith, h.written.place, rules_short first table)

  pub rows_count : r.rules ≤ 16 * length table
  rows_count = omega (arith, h.is_rules, rules_length (table_rules first table), rules_short first table)

  module _ {head body end : ℕ} {after : List ℕ} (w : Emitted now r.end (rule_words (rule (head ∷ []) (body ∷ []) [])) after end) where
    abbrev last : Rule ℕ
    last = rule (head ∷ []) (body ∷ []) []

    rules_are : r.rules + 1 ≡ length (table_rules first table ++ (last ∷ []))
    rules_are = omega (arith, h.is_rules, length-append (table_rules first table) (last ∷ []))

    words_are : Emitted before at (flat rule_words (table_rules first table ++ (last ∷ []))) after end
    words_are = then_rule_lem (table_rules first table) last h.written w

    pub words_count : end ≡ at + (3 * (r.rules + 1) + sum occurrences (table_rules first table ++ (last ∷ [])))
    words_count = omega (arith, words_are.place, rules_length (table_rules first table ++ (last ∷ [])), rules_are)

    pub condition_put : RulesPutIs (table_rules first table ++ (last ∷ [])) before at after (record { end = end; rules = r.rules + 1; occurrences = end - at - 3 * (r.rules + 1) })
    condition_put = record { written = words_are; is_rules = rules_are; is_occurrences = omega (arith, words_count) }
