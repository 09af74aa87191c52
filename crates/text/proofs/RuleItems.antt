-- The line of a rule, part by part.
use Prim.Native.Nat.{ℕ}
use mathlib.Core.Path.{◌≡◌, refl, sym, ap}
use mathlib.Core.List.{List, [], ◌∷◌, ◌++◌}
use Rattle.rules.specs.Rules.{Rule}
use Rattle.stores.specs.RuleStore.{rule_at}
use Rattle.kinds.specs.Words.{space, open_bracket, close_bracket, line_end_lem, rule_word, head_word, body_word, not_word}
use Rattle.text.specs.Text.{open_text, rule_line}
use Rattle.text.specs.Items.{atom_items, atom_part, rule_item}
use Rattle.output.proofs.Emitting.{Ahead}

pub part_opens : (names : List (List ℕ)) (opening xs : List ℕ) → Ahead (atom_part names opening xs) opening (atom_items names xs)
unfolding atom_part
part_opens names opening xs = record { is = refl }

-- what stands before the atoms of each list, and after the last one
abbrev pub before_head : List ℕ
before_head = (open_bracket ∷ rule_word) ++ (space ∷ open_bracket ∷ head_word)

abbrev pub before_body : List ℕ
before_body = close_bracket ∷ space ∷ open_bracket ∷ body_word

abbrev pub before_not : List ℕ
before_not = close_bracket ∷ space ∷ open_bracket ∷ not_word

abbrev pub after_not : List ℕ
after_not = close_bracket ∷ close_bracket ∷ line_end_lem ∷ []

module _ (names : List (List ℕ)) where
  pub not_rest : Rule ℕ → List ℕ
  not_rest r = atom_part names before_not r.nots ++ after_not

  pub body_rest : Rule ℕ → List ℕ
  body_rest r = atom_part names before_body r.body ++ not_rest r

  module _ (ws : List ℕ) {xs : List ℕ} where
    pub head_ahead : xs ≡ (rule_at ws).head → Ahead (rule_item names (rule_at ws)) (atom_part names before_head xs) (body_rest (rule_at ws))
    unfolding rule_item rule_line open_text atom_part atom_items body_rest not_rest
    head_ahead e = record { is = ap (λ (l : List ℕ). atom_part names before_head l ++ body_rest (rule_at ws)) (sym e) }

    pub body_ahead : xs ≡ (rule_at ws).body → Ahead (body_rest (rule_at ws)) (atom_part names before_body xs) (not_rest (rule_at ws))
    unfolding body_rest
    body_ahead e = record { is = ap (λ (l : List ℕ). atom_part names before_body l ++ not_rest (rule_at ws)) (sym e) }

    pub not_ahead : xs ≡ (rule_at ws).nots → Ahead (not_rest (rule_at ws)) (atom_part names before_not xs) after_not
    unfolding not_rest
    not_ahead e = record { is = ap (λ (l : List ℕ). atom_part names before_not l ++ after_not) (sym e) }
