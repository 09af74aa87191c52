-- The text of what is left of a preference program is its text without the names of atoms that stand in no rule.
use Prim.Native.Nat.{ℕ}
use mathlib.Core.Path.{◌≡◌, refl, sym, ap, ap₂, subst, ◌∙◌}
use mathlib.Core.Bool.{Bool}
use mathlib.Core.List.{List, [], ◌∷◌, ◌++◌, map, map-map}
use lib.Dec.{T, eqb}
use lib.ListN.{length, get_or, length-map}
use Rattle.kinds.specs.Limits.{varying, fixed}
use Rattle.kinds.specs.Words.{min_word, vary_word, fix_word}
use Rattle.kinds.specs.declared.limits.Kind.{Kind}
use Rattle.kinds.specs.declared.limits.Kind.TheVariants.{Preference}
use Rattle.rules.specs.Lists.{All, keep, filter, flat, from}
use Rattle.rules.specs.Rules.{Rule, rename}
use Rattle.rules.specs.Renumbering.{Within}
use Rattle.rules.specs.Preferred.{of_class}
use Rattle.rules.proofs.Lists.{all_imp, map_at}
use Rattle.rules.proofs.Filtered.{filter_swap}
use Rattle.rules.proofs.ListLaws.{all_each, map_same, flat_map, flat_same}
use Rattle.rules.proofs.MappedLists.{map_keep}
use Rattle.stores.specs.Program.{Program, ProgramForm, ClassesForm}
use Rattle.restriction.specs.Atoms.{is_member, is_used, used, place_in, entries}
use Rattle.restriction.specs.Remaining.{restrict, left}
use Rattle.restriction.proofs.Places.{at_place}
use Rattle.restriction.proofs.Forms.{covers_left}
use Rattle.text.specs.Text.{list_line, named, declarations, rule_text, text_of}
use Rattle.reader.specs.RoundTrips.{used_line, used_text}
use Rattle.reader.proofs.ClassParts.{chosen, is, class_chosen}

chosen_mapped : {A : Type 0} (p : ℕ → Bool) (g : ℕ → ℕ) (f : ℕ → A) (xs : List ℕ) → chosen p (map g xs) (map f xs) ≡ map f (filter (λ a. p (g a)) xs)
chosen_mapped p g f [] = refl
chosen_mapped p g f (x ∷ xs) = ap (keep (p (g x)) (f x)) (chosen_mapped p g f xs) ∙ sym (map_keep f (p (g x)) x (filter (λ a. p (g a)) xs))

module _ (names : List (List ℕ)) (xs : List ℕ) where
  name_left : (a : ℕ) → T (is_member xs a) → get_or (entries [] names xs) (place_in xs a) [] ≡ get_or names a []
  name_left a h = let p = at_place xs a h in map_at (λ b. get_or names b []) xs (place_in xs a) 0 [] p.0 ∙ ap (λ (b : ℕ). get_or names b []) p.1

  named_left : (l : List ℕ) → All (λ a. T (is_member xs a)) l → named (entries [] names xs) (map (place_in xs) l) ≡ named names l
  named_left l h = map-map (λ a. get_or (entries [] names xs) a []) (place_in xs) l ∙ map_same _ (λ a. get_or names a []) l (all_imp (λ a. T (is_member xs a)) _ name_left l h)

  rule_text_lem : (r : Rule ℕ) → Within (λ a. T (is_member xs a)) r → rule_text (entries [] names xs) (rename (place_in xs) r) ≡ rule_text names r
  rule_text_lem r h = rw (named_left r.head h.head, named_left r.body h.body, named_left r.nots h.nots)

  rules_text : (rs : List (Rule ℕ)) → All (Within (λ a. T (is_member xs a))) rs → flat (rule_text (entries [] names xs)) (map (rename (place_in xs)) rs) ≡ flat (rule_text names) rs
  rules_text rs h = flat_map (rule_text (entries [] names xs)) (rename (place_in xs)) rs ∙ flat_same _ (rule_text names) rs (all_imp (Within (λ a. T (is_member xs a))) _ rule_text_lem rs h)

module _ (p : Program) (names : List (List ℕ)) (size : length p.words ≡ p.atoms) where
  class_left : (w : ℕ) → named (entries [] names (left p)) (of_class (entries 0 p.words (left p)) w) ≡ named names (filter (is_used p.rules) (of_class p.words w))
  unfolding used
  class_left w =
      class_chosen (entries 0 p.words (left p)) (entries [] names (left p)) w (length-map (left p) (λ a. get_or p.words a 0) ∙ sym (length-map (left p) (λ a. get_or names a [])))
      ∙ chosen_mapped (is w) (λ a. get_or p.words a 0) (λ a. get_or names a []) (left p)
      ∙ ap (named names) (filter_swap (λ a. eqb (get_or p.words a 0) w) (is_used p.rules) (from 0 p.atoms) ∙ ap (λ (n : ℕ). filter (is_used p.rules) (filter (λ a. eqb (get_or p.words a 0) w) (from 0 n))) (sym size))

  line_left : (word : List ℕ) (w : ℕ) → list_line word (named (entries [] names (left p)) (of_class (entries 0 p.words (left p)) w)) ≡ used_line p names word w
  line_left word w = ap (list_line word) (class_left w)

pub used_text_lem : (p : Program) (names : List (List ℕ)) → ProgramForm p → p.kind ≡ Preference → text_of (restrict (left p) p) (entries [] names (left p)) ≡ used_text p names
unfolding text_of used_text restrict
used_text_lem p names f e =
    let size = (subst (λ (k : Kind). ClassesForm k p.atoms p.classes p.words) e f.classes_form).1 in
    ap (λ (k : Kind). declarations k (restrict (left p) p) (entries [] names (left p)) ++ flat (rule_text (entries [] names (left p))) (restrict (left p) p).rules) e
    ∙ ap₂ (λ (a b : List ℕ). a ++ b)
    (ap₂ (λ (a b : List ℕ). a ++ b) (flat_same _ (used_line p names min_word) (from 1 p.classes) (all_each _ (line_left p names size min_word) (from 1 p.classes))) (ap₂ (λ (a b : List ℕ). a ++ b) (line_left p names size vary_word varying) (line_left p names size fix_word fixed)))
    (rules_text names (left p) p.rules (covers_left p f).atoms)
