-- No text of a program of the form is longer than a text may be.
use Prim.Native.Nat.{ℕ, zero, suc, ◌+◌, ◌*◌, ◌≤◌}
use native.Mathlib.Omega.{arith}
use native.Mathlib.Nat.{mul-le-mul}
use mathlib.Core.Path.{◌≡◌}
use mathlib.Core.List.{List, [], ◌∷◌, ◌++◌}
use lib.Dec.{T, eqb}
use lib.ListN.{length, get_or, length-append, length-map}
use Rattle.kinds.specs.Sizes.{longest_name, longest_entry}
use Rattle.kinds.specs.Limits.{atom_limit, rule_limit, occurrence_limit, class_limit, text_limit, varying, fixed}
use Rattle.kinds.specs.declared.limits.Kind.{Kind}
use Rattle.kinds.specs.declared.limits.Kind.TheVariants.{Plain, Preference}
use Rattle.rules.specs.Lists.{All, sum, flat, from}
use Rattle.rules.specs.Rules.{Rule, occurrences}
use Rattle.rules.specs.Preferred.{of_class}
use Rattle.rules.proofs.Lists.{all_imp, length_from}
use Rattle.rules.proofs.Filtered.{filter_length}
use Rattle.stores.specs.Program.{Program, ClassesForm, ProgramForm}
use Rattle.names.specs.Names.{allowed}
use Rattle.name_store.specs.NameStore.{NamesForm}
use Rattle.name_store.proofs.NameStores.{allowed_short}
use Rattle.kinds.specs.Words.{min_word, vary_word, fix_word}
use Rattle.text.specs.Text.{item, open_text, list_line, rule_line, named, class_line, declarations, rule_text, text_of}

-- no name is longer
abbrev Short : List (List ℕ) → Type 0
Short names = All (λ x. length x ≤ longest_name) names

name_short : (names : List (List ℕ)) → Short names → (a : ℕ) → length (get_or names a []) ≤ longest_name
name_short [] h a = omega arith
name_short (x ∷ names) h zero = h.0
name_short (x ∷ names) h (suc a) = name_short names h.1 a

items_short : (names : List (List ℕ)) → Short names → length (flat item names) ≤ longest_entry * length names
items_short [] h = omega arith
items_short (x ∷ names) h = omega (arith, length-append x (flat item names), items_short names h.1, h.0)

module _ (names : List (List ℕ)) (short : Short names) where
  named_short : (xs : List ℕ) → Short (named names xs)
  named_short [] = tt
  named_short (a ∷ xs) = (name_short names short a, named_short xs)

  named_length : (xs : List ℕ) → length (flat item (named names xs)) ≤ longest_entry * length xs
  named_length xs = omega (arith, items_short (named names xs) (named_short xs), length-map xs (λ a. get_or names a []))

  rule_length : (r : Rule ℕ) → length (rule_text names r) ≤ 27 + longest_entry * occurrences r
  unfolding rule_line open_text
  rule_length r = simp length-append (omega (arith, named_length r.head, named_length r.body, named_length r.nots))

  rules_length : (rs : List (Rule ℕ)) → length (flat (rule_text names) rs) ≤ 27 * length rs + longest_entry * sum occurrences rs
  rules_length [] = omega arith
  rules_length (r ∷ rs) = omega (arith, length-append (rule_text names r) (flat (rule_text names) rs), rule_length r, rules_length rs)

class_length : (ws : List ℕ) (w : ℕ) → length (of_class ws w) ≤ length ws
class_length ws w = omega (arith, filter_length (λ a. eqb (get_or ws a 0) w) (from 0 (length ws)), length_from 0 (length ws))

module _ (p : Program) (names : List (List ℕ)) (short : Short names) where
  -- a class line, its word being of at most four bytes
  class_line_length : (word : List ℕ) → length word ≤ 4 → (w : ℕ) → length (class_line p names word w) ≤ 7 + longest_entry * length p.words
  unfolding list_line open_text
  class_line_length word h w =
      simp length-append (omega (arith, h, named_length names short (of_class p.words w), class_length p.words w))

  min_lines_length : (s c : ℕ) → length (flat (class_line p names min_word) (from s c)) ≤ c * (7 + longest_entry * length p.words)
  min_lines_length s zero = omega arith
  min_lines_length s (suc c) =
      omega (arith, length-append (class_line p names min_word s) (flat (class_line p names min_word) (from (suc s) c)), class_line_length min_word (omega arith) s, min_lines_length (suc s) c)

  declared_bytes : Kind → ℕ
  declared_bytes Plain = 8 + longest_entry * atom_limit Plain
  declared_bytes Preference = (class_limit + 2) * (7 + longest_entry * atom_limit Preference)

  declarations_length : (kind : Kind) → length names ≡ p.atoms → p.atoms ≤ atom_limit kind → ClassesForm kind p.atoms p.classes p.words → length (declarations kind p names) ≤ declared_bytes kind
  unfolding list_line open_text declared_bytes
  declarations_length Plain e l c = simp length-append (omega (arith, items_short names short))
  declarations_length Preference e l c =
      let line : 7 + longest_entry * length p.words ≤ 7 + longest_entry * atom_limit Preference = omega (arith, c.1) in
      let all : p.classes * (7 + longest_entry * length p.words) ≤ class_limit * (7 + longest_entry * atom_limit Preference) = mul-le-mul c.0 line in
      omega (
        arith,
        length-append (flat (class_line p names min_word) (from 1 p.classes)) (class_line p names vary_word varying ++ class_line p names fix_word fixed),
        length-append (class_line p names vary_word varying) (class_line p names fix_word fixed),
        min_lines_length 1 p.classes,
        class_line_length vary_word (omega arith) varying,
        class_line_length fix_word (omega arith) fixed,
      )

  rules_fit_in : (kind : Kind) → length p.rules ≤ rule_limit kind → sum occurrences p.rules ≤ occurrence_limit kind → declared_bytes kind + length (flat (rule_text names) p.rules) ≤ text_limit
  unfolding declared_bytes
  rules_fit_in Plain r o = omega (arith, rules_length names short p.rules, r, o)
  rules_fit_in Preference r o = omega (arith, rules_length names short p.rules, r, o)

pub text_fits : {p : Program} {names : List (List ℕ)} → ProgramForm p → NamesForm p.kind p.atoms names → length (text_of p names) ≤ text_limit
unfolding text_of
text_fits {p} {names} f g =
    let short = all_imp (λ x. T (allowed p.kind x)) (λ x. length x ≤ longest_name) (allowed_short p.kind) names g.all_allowed in
    omega (
      arith,
      length-append (declarations p.kind p names) (flat (rule_text names) p.rules),
      declarations_length p names short p.kind g.count f.atoms_fit f.classes_form,
      rules_fit_in p names short p.kind f.rules_fit_lem f.occurrences_fit,
    )
