-- The store and the index with a rule added are those of the program with the rule at its end.
use Prim.Native.Nat.{ℕ, zero, suc, ◌+◌, ◌≤◌}
use mathlib.Core.Path.{◌≡◌, refl, sym, ap, ap₂, subst, ◌∙◌}
use mathlib.Core.Bool.{Bool, true, false, ◌&&◌}
use mathlib.Core.List.{List, [], ◌∷◌, ◌++◌, append_assoc, append-nil}
use native.Mathlib.Omega.{arith}
use native.Mathlib.Nat.{zero-add, add-zero}
use lib.Dec.{T, leb, leb→le, le→leb, eqb, eqb→eq}
use lib.ListN.{length, drop, length-append, drop_of_length-le}
use lib.Seq.{take_at, drop_at, take-append_seam, drop-append_seam}
use Rattle.kinds.specs.Limits.{atom_limit, rule_limit, occurrence_limit}
use Rattle.kinds.specs.declared.limits.Kind.{Kind}
use Rattle.kinds.specs.declared.limits.Kind.TheVariants.{Plain, Preference}
use Rattle.rules.specs.Lists.{All, keep, sum, flat, from, is_empty}
use Rattle.rules.specs.Rules.{Rule, occurrences}
use Rattle.rules.proofs.Booleans.{T_of, is_true_lem, T-and-l, T-and-r}
use Rattle.rules.proofs.Lists.{all_app, sum_app, none_left}
use Rattle.rules.proofs.ListLaws.{flat_append}
use Rattle.stores.specs.Program.{Program, ProgramForm, RuleForm, ClassesForm}
use Rattle.stores.specs.RuleStore.{kind_word, kind_of, word_count, rule_words, rule_at, places, encode, decode, StoreOf, is_rule, are_rules, are_classes, is_program, is_store}
use Rattle.stores.proofs.RuleTests.{rule_law, rule_words_lem, past_front, occurrences_places, rule_encoded}
use Rattle.stores.proofs.RuleStores.{decoded, only_decoded, classes_law, words_count}
use Rattle.rule_index.specs.Index.{rules_with, is_standing, counted, index}
use Rattle.rule_index.specs.Growth.{with_rule, grown_store, grown_index}
use Rattle.rule_index.specs.Meanings.{Grows}
use Rattle.rule_index.proofs.RuleNumbers.{with_snoc}

-- the index

abbrev lists : List (Rule ℕ) → ℕ → List ℕ
lists rs a = counted (rules_with a rs)

grown_from : (r : Rule ℕ) (rs : List (Rule ℕ)) (a n : ℕ) → grown_index r (length rs) a n (flat (lists rs) (from a n)) ≡ flat (lists (rs ++ (r ∷ []))) (from a n)
unfolding grown_index
grown_from r rs a zero = refl
grown_from r rs a (suc n) =
    let own = rules_with a rs in
    let rest = flat (lists rs) (from (suc a) n) in
    let e : 1 + length own ≡ suc (length own) = omega arith in
    ap₂ (λ (xs ys : List ℕ). counted (xs ++ keep (is_standing a r) (length rs) []) ++ grown_index r (length rs) (suc a) n ys) (take-append_seam own rest) (ap (λ (m : ℕ). drop m (lists rs a ++ rest)) e ∙ drop-append_seam own rest)
    ∙ ap₂ (λ (xs ys : List ℕ). counted xs ++ ys) (sym (with_snoc a rs r)) (grown_from r rs (suc a) n)

pub grown_index_lem : (r : Rule ℕ) (n : ℕ) (rs : List (Rule ℕ)) → grown_index r (length rs) 0 n (index n rs) ≡ index n (rs ++ (r ∷ []))
unfolding index
grown_index_lem r n rs = grown_from r rs 0 n

-- the store

added_words : (p : Program) (r : Rule ℕ) → encode (with_rule p r) ≡ grown_store (encode p) (rule_words r)
unfolding encode grown_store
added_words p r =
    let count : length (p.rules ++ (r ∷ [])) ≡ suc (length p.rules) = omega (arith, length-append p.rules (r ∷ [])) in
    let rules : flat rule_words (p.rules ++ (r ∷ [])) ≡ flat rule_words p.rules ++ rule_words r =
    flat_append rule_words p.rules (r ∷ []) ∙ ap (λ (l : List ℕ). flat rule_words p.rules ++ l) (append-nil (rule_words r)) in
    λ i. kind_word p.kind ∷ p.atoms ∷ p.classes ∷ count i ∷ (ap (λ (l : List ℕ). p.words ++ l) rules ∙ sym (append_assoc p.words (flat rule_words p.rules) (rule_words r))) i

pub grows : (ws : List ℕ) (p : Program) (r : Rule ℕ) → StoreOf ws p → ProgramForm (with_rule p r) → Grows ws p r
grows ws p r s f = record {
  store = record { form = f; words = added_words p r ∙ ap (λ (l : List ℕ). grown_store l (rule_words r)) s.words };
  index = grown_index_lem r p.atoms p.rules;
}

-- the test of a store past rules that are of the form
rules_past : (kind : Kind) (n used : ℕ) (rs : List (Rule ℕ)) (rest : List ℕ) → All (RuleForm kind n) rs → used + sum occurrences rs ≤ occurrence_limit kind
    → are_rules kind n used (suc (length rs)) (flat rule_words rs ++ rest) ≡ are_rules kind n (used + sum occurrences rs) 1 rest
unfolding are_rules
rules_past kind n used [] rest h l = ap (λ (m : ℕ). are_rules kind n m 1 rest) (sym (add-zero used))
rules_past kind n used (r ∷ rs) rest h l =
    let t : List ℕ = flat rule_words rs ++ rest in
    let here = rule_encoded kind n used r t h.0 (omega arith) in
    let e : used + occurrences r + sum occurrences rs ≡ used + (occurrences r + sum occurrences rs) = omega arith in
    ap (are_rules kind n used (suc (suc (length rs)))) (append_assoc (rule_words r) (flat rule_words rs) rest)
    ∙ ap₂ (λ (b : Bool) (l : List ℕ). b && are_rules kind n (used + occurrences r) (suc (length rs)) l) (is_true_lem (is_rule kind n used (rule_words r ++ t)) here) (past_front r t)
    ∙ rules_past kind n (used + occurrences r) rs rest h.1 (omega arith)
    ∙ ap (λ (m : ℕ). are_rules kind n m 1 rest) e

-- tests of which some are known to hold

both_first : (b c d : Bool) → (T b → c ≡ d) → (b && c) ≡ (b && d)
both_first true c d h = h tt
both_first false c d h = refl

only_last : (a b c : Bool) → T a → T b → (a && (b && c)) ≡ c
only_last true true c h k = refl
only_last true false c h k = absurd k
only_last false b c h k = absurd h

counts_left : (a l z c x : Bool) → T a → T z → T c → ((a && (l && z)) && (c && x)) ≡ (l && x)
counts_left true true true true x h k m = refl
counts_left true true true false x h k m = absurd m
counts_left true true false c x h k m = absurd k
counts_left true false z c x h k m = refl
counts_left false l z c x h k m = absurd h

-- what the added rule is tested for
abbrev addable : Program → List ℕ → Bool
addable p rule = leb (suc (length p.rules)) (rule_limit p.kind) && (is_rule p.kind p.atoms (sum occurrences p.rules) rule && eqb (3 + places rule) (length rule))

last_rule : (kind : Kind) (n used : ℕ) (rule : List ℕ) → are_rules kind n used 1 rule ≡ (is_rule kind n used rule && eqb (3 + places rule) (length rule))
unfolding are_rules
last_rule kind n used rule = both_first (is_rule kind n used rule) (is_empty (drop (3 + places rule) rule)) (eqb (3 + places rule) (length rule)) (λ t. sym (none_left rule (3 + places rule) ((rule_law kind n used rule).0 t).inside))

program_tested : (p : Program) (rule : List ℕ) → ProgramForm p
    → is_program p.kind p.atoms p.classes (suc (length p.rules)) ((p.words ++ flat rule_words p.rules) ++ rule) ≡ addable p rule
program_tested p rule f =
    let kind = p.kind in
    let n = p.atoms in
    let k = p.classes in
    let r = suc (length p.rules) in
    let c = word_count kind n in
    let t : List ℕ = flat rule_words p.rules ++ rule in
    let e : length p.words ≡ c = words_count kind n k p.words f.classes_form in
    ap (is_program kind n k r) (append_assoc p.words (flat rule_words p.rules) rule)
    ∙ counts_left (leb n (atom_limit kind)) (leb r (rule_limit kind)) (leb 0 (occurrence_limit kind)) (are_classes kind n k (p.words ++ t)) (are_rules kind n 0 r (drop c (p.words ++ t)))
    (le→leb n (atom_limit kind) f.atoms_fit) (le→leb 0 (occurrence_limit kind) (omega arith)) ((classes_law kind n k (p.words ++ t)).1 (subst (ClassesForm kind n k) (sym (take_at p.words t c e)) f.classes_form))
    ∙ ap (λ (b : Bool). leb r (rule_limit kind) && b) (
    ap (are_rules kind n 0 r) (drop_at p.words t c e) ∙ rules_past kind n 0 p.rules rule f.rule_forms (omega (arith, f.occurrences_fit))
    ∙ ap (λ (m : ℕ). are_rules kind n m 1 rule) (zero-add (sum occurrences p.rules)) ∙ last_rule kind n (sum occurrences p.rules) rule)

kind_read : (kind : Kind) → T (leb (kind_word kind) 1) × (kind_of (kind_word kind) ≡ kind)
kind_read Plain = (tt, refl)
kind_read Preference = (tt, refl)

store_tested : (p : Program) (rule : List ℕ) → ProgramForm p → is_store (grown_store (encode p) rule) ≡ addable p rule
unfolding is_store encode grown_store
store_tested p rule f =
    let w = kind_word p.kind in
    let ws = grown_store (encode p) rule in
    let program : Kind → Bool = λ kind. is_program kind p.atoms p.classes (suc (length p.rules)) ((p.words ++ flat rule_words p.rules) ++ rule) in
    only_last (leb 4 (length ws)) (leb w 1) (program (kind_of w)) (le→leb 4 (length ws) (omega arith)) (kind_read p.kind).0
    ∙ ap program (kind_read p.kind).1 ∙ program_tested p rule f

pub grown_tested : (ws rule : List ℕ) → T (is_store ws) → is_store (grown_store ws rule)
    ≡ (leb (suc (length (decode ws).rules)) (rule_limit (decode ws).kind) && (is_rule (decode ws).kind (decode ws).atoms (sum occurrences (decode ws).rules) rule && eqb (3 + places rule) (length rule)))
grown_tested ws rule h = let s = decoded ws h in ap (λ (l : List ℕ). is_store (grown_store l rule)) (sym s.words) ∙ store_tested (decode ws) rule s.form

-- a program with a rule of its form behind the others
added_form : (p : Program) (r : Rule ℕ) → ProgramForm p → suc (length p.rules) ≤ rule_limit p.kind → sum occurrences p.rules + occurrences r ≤ occurrence_limit p.kind
    → RuleForm p.kind p.atoms r → ProgramForm (with_rule p r)
added_form p r f few fits form = record {
  atoms_fit = f.atoms_fit;
  rules_fit_lem = omega (arith, few, length-append p.rules (r ∷ []));
  occurrences_fit = omega (arith, fits, sum_app occurrences p.rules (r ∷ []));
  classes_form = f.classes_form;
  rule_forms = all_app (RuleForm p.kind p.atoms) p.rules (r ∷ []) f.rule_forms (form, tt);
}

pub grown_decoded : (ws rule : List ℕ) → T (is_store ws) → T (is_store (grown_store ws rule)) → (rule_words (rule_at rule) ≡ rule) × (decode (grown_store ws rule) ≡ with_rule (decode ws) (rule_at rule))
grown_decoded ws rule h k =
    let p = decode ws in
    let r = rule_at rule in
    let s = decoded ws h in
    let count = leb (suc (length p.rules)) (rule_limit p.kind) in
    let test = is_rule p.kind p.atoms (sum occurrences p.rules) rule in
    let end = eqb (3 + places rule) (length rule) in
    let t : T (count && (test && end)) = T_of (grown_tested ws rule h) k in
    let u : T (test && end) = T-and-r count (test && end) t in
    let here = (rule_law p.kind p.atoms (sum occurrences p.rules) rule).0 (T-and-l test end u) in
    let size : 3 + places rule ≡ length rule = eqb→eq (3 + places rule) (length rule) (T-and-r test end u) in
    let words : rule_words r ≡ rule =
    sym (append-nil (rule_words r)) ∙ ap (λ (l : List ℕ). rule_words r ++ l) (sym (drop_of_length-le rule {i = 3 + places rule} (omega arith))) ∙ rule_words_lem rule here.inside in
    let form = added_form p r s.form (leb→le (suc (length p.rules)) (rule_limit p.kind) (T-and-l count (test && end) t)) (omega (arith, here.fits, occurrences_places rule here.inside)) here.form in
    (words, ap (λ (l : List ℕ). decode (grown_store ws l)) (sym words) ∙ sym (only_decoded (grown_store ws (rule_words r)) (with_rule p r) (grows ws p r s form).store))
