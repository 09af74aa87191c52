-- The test of a rule store says that the words are the store of a program, and that program is the decoded one.
use Prim.Native.Nat.{ℕ, zero, suc, ◌+◌, ◌*◌, ◌≤◌}
use mathlib.Core.Path.{◌≡◌, refl, sym, ap, ap₂, ◌∙◌, subst}
use mathlib.Core.Bool.{Bool, true, false, ◌&&◌, cond}
use mathlib.Core.Logic.{◌↔◌}
use mathlib.Core.List.{List, [], ◌∷◌, ◌++◌, append_assoc, append-nil}
use native.Mathlib.Omega.{arith}
use lib.Dec.{T, leb, leb→le, le→leb, eqb→eq}
use lib.ListN.{length, take, drop, get_or, length-append, length-take, take-append-drop}
use lib.Seq.{length-take-le, take_at, drop_at, drop-drop}
use Rattle.std.specs.Prelude.{Some, None}
use Rattle.kinds.specs.Sizes.{store_words}
use Rattle.kinds.specs.Limits.{atom_limit, rule_limit, occurrence_limit, class_limit}
use Rattle.kinds.specs.declared.limits.Kind.{Kind}
use Rattle.kinds.specs.declared.limits.Kind.TheVariants.{Plain, Preference}
use Rattle.rules.specs.Lists.{All, sum, flat}
use Rattle.rules.specs.Rules.{Rule, occurrences}
use Rattle.rules.proofs.Booleans.{eq_to_eqb}
use Rattle.stores.specs.Program.{Program, ProgramForm, ClassesForm, RuleForm}
use Rattle.stores.specs.RuleStore.{kind_word, rule_words, encode, StoreOf, kind_of, word_count, places, rule_at, rules_from, decode, are_classes, are_rules, is_program, is_store, rule_store}
use Rattle.stores.proofs.RuleTests.{and_iff, words_law, rule_law, rule_words_lem, occurrences_places, rule_front, past_front, rule_encoded}

-- the rules

pub record RulesHere (kind : Kind) (n used r : ℕ) (ws : List ℕ) : Type 0 where
  pub forms : All (RuleForm kind n) (rules_from r ws)
  pub fits : used + sum occurrences (rules_from r ws) ≤ occurrence_limit kind
  pub words : flat rule_words (rules_from r ws) ≡ ws

rules_decoded : (kind : Kind) (n used r : ℕ) (ws : List ℕ) → used ≤ occurrence_limit kind → T (are_rules kind n used r ws) → RulesHere kind n used r ws
unfolding are_rules rules_from
rules_decoded kind n used zero [] l h = record { forms = tt; fits = omega arith; words = refl }
rules_decoded kind n used zero (w ∷ ws) l h = absurd h
rules_decoded kind n used (suc r) ws l h =
    let t = simp and_iff at h in
    let here = (rule_law kind n used ws).0 t.0 in
    let rest = rules_decoded kind n (used + places ws) r (drop (3 + places ws) ws) here.fits t.1 in
    record {
      forms = (here.form, rest.forms);
      fits = omega (arith, rest.fits, occurrences_places ws here.inside);
      words = ap (λ (l : List ℕ). rule_words (rule_at ws) ++ l) rest.words ∙ rule_words_lem ws here.inside;
    }

rules_encoded : (kind : Kind) (n used : ℕ) (rs : List (Rule ℕ)) → All (RuleForm kind n) rs → used + sum occurrences rs ≤ occurrence_limit kind → T (are_rules kind n used (length rs) (flat rule_words rs))
unfolding are_rules
rules_encoded kind n used [] h f = tt
rules_encoded kind n used (r ∷ rs) h f =
    let t : List ℕ = flat rule_words rs in
    let here = rule_encoded kind n used r t h.0 (omega arith) in
    let rest = rules_encoded kind n (used + occurrences r) rs h.1 (omega arith) in
    simp and_iff (here, subst (λ (l : List ℕ). T (are_rules kind n (used + occurrences r) (length rs) l)) (sym (past_front r t)) rest)

pub rules_front : (rs : List (Rule ℕ)) (rest : List ℕ) → rules_from (length rs) (flat rule_words rs ++ rest) ≡ rs
unfolding rules_from
rules_front [] rest = refl
rules_front (r ∷ rs) rest =
    let t = flat rule_words rs ++ rest in
    ap (rules_from (suc (length rs))) (append_assoc (rule_words r) (flat rule_words rs) rest)
    ∙ ap₂ ◌∷◌ (rule_front r t) (ap (rules_from (length rs)) (past_front r t) ∙ rules_front rs rest)

rules_whole : (rs : List (Rule ℕ)) → rules_from (length rs) (flat rule_words rs) ≡ rs
rules_whole rs = ap (rules_from (length rs)) (sym (append-nil (flat rule_words rs))) ∙ rules_front rs []

pub rules_count : (r : ℕ) (ws : List ℕ) → length (rules_from r ws) ≡ r
unfolding rules_from
rules_count zero ws = refl
rules_count (suc r) ws = ap suc (rules_count r (drop (3 + places ws) ws))

pub rules_length : (rs : List (Rule ℕ)) → length (flat rule_words rs) ≡ 3 * length rs + sum occurrences rs
rules_length [] = refl
rules_length (r ∷ rs) =
    omega (
      arith,
      length-append (rule_words r) (flat rule_words rs),
      length-append r.head (r.body ++ r.nots),
      length-append r.body r.nots,
      rules_length rs,
    )

-- the class words

pub classes_law : (kind : Kind) (n k : ℕ) (ws : List ℕ) → T (are_classes kind n k ws) ↔ ClassesForm kind n k (take (word_count kind n) ws)
classes_law Plain n k ws = (λ h. (eqb→eq k 0 h, refl), λ h. eq_to_eqb k 0 h.0)
classes_law Preference n k ws =
    let r = words_law k 0 (take n ws) in (
      λ h.
          let t = simp and_iff at h in
          let s = r.0 t.1.1 in
          (leb→le k class_limit t.0, length-take-le n ws (leb→le n (length ws) t.1.0), s.0, s.1),
      λ h. simp and_iff (le→leb k class_limit h.0, (le→leb n (length ws) (omega (arith, h.1, length-take n ws)), r.1 (h.2, h.3))),
    )

pub words_count : (kind : Kind) (n k : ℕ) (ws : List ℕ) → ClassesForm kind n k ws → length ws ≡ word_count kind n
words_count Plain n k ws h = ap length h.1
words_count Preference n k ws h = h.1

-- the program after the header

abbrev program_from : Kind → ℕ → ℕ → ℕ → List ℕ → Program
program_from kind n k r ws = record { kind = kind; atoms = n; classes = k; words = take (word_count kind n) ws; rules = rules_from r (drop (word_count kind n) ws) }

decode_header : (w n k r : ℕ) (ws : List ℕ) → decode (w ∷ n ∷ k ∷ r ∷ ws) ≡ program_from (kind_of w) n k r ws
unfolding decode
decode_header w n k r ws =
    let c = word_count (kind_of w) n in
    λ i. record { kind = kind_of w; atoms = n; classes = k; words = take c ws; rules = rules_from r (sym (drop-drop c 4 (w ∷ n ∷ k ∷ r ∷ ws)) i) }

program_decoded : (kind : Kind) (n k r : ℕ) (ws : List ℕ) → T (is_program kind n k r ws) → StoreOf (kind_word kind ∷ n ∷ k ∷ r ∷ ws) (program_from kind n k r ws)
unfolding encode
program_decoded kind n k r ws h =
    let t = simp and_iff at h in
    let c = word_count kind n in
    let here = rules_decoded kind n 0 r (drop c ws) (omega arith) t.1.1 in
    record {
      form =
          record {
            atoms_fit = leb→le n (atom_limit kind) t.0.0;
            rules_fit_lem = omega (arith, leb→le r (rule_limit kind) t.0.1.0, rules_count r (drop c ws));
            occurrences_fit = omega (arith, here.fits);
            classes_form = (classes_law kind n k ws).0 t.1.0;
            rule_forms = here.forms;
          };
      words = λ i. kind_word kind ∷ n ∷ k ∷ rules_count r (drop c ws) i ∷ (ap (λ (l : List ℕ). take c ws ++ l) here.words ∙ take-append-drop c ws) i;
    }

program_encoded : (p : Program) → ProgramForm p → T (is_program p.kind p.atoms p.classes (length p.rules) (p.words ++ flat rule_words p.rules))
program_encoded p f =
    let t : List ℕ = flat rule_words p.rules in
    let c = word_count p.kind p.atoms in
    let e : length p.words ≡ c = words_count p.kind p.atoms p.classes p.words f.classes_form in
    simp and_iff (
      (le→leb p.atoms (atom_limit p.kind) f.atoms_fit, (le→leb (length p.rules) (rule_limit p.kind) f.rules_fit_lem, le→leb 0 (occurrence_limit p.kind) (omega arith))),
      (
        (classes_law p.kind p.atoms p.classes (p.words ++ t)).1 (subst (ClassesForm p.kind p.atoms p.classes) (sym (take_at p.words t c e)) f.classes_form),
        subst (λ (l : List ℕ). T (are_rules p.kind p.atoms 0 (length p.rules) l)) (sym (drop_at p.words t c e)) (rules_encoded p.kind p.atoms 0 p.rules f.rule_forms (omega (arith, f.occurrences_fit))),
      ),
    )

-- the whole store

word_kind_lem : (kind : Kind) → kind_of (kind_word kind) ≡ kind
word_kind_lem Plain = refl
word_kind_lem Preference = refl

kind_word_lem : (w : ℕ) → w ≤ 1 → kind_word (kind_of w) ≡ w
kind_word_lem zero h = refl
kind_word_lem (suc zero) h = refl
kind_word_lem (suc (suc w)) h = absurd (omega arith)

word_small : (kind : Kind) → kind_word kind ≤ 1
word_small Plain = omega arith
word_small Preference = omega arith

three_iff : (a b c : Bool) → T (a && (b && c)) ↔ (T a × T b × T c)
three_iff a b c = (λ h. let t = (and_iff a (b && c)).0 h in let s = (and_iff b c).0 t.1 in (t.0, s.0, s.1), λ h. (and_iff a (b && c)).1 (h.0, (and_iff b c).1 (h.1, h.2)))

pub decode_encode : (p : Program) → ProgramForm p → decode (encode p) ≡ p
unfolding encode
decode_encode p f =
    let t : List ℕ = flat rule_words p.rules in
    let c = word_count p.kind p.atoms in
    let e : length p.words ≡ c = words_count p.kind p.atoms p.classes p.words f.classes_form in
    decode_header (kind_word p.kind) p.atoms p.classes (length p.rules) (p.words ++ t)
    ∙ ap (λ (k : Kind). program_from k p.atoms p.classes (length p.rules) (p.words ++ t)) (word_kind_lem p.kind)
    ∙ λ i. record { kind = p.kind; atoms = p.atoms; classes = p.classes; words = take_at p.words t c e i; rules = (ap (rules_from (length p.rules)) (drop_at p.words t c e) ∙ rules_whole p.rules) i }

pub decoded : (ws : List ℕ) → T (is_store ws) → StoreOf ws (decode ws)
unfolding is_store
decoded [] h = absurd h
decoded (w ∷ []) h = absurd h
decoded (w ∷ n ∷ []) h = absurd h
decoded (w ∷ n ∷ k ∷ []) h = absurd h
decoded (w ∷ n ∷ k ∷ r ∷ ws) h =
    let t = (three_iff (leb 4 (length (w ∷ n ∷ k ∷ r ∷ ws))) (leb w 1) (is_program (kind_of w) n k r ws)).0 h in
    let s = program_decoded (kind_of w) n k r ws t.2 in
    let e : kind_word (kind_of w) ≡ w = kind_word_lem w (leb→le w 1 t.1) in
    subst (StoreOf (w ∷ n ∷ k ∷ r ∷ ws)) (sym (decode_header w n k r ws)) (subst (λ (v : ℕ). StoreOf (v ∷ n ∷ k ∷ r ∷ ws) (program_from (kind_of w) n k r ws)) e s)

pub encoded : (p : Program) → ProgramForm p → T (is_store (encode p))
unfolding is_store encode
encoded p f =
    let w = kind_word p.kind in
    let program : Kind → Bool = λ kind. is_program kind p.atoms p.classes (length p.rules) (p.words ++ flat rule_words p.rules) in
    (three_iff (leb 4 (length (encode p))) (leb w 1) (program (kind_of w))).1
    (le→leb 4 (length (encode p)) (omega arith), le→leb w 1 (word_small p.kind), subst (λ (kind : Kind). T (program kind)) (sym (word_kind_lem p.kind)) (program_encoded p f))

pub store_law : (ws : List ℕ) → T (is_store ws) ↔ ((p : Program) × StoreOf ws p)
store_law ws = (λ h. (decode ws, decoded ws h), λ s. subst (λ (l : List ℕ). T (is_store l)) s.1.words (encoded s.0 s.1.form))

pub only_decoded : (ws : List ℕ) (p : Program) → StoreOf ws p → p ≡ decode ws
only_decoded ws p s = sym (decode_encode p s.form) ∙ ap decode s.words

-- the longest store
pub words_fit : (p : Program) → ProgramForm p → length (encode p) ≤ store_words
unfolding encode
words_fit p f =
    let a = length-append p.words (flat rule_words p.rules) in
    let b = rules_length p.rules in
    let c = words_count p.kind p.atoms p.classes p.words f.classes_form in
    omega (arith, by_kind p.kind c f.atoms_fit f.rules_fit_lem f.occurrences_fit a b)
  where
    by_kind : (k : Kind) → length p.words ≡ word_count k p.atoms → p.atoms ≤ atom_limit k → length p.rules ≤ rule_limit k → sum occurrences p.rules ≤ occurrence_limit k
        → length (p.words ++ flat rule_words p.rules) ≡ length p.words + length (flat rule_words p.rules)
        → length (flat rule_words p.rules) ≡ 3 * length p.rules + sum occurrences p.rules
        → 4 + length (p.words ++ flat rule_words p.rules) ≤ store_words
    by_kind Plain c n r o a b = omega arith
    by_kind Preference c n r o a b = omega arith

-- the answer of the check

picked : (b : Bool) (k j : Kind) → cond b (Some k) None ≡ Some j → T b × (k ≡ j)
picked true k j e = (tt, cc)
picked false k j e = absurd (let z : ◌≡◌ {A = ℕ} 0 1 = cc in omega arith)

turned_back : (b : Bool) (k : Kind) → cond b (Some k) None ≡ None ↔ (T b → ⊥)
turned_back true k = (λ e. absurd (let z : ◌≡◌ {A = ℕ} 0 1 = cc in omega arith), λ h. absurd (h tt))
turned_back false k = (λ e h. h, λ h. refl)

pick_true : (b : Bool) → T b → (k : Kind) → cond b (Some k) None ≡ Some k
pick_true true h k = refl
pick_true false h k = absurd h

pub of_kind_lem : (ws : List ℕ) (k : Kind) → rule_store ws ≡ Some k → StoreOf ws (decode ws) × ((decode ws).kind ≡ k)
unfolding rule_store decode
of_kind_lem ws k e = let t = picked (is_store ws) (kind_of (get_or ws 0 0)) k e in (decoded ws t.0, t.1)

pub kind_answered : (ws : List ℕ) (p : Program) → StoreOf ws p → rule_store ws ≡ Some p.kind
unfolding rule_store decode
kind_answered ws p s = pick_true (is_store ws) ((store_law ws).1 (p, s)) (kind_of (get_or ws 0 0)) ∙ ap (λ (q : Program). Some q.kind) (sym (only_decoded ws p s))

pub refused : (ws : List ℕ) → rule_store ws ≡ None ↔ (T (is_store ws) → ⊥)
unfolding rule_store
refused ws = turned_back (is_store ws) (kind_of (get_or ws 0 0))
