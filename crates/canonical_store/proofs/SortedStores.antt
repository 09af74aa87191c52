-- A store whose lists are sorted, with its rules in order, has the words of the canonical store.
use Prim.Native.Nat.{ℕ, ◌+◌, ◌-◌, ◌≤◌}
use mathlib.Core.Path.{◌≡◌, refl, sym, ap, ap₂, ◌∙◌, subst}
use mathlib.Core.List.{List, [], ◌∷◌, ◌++◌, append-nil, append_assoc, map}
use native.Mathlib.Omega.{arith}
use lib.ListN.{length, get_or, take, drop, length-append, length-drop, length-map, drop_of_length-le, replicate, length-replicate}
use lib.Seq.{take_at, length-take-le, sets-eq}
use borrow.Rule.Slice.PartMut.{mid_of, put_mid}
use Rattle.kinds.specs.Sizes.{store_words}
use Rattle.kinds.specs.Limits.{rule_limit, occurrence_limit}
use Rattle.kinds.specs.declared.limits.Kind.{Kind}
use Rattle.kinds.specs.declared.limits.Kind.TheVariants.{Plain}
use Rattle.rules.specs.Lists.{All, sum, flat}
use Rattle.rules.specs.Rules.{Rule, occurrences}
use Rattle.rules.proofs.Lists.{part_rest}
use Rattle.stores.specs.Program.{Program, RuleForm}
use Rattle.stores.specs.RuleStore.{kind_word, rule_words, encode, StoreOf, decode, word_count, rule_at, rules_from}
use Rattle.stores.specs.StoredRules.{StoredRules}
use Rattle.stores.proofs.RuleTests.{rule_front, past_front}
use Rattle.stores.proofs.RuleStores.{words_count, words_fit, only_decoded, rules_front}
use Rattle.stores.proofs.RulePlace.{limit_small, rules_small}
use Rattle.stores.proofs.StoredRules.{rule_part_lem, stored_rules}
use Rattle.canonical.specs.Order.{ordered}
use Rattle.canonical.specs.Canonical.{compare_rules, tidy, canonical}
use Rattle.canonical.specs.CanonicalProgram.{canonical_program}
use Rattle.canonical.specs.TidyProgram.{tidy_program}
use Rattle.canonical.proofs.CanonicalForm.{tidy_program_form, canonical_form}
use Rattle.tidying.specs.TidyWords.{ListedRules, tidy_words}
use Rattle.output.specs.Emitted.{Emitted, InRange}
use Rattle.output.proofs.Emitting.{renamed, same_length}
use Rattle.entry_sort.specs.EqualKeys.{KeyedEntries, InRuleOrder}
use Rattle.canonical_store.specs.KeptRules.{kept_rules, kept_words, class_count, Header, SortedStore}

-- rules in front of other words

listed_front : (kind : Kind) (n : ℕ) (rs : List (Rule ℕ)) (rest : List ℕ) → All (RuleForm kind n) rs → sum occurrences rs ≤ occurrence_limit Plain → ListedRules (length rs) (flat rule_words rs ++ rest)
listed_front kind n [] rest h l = tt
listed_front kind n (r ∷ rs) rest h l =
    let t : List ℕ = flat rule_words rs ++ rest in
    let form : RuleForm kind n (rule_at (rule_words r ++ t)) = subst (RuleForm kind n) (sym (rule_front r t)) h.0 in
    subst (ListedRules (length (r ∷ rs))) (sym (append_assoc (rule_words r) (flat rule_words rs) rest)) (
      record {
        inside = omega (arith, length-append (r.head ++ (r.body ++ r.nots)) t, length-append r.head (r.body ++ r.nots), length-append r.body r.nots);
        few = omega arith;
        heads = form.head_form.1;
        bodies = form.body_form.1;
        nots = form.nots_form.1;
      },
      subst (ListedRules (length rs)) (sym (past_front r t)) (listed_front kind n rs rest h.1 (omega arith)),
    )

tidy_front : (rs : List (Rule ℕ)) (rest : List ℕ) → tidy_words (length rs) (flat rule_words rs ++ rest) ≡ flat rule_words (map tidy rs) ++ rest
unfolding tidy_words
tidy_front [] rest = refl
tidy_front (r ∷ rs) rest =
    let t = flat rule_words rs ++ rest in
    ap (tidy_words (length (r ∷ rs))) (append_assoc (rule_words r) (flat rule_words rs) rest)
    ∙ ap₂ (λ (q : Rule ℕ) (l : List ℕ). rule_words (tidy q) ++ l) (rule_front r t) (ap (tidy_words (length rs)) (past_front r t) ∙ tidy_front rs rest)
    ∙ sym (append_assoc (rule_words (tidy r)) (flat rule_words (map tidy rs)) rest)

-- a store of the form

module _ {ws : List ℕ} {p : Program} (s : StoreOf ws p) where
  pub class_count_lem : class_count ws ≡ word_count p.kind p.atoms
  unfolding decode
  class_count_lem = ap (λ (q : Program). word_count q.kind q.atoms) (sym (only_decoded ws p s))

  pub atoms_at : get_or ws 1 0 ≡ p.atoms
  unfolding decode
  atoms_at = ap (λ (q : Program). q.atoms) (sym (only_decoded ws p s))

  pub count_at : get_or ws 3 0 ≡ length p.rules
  unfolding encode
  count_at = sym (ap (λ (l : List ℕ). get_or l 3 0) s.words)

  words_length : length p.words ≡ class_count ws
  words_length = words_count p.kind p.atoms p.classes p.words s.form.classes_form ∙ sym class_count_lem

  pub short : length ws ≤ store_words
  short = omega (arith, ap length s.words, words_fit p s.form)

  pub few_rules : length p.rules ≤ rule_limit Plain
  few_rules = omega (arith, s.form.rules_fit_lem, rules_small p.kind)

  size : length ws ≡ 4 + (class_count ws + length (flat rule_words p.rules))
  unfolding encode
  size = sym (ap length s.words) ∙ (let e = length-append p.words (flat rule_words p.rules) in let k = words_length in omega arith)

  pub header : Header ws
  header = record { inside = let e = size in omega arith; short = let l = short in omega arith }

  rules_from_lem : drop (4 + class_count ws) ws ≡ flat rule_words p.rules
  rules_from_lem = ap (λ (n : ℕ). drop (4 + n) ws) class_count_lem ∙ rule_part_lem s

  module _ {start : ℕ} (e : start ≡ 4 + class_count ws) where
    rules_part : mid_of start (length ws - start) ws ≡ flat rule_words p.rules
    rules_part = part_rest start ws ∙ ap (λ (n : ℕ). drop n ws) e ∙ rules_from_lem

    pub listed : {count : ℕ} → count ≡ length p.rules → ListedRules count (mid_of start (length ws - start) ws)
    listed {count} f =
        subst (λ (n : ℕ). ListedRules n (mid_of start (length ws - start) ws)) (sym f)
        (subst (ListedRules (length p.rules)) (append-nil (flat rule_words p.rules) ∙ sym rules_part)
        (listed_front p.kind p.atoms p.rules [] s.form.rule_forms (omega (arith, s.form.occurrences_fit, limit_small p.kind))))

    -- the store once its lists are sorted
    pub tidied : {count : ℕ} → count ≡ length p.rules → (new : List ℕ) → new ≡ tidy_words count (mid_of start (length ws - start) ws) → StoreOf (put_mid start (length ws - start) ws new) (tidy_program p)
    unfolding encode
    tidied {count} f new g =
        let front : List ℕ = kind_word p.kind ∷ p.atoms ∷ p.classes ∷ length p.rules ∷ p.words in
        let rs = p.rules in
        let sized : length front ≡ start = let k = words_length in omega arith in
        let whole : ws ≡ front ++ flat rule_words rs = sym s.words in
        let made : new ≡ flat rule_words (map tidy rs) =
        g ∙ ap₂ tidy_words f (rules_part ∙ sym (append-nil (flat rule_words rs))) ∙ tidy_front rs [] ∙ append-nil (flat rule_words (map tidy rs)) in
        let none : drop (length ws - start) (drop start ws) ≡ [] = drop_of_length-le (drop start ws) {i = length ws - start} (omega (arith, length-drop start ws)) in
        let before : take start ws ≡ front = ap (take start) whole ∙ take_at front (flat rule_words rs) start sized in
        let after : new ++ drop (length ws - start) (drop start ws) ≡ flat rule_words (map tidy rs) = ap (λ (l : List ℕ). new ++ l) none ∙ append-nil new ∙ made in
        record {
          form = tidy_program_form p s.form;
          words = sym (ap₂ (λ (x y : List ℕ). x ++ y) before after ∙ ap (λ (n : ℕ). kind_word p.kind ∷ p.atoms ∷ p.classes ∷ n ∷ (p.words ++ flat rule_words (map tidy rs))) (sym (length-map rs tidy)));
        }

-- once the lists are sorted
module _ {ws : List ℕ} {p : Program} (s : StoreOf ws p) {start count : ℕ} (e : start ≡ 4 + class_count ws) (f : count ≡ length p.rules) (new : List ℕ) (g : new ≡ tidy_words count (mid_of start (length ws - start) ws)) where
  abbrev words : List ℕ
  words = put_mid start (length ws - start) ws new

  t : StoreOf words (tidy_program p)
  t = tidied s e f new g

  same_start : start ≡ 4 + class_count words
  same_start = e ∙ ap (λ (n : ℕ). 4 + n) (class_count_lem s ∙ sym (class_count_lem t))

  as_many : count ≡ length (map tidy p.rules)
  as_many = f ∙ sym (length-map p.rules tidy)

  -- what `sort_rules` requires
  pub stored : StoredRules (get_or ws 1 0) count (drop start words) × (length words ≤ 65536) × (count ≤ 65535)
  stored = (
    subst (StoredRules (get_or ws 1 0) count) (ap (λ (n : ℕ). drop n words) (sym (same_start ∙ ap (λ (n : ℕ). 4 + n) (class_count_lem t)))) (rw (atoms_at s, as_many) (stored_rules t)),
    let k = short t in omega arith,
    let k = few_rules t in let m = as_many in omega arith,
  )

  pub in_order_lem : (order : List ℕ) → length order ≡ count → InRuleOrder words (rules_from count (drop start words)) order → SortedStore p words order
  unfolding kept_rules kept_words canonical_program canonical encode
  in_order_lem order l h =
      let rs = map tidy p.rules in
      let rules : kept_rules words order ≡ ordered compare_rules rs =
      h.rules ∙ ap (ordered compare_rules) (ap₂ rules_from as_many (ap (λ (k : ℕ). drop k words) same_start ∙ rules_from_lem t ∙ sym (append-nil (flat rule_words rs))) ∙ rules_front rs []) in
      let word : (k : ℕ) → get_or words k 0 ≡ get_or (encode (tidy_program p)) k 0 = λ k. ap (λ (u : List ℕ). get_or u k 0) (sym t.words) in
      let classes : take (class_count words) (drop 4 words) ≡ p.words =
      ap (λ (u : List ℕ). take (class_count words) (drop 4 u)) (sym t.words) ∙ take_at p.words (flat rule_words rs) (class_count words) (words_length t) in
      record {
        header = header t;
        keyed = h.keyed;
        few = let k = few_rules t in let m = as_many in omega arith;
        words = λ i. word 0 i ∷ word 1 i ∷ word 2 i ∷ length (rules i) ∷ (classes i ++ flat rule_words (rules i));
      }

-- what `emit_store` requires
pub sorted_ready : {ws : List ℕ} {p : Program} → StoreOf ws p → {now order : List ℕ} → SortedStore p now order → Header now × KeyedEntries now order × (length order ≤ 65535) × InRange 0 (kept_words now order)
sorted_ready {ws} {p} s {now} {order} t = (t.header, t.keyed, t.few, record { below = omega (arith, ap length t.words, words_fit (canonical_program p) (canonical_form p s.form)) })

pub scratch_room : (n : ℕ) → n ≤ length {A = ℕ} (replicate n 0)
scratch_room n = omega (arith, length-replicate {A = ℕ} n 0)

-- a copy of the store, for which there is room
module _ {ws words now : List ℕ} {size : ℕ} (s : StoreOf ws (decode ws)) (room : store_words ≤ length words) (c : Emitted words 0 ws now size) where
  fits : size ≤ length words
  fits = let k = short s in let e = c.place in omega arith

  pub copy_inside : size ≤ length now
  copy_inside = let k = fits in let e = same_length c in omega arith

  copy_is : take size now ≡ ws
  copy_is =
      let k = fits in
      let e = c.place in
      ap (take size) (c.bytes ∙ sets-eq ws words 0 (omega arith)) ∙ take_at ws (drop (0 + length ws) words) size (omega arith)

  pub copy_store : StoreOf (take size now) (decode (take size now))
  copy_store = subst (λ (l : List ℕ). StoreOf l (decode l)) (sym copy_is) s

  pub copy_count : get_or ws 3 0 ≡ length (decode (take size now)).rules
  copy_count = count_at s ∙ ap (λ (l : List ℕ). length (decode l).rules) (sym copy_is)

  pub count_inside : (l : List ℕ) → rule_limit Plain ≤ length l → get_or ws 3 0 ≤ length l
  count_inside l h = let k = few_rules s in let e = count_at s in omega arith

  pub count_length : (l : List ℕ) → rule_limit Plain ≤ length l → length (take (get_or ws 3 0) l) ≡ get_or ws 3 0
  count_length l h = length-take-le (get_or ws 3 0) l (count_inside l h)

  pub of_copy : {before after : List ℕ} {next : ℕ} → Emitted before 0 (encode (canonical_program (decode (take size now)))) after next → Emitted before 0 (encode (canonical_program (decode ws))) after next
  of_copy p = renamed p (ap (λ (l : List ℕ). encode (canonical_program (decode l))) copy_is)
