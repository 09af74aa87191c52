-- A rule store has its rules one after the other, behind the header and the class words.
use Prim.Native.Nat.{ℕ, ◌+◌, ◌*◌, ◌≤◌, ◌<◌}
use mathlib.Core.Path.{◌≡◌, sym, ap, ap₂, ◌∙◌, subst}
use mathlib.Core.List.{List, [], ◌∷◌, ◌++◌, append_assoc, append-nil}
use native.Mathlib.Omega.{arith}
use lib.ListN.{length, get_or, drop, length-append}
use lib.Seq.{drop_at, drop-drop}
use Rattle.kinds.specs.Limits.{occurrence_limit}
use Rattle.kinds.specs.declared.limits.Kind.TheVariants.{Plain}
use Rattle.rules.specs.Lists.{All, sum, flat}
use Rattle.rules.specs.Rules.{Rule, occurrences}
use Rattle.rules.specs.Renumbering.{Within}
use Rattle.rules.proofs.Lists.{all_imp}
use Rattle.stores.specs.Program.{Program, RuleForm, ProgramForm}
use Rattle.stores.specs.RuleStore.{rule_words, encode, StoreOf, word_count, rule_at, rules_from}
use Rattle.stores.specs.StoredRules.{StoredRule, StoredRules, HeaderOf}
use Rattle.stores.proofs.RuleTests.{rule_front, past_front}
use Rattle.stores.proofs.RuleStores.{words_count, rules_length, rules_front as rules_read}
use Rattle.stores.proofs.RulePlace.{limit_small, rules_small}
use Rattle.stores.proofs.StoreHeader.{atoms_small}
use Rattle.stores.specs.declared.rule_store.Header.{Header}

-- the atoms of a program's rules are its own
pub rules_within : {p : Program} → ProgramForm p → All (Within (λ a. a < p.atoms)) p.rules
rules_within {p} form = all_imp (RuleForm p.kind p.atoms) (Within (λ a. a < p.atoms)) (λ r f. record { head = f.head_form.0; body = f.body_form.0; nots = f.nots_form.0 }) p.rules form.rule_forms

-- rules in front of other words
pub rules_front : (n : ℕ) (rs : List (Rule ℕ)) (rest : List ℕ) → All (Within (λ a. a < n)) rs → sum occurrences rs ≤ occurrence_limit Plain → StoredRules n (length rs) (flat rule_words rs ++ rest)
rules_front n [] rest h l = tt
rules_front n (r ∷ rs) rest h l =
    let t : List ℕ = flat rule_words rs ++ rest in
    subst (StoredRules n (length (r ∷ rs))) (sym (append_assoc (rule_words r) (flat rule_words rs) rest)) (
      record {
        inside = omega (arith, length-append (r.head ++ (r.body ++ r.nots)) t, length-append r.head (r.body ++ r.nots), length-append r.body r.nots);
        few = omega arith;
        heads = subst (λ (q : Rule ℕ). All (λ a. a < n) q.head) (sym (rule_front r t)) h.0.head;
        bodies = subst (λ (q : Rule ℕ). All (λ a. a < n) q.body) (sym (rule_front r t)) h.0.body;
        nots = subst (λ (q : Rule ℕ). All (λ a. a < n) q.nots) (sym (rule_front r t)) h.0.nots;
      },
      subst (StoredRules n (length rs)) (sym (past_front r t)) (rules_front n rs rest h.1 (omega arith)),
    )

module _ {ws : List ℕ} {p : Program} (s : StoreOf ws p) where
  pub rule_part_lem : drop (4 + word_count p.kind p.atoms) ws ≡ flat rule_words p.rules
  unfolding encode
  rule_part_lem =
      let c = word_count p.kind p.atoms in
      sym (drop-drop c 4 ws) ∙ ap (λ (l : List ℕ). drop c (drop 4 l)) (sym s.words)
      ∙ drop_at p.words (flat rule_words p.rules) c (words_count p.kind p.atoms p.classes p.words s.form.classes_form)

  pub stored_rules : StoredRules p.atoms (length p.rules) (drop (4 + word_count p.kind p.atoms) ws)
  stored_rules =
      subst (StoredRules p.atoms (length p.rules)) (append-nil (flat rule_words p.rules) ∙ sym rule_part_lem)
      (rules_front p.atoms p.rules [] (rules_within s.form) (omega (arith, s.form.occurrences_fit, limit_small p.kind)))

-- atoms below n are below anything larger
module _ {n k : ℕ} (l : n ≤ k) where
  more_atoms : (xs : List ℕ) → All (λ a. a < n) xs → All (λ a. a < k) xs
  more_atoms = all_imp (λ a. a < n) (λ a. a < k) (λ a h. omega arith)

  pub stored_more : {ws : List ℕ} → StoredRule n ws → StoredRule k ws
  stored_more {ws} q = record { inside = q.inside; few = q.few; heads = more_atoms (rule_at ws).head q.heads; bodies = more_atoms (rule_at ws).body q.bodies; nots = more_atoms (rule_at ws).nots q.nots }

-- the words of a store, by its program
module _ (ws : List ℕ) (p : Program) (s : StoreOf ws p) where
  pub has_header : 4 ≤ length ws
  unfolding encode
  has_header = subst (λ (l : List ℕ). 4 ≤ length l) s.words (omega arith)

  pub atoms_word_lem : get_or ws 1 0 ≡ p.atoms
  unfolding encode
  atoms_word_lem = ap (λ (l : List ℕ). get_or l 1 0) (sym s.words)

  pub rules_word : get_or ws 3 0 ≡ length p.rules
  unfolding encode
  rules_word = ap (λ (l : List ℕ). get_or l 3 0) (sym s.words)

  store_size : length ws ≡ 4 + word_count p.kind p.atoms + (3 * length p.rules + sum occurrences p.rules)
  unfolding encode
  store_size =
      let l = length-append p.words (flat rule_words p.rules) in
      let w = words_count p.kind p.atoms p.classes p.words s.form.classes_form in
      let r = rules_length p.rules in
      ap length (sym s.words) ∙ omega arith

  pub room_for_words : 4 + word_count p.kind p.atoms ≤ length ws
  room_for_words = omega (arith, store_size)

  pub header_of : {h : Header} → h.atoms ≡ get_or ws 1 0 → h.rules ≡ get_or ws 3 0 → h.start ≡ 4 + word_count p.kind h.atoms → HeaderOf p ws h
  header_of {h} a r t =
      let n : h.atoms ≡ p.atoms = a ∙ atoms_word_lem in
      let c : h.rules ≡ length p.rules = r ∙ rules_word in
      let b : h.start ≡ 4 + word_count p.kind p.atoms = t ∙ ap (λ (x : ℕ). 4 + word_count p.kind x) n in
      record {
        atoms_are = n;
        rules_are = c;
        few_atoms = omega (arith, n, s.form.atoms_fit, atoms_small p.kind);
        few_rules = omega (arith, c, s.form.rules_fit_lem, rules_small p.kind);
        size = omega (arith, store_size, b, c);
        stored =
            subst (λ (x : ℕ). StoredRules x h.rules (drop h.start ws)) (sym n)
            (subst (λ (x : ℕ). StoredRules p.atoms x (drop h.start ws)) (sym c)
            (subst (λ (x : ℕ). StoredRules p.atoms (length p.rules) (drop x ws)) (sym b) (stored_rules s)));
        read =
            ap₂ (λ (x y : ℕ). rules_from x (drop y ws)) c b
            ∙ ap (rules_from (length p.rules)) (rule_part_lem s ∙ sym (append-nil (flat rule_words p.rules))) ∙ rules_read p.rules [];
      }
