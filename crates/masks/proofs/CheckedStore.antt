-- What a checked store gives the functions that read it.
use Prim.Native.Nat.{ℕ, ◌+◌, ◌-◌, ◌≤◌, ◌<◌}
use mathlib.Core.Path.{◌≡◌, sym, ap, ap₂, ◌∙◌, subst}
use mathlib.Core.List.{List, map}
use native.Mathlib.Omega.{arith}
use lib.ListN.{length, get_or, take, drop, length-map}
use Rattle.kinds.specs.Limits.{rule_limit, class_limit, walk_atoms, fixed}
use Rattle.kinds.specs.declared.limits.Kind.{Kind}
use Rattle.kinds.specs.declared.limits.Kind.TheVariants.{Plain, Preference}
use Rattle.rules.specs.Lists.{All, over}
use Rattle.rules.specs.Rules.{Rule}
use Rattle.rules.specs.Renumbering.{Within}
use Rattle.rules.specs.Preferred.{of_class}
use Rattle.rules.proofs.Lists.{part_sized, part_rest}
use Rattle.stores.specs.Program.{ClassesForm}
use Rattle.stores.specs.RuleStore.{StoreOf, word_count, rules_from, decode}
use Rattle.stores.specs.StoredRules.{StoredRules}
use Rattle.stores.proofs.StoredRules.{stored_rules, rules_within, atoms_word_lem, rules_word, room_for_words}
use Rattle.masks.specs.Masks.{place_mask, care_at, want_at, class_masks}
use Rattle.masks.specs.FilledMasks.{MasksOf}
use Rattle.masks.proofs.RulesFill.{front_of}

-- a checked preference store, with the words of its header as they were read

pub record PreferenceHeader (ws : List ℕ) (n r : ℕ) : Type 0 where
  pub store : StoreOf ws (decode ws)
  pub few : (decode ws).atoms ≤ walk_atoms
  pub is_preference : (decode ws).kind ≡ Preference
  pub atoms_read : n ≡ get_or ws 1 0
  pub rules_read : r ≡ get_or ws 3 0

module _ (ws : List ℕ) (n r : ℕ) (h : PreferenceHeader ws n r) where
  -- the class words and the words of the rules, as the code takes them
  abbrev class_part : List ℕ
  class_part = take (4 + n - 4) (drop 4 ws)

  abbrev rule_part : List ℕ
  rule_part = take (length ws - (4 + n)) (drop (4 + n) ws)

  counted : word_count (decode ws).kind (decode ws).atoms ≡ (decode ws).atoms
  counted = ap (λ (x : Kind). word_count x (decode ws).atoms) h.is_preference

  n_is : n ≡ (decode ws).atoms
  n_is = h.atoms_read ∙ atoms_word_lem ws (decode ws) h.store

  r_is : r ≡ length (decode ws).rules
  r_is = h.rules_read ∙ rules_word ws (decode ws) h.store

  pub preference_atoms : n ≤ 60
  preference_atoms = subst (λ (x : ℕ). x ≤ 60) (sym n_is) h.few

  pub preference_room : 4 + n ≤ length ws
  preference_room = let a = n_is in let c = counted in omega (arith, room_for_words ws (decode ws) h.store)

  pub preference_rules : r ≤ 1024
  preference_rules =
      let a = r_is in
      let f : length (decode ws).rules ≤ rule_limit (decode ws).kind = h.store.form.rules_fit_lem in
      let g : rule_limit (decode ws).kind ≡ 1024 = ap rule_limit h.is_preference in
      omega arith

  forms : ClassesForm Preference (decode ws).atoms (decode ws).classes (decode ws).words
  forms = subst (λ (x : Kind). ClassesForm x (decode ws).atoms (decode ws).classes (decode ws).words) h.is_preference h.store.form.classes_form

  words_are : class_part ≡ (decode ws).words
  unfolding decode
  words_are = part_sized 4 n (drop 4 ws) ∙ ap (λ (x : ℕ). take x (drop 4 ws)) (n_is ∙ sym counted)

  words_length : length (decode ws).words ≡ n
  words_length = forms.1 ∙ sym n_is

  pub class_words_few : length class_part ≤ 60
  class_words_few = let e = ap length words_are ∙ words_length in omega (arith, preference_atoms)

  pub preference_stored : StoredRules n r rule_part
  preference_stored =
      subst (λ (x : ℕ). StoredRules n x rule_part) (sym r_is)
      (subst (StoredRules n (length (decode ws).rules)) (sym (part_rest (4 + n) ws))
      (subst (λ (x : ℕ). StoredRules n (length (decode ws).rules) (drop (4 + x) ws)) (counted ∙ sym n_is)
      (subst (λ (x : ℕ). StoredRules x (length (decode ws).rules) (drop (4 + word_count (decode ws).kind (decode ws).atoms) ws)) (sym n_is) (stored_rules h.store))))

  rules_are : rules_from r rule_part ≡ (decode ws).rules
  unfolding decode
  rules_are = ap (rules_from r) (part_rest (4 + n) ws) ∙ ap₂ (λ (x y : ℕ). rules_from x (drop (4 + y) ws)) h.rules_read (n_is ∙ sym counted)

  module _ (f : ℕ) (fixed-read : f ≡ place_mask (length class_part) (of_class class_part fixed)) where
    fixed_mask : f ≡ place_mask (length (decode ws).words) (of_class (decode ws).words fixed)
    fixed_mask = fixed-read ∙ ap (λ (x : List ℕ). place_mask (length x) (of_class x fixed)) words_are

    rules_front : (g : Rule ℕ → ℕ) (d l : List ℕ) → l ≡ over (map g (rules_from r rule_part)) d → take r l ≡ map g (decode ws).rules
    rules_front g d l e =
        ap (take r) (e ∙ ap (λ (x : List (Rule ℕ)). over (map g x) d) rules_are)
        ∙ front_of (map g (decode ws).rules) d r (length-map (decode ws).rules g ∙ sym r_is)

    pub masks_filled : (ks cs wants c₀ w₀ : List ℕ) → ks ≡ class_masks class_part 1 class_limit
        → (cs ≡ over (map (care_at n) (rules_from r rule_part)) c₀) × (wants ≡ over (map (want_at n) (rules_from r rule_part)) w₀)
        → MasksOf (decode ws) cs wants ks (record { atoms = n; rules = r; fixed = f })
    masks_filled ks cs wants c₀ w₀ e q = record {
      form = h.store.form;
      is_preference = h.is_preference;
      few = h.few;
      atoms_are = n_is;
      rules_are = r_is;
      fixed_is = fixed_mask;
      care_front = rules_front (care_at n) c₀ cs q.0 ∙ ap (λ (x : ℕ). map (care_at x) (decode ws).rules) n_is;
      want_front = rules_front (want_at n) w₀ wants q.1 ∙ ap (λ (x : ℕ). map (want_at x) (decode ws).rules) n_is;
      class_masks_holds = e ∙ ap (λ (x : List ℕ). class_masks x 1 class_limit) words_are;
    }

-- a checked plain store

pub record PlainHeader (ws : List ℕ) (n r : ℕ) : Type 0 where
  pub store : StoreOf ws (decode ws)
  pub few : (decode ws).atoms ≤ walk_atoms
  pub is_plain : (decode ws).kind ≡ Plain
  pub atoms_read : n ≡ get_or ws 1 0
  pub rules_read : r ≡ get_or ws 3 0

module _ (ws : List ℕ) (n r : ℕ) (h : PlainHeader ws n r) where
  uncounted : word_count (decode ws).kind (decode ws).atoms ≡ 0
  uncounted = ap (λ (x : Kind). word_count x (decode ws).atoms) h.is_plain

  pub plain_atoms : n ≡ (decode ws).atoms
  plain_atoms = h.atoms_read ∙ atoms_word_lem ws (decode ws) h.store

  pub plain_few : n ≤ 60
  plain_few = subst (λ (x : ℕ). x ≤ 60) (sym plain_atoms) h.few

  pub plain_count : r ≡ length (decode ws).rules
  plain_count = h.rules_read ∙ rules_word ws (decode ws) h.store

  -- the words of the rules, as the code takes them
  abbrev plain_part : List ℕ
  plain_part = take (length ws - 4) (drop 4 ws)

  pub plain_stored : StoredRules n r plain_part
  plain_stored =
      subst (λ (x : ℕ). StoredRules n x plain_part) (sym plain_count)
      (subst (StoredRules n (length (decode ws).rules)) (sym (part_rest 4 ws))
      (subst (λ (x : ℕ). StoredRules n (length (decode ws).rules) (drop (4 + x) ws)) uncounted
      (subst (λ (x : ℕ). StoredRules x (length (decode ws).rules) (drop (4 + word_count (decode ws).kind (decode ws).atoms) ws)) (sym plain_atoms) (stored_rules h.store))))

  pub plain_rules : r ≤ 4200
  plain_rules =
      let a = plain_count in
      let f : length (decode ws).rules ≤ rule_limit (decode ws).kind = h.store.form.rules_fit_lem in
      let g : rule_limit (decode ws).kind ≡ 4200 = ap rule_limit h.is_plain in
      omega arith

  pub plain_rules_are : rules_from r plain_part ≡ (decode ws).rules
  unfolding decode
  plain_rules_are = ap (rules_from r) (part_rest 4 ws) ∙ ap₂ (λ (x y : ℕ). rules_from x (drop (4 + y) ws)) h.rules_read (sym uncounted)

  pub plain_within : All (Within (λ a. a < n)) (decode ws).rules
  plain_within = subst (λ (x : ℕ). All (Within (λ a. a < x)) (decode ws).rules) (sym plain_atoms) (rules_within h.store.form)
