-- What each test of a rule store says of the words.
use Prim.Native.Nat.{ℕ, zero, suc, ◌+◌, ◌≤◌, ◌<◌}
use mathlib.Core.Path.{◌≡◌, sym, ap, ◌∙◌, subst}
use mathlib.Core.Bool.{Bool, true, ◌&&◌}
use mathlib.Core.Logic.{inl, inr, ◌↔◌, ◌≢◌}
use mathlib.Core.List.{List, [], ◌∷◌, ◌++◌, append_assoc}
use native.Mathlib.Omega.{arith}
use native.Mathlib.Nat.{add_assoc}
use lib.Dec.{T, eqb, leb→le, le→leb, ltb→lt, lt→ltb, eqb→eq}
use lib.ListN.{length, get_or, take, drop, length-drop, take-append-drop, length-append}
use lib.Seq.{length-take-le, take-append_seam, drop-append_seam, drop-drop}
use Rattle.kinds.specs.Limits.{occurrence_limit}
use Rattle.kinds.specs.declared.limits.Kind.{Kind}
use Rattle.kinds.specs.declared.limits.Kind.TheVariants.{Plain, Preference}
use Rattle.rules.specs.Lists.{All, some}
use Rattle.rules.specs.Rules.{Rule, occurrences}
use Rattle.rules.proofs.Booleans.{T_and, T-and-l, T-and-r, T-or, T-or-out, T-not-in, T-not-out, eq_to_eqb}
use Rattle.rules.proofs.Lists.{all_imp, all_both}
use Rattle.stores.specs.Program.{RoleForm, NeverFalling, ListForm, NotForm, RuleForm, role_of}
use Rattle.stores.specs.RuleStore.{rule_words, heads, bodies, nots, places, rule_at, is_role, are_words, is_list, are_lists, is_not, is_rule}
use Rattle.stores.specs.declared.roles.Role.{Role}
use Rattle.stores.specs.declared.roles.Role.TheVariants.{Minimised, Varying, Fixed, Unknown}

pub T-is : {t : Bool} → t ≡ true → T t
T-is e = subst T (sym e) tt

pub and_iff : (a b : Bool) → T (a && b) ↔ (T a × T b)
and_iff a b = (λ h. (T-and-l a b h, T-and-r a b h), λ h. T_and a b h.0 h.1)

-- the class words

pub role_law : (k : ℕ) (r : Role) → T (is_role k r) ↔ RoleForm k r
role_law k (Minimised i) = (leb→le i k, le→leb i k)
role_law k Varying = (λ h. h, λ h. h)
role_law k Fixed = (λ h. h, λ h. h)
role_law k Unknown = (λ h. h, λ h. h)

pub words_law : (k b : ℕ) (ws : List ℕ) → T (are_words k b ws) ↔ (All (λ w. RoleForm k (role_of w)) ws × NeverFalling b ws)
unfolding are_words
words_law k b [] = (λ h. (tt, tt), λ h. tt)
words_law k b (w ∷ ws) =
    let r = words_law k w ws in
    let role = role_law k (role_of w) in (
      λ h. let t = simp and_iff at h in let s = r.0 t.1.1 in ((role.0 t.0, s.0), (leb→le b w t.1.0, s.1)),
      λ h. simp and_iff (role.1 h.0.0, (le→leb b w h.1.0, r.1 (h.0.1, h.1.1))),
    )

-- one list

abbrev Unseen : List ℕ → ℕ → Type 0
Unseen seen a = T (some (eqb a) seen) → ⊥

unseen_more : (a : ℕ) (seen : List ℕ) (b : ℕ) → (a ≢ b) × Unseen seen b → Unseen (a ∷ seen) b
unseen_more a seen b h t = elim (T-or-out (eqb b a) (some (eqb b) seen) t) [ inl e ↦ h.0 (sym (eqb→eq b a e)) | inr e ↦ h.1 e ]

list_seen : (n : ℕ) (seen xs : List ℕ) → T (is_list n seen xs) ↔ (ListForm n xs × All (Unseen seen) xs)
unfolding is_list
list_seen n seen [] = (λ h. ((tt, tt), tt), λ h. tt)
list_seen n seen (a ∷ xs) =
    let r = list_seen n (a ∷ seen) xs in (
      λ h.
          let t = simp and_iff at h in
          let s = r.0 t.1.1 in (
            ((ltb→lt a n t.0, s.0.0), (all_imp (Unseen (a ∷ seen)) (λ b. a ≢ b) (λ b f e. f (T-or (eqb b a) (some (eqb b) seen) (inl (eq_to_eqb b a (sym e))))) xs s.1, s.0.1)),
            (T-not-out (some (eqb a) seen) t.1.0, all_imp (Unseen (a ∷ seen)) (Unseen seen) (λ b f e. f (T-or (eqb b a) (some (eqb b) seen) (inr e))) xs s.1),
          ),
      λ h.
          let fresh : All (Unseen (a ∷ seen)) xs = all_imp (λ b. (a ≢ b) × Unseen seen b) (Unseen (a ∷ seen)) (unseen_more a seen) xs (all_both (λ b. a ≢ b) (Unseen seen) xs h.0.1.0 h.1.1) in
          simp and_iff (lt→ltb a n h.0.0.0, (T-not-in (some (eqb a) seen) h.1.0, r.1 ((h.0.0.1, h.0.1.1), fresh))),
    )

pub list_law : (n : ℕ) (xs : List ℕ) → T (is_list n [] xs) ↔ ListForm n xs
list_law n xs = let r = list_seen n [] xs in (λ h. (r.0 h).0, λ h. r.1 (h, none xs))
  where
    none : (ys : List ℕ) → All (Unseen []) ys
    none [] = tt
    none (y ∷ ys) = (λ h. h, none ys)

-- one rule: its words at the front of others

module _ (r : Rule ℕ) (t : List ℕ) where
  lists_front : (r.head ++ (r.body ++ r.nots)) ++ t ≡ r.head ++ (r.body ++ (r.nots ++ t))
  lists_front = append_assoc r.head (r.body ++ r.nots) t ∙ ap (λ (l : List ℕ). r.head ++ l) (append_assoc r.body r.nots t)

  past_head : drop (3 + length r.head) (rule_words r ++ t) ≡ r.body ++ (r.nots ++ t)
  past_head = sym (drop-drop (length r.head) 3 (rule_words r ++ t)) ∙ ap (drop (length r.head)) lists_front ∙ drop-append_seam r.head (r.body ++ (r.nots ++ t))

  past_body : drop (3 + length r.head + length r.body) (rule_words r ++ t) ≡ r.nots ++ t
  past_body = sym (drop-drop (length r.body) (3 + length r.head) (rule_words r ++ t)) ∙ ap (drop (length r.body)) past_head ∙ drop-append_seam r.body (r.nots ++ t)

  pub rule_front : rule_at (rule_words r ++ t) ≡ r
  unfolding rule_at
  rule_front =
      λ i. record {
        head = (ap (take (length r.head)) lists_front ∙ take-append_seam r.head (r.body ++ (r.nots ++ t))) i;
        body = (ap (take (length r.body)) past_head ∙ take-append_seam r.body (r.nots ++ t)) i;
        nots = (ap (take (length r.nots)) past_body ∙ take-append_seam r.nots t) i;
      }

  pub past_front : drop (3 + occurrences r) (rule_words r ++ t) ≡ t
  past_front =
      let e : 3 + occurrences r ≡ 3 + length r.head + length r.body + length r.nots = omega arith in
      ap (λ (m : ℕ). drop m (rule_words r ++ t)) e ∙ sym (drop-drop (length r.nots) (3 + length r.head + length r.body) (rule_words r ++ t)) ∙ ap (drop (length r.nots)) past_body ∙ drop-append_seam r.nots t

-- three parts of a list and what is left
parts : (a b c : ℕ) (t : List ℕ) → (take a t ++ (take b (drop a t) ++ take c (drop (a + b) t))) ++ drop (a + b + c) t ≡ t
parts a b c t =
    append_assoc (take a t) (take b (drop a t) ++ take c (drop (a + b) t)) (drop (a + b + c) t)
    ∙ ap (λ (l : List ℕ). take a t ++ l) (append_assoc (take b (drop a t)) (take c (drop (a + b) t)) (drop (a + b + c) t))
    ∙ ap (λ (l : List ℕ). take a t ++ (take b (drop a t) ++ (take c (drop (a + b) t) ++ l))) (sym (drop-drop c (a + b) t))
    ∙ ap (λ (l : List ℕ). take a t ++ (take b (drop a t) ++ l)) (take-append-drop c (drop (a + b) t) ∙ sym (drop-drop b a t))
    ∙ ap (λ (l : List ℕ). take a t ++ l) (take-append-drop b (drop a t))
    ∙ take-append-drop a t

-- a rule that lies inside the words
module _ (ws : List ℕ) (inside : 3 + places ws ≤ length ws) where
  head_length : length (rule_at ws).head ≡ heads ws
  unfolding rule_at
  head_length = length-take-le (heads ws) (drop 3 ws) (omega (arith, length-drop 3 ws))

  body_length : length (rule_at ws).body ≡ bodies ws
  unfolding rule_at
  body_length = length-take-le (bodies ws) (drop (3 + heads ws) ws) (omega (arith, length-drop (3 + heads ws) ws))

  nots_length : length (rule_at ws).nots ≡ nots ws
  unfolding rule_at
  nots_length = length-take-le (nots ws) (drop (3 + heads ws + bodies ws) ws) (omega (arith, length-drop (3 + heads ws + bodies ws) ws))

  pub occurrences_places : occurrences (rule_at ws) ≡ places ws
  occurrences_places = omega (arith, head_length, body_length, nots_length)

pub rule_words_lem : (ws : List ℕ) → 3 + places ws ≤ length ws → rule_words (rule_at ws) ++ drop (3 + places ws) ws ≡ ws
unfolding rule_at
rule_words_lem [] h = absurd (omega arith)
rule_words_lem (a ∷ []) h = absurd (omega arith)
rule_words_lem (a ∷ b ∷ []) h = absurd (omega arith)
rule_words_lem (a ∷ b ∷ c ∷ t) h =
    let ws : List ℕ = a ∷ b ∷ c ∷ t in
    let p : drop (3 + (a + b + c)) ws ≡ drop (a + b + c) t = sym (drop-drop (a + b + c) 3 ws) in
    let q : drop (3 + a) ws ≡ drop a t = sym (drop-drop a 3 ws) in
    let s : drop (3 + a + b) ws ≡ drop (a + b) t = ap (λ (m : ℕ). drop m ws) (add_assoc 3 a b) ∙ sym (drop-drop (a + b) 3 ws) in
    λ i. head_length ws h i ∷ body_length ws h i ∷ nots_length ws h i ∷ (ap (λ (l : List ℕ). (take a t ++ (take b l ++ take c (drop (3 + a + b) ws))) ++ drop (3 + (a + b + c)) ws) q
    ∙ ap (λ (l : List ℕ). (take a t ++ (take b (drop a t) ++ take c l)) ++ drop (3 + (a + b + c)) ws) s
    ∙ ap (λ (l : List ℕ). (take a t ++ (take b (drop a t) ++ take c (drop (a + b) t))) ++ l) p
    ∙ parts a b c t) i

pub lists_law : (n : ℕ) (r : Rule ℕ) → T (are_lists n r) ↔ (ListForm n r.head × ListForm n r.body × ListForm n r.nots)
unfolding are_lists
lists_law n r = (
  λ h. let t = simp and_iff at h in ((list_law n r.head).0 t.0, (list_law n r.body).0 t.1.0, (list_law n r.nots).0 t.1.1),
  λ h. simp and_iff ((list_law n r.head).1 h.0, ((list_law n r.body).1 h.1, (list_law n r.nots).1 h.2)),
)

not_law : (kind : Kind) (ws : List ℕ) → 3 + places ws ≤ length ws → T (is_not kind (nots ws)) ↔ NotForm kind (rule_at ws).nots
unfolding rule_at
not_law Plain ws h = (λ t. t, λ t. t)
not_law Preference ws h =
    (λ t. ap (λ (m : ℕ). take m (drop (3 + heads ws + bodies ws) ws)) (eqb→eq (nots ws) 0 t), λ e. eq_to_eqb (nots ws) 0 (sym (nots_length ws h) ∙ ap length e))

-- the parts of the test of one rule
pub record RuleTested (kind : Kind) (n used : ℕ) (ws : List ℕ) : Type 0 where
  pub inside : 3 + places ws ≤ length ws
  pub fits : used + places ws ≤ occurrence_limit kind
  pub nots_fit : T (is_not kind (nots ws))
  pub lists_fit : T (are_lists n (rule_at ws))

pub rule_tested : (kind : Kind) (n used : ℕ) (ws : List ℕ) → T (is_rule kind n used ws) ↔ RuleTested kind n used ws
unfolding is_rule
rule_tested kind n used ws = (
  λ h.
      let t = simp and_iff at h in
      record { inside = leb→le (3 + places ws) (length ws) t.0; fits = leb→le (used + places ws) (occurrence_limit kind) t.1.0; nots_fit = t.1.1.0; lists_fit = t.1.1.1 },
  λ h. simp and_iff (le→leb (3 + places ws) (length ws) h.inside, (le→leb (used + places ws) (occurrence_limit kind) h.fits, (h.nots_fit, h.lists_fit))),
)

-- what the test of one rule says
pub record RuleHere (kind : Kind) (n used : ℕ) (ws : List ℕ) : Type 0 where
  pub inside : 3 + places ws ≤ length ws
  pub fits : used + places ws ≤ occurrence_limit kind
  pub form : RuleForm kind n (rule_at ws)

pub rule_law : (kind : Kind) (n used : ℕ) (ws : List ℕ) → T (is_rule kind n used ws) ↔ RuleHere kind n used ws
rule_law kind n used ws = (
  λ h.
      let t = (rule_tested kind n used ws).0 h in
      let l = (lists_law n (rule_at ws)).0 t.lists_fit in
      record { inside = t.inside; fits = t.fits; form = record { head_form = l.0; body_form = l.1; nots_form = l.2; no_nots = (not_law kind ws t.inside).0 t.nots_fit } },
  λ h.
      (rule_tested kind n used ws).1
      (record { inside = h.inside; fits = h.fits; nots_fit = (not_law kind ws h.inside).1 h.form.no_nots; lists_fit = (lists_law n (rule_at ws)).1 (h.form.head_form, h.form.body_form, h.form.nots_form) }),
)

-- a rule's words in front of others
pub rule_encoded : (kind : Kind) (n used : ℕ) (r : Rule ℕ) (t : List ℕ) → RuleForm kind n r → used + occurrences r ≤ occurrence_limit kind → T (is_rule kind n used (rule_words r ++ t))
rule_encoded kind n used r t h f =
    (rule_law kind n used (rule_words r ++ t)).1
    (record {
      inside = omega (arith, length-append (r.head ++ (r.body ++ r.nots)) t, length-append r.head (r.body ++ r.nots), length-append r.body r.nots);
      fits = omega arith;
      form = subst (RuleForm kind n) (sym (rule_front r t)) h;
    })

-- words that never fall are at least the bound
pub rising_from : (b : ℕ) (ws : List ℕ) → NeverFalling b ws → (i : ℕ) → i < length ws → b ≤ get_or ws i 0
rising_from b [] r i l = absurd (omega arith)
rising_from b (x ∷ ws) r zero l = r.0
rising_from b (x ∷ ws) r (suc i) l = omega (arith, rising_from x ws r.1 i (omega arith), r.0)

pub rising_at : (b : ℕ) (ws : List ℕ) → NeverFalling b ws → (i j : ℕ) → i < j → j < length ws → get_or ws i 0 ≤ get_or ws j 0
rising_at b [] h i j m u = absurd (omega arith)
rising_at b (x ∷ ws) h zero zero m u = absurd (omega arith)
rising_at b (x ∷ ws) h zero (suc j) m u = rising_from x ws h.1 j (omega arith)
rising_at b (x ∷ ws) h (suc i) zero m u = absurd (omega arith)
rising_at b (x ∷ ws) h (suc i) (suc j) m u = rising_at x ws h.1 i j (omega arith) (omega arith)
