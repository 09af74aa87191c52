-- A condition's line: what stands in front of its last `(then a))` (document 02, W-208).
use Prim.Native.Nat.{ℕ}
use native.Mathlib.Omega.{arith}
use mathlib.Core.Path.{◌≡◌, refl, sym, ap, ap₂, ◌∙◌, subst}
use mathlib.Core.List.{List, [], ◌∷◌, ◌++◌}
use mathlib.Core.Bool.{Bool, true, false, cond, ◌&&◌, ◌||◌}
use lib.Dec.{T}
use lib.ListN.{length, length-append}
use Rattle.kinds.specs.Words.{not_word, and_word, or_word, when_word, then_word}
use Rattle.kinds.specs.declared.limits.Kind.{Kind}
use Rattle.kinds.specs.declared.limits.Kind.TheVariants.{Plain, Preference}
use Rattle.rules.specs.Lists.{some}
use Rattle.names.specs.Names.{is_house, is_common_name, name_class, allowed}
use Rattle.name_store.specs.NameStore.{same_bytes}
use Rattle.name_store.proofs.NameStores.{same_law}
use Rattle.lines.specs.Tokens.{Token, opening, closing, word, run, leading, behind}
use Rattle.lines.specs.Conditions.{sort_of, by_sort, words_in, names_in, pairs}
use Rattle.lines.specs.Forms.{condition, broken, opened_of, closed_by, none, split_names, split_list, Conditional, conditional, unconditional, only_closing, only_name, then_or, in_front, split_then, paired_form, when_form, is_name, are_names, named}
use Rattle.lines.specs.Faults.{refused_name}
use Rattle.lines.specs.Shapes.{WholeWord, then_tokens}

pub whole_when : WholeWord when_word
unfolding run
whole_when = record { whole = refl; filled = omega arith }

pub whole_then : WholeWord then_word
unfolding run
whole_then = record { whole = refl; filled = omega arith }

-- `(then a))` alone

no_condition : {ts : List Token} {a : List ℕ} {A : Type 0} → unconditional ≡ conditional ts a → A
no_condition e = absurd (let z : ◌≡◌ {A = ℕ} 0 1 = cc in omega arith)

only_closing_lem : (ws : List Token) (b : List ℕ) {ts : List Token} {a : List ℕ} → only_closing ws b ≡ conditional ts a → (ws ≡ closing ∷ []) × (ts ≡ []) × (a ≡ b)
only_closing_lem [] b e = no_condition e
only_closing_lem (opening ∷ ws) b e = no_condition e
only_closing_lem (closing ∷ []) b {ts} {a} e = let x : [] ≡ ts = cc in let y : b ≡ a = cc in (refl, sym x, sym y)
only_closing_lem (closing ∷ w ∷ ws) b e = no_condition e
only_closing_lem (word x ∷ ws) b e = no_condition e

two_names : (b c : List ℕ) (xs : List (List ℕ)) (us : List Token) {ts : List Token} {a : List ℕ} {A : Type 0} → only_name (closed_by (b ∷ c ∷ xs) us) ≡ conditional ts a → A
two_names b c xs [] e = no_condition e
two_names b c xs (opening ∷ us) e = no_condition e
two_names b c xs (closing ∷ us) e = no_condition e
two_names b c xs (word x ∷ us) e = no_condition e

only_name_lem : (vs : List Token) {ts : List Token} {a : List ℕ} → only_name (split_names vs) ≡ conditional ts a → (vs ≡ word a ∷ closing ∷ closing ∷ []) × (ts ≡ [])
unfolding split_names
only_name_lem [] e = no_condition e
only_name_lem (opening ∷ vs) e = no_condition e
only_name_lem (closing ∷ vs) e = no_condition e
only_name_lem (word b ∷ []) e = no_condition e
only_name_lem (word b ∷ opening ∷ vs) e = no_condition e
only_name_lem (word b ∷ closing ∷ vs) e = let k = only_closing_lem vs b e in (ap₂ (λ x us. word x ∷ closing ∷ us) (sym k.2) k.0, k.1)
only_name_lem (word b ∷ word c ∷ vs) e = two_names b c (leading vs) (behind vs) e

only_then : (us : List Token) {ts : List Token} {a : List ℕ} → only_name (split_list then_word us) ≡ conditional ts a → (us ≡ then_tokens a) × (ts ≡ [])
unfolding split_list opened_of
only_then [] e = no_condition e
only_then (closing ∷ us) e = no_condition e
only_then (word x ∷ us) e = no_condition e
only_then (opening ∷ []) e = no_condition e
only_then (opening ∷ opening ∷ us) e = no_condition e
only_then (opening ∷ closing ∷ us) e = no_condition e
only_then (opening ∷ word x ∷ vs) {ts} {a} e = go (same_bytes x then_word) refl e
  where
    go : (b : Bool) → same_bytes x then_word ≡ b → only_name (cond b (split_names vs) none) ≡ conditional ts a → (opening ∷ word x ∷ vs ≡ then_tokens a) × (ts ≡ [])
    go true p f = let k = only_name_lem vs f in (ap₂ (λ y us. opening ∷ word y ∷ us) ((same_law x then_word).0 (subst T (sym p) tt)) k.0, k.1)
    go false p f = no_condition f

-- tokens have a last `(then a))` exactly when they end so

pub then_split : (us : List Token) {ts : List Token} {a : List ℕ} → split_then us ≡ conditional ts a → us ≡ ts ++ then_tokens a
unfolding split_then
then_split [] e = no_condition e
then_split (u ∷ us) {ts} {a} e = go (only_name (split_list then_word (u ∷ us))) refl e (λ vs b. then_split us)
  where
    later : (q : Conditional) → ((vs : List Token) (b : List ℕ) → q ≡ conditional vs b → us ≡ vs ++ then_tokens b) → in_front u q ≡ conditional ts a → u ∷ us ≡ ts ++ then_tokens a
    later (conditional vs b) r f =
        let x : u ∷ vs ≡ ts = cc in
        let y : b ≡ a = cc in
        ap (λ l. u ∷ l) (r vs b refl) ∙ ap₂ (λ l c. l ++ then_tokens c) x y
    later unconditional r f = no_condition f

    go : (p : Conditional) → only_name (split_list then_word (u ∷ us)) ≡ p → then_or p (in_front u (split_then us)) ≡ conditional ts a → ((vs : List Token) (b : List ℕ) → split_then us ≡ conditional vs b → us ≡ vs ++ then_tokens b) → u ∷ us ≡ ts ++ then_tokens a
    go (conditional vs b) q f r =
        let x : vs ≡ ts = cc in
        let y : b ≡ a = cc in
        let k = only_then (u ∷ us) q in
        k.0 ∙ ap₂ (λ l c. l ++ then_tokens c) (sym k.1 ∙ x) y
    go unconditional q f r = later (split_then us) r f

pub split_then_lem : (ts : List Token) (a : List ℕ) → split_then (ts ++ then_tokens a) ≡ conditional ts a
unfolding split_then split_list split_names opened_of same_bytes
split_then_lem [] a = refl
split_then_lem (t ∷ ts) a = go (only_name (split_list then_word (t ∷ (ts ++ then_tokens a)))) refl (split_then_lem ts a)
  where
    go : (p : Conditional) → only_name (split_list then_word (t ∷ (ts ++ then_tokens a))) ≡ p → split_then (ts ++ then_tokens a) ≡ conditional ts a → then_or p (in_front t (split_then (ts ++ then_tokens a))) ≡ conditional (t ∷ ts) a
    go (conditional vs b) e r = absurd (omega (arith, ap length (only_then (t ∷ (ts ++ then_tokens a)) e).0, length-append ts (then_tokens a)))
    go unconditional e r = ap (in_front t) r

pub when_form_lem : (us ts : List Token) (a : List ℕ) → us ≡ ts ++ then_tokens a → when_form us ≡ cond (pairs 0 ts) (condition ts a) broken
unfolding when_form
when_form_lem us ts a e = ap paired_form (ap split_then e ∙ split_then_lem ts a)

pub when_broken : (us : List Token) → ((ts : List Token) (a : List ℕ) → us ≡ ts ++ then_tokens a → named (cond (pairs 0 ts) (condition ts a) broken) ≡ broken) → named (when_form us) ≡ broken
unfolding when_form
when_broken us h = go (split_then us) refl
  where
    go : (p : Conditional) → split_then us ≡ p → named (paired_form p) ≡ broken
    go (conditional ts a) e = h ts a (then_split us e)
    go unconditional e = refl

-- its words

pub words_app : (ts us : List Token) → words_in (ts ++ us) ≡ words_in ts ++ words_in us
unfolding words_in
words_app [] us = refl
words_app (opening ∷ ts) us = words_app ts us
words_app (closing ∷ ts) us = words_app ts us
words_app (word x ∷ ts) us = ap (λ l. x ∷ l) (words_app ts us)

then_name : is_name (name_class then_word) ≡ true
unfolding name_class is_common_name is_house
then_name = refl

-- `then` is a name
pub then_names : (ts : List Token) (a : List ℕ) → are_names (words_in (ts ++ then_tokens a)) ≡ are_names (words_in ts ++ (a ∷ []))
unfolding words_in
then_names ts a = ap are_names (words_app ts (then_tokens a)) ∙ go (words_in ts)
  where
    go : (xs : List (List ℕ)) → are_names (xs ++ (then_word ∷ a ∷ [])) ≡ are_names (xs ++ (a ∷ []))
    go [] = rw then_name
    go (x ∷ xs) = ap (λ (b : Bool). is_name (name_class x) && b) (go xs)

-- words of the house are taken in every kind
then_taken : (kind : Kind) → refused_name kind then_word ≡ false
unfolding allowed name_class is_common_name is_house
then_taken Plain = refl
then_taken Preference = refl

not_taken : (kind : Kind) → refused_name kind not_word ≡ false
unfolding allowed name_class is_common_name is_house
not_taken Plain = refl
not_taken Preference = refl

and_taken : (kind : Kind) → refused_name kind and_word ≡ false
unfolding allowed name_class is_common_name is_house
and_taken Plain = refl
and_taken Preference = refl

or_taken : (kind : Kind) → refused_name kind or_word ≡ false
unfolding allowed name_class is_common_name is_house
or_taken Plain = refl
or_taken Preference = refl

pub then_refused : (kind : Kind) (ts : List Token) (a : List ℕ) → some (refused_name kind) (words_in (ts ++ then_tokens a)) ≡ some (refused_name kind) (names_in ts ++ (a ∷ []))
unfolding words_in names_in sort_of
then_refused kind [] a = rw (then_taken kind)
then_refused kind (opening ∷ ts) a = then_refused kind ts a
then_refused kind (closing ∷ ts) a = then_refused kind ts a
then_refused kind (word x ∷ ts) a = go (same_bytes x not_word) (same_bytes x and_word) (same_bytes x or_word) refl refl refl (then_refused kind ts a)
  where
    same : (w : List ℕ) → same_bytes x w ≡ true → refused_name kind w ≡ false → refused_name kind x ≡ false
    same w e f = ap (refused_name kind) ((same_law x w).0 (subst T (sym e) tt)) ∙ f

    go : (b c d : Bool) → same_bytes x not_word ≡ b → same_bytes x and_word ≡ c → same_bytes x or_word ≡ d → some (refused_name kind) (words_in (ts ++ then_tokens a)) ≡ some (refused_name kind) (names_in ts ++ (a ∷ []))
        → (refused_name kind x || some (refused_name kind) (words_in (ts ++ then_tokens a))) ≡ some (refused_name kind) (by_sort (sort_of x) (names_in ts) (names_in ts) (names_in ts) (x ∷ names_in ts) ++ (a ∷ []))
    go true c d p q r h = rw (same not_word p (not_taken kind), p) h
    go false true d p q r h = rw (same and_word q (and_taken kind), p, q) h
    go false false true p q r h = rw (same or_word r (or_taken kind), p, q, r) h
    go false false false p q r h = rw (p, q, r) (ap (λ (b : Bool). refused_name kind x || b) h)
