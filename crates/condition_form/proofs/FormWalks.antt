-- The walk over a form behind `(when`: a turn of it, and what its end says.
use Prim.Native.Nat.{ℕ, zero, suc, ◌+◌, ◌-◌, ◌≤◌, ◌<◌, zero-le}
use native.Mathlib.Numerals.{add-one}
use native.Mathlib.Omega.{arith}
use mathlib.Core.Path.{◌≡◌, refl, sym, ap, ap₂, ◌∙◌, subst}
use mathlib.Core.Logic.{⊎_elim}
use mathlib.Core.Bool.{Bool, true, false, cond, ◌&&◌, ◌||◌}
use mathlib.Core.List.{List, [], ◌∷◌, ◌++◌}
use lib.ListN.{length, take, drop}
use lib.Seq.{drop-drop}
use Rattle.std.specs.Prelude.{Some, None}
use Rattle.std.specs.Bool.{then_some}
use Rattle.kinds.specs.Words.{open_bracket, close_bracket}
use Rattle.kinds.specs.declared.limits.Kind.{Kind}
use Rattle.names.specs.Names.{name_class, allowed}
use Rattle.rules.specs.Lists.{some, is_empty}
use Rattle.rules.proofs.Booleans.{or_assoc, or-true, or-false}
use Rattle.lines.specs.declared.forms.NameFit.{NameFit}
use Rattle.lines.specs.declared.forms.NameFit.TheVariants as Fit
use Rattle.lines.specs.Tokens.{Token, opening, closing, word, run, tokens_from, tokens}
use Rattle.lines.specs.Conditions.{words_in, pairs}
use Rattle.lines.specs.Forms.{condition, broken, when_form, is_name, are_names, named}
use Rattle.lines.specs.Faults.{refused_name}
use Rattle.lines.specs.Shapes.{ByteBehind, then_tokens}
use Rattle.lines.proofs.TokenPlaces.{item_fits, item_long, item, word_is}
use Rattle.lines.proofs.TokenCuts.{reach, tokens_cut, from_there, opening_is, closing_is, reach_before, reach_behind, no_run, reach_word}
use Rattle.lines.proofs.NameLists.{fit_says}
use Rattle.lines.proofs.ConditionLines.{when_broken, then_names}
use Rattle.condition_form.specs.declared.condition.Standing.{Standing}
use Rattle.condition_form.specs.ConditionForms.{between, WordUpTo, StandingSays, StandingIs, one_form, from_last, WalkIs}

-- a form that ends with `(then a))`

not_empty : (ts : List Token) (a : List ℕ) → is_empty (ts ++ then_tokens a) ≡ false
not_empty [] a = refl
not_empty (t ∷ ts) a = refl

-- what stands in front of it has brackets that pair
pub one_pairs : (d : ℕ) (ts : List Token) (a : List ℕ) → one_form d (ts ++ then_tokens a) ≡ pairs d ts
unfolding one_form pairs
one_pairs zero [] a = refl
one_pairs (suc d) [] a = refl
one_pairs d (opening ∷ ts) a = one_pairs (suc d) ts a
one_pairs zero (closing ∷ ts) a = not_empty ts a
one_pairs (suc d) (closing ∷ ts) a = one_pairs d ts a
one_pairs d (word x ∷ ts) a = one_pairs d ts a

-- and it stands at the last opening bracket
pub last_then : (others ts : List Token) (a : List ℕ) → from_last others (ts ++ then_tokens a) ≡ then_tokens a
unfolding from_last
last_then others [] a = refl
last_then others (opening ∷ ts) a = last_then (opening ∷ (ts ++ then_tokens a)) ts a
last_then others (closing ∷ ts) a = last_then others ts a
last_then others (word x ∷ ts) a = last_then others ts a

no_form : (us : List Token) → one_form 0 us ≡ false → named (when_form us) ≡ broken
no_form us e = when_broken us (λ ts a f. ap (λ (b : Bool). named (cond b (condition ts a) broken)) (sym (one_pairs 0 ts a) ∙ ap (one_form 0) (sym f) ∙ e))

no_names : (us : List Token) → are_names (words_in us) ≡ false → named (when_form us) ≡ broken
no_names us e = when_broken us (λ ts a f. go ts a (pairs 0 ts) (sym (then_names ts a) ∙ ap (λ l. are_names (words_in l)) (sym f) ∙ e))
  where
    go : (ts : List Token) (a : List ℕ) (b : Bool) → are_names (words_in ts ++ (a ∷ [])) ≡ false → named (cond b (condition ts a) broken) ≡ broken
    go ts a true n = ap (λ (b : Bool). cond b (condition ts a) broken) n
    go ts a false n = refl

-- all before `at` is passed, the last opening bracket at `last`
pub record Walking (kind : Kind) (l : List ℕ) (from at last depth : ℕ) (refused : Bool) : Type 0 where
  pub inside : at ≤ length l
  pub onward : from ≤ last
  pub passed : last ≤ at
  pub few : depth ≤ at
  pub reached : at + reach (drop at l) ≡ from + reach (drop from l)
  pub cut : tokens (drop from l) ≡ tokens (between from last l) ++ tokens (drop last l)
  pub at_last : from_last (tokens (drop last l)) (tokens (drop at l)) ≡ from_last (tokens (drop from l)) (tokens (drop from l))
  pub one : one_form depth (tokens (drop at l)) ≡ one_form 0 (tokens (drop from l))
  pub naming : are_names (words_in (tokens (drop at l))) ≡ are_names (words_in (tokens (drop from l)))
  pub refusing : (refused || some (refused_name kind) (words_in (tokens (drop at l)))) ≡ some (refused_name kind) (words_in (tokens (drop from l)))

pub walking : (kind : Kind) (l : List ℕ) (from : ℕ) → from ≤ length l → Walking kind l from from from 0 false
unfolding tokens tokens_from
walking kind l from h =
    let none : 0 ≡ from - from = omega arith in
    record {
      inside = h;
      onward = omega arith;
      passed = omega arith;
      few = zero-le;
      reached = refl;
      cut = ap (λ (k : ℕ). tokens (take k (drop from l)) ++ tokens (drop from l)) none;
      at_last = refl;
      one = refl;
      naming = refl;
      refusing = refl;
    }

module _ {kind : Kind} {l : List ℕ} {from at last depth : ℕ} {refused : Bool} (h : Walking kind l from at last depth refused) where
  pub walk_stops : StandingIs kind l at None → WalkIs kind l from None
  unfolding one_form
  walk_stops s =
      ⊎_elim
      (λ n. record { says = no_form (tokens (drop from l)) (sym h.one ∙ ap (one_form depth) n) })
      (λ n. record { says = no_names (tokens (drop from l)) (sym h.naming ∙ n) })
      s.says

module _ {kind : Kind} {l : List ℕ} {from at last depth : ℕ} {refused : Bool} (h : Walking kind l from at last depth refused) {r : Standing} (s : StandingIs kind l at (Some r)) where
  module _ {p : ℕ} (e : r ≡ Standing.Opening p) where
    opens : ByteBehind l at open_bracket p
    opens = subst (λ x. StandingSays kind l at (Some x)) e s.says

    pub open_inside : p + 1 ≤ length l
    open_inside = omega (arith, opens.inside)

    pub open_onward : at < p + 1
    open_onward = omega (arith, opens.place)

    is : tokens (drop at l) ≡ opening ∷ tokens (drop (p + 1) l)
    is = opening_is opens refl

    pub walk_opening : Walking kind l from (p + 1) p (depth + 1) refused
    unfolding from_last one_form words_in
    walk_opening =
        let before : at ≤ p = omega (arith, opens.place) in
        let size : from + (p - from) ≡ p = omega (arith, h.onward, h.passed) in
        let there : drop (p - from) (drop from l) ≡ drop p l = drop-drop (p - from) from l ∙ ap (λ (k : ℕ). drop k l) size in
        let far : p - from ≤ reach (drop from l) = omega (arith, h.reached, reach_before opens) in
        record {
          inside = open_inside;
          onward = omega (arith, h.onward, h.passed);
          passed = omega arith;
          few = omega (arith, h.few);
          reached = omega (arith, h.reached, reach_before opens, reach_behind opens refl);
          cut = tokens_cut (p - from) (drop from l) far (ap run there ∙ no_run opens refl) ∙ ap (λ t. tokens (between from p l) ++ tokens t) there;
          at_last = ap (λ t. from_last t (tokens (drop (p + 1) l))) (sym (from_there opens) ∙ is) ∙ ap (from_last (tokens (drop last l))) (sym is) ∙ h.at_last;
          one = ap (λ (k : ℕ). one_form k (tokens (drop (p + 1) l))) (add-one depth) ∙ ap (one_form depth) (sym is) ∙ h.one;
          naming = ap (λ ts. are_names (words_in ts)) (sym is) ∙ h.naming;
          refusing = ap (λ ts. refused || some (refused_name kind) (words_in ts)) (sym is) ∙ h.refusing;
        }

  module _ {p : ℕ} (e : r ≡ Standing.Closing p) where
    closes : ByteBehind l at close_bracket p
    closes = subst (λ x. StandingSays kind l at (Some x)) e s.says

    pub close_inside : p + 1 ≤ length l
    close_inside = omega (arith, closes.inside)

    pub close_onward : at < p + 1
    close_onward = omega (arith, closes.place)

    closed : tokens (drop at l) ≡ closing ∷ tokens (drop (p + 1) l)
    closed = closing_is closes refl

    pub walk_closing : 1 ≤ depth → Walking kind l from (p + 1) last (depth - 1) refused
    unfolding from_last one_form words_in
    walk_closing d =
        let before : at ≤ p = omega (arith, closes.place) in
        let more : suc (depth - 1) ≡ depth = omega arith in
        record {
          inside = close_inside;
          onward = h.onward;
          passed = omega (arith, h.passed);
          few = omega (arith, h.few);
          reached = omega (arith, h.reached, reach_before closes, reach_behind closes refl);
          cut = h.cut;
          at_last = ap (from_last (tokens (drop last l))) (sym closed) ∙ h.at_last;
          one = ap₂ one_form more (sym closed) ∙ h.one;
          naming = ap (λ ts. are_names (words_in ts)) (sym closed) ∙ h.naming;
          refusing = ap (λ ts. refused || some (refused_name kind) (words_in ts)) (sym closed) ∙ h.refusing;
        }

    -- the form's own closing bracket
    module _ (d : depth ≡ 0) {b : Bool} (f : b ≡ is_empty (tokens (drop (p + 1) l))) where
      ends : one_form 0 (tokens (drop from l)) ≡ b
      unfolding one_form
      ends = sym h.one ∙ ap₂ one_form d closed ∙ sym f

      form_ends : b ≡ true → WalkIs kind l from (Some (record { last = last; refused = refused }))
      unfolding from_last words_in
      form_ends t =
          let all : tokens (drop at l) ≡ closing ∷ [] = closed ∙ ap (λ ts. closing ∷ ts) (none (tokens (drop (p + 1) l)) (sym f ∙ t)) in
          record {
            says = record {
              onward = h.onward;
              inside = omega (arith, h.passed, h.inside);
              cut = h.cut;
              at_last = ap (from_last (tokens (drop last l))) (sym all) ∙ h.at_last;
              one = ends ∙ t;
              are_names_lem = sym h.naming ∙ ap (λ ts. are_names (words_in ts)) all;
              is_refused = sym (or-false refused) ∙ ap (λ ts. refused || some (refused_name kind) (words_in ts)) (sym all) ∙ h.refusing;
            };
          }
        where
          none : (ts : List Token) → is_empty ts ≡ true → ts ≡ []
          none [] n = refl
          none (t ∷ ts) n = absurd (let z : ◌≡◌ {A = ℕ} 0 1 = cc in omega arith)

      form_ends_early : b ≡ false → WalkIs kind l from None
      form_ends_early t = record { says = no_form (tokens (drop from l)) (ends ∙ t) }

      pub form_closes : WalkIs kind l from (then_some b (record { last = last; refused = refused }))
      form_closes = go b refl
        where
          go : (x : Bool) → b ≡ x → WalkIs kind l from (then_some x (record { last = last; refused = refused }))
          go true t = form_ends t
          go false t = form_ends_early t

  -- a name
  module _ {to : ℕ} {fit : NameFit} (w : WordUpTo kind l at to fit) where
    abbrev x : List ℕ
    x = item l at refl w.item

    word_there : tokens (drop at l) ≡ word x ∷ tokens (drop to l)
    word_there = word_is l at refl w.item ∙ ap (λ (k : ℕ). word x ∷ tokens (drop k l)) (sym w.place)

    up_to : to ≤ length l
    up_to = omega (arith, w.place, item_fits l at refl w.item)

    farther : at < to
    farther = omega (arith, w.place, item_long l at refl w.item)

    walk_name : is_name (name_class x) ≡ true → {b : Bool} → b ≡ (refused || refused_name kind x) → Walking kind l from to last depth b
    unfolding from_last one_form words_in
    walk_name n {b} f =
        record {
          inside = up_to;
          onward = h.onward;
          passed = omega (arith, h.passed, farther);
          few = omega (arith, h.few, farther);
          reached = ap (λ (k : ℕ). k + reach (drop k l)) w.place ∙ sym (reach_word l at w.item) ∙ h.reached;
          cut = h.cut;
          at_last = ap (from_last (tokens (drop last l))) (sym word_there) ∙ h.at_last;
          one = ap (one_form depth) (sym word_there) ∙ h.one;
          naming = ap (λ (y : Bool). y && are_names (words_in (tokens (drop to l)))) (sym n) ∙ ap (λ ts. are_names (words_in ts)) (sym word_there) ∙ h.naming;
          refusing =
              ap (λ (y : Bool). y || some (refused_name kind) (words_in (tokens (drop to l)))) f
              ∙ sym (or_assoc refused (refused_name kind x) (some (refused_name kind) (words_in (tokens (drop to l)))))
              ∙ ap (λ ts. refused || some (refused_name kind) (words_in ts)) (sym word_there)
              ∙ h.refusing;
        }

  module _ {to : ℕ} (e : r ≡ Standing.Taken to) where
    taken : WordUpTo kind l at to Fit.Taken
    taken = subst (λ x. StandingSays kind l at (Some x)) e s.says

    pub taken_inside : to ≤ length l
    taken_inside = up_to taken

    pub taken_onward : at < to
    taken_onward = farther taken

    pub walk_taken : Walking kind l from to last depth refused
    unfolding allowed
    walk_taken = let t = fit_says kind (x taken) (sym taken.fits) refl in walk_name taken t.0 (sym (ap (λ (y : Bool). refused || y) t.1 ∙ or-false refused))

  module _ {to : ℕ} (e : r ≡ Standing.Refused to) where
    turned : WordUpTo kind l at to Fit.Refused
    turned = subst (λ x. StandingSays kind l at (Some x)) e s.says

    pub refused_inside : to ≤ length l
    refused_inside = up_to turned

    pub refused_onward : at < to
    refused_onward = farther turned

    pub walk_refused : Walking kind l from to last depth true
    unfolding allowed
    walk_refused = let t = fit_says kind (x turned) (sym turned.fits) refl in walk_name turned t.0 (sym (ap (λ (y : Bool). refused || y) t.1 ∙ or-true refused))
