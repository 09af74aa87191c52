-- `(then a))` by its places, and the condition in front of it.
use Prim.Native.Nat.{ℕ, ◌+◌, ◌≤◌}
use native.Mathlib.Omega.{arith}
use mathlib.Core.Path.{◌≡◌, refl, sym, ap, ap₂, ◌∙◌, subst}
use mathlib.Core.Bool.{Bool, true, false, cond}
use mathlib.Core.List.{List, [], ◌∷◌, ◌++◌}
use lib.ListN.{length, drop}
use Rattle.std.specs.Prelude.{Option, Some, None}
use Rattle.std.specs.Bool.{then_some}
use Rattle.kinds.specs.Words.{when_word, then_word}
use Rattle.kinds.specs.declared.limits.Kind.{Kind}
use Rattle.rules.specs.Lists.{some}
use Rattle.name_store.specs.NameStore.{same_bytes}
use Rattle.lines.specs.declared.scan.Item.{Item}
use Rattle.lines.specs.Tokens.{Token, opening, closing, word, tokens, leading, items}
use Rattle.lines.specs.Conditions.{words_in, pairs}
use Rattle.lines.specs.Forms.{LineForm, condition, broken, opened, opened_of, when_form, are_names, named}
use Rattle.lines.specs.Faults.{refused_name}
use Rattle.lines.specs.Shapes.{spaced, item_of, is_closing, is_closing_last, opens_with, ClosedSays, ClosedIs, OpenedSays, OpenedIs, then_tokens}
use Rattle.lines.proofs.TokenPlaces.{items_end, item_fits, word_is}
use Rattle.lines.proofs.ConditionLines.{when_form_lem, when_broken, then_names, then_refused}
use Rattle.condition_form.specs.declared.condition.Walk.{Walk}
use Rattle.condition_form.specs.declared.condition.Then.{Then}
use Rattle.condition_form.specs.ConditionForms.{between, one_form, from_last, Walked, WalkIs, ThenAt, ThenIs, ConditionAt}
use Rattle.condition_form.proofs.FormWalks.{one_pairs, last_then}

opened_tokens : (ts : List Token) {w : List ℕ} {us : List Token} → opened_of ts ≡ opened w us → ts ≡ opening ∷ word w ∷ us
unfolding opened_of
opened_tokens [] e = absurd (let z : ◌≡◌ {A = ℕ} 0 1 = cc in omega arith)
opened_tokens (opening ∷ []) e = absurd (let z : ◌≡◌ {A = ℕ} 0 1 = cc in omega arith)
opened_tokens (opening ∷ opening ∷ ts) e = absurd (let z : ◌≡◌ {A = ℕ} 0 1 = cc in omega arith)
opened_tokens (opening ∷ closing ∷ ts) e = absurd (let z : ◌≡◌ {A = ℕ} 0 1 = cc in omega arith)
opened_tokens (opening ∷ word x ∷ ts) {w} {us} e =
    let a : x ≡ w = cc in
    let b : ts ≡ us = cc in
    ap₂ (λ y l. opening ∷ word y ∷ l) a b
opened_tokens (closing ∷ ts) e = absurd (let z : ◌≡◌ {A = ℕ} 0 1 = cc in omega arith)
opened_tokens (word x ∷ ts) e = absurd (let z : ◌≡◌ {A = ℕ} 0 1 = cc in omega arith)

closed_last : (ts : List Token) → is_closing_last ts ≡ true → ts ≡ closing ∷ []
closed_last [] e = absurd (let z : ◌≡◌ {A = ℕ} 0 1 = cc in omega arith)
closed_last (opening ∷ ts) e = absurd (let z : ◌≡◌ {A = ℕ} 0 1 = cc in omega arith)
closed_last (closing ∷ []) e = refl
closed_last (closing ∷ t ∷ ts) e = absurd (let z : ◌≡◌ {A = ℕ} 0 1 = cc in omega arith)
closed_last (word x ∷ ts) e = absurd (let z : ◌≡◌ {A = ℕ} 0 1 = cc in omega arith)

-- behind `(then`
module _ (s : List ℕ) (at : ℕ) {q : Option ℕ} (o : OpenedIs s at then_word q) where
  pub no_then : q ≡ None → ThenIs s at None
  unfolding opened_of same_bytes
  no_then e =
      record {
        says = λ a f. (let n : opens_with then_word (opened_of (tokens (drop at s))) ≡ false = subst (OpenedSays s at then_word) e o.says in
            let y : true ≡ false = sym (ap (λ ts. opens_with then_word (opened_of ts)) f) ∙ n in
            let z : ◌≡◌ {A = ℕ} 0 1 = cc in omega arith);
      }

  module _ {p : ℕ} (e : q ≡ Some p) where
    opens : OpenedSays s at then_word (Some p)
    opens = subst (OpenedSays s at then_word) e o.says

    pub then_inside : p ≤ length s
    then_inside = opens.0.inside

    is : tokens (drop at s) ≡ opening ∷ word then_word ∷ tokens (drop p s)
    is = opened_tokens (tokens (drop at s)) opens.1

    rest_is : {a : List ℕ} → tokens (drop at s) ≡ then_tokens a → tokens (drop p s) ≡ word a ∷ closing ∷ closing ∷ []
    rest_is f = let g : opening ∷ word then_word ∷ tokens (drop p s) ≡ then_tokens _ = sym is ∙ f in cc

    module _ {r : Option Item} (i : r ≡ item_of (drop p s)) where
      pub no_name : r ≡ None → ThenIs s at None
      unfolding items
      no_name d =
          record {
            says = λ a f. (let n : leading (word a ∷ closing ∷ closing ∷ []) ≡ [] = sym (ap leading (rest_is f)) ∙ items_end s p i d in
                let z : ◌≡◌ {A = ℕ} 0 1 = cc in omega arith);
          }

      module _ {g n : ℕ} (d : r ≡ spaced g n) where
        pub name_fits : p + g + n ≤ length s
        name_fits = item_fits s p i d

        abbrev a : List ℕ
        a = between (p + g) (p + g + n) s

        named_there : tokens (drop p s) ≡ word a ∷ tokens (drop (p + g + n) s)
        named_there = word_is s p i d

        after_name : {b : List ℕ} → tokens (drop at s) ≡ then_tokens b → tokens (drop (p + g + n) s) ≡ closing ∷ closing ∷ []
        after_name f = let k : word a ∷ tokens (drop (p + g + n) s) ≡ word _ ∷ closing ∷ closing ∷ [] = sym named_there ∙ rest_is f in cc

        module _ {t : Option ℕ} (c : ClosedIs s (p + g + n) t) where
          pub no_close : t ≡ None → ThenIs s at None
          no_close u =
              record {
                says = λ b f. (let k : is_closing (tokens (drop (p + g + n) s)) ≡ false = subst (ClosedSays s (p + g + n)) u c.says in
                    let y : true ≡ false = sym (ap is_closing (after_name f)) ∙ k in
                    let z : ◌≡◌ {A = ℕ} 0 1 = cc in omega arith);
              }

          module _ {m : ℕ} (u : t ≡ Some m) where
            closes : ClosedSays s (p + g + n) (Some m)
            closes = subst (ClosedSays s (p + g + n)) u c.says

            pub close_inside : m ≤ length s
            close_inside = closes.0.inside

            module _ {b : Bool} (f : b ≡ is_closing_last (tokens (drop m s))) where
              then_there : b ≡ true → ThenIs s at (Some (record { start = p + g; end = p + g + n }))
              then_there v =
                  record {
                    says = record {
                      onward = omega arith;
                      inside = name_fits;
                      is =
                          is
                          ∙ ap (λ ts. opening ∷ word then_word ∷ ts) (named_there ∙ ap (λ ts. word a ∷ ts) (closes.1 ∙ ap (λ ts. closing ∷ ts) (closed_last (tokens (drop m s)) (sym f ∙ v))));
                    };
                  }

              then_early : b ≡ false → ThenIs s at None
              then_early v =
                  record {
                    says = λ x j. (let k : closing ∷ tokens (drop m s) ≡ closing ∷ closing ∷ [] = sym closes.1 ∙ after_name j in
                        let w : tokens (drop m s) ≡ closing ∷ [] = cc in
                        let y : false ≡ true = sym v ∙ f ∙ ap is_closing_last w in
                        let z : ◌≡◌ {A = ℕ} 0 1 = cc in omega arith);
                  }

              pub then_ends : ThenIs s at (then_some b (record { start = p + g; end = p + g + n }))
              then_ends = go b refl
                where
                  go : (x : Bool) → b ≡ x → ThenIs s at (then_some x (record { start = p + g; end = p + g + n }))
                  go true v = then_there v
                  go false v = then_early v

-- the line
pub not_opened : (l : List ℕ) {q : Option ℕ} → OpenedIs l 0 when_word q → q ≡ None → opens_with when_word (opened_of (tokens l)) ≡ true → {A : Type 0} → A
not_opened l o e t =
    let n : opens_with when_word (opened_of (tokens l)) ≡ false = subst (OpenedSays l 0 when_word) e o.says in
    let y : true ≡ false = sym t ∙ n in
    absurd (let z : ◌≡◌ {A = ℕ} 0 1 = cc in omega arith)

module _ {kind : Kind} {l : List ℕ} {f : LineForm} {from : ℕ} (g : f ≡ named (when_form (tokens (drop from l)))) where
  pub no_form_there : WalkIs kind l from None → f ≡ broken
  no_form_there w = g ∙ w.says

  module _ {v : Walk} (w : WalkIs kind l from (Some v)) where
    walked : Walked kind l from (tokens (drop from l)) v.last v.refused
    walked = w.says

    pub last_inside : v.last ≤ length l
    last_inside = walked.inside

    pub no_then_there : ThenIs l v.last None → f ≡ broken
    no_then_there t =
        g ∙ when_broken (tokens (drop from l)) (λ ts a k. absurd (t.says a (walked.at_last ∙ ap (from_last (tokens (drop from l))) k ∙ last_then (tokens (drop from l)) ts a)))

    module _ {u : Then} (t : ThenIs l v.last (Some u)) where
      then_at : ThenAt l v.last u.start u.end
      then_at = t.says

      abbrev ts : List Token
      ts = tokens (between from v.last l)

      abbrev goal : List ℕ
      goal = between u.start u.end l

      all : tokens (drop from l) ≡ ts ++ then_tokens goal
      all = walked.cut ∙ ap (λ us. ts ++ us) then_at.is

      paired : pairs 0 ts ≡ true
      paired = sym (one_pairs 0 ts goal) ∙ ap (one_form 0) (sym all) ∙ walked.one

      are_names_lem : are_names (words_in ts ++ (goal ∷ [])) ≡ true
      are_names_lem = sym (then_names ts goal) ∙ ap (λ us. are_names (words_in us)) (sym all) ∙ walked.are_names_lem

      pub condition_there : ConditionAt kind l f (record { from = from; to = v.last; start = u.start; end = u.end; refused = v.refused })
      condition_there =
          record {
            onward = walked.onward;
            inside = walked.inside;
            name_onward = then_at.onward;
            name_inside = then_at.inside;
            form =
                g
                ∙ ap named (when_form_lem (tokens (drop from l)) ts goal all ∙ ap (λ (b : Bool). cond b (condition ts goal) broken) paired)
                ∙ ap (λ (b : Bool). cond b (condition ts goal) broken) are_names_lem;
            paired = paired;
            is_refused = walked.is_refused ∙ ap (λ us. some (refused_name kind) (words_in us)) all ∙ then_refused kind ts goal;
          }
