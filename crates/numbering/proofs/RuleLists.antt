-- The three lists of a rule to numbers, one after another.
use Rattle.std.specs.Prelude.{Option, Some, None}
use Prim.Native.Nat.{ℕ, ◌+◌, ◌-◌, ◌≤◌}
use native.Mathlib.Omega.{arith}
use mathlib.Core.Path.{◌≡◌, refl, sym, ap, ◌∙◌, subst}
use mathlib.Core.Bool.{Bool, true, false, not, cond, ◌||◌}
use mathlib.Core.List.{List, [], ◌∷◌}
use lib.ListN.{length, drop, length-map}
use borrow.Author.Tests.{not-true, not-false}
use Rattle.kinds.specs.Words.{atoms_word, min_word, vary_word, fix_word, rule_word, head_word, body_word, not_word, when_word}
use Rattle.rules.proofs.Booleans.{or-true}
use Rattle.output.proofs.Emitting.{then}
use Rattle.name_store.specs.NameStore.{same_bytes}
use Rattle.lines.specs.Lines.{is_ended}
use Rattle.lines.specs.Tokens.{Token, tokens, items}
use Rattle.lines.specs.Forms.{Word, atoms, min, vary, fix, LineForm, declares, rules, condition, broken, Opened, opened, unopened, opened_of, Split, split, none, split_names, split_list, on_split, lastly, closed_lastly, declared_form, rule_form, Conditional, conditional, unconditional, split_then, paired_form, when_form, opened_form, token_form, typed_form}
use Rattle.lines.specs.Conditions.{pairs}
use Rattle.lines.specs.Faults.{name_number}
use Rattle.lines.specs.Shapes.{is_closing_last, opens_with, OpenedSays, OpenedIs}
use Rattle.lines.proofs.TokenPlaces.{items_few}
use Rattle.lines.proofs.NameLists.{opened_list, unopened_list}
use Rattle.lines.proofs.LineShapes.{closed_form}
use Rattle.numbering.specs.declared.numbers.Numbers.{Numbers}
use Rattle.numbering.specs.declared.numbers.RuleCounts.{RuleCounts}
use Rattle.numbering.specs.Numbers.{undeclared, ListNumbered, NumbersSay, NumbersAre, ListsNumbered, NoRule, ListsSay, ListsAre, RuleIs}

-- the answer for one list
module _ {names : List (List ℕ)} {s : List ℕ} {from stamp : ℕ} {before : List ℕ} {at : ℕ} {marks after : List ℕ} {r : Option Numbers} (h : NumbersAre names s from stamp before at marks after r) where
  pub list_numbered : {n : Numbers} → r ≡ Some n → ListNumbered names s from stamp before at marks after n.place n.end n.twice
  list_numbered e = subst (NumbersSay names s from stamp before at marks after) e h.says

  pub list_otherwise : r ≡ None → (xs : List (List ℕ)) (rest : List Token) → split_names (tokens (drop from s)) ≡ split xs rest → undeclared names xs ≡ true
  list_otherwise e = subst (NumbersSay names s from stamp before at marks after) e h.says

-- the place after a list is a number that the code can hold
pub list_end : {names : List (List ℕ)} {s : List ℕ} {from stamp : ℕ} {d : List ℕ} {at : ℕ} {m d₁ : List ℕ} {place end : ℕ} {t : Bool} → ListNumbered names s from stamp d at m d₁ place end t → (at ≤ end) × (end ≤ at + length s)
list_end {names} {s} {from} h =
    let w = h.numbered.written.place in
    (omega (arith, length-map (items (drop from s)) (name_number names)), omega (arith, length-map (items (drop from s)) (name_number names), items_few s from))

-- no list there, or one with a name that is not declared
abbrev NoList : List (List ℕ) → List ℕ → List Token → Type 0
NoList names w ts = (xs : List (List ℕ)) (rest : List Token) → split_list w ts ≡ split xs rest → undeclared names xs ≡ true

module _ (names : List (List ℕ)) (w s : List ℕ) (at : ℕ) {q : Option ℕ} (o : OpenedIs s at w q) where
  pub no_list : q ≡ None → NoList names w (tokens (drop at s))
  no_list e xs rest i = absurd (let j : none ≡ split xs rest = sym (unopened_list w s at o e) ∙ i in let z : ◌≡◌ {A = ℕ} 0 1 = cc in omega arith)

  pub no_numbers : {p : ℕ} → q ≡ Some p → ((xs : List (List ℕ)) (rest : List Token) → split_names (tokens (drop p s)) ≡ split xs rest → undeclared names xs ≡ true) → NoList names w (tokens (drop at s))
  no_numbers e n xs rest i = n xs rest (sym (opened_list w s at o e) ∙ i)

-- a rule's form has a list in each place
has_list : {p : Split} {f : List (List ℕ) → List Token → LineForm} {hs bs ns : List (List ℕ)} → on_split p f ≡ rules hs bs ns → (xs : List (List ℕ)) × (rest : List Token) × (p ≡ split xs rest) × (f xs rest ≡ rules hs bs ns)
has_list {p} {f} {hs} {bs} {ns} e = go p e
  where
    go : (q : Split) → on_split q f ≡ rules hs bs ns → (xs : List (List ℕ)) × (rest : List Token) × (q ≡ split xs rest) × (f xs rest ≡ rules hs bs ns)
    go (split xs rest) e = (xs, rest, refl, e)
    go none e = absurd (let z : ◌≡◌ {A = ℕ} 0 1 = cc in omega arith)

closed_rule : (rest : List Token) {hs bs ns hs' bs' ns' : List (List ℕ)} → closed_lastly rest (rules hs bs ns) ≡ rules hs' bs' ns' → (hs ≡ hs') × (bs ≡ bs') × (ns ≡ ns')
closed_rule rest {hs} {bs} {ns} {hs'} {bs'} {ns'} e = go (is_closing_last rest) (sym (closed_form rest (rules hs bs ns) refl) ∙ e)
  where
    go : (b : Bool) → cond b (rules hs bs ns) broken ≡ rules hs' bs' ns' → (hs ≡ hs') × (bs ≡ bs') × (ns ≡ ns')
    go true e = (cc, cc, cc)
    go false e = absurd (let z : ◌≡◌ {A = ℕ} 0 1 = cc in omega arith)

-- the lists of a rule, where they stand
record Parts (ts : List Token) (hs bs ns : List (List ℕ)) : Type 0 where
  behind_head_lem : List Token
  behind_body_lem : List Token
  behind_not : List Token
  in_head : split_list head_word ts ≡ split hs behind_head_lem
  in_body : split_list body_word behind_head_lem ≡ split bs behind_body_lem
  in_not : split_list not_word behind_body_lem ≡ split ns behind_not

parts : (ts : List Token) (hs bs ns : List (List ℕ)) → rule_form ts ≡ rules hs bs ns → Parts ts hs bs ns
unfolding rule_form
parts ts hs bs ns e =
    let h = has_list e in
    let b = has_list h.3 in
    let n = has_list b.3 in
    let same = closed_rule n.1 n.3 in
    record {
      behind_head_lem = h.1;
      behind_body_lem = b.1;
      behind_not = n.1;
      in_head = h.2 ∙ ap (λ xs. split xs h.1) same.0;
      in_body = b.2 ∙ ap (λ xs. split xs b.1) same.1;
      in_not = n.2 ∙ ap (λ xs. split xs n.1) same.2;
    }

same_rest : {xs ys : List (List ℕ)} {r t : List Token} → split xs r ≡ split ys t → r ≡ t
same_rest e = cc

module _ (names : List (List ℕ)) (ts : List Token) where
  head_otherwise : NoList names head_word ts → NoRule names (rule_form ts)
  head_otherwise n hs bs ns e = let p = parts ts hs bs ns e in rw (n hs p.behind_head_lem p.in_head)

  module _ {hs : List (List ℕ)} {r : List Token} (h : split_list head_word ts ≡ split hs r) where
    body_otherwise : NoList names body_word r → NoRule names (rule_form ts)
    body_otherwise n hs' bs ns e =
        let p = parts ts hs' bs ns e in
        let same : p.behind_head_lem ≡ r = same_rest (sym p.in_head ∙ h) in
        rw (n bs p.behind_body_lem (ap (split_list body_word) (sym same) ∙ p.in_body)) (or-true (undeclared names hs'))

    module _ {bs : List (List ℕ)} {t : List Token} (b : split_list body_word r ≡ split bs t) where
      not_otherwise : NoList names not_word t → NoRule names (rule_form ts)
      not_otherwise n hs' bs' ns e =
          let p = parts ts hs' bs' ns e in
          let same : p.behind_head_lem ≡ r = same_rest (sym p.in_head ∙ h) in
          let also : p.behind_body_lem ≡ t = same_rest (sym p.in_body ∙ ap (split_list body_word) same ∙ b) in
          rw (n ns p.behind_not (ap (split_list not_word) (sym also) ∙ p.in_not)) (rw (or-true (undeclared names bs')) (or-true (undeclared names hs')))

-- a list behind its bracket and word
module _ {names : List (List ℕ)} {s : List ℕ} {at from stamp : ℕ} {d : List ℕ} {start : ℕ} {m e : List ℕ} {place end : ℕ} {t : Bool} (w : List ℕ) {q : Option ℕ} (o : OpenedIs s at w q) (g : q ≡ Some from) (l : ListNumbered names s from stamp d start m e place end t) where
  pub cut : split_list w (tokens (drop at s)) ≡ split (items (drop from s)) (tokens (drop place s))
  cut = opened_list w s at o g ∙ l.cuts

module _ (names : List (List ℕ)) (s : List ℕ) (from stamp : ℕ) (before : List ℕ) (at : ℕ) where
  abbrev Answered : List ℕ → List ℕ → Option RuleCounts → Type 0
  Answered marks after r = ListsAre names s from stamp before at marks after r

  module _ {oh : Option ℕ} (h₀ : OpenedIs s from head_word oh) where
    pub no_head : oh ≡ None → (marks after : List ℕ) → Answered marks after None
    no_head e marks after = record { says = head_otherwise names (tokens (drop from s)) (no_list names head_word s from h₀ e) }

    module _ {head : ℕ} (h₁ : oh ≡ Some head) where
      pub head_not_numbered : {m d : List ℕ} {r : Option Numbers} → NumbersAre names s head stamp before at m d r → r ≡ None → Answered m d None
      head_not_numbered n e = record { says = head_otherwise names (tokens (drop from s)) (no_numbers names head_word s from h₀ h₁ (list_otherwise n e)) }

      module _ {m₁ d₁ : List ℕ} {hp he : ℕ} {ht : Bool} (h : ListNumbered names s head stamp before at m₁ d₁ hp he ht) {ob : Option ℕ} (b₀ : OpenedIs s hp body_word ob) where
        pub no_body : ob ≡ None → Answered m₁ d₁ None
        no_body e = record { says = body_otherwise names (tokens (drop from s)) (cut head_word h₀ h₁ h) (no_list names body_word s hp b₀ e) }

        module _ {body : ℕ} (b₁ : ob ≡ Some body) where
          pub body_not_numbered : {m d : List ℕ} {r : Option Numbers} → NumbersAre names s body (stamp + 1) d₁ he m d r → r ≡ None → Answered m d None
          body_not_numbered n e = record { says = body_otherwise names (tokens (drop from s)) (cut head_word h₀ h₁ h) (no_numbers names body_word s hp b₀ b₁ (list_otherwise n e)) }

          module _ {m₂ d₂ : List ℕ} {bp be : ℕ} {bt : Bool} (b : ListNumbered names s body (stamp + 1) d₁ he m₂ d₂ bp be bt) {on : Option ℕ} (n₀ : OpenedIs s bp not_word on) where
            pub no_not : on ≡ None → Answered m₂ d₂ None
            no_not e = record { says = not_otherwise names (tokens (drop from s)) (cut head_word h₀ h₁ h) (cut body_word b₀ b₁ b) (no_list names not_word s bp n₀ e) }

            module _ {nots : ℕ} (n₁ : on ≡ Some nots) where
              pub not_not_numbered : {m d : List ℕ} {r : Option Numbers} → NumbersAre names s nots (stamp + 2) d₂ be m d r → r ≡ None → Answered m d None
              not_not_numbered n e = record { says = not_otherwise names (tokens (drop from s)) (cut head_word h₀ h₁ h) (cut body_word b₀ b₁ b) (no_numbers names not_word s bp n₀ n₁ (list_otherwise n e)) }

              module _ {m₃ d₃ : List ℕ} {np ne : ℕ} {nt : Bool} (n : ListNumbered names s nots (stamp + 2) d₂ be m₃ d₃ np ne nt) where
                pub three_lists : {twice : Bool} → twice ≡ (ht || (bt || nt)) → Answered m₃ d₃ (Some (record { place = np; heads = he - at; bodies = be - he; nots = ne - be; end = ne; twice = twice }))
                unfolding rule_form
                three_lists {twice} e =
                    let hs = items (drop head s) in
                    let bs = items (drop body s) in
                    let ns = items (drop nots s) in
                    record {
                      says = record {
                        heads = hs;
                        bodies = bs;
                        nots = ns;
                        form =
                            ap (λ p. on_split p (λ hs r. on_split (split_list body_word r) (λ bs t. on_split (split_list not_word t) (λ ns rest. closed_lastly rest (rules hs bs ns))))) (cut head_word h₀ h₁ h)
                            ∙ ap (λ p. on_split p (λ bs t. on_split (split_list not_word t) (λ ns rest. closed_lastly rest (rules hs bs ns)))) (cut body_word b₀ b₁ b)
                            ∙ ap (λ p. on_split p (λ ns rest. closed_lastly rest (rules hs bs ns))) (cut not_word n₀ n₁ n);
                        inside = n.inside;
                        few = omega (arith, list_end h, list_end b, list_end n);
                        numbered = record {
                          declared = rw (h.numbered.declared, b.numbered.declared, n.numbered.declared);
                          is_twice = e ∙ (λ i. h.numbered.is_twice i || (b.numbered.is_twice i || n.numbered.is_twice i));
                          written = then h.numbered.written (then b.numbered.written n.numbered.written);
                          below = record { mark = λ a. omega (arith, n.numbered.below.mark a) };
                          is_heads = omega (arith, h.numbered.written.place, length-map hs (name_number names));
                          is_bodies = omega (arith, b.numbered.written.place, length-map bs (name_number names));
                          is_nots = omega (arith, n.numbered.written.place, length-map ns (name_number names));
                        };
                      };
                    }

-- a rule's line

unopened_none : opened_of [] ≡ unopened
unfolding opened_of
unopened_none = refl

rule_opened : (l : List ℕ) {q : Option ℕ} → OpenedIs l 0 rule_word q → {p : ℕ} → q ≡ Some p → typed_form l ≡ cond (is_ended l) (rule_form (tokens (drop p l))) broken
unfolding typed_form token_form same_bytes
rule_opened l {q} o {p} e = ap (λ f. cond (is_ended l) f broken) (go (tokens l) (subst (OpenedSays l 0 rule_word) e o.says).1)
  where
    go : (ts : List Token) → opened_of ts ≡ opened rule_word (tokens (drop p l)) → token_form ts ≡ rule_form (tokens (drop p l))
    go [] i = absurd (let z : unopened ≡ opened rule_word (tokens (drop p l)) = sym unopened_none ∙ i in let y : ◌≡◌ {A = ℕ} 0 1 = cc in omega arith)
    go (t ∷ ts) i = ap opened_form i

module _ (names : List (List ℕ)) (l : List ℕ) (stamp : ℕ) (before : List ℕ) (at : ℕ) {q : Option ℕ} (o : OpenedIs l 0 rule_word q) where
  pub not_rule : q ≡ None → (marks after : List ℕ) → RuleIs names l stamp before at marks after None
  unfolding typed_form token_form declared_form when_form
  not_rule e marks after = record { says = λ hs bs ns i. absurd (go (is_ended l) (tokens l) (subst (OpenedSays l 0 rule_word) e o.says) i) }
    where
      declared : (p : Split) (f : List (List ℕ) → List Token → LineForm) {hs bs ns : List (List ℕ)} → ((xs : List (List ℕ)) (rest : List Token) → f xs rest ≡ rules hs bs ns → ⊥) → on_split p f ≡ rules hs bs ns → ⊥
      declared (split xs rest) f n i = n xs rest i
      declared none f n i = let z : ◌≡◌ {A = ℕ} 0 1 = cc in omega arith

      last : (rest : List Token) (w : Word) (xs : List (List ℕ)) {hs bs ns : List (List ℕ)} → lastly rest (declares w xs) ≡ rules hs bs ns → ⊥
      last [] w xs i = let z : ◌≡◌ {A = ℕ} 0 1 = cc in omega arith
      last (t ∷ rest) w xs i = let z : ◌≡◌ {A = ℕ} 0 1 = cc in omega arith

      no_when : (p : Conditional) {hs bs ns : List (List ℕ)} → paired_form p ≡ rules hs bs ns → ⊥
      no_when (conditional us x) i = paired (pairs 0 us) i
        where
          paired : (b : Bool) {hs bs ns : List (List ℕ)} → cond b (condition us x) broken ≡ rules hs bs ns → ⊥
          paired true i = let z : ◌≡◌ {A = ℕ} 0 1 = cc in omega arith
          paired false i = let z : ◌≡◌ {A = ℕ} 0 1 = cc in omega arith
      no_when unconditional i = let z : ◌≡◌ {A = ℕ} 0 1 = cc in omega arith

      none_of : (a b c d g : Bool) (ts : List Token) {hs bs ns : List (List ℕ)} → cond a (declared_form atoms ts) (cond b (declared_form min ts) (cond c (declared_form vary ts) (cond d (declared_form fix ts) (cond g (when_form ts) broken)))) ≡ rules hs bs ns → ⊥
      none_of true b c d g ts i = declared (split_names ts) (λ xs rest. lastly rest (declares atoms xs)) (λ xs rest. last rest atoms xs) i
      none_of false true c d g ts i = declared (split_names ts) (λ xs rest. lastly rest (declares min xs)) (λ xs rest. last rest min xs) i
      none_of false false true d g ts i = declared (split_names ts) (λ xs rest. lastly rest (declares vary xs)) (λ xs rest. last rest vary xs) i
      none_of false false false true g ts i = declared (split_names ts) (λ xs rest. lastly rest (declares fix xs)) (λ xs rest. last rest fix xs) i
      none_of false false false false true ts i = no_when (split_then ts) i
      none_of false false false false false ts i = let z : ◌≡◌ {A = ℕ} 0 1 = cc in omega arith

      other : (t : Opened) {hs bs ns : List (List ℕ)} → opens_with rule_word t ≡ false → opened_form t ≡ rules hs bs ns → ⊥
      other (opened x ts) n i =
          none_of (same_bytes x atoms_word) (same_bytes x min_word) (same_bytes x vary_word) (same_bytes x fix_word) (same_bytes x when_word) ts
          (ap (λ (c : Bool). cond (same_bytes x atoms_word) (declared_form atoms ts) (cond (same_bytes x min_word) (declared_form min ts) (cond (same_bytes x vary_word) (declared_form vary ts) (cond (same_bytes x fix_word) (declared_form fix ts) (cond c (rule_form ts) (cond (same_bytes x when_word) (when_form ts) broken)))))) (sym n) ∙ i)
      other unopened n i = let z : ◌≡◌ {A = ℕ} 0 1 = cc in omega arith

      go : (b : Bool) (ts : List Token) {hs bs ns : List (List ℕ)} → opens_with rule_word (opened_of ts) ≡ false → cond b (token_form ts) broken ≡ rules hs bs ns → ⊥
      go false ts n i = let z : ◌≡◌ {A = ℕ} 0 1 = cc in omega arith
      go true [] n i = let z : ◌≡◌ {A = ℕ} 0 1 = cc in omega arith
      go true (t ∷ ts) n i = other (opened_of (t ∷ ts)) n i

  module _ {p : ℕ} (e : q ≡ Some p) where
    form_is : typed_form l ≡ cond (is_ended l) (rule_form (tokens (drop p l))) broken
    form_is = rule_opened l o e

    -- a form that is a rule is ended
    inner : {hs bs ns : List (List ℕ)} → typed_form l ≡ rules hs bs ns → (is_ended l ≡ true) × (rule_form (tokens (drop p l)) ≡ rules hs bs ns)
    inner {hs} {bs} {ns} i = go (is_ended l) (sym form_is ∙ i)
      where
        go : (b : Bool) → cond b (rule_form (tokens (drop p l))) broken ≡ rules hs bs ns → (b ≡ true) × (rule_form (tokens (drop p l)) ≡ rules hs bs ns)
        go true i = (refl, i)
        go false i = absurd (let z : ◌≡◌ {A = ℕ} 0 1 = cc in omega arith)

    pub lists_otherwise : {marks after : List ℕ} {r : Option RuleCounts} → ListsAre names l p stamp before at marks after r → r ≡ None → RuleIs names l stamp before at marks after None
    lists_otherwise {marks} {after} h d = let n : NoRule names (rule_form (tokens (drop p l))) = subst (ListsSay names l p stamp before at marks after) d h.says in record { says = λ hs bs ns i. n hs bs ns (inner i).1 }

    module _ {marks after : List ℕ} {r : Option RuleCounts} (h : ListsAre names l p stamp before at marks after r) {c : RuleCounts} (d : r ≡ Some c) where
      listed : ListsNumbered names l p stamp before at marks after c
      listed = subst (ListsSay names l p stamp before at marks after) d h.says

      pub lists_inside : c.place ≤ length l
      lists_inside = listed.inside

      module _ {k : Bool} (f : k ≡ is_closing_last (tokens (drop c.place l))) where
        closed : rule_form (tokens (drop p l)) ≡ cond k (rules listed.heads listed.bodies listed.nots) broken
        closed = listed.form ∙ closed_form (tokens (drop c.place l)) (rules listed.heads listed.bodies listed.nots) f

        pub rule_unclosed : not k ≡ true → RuleIs names l stamp before at marks after None
        rule_unclosed g = record { says = λ hs bs ns i. absurd (let j : broken ≡ rules hs bs ns = sym (closed ∙ ap (λ b. cond b (rules listed.heads listed.bodies listed.nots) broken) (not-true k g)) ∙ (inner i).1 in let z : ◌≡◌ {A = ℕ} 0 1 = cc in omega arith) }

        module _ (g : not k ≡ false) {t : Bool} (u : t ≡ is_ended l) where
          pub rule_unended : t ≡ false → RuleIs names l stamp before at marks after None
          rule_unended v = record { says = λ hs bs ns i. absurd (let j : false ≡ true = sym v ∙ u ∙ (inner i).0 in let z : ◌≡◌ {A = ℕ} 0 1 = cc in omega arith) }

          pub rule_numbered : t ≡ true → RuleIs names l stamp before at marks after (Some c)
          rule_numbered v =
              record {
                says = record {
                  heads = listed.heads;
                  bodies = listed.bodies;
                  nots = listed.nots;
                  form = form_is ∙ ap (λ b. cond b (rule_form (tokens (drop p l))) broken) (sym u ∙ v) ∙ closed ∙ ap (λ b. cond b (rules listed.heads listed.bodies listed.nots) broken) (not-false k g);
                  few = listed.few;
                  numbered = listed.numbered;
                };
              }
