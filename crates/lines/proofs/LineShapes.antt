-- The form of a line by the places of its lists.
use Prim.Native.Nat.{ℕ, ◌≤◌}
use native.Mathlib.Omega.{arith}
use mathlib.Core.Path.{◌≡◌, refl, sym, ap, ◌∙◌, subst}
use mathlib.Core.List.{List, [], ◌∷◌, ◌++◌}
use mathlib.Core.Bool.{Bool, true, false, cond, not, ◌||◌}
use lib.ListN.{length, drop}
use borrow.Author.Tests.{not-true, not-false}
use Rattle.kinds.specs.Words.{atoms_word, min_word, vary_word, fix_word, rule_word, head_word, body_word, not_word, when_word}
use Rattle.kinds.specs.declared.limits.Kind.{Kind}
use Rattle.rules.specs.Lists.{is_empty}
use Rattle.name_store.specs.NameStore.{same_bytes}
use Rattle.std.specs.Prelude.{Option, Some, None}
use Rattle.lines.specs.declared.forms.Keyword.{Keyword}
use Rattle.lines.specs.declared.forms.Keyword.TheVariants as Key
use Rattle.lines.specs.declared.forms.Shape.{Shape}
use Rattle.lines.specs.Lines.{is_ended}
use Rattle.lines.specs.Tokens.{Token, opening, closing, word, run, tokens, items}
use Rattle.lines.specs.Conditions.{words_in, pairs}
use Rattle.lines.specs.Forms.{Word, word_bytes, atoms, min, vary, fix, LineForm, declares, rules, condition, blank, broken, Opened, opened, unopened, opened_of, Split, split, none, split_names, split_list, on_split, lastly, closed_lastly, declared_form, rule_form, Conditional, conditional, unconditional, split_then, paired_form, when_form, opened_form, token_form, typed_form, are_names, named, form_of}
use Rattle.lines.specs.Shapes.{WholeWord, is_closing, is_closing_last, opens_with, ClosedSays, ClosedIs, OpenedSays, OpenedIs, Listed, ListedBehind, word_of, Declared, Ruled, Otherwise, ShapeIs}

otherwise : {f : LineForm} → f ≡ broken → Otherwise f
otherwise e = subst Otherwise (sym e) tt

-- no keyword has a delimiter
pub whole_rule : WholeWord rule_word
unfolding run
whole_rule = record { whole = refl; filled = omega arith }

pub whole_head : WholeWord head_word
unfolding run
whole_head = record { whole = refl; filled = omega arith }

pub whole_body : WholeWord body_word
unfolding run
whole_body = record { whole = refl; filled = omega arith }

pub whole_not : WholeWord not_word
unfolding run
whole_not = record { whole = refl; filled = omega arith }

pub whole_word : (w : Word) → WholeWord (word_bytes w)
unfolding run
whole_word atoms = record { whole = refl; filled = omega arith }
whole_word min = record { whole = refl; filled = omega arith }
whole_word vary = record { whole = refl; filled = omega arith }
whole_word fix = record { whole = refl; filled = omega arith }

-- a closing bracket, and nothing behind it
module _ (s : List ℕ) (at : ℕ) {q : Option ℕ} (c : ClosedIs s at q) where
  pub not_closing : q ≡ None → false ≡ is_closing_last (tokens (drop at s))
  not_closing e = go (tokens (drop at s)) (subst (ClosedSays s at) e c.says)
    where
      go : (ts : List Token) → is_closing ts ≡ false → false ≡ is_closing_last ts
      go [] n = refl
      go (opening ∷ ts) n = refl
      go (closing ∷ ts) n = absurd (let z : ◌≡◌ {A = ℕ} 0 1 = cc in omega arith)
      go (word x ∷ ts) n = refl

  pub closing_last : {p : ℕ} → q ≡ Some p → {r : Bool} → r ≡ is_empty (tokens (drop p s)) → r ≡ is_closing_last (tokens (drop at s))
  closing_last {p} e f = let k : ClosedSays s at (Some p) = subst (ClosedSays s at) e c.says in f ∙ sym (ap is_closing_last k.1)

  pub closing_inside : {p : ℕ} → q ≡ Some p → p ≤ length s
  closing_inside {p} e = let k : ClosedSays s at (Some p) = subst (ClosedSays s at) e c.says in k.0.inside

last_form : (ts : List Token) (f : LineForm) {r : Bool} → r ≡ is_empty ts → lastly ts f ≡ cond r f broken
last_form [] f e = ap (λ (b : Bool). cond b f broken) (sym e)
last_form (t ∷ ts) f e = ap (λ (b : Bool). cond b f broken) (sym e)

pub closed_form : (ts : List Token) (f : LineForm) {r : Bool} → r ≡ is_closing_last ts → closed_lastly ts f ≡ cond r f broken
closed_form [] f e = ap (λ (b : Bool). cond b f broken) (sym e)
closed_form (opening ∷ ts) f e = ap (λ (b : Bool). cond b f broken) (sym e)
closed_form (closing ∷ ts) f e = last_form ts f e
closed_form (word x ∷ ts) f e = ap (λ (b : Bool). cond b f broken) (sym e)

-- a line that declares atoms
module _ (kind : Kind) (l : List ℕ) (from : ℕ) (w : Keyword) where
  pub no_names : ((xs : List (List ℕ)) (rest : List Token) → split_names (tokens (drop from l)) ≡ split xs rest → are_names xs ≡ false) → Otherwise (named (declared_form (word_of w) (tokens (drop from l))))
  unfolding declared_form
  no_names n = otherwise (go (split_names (tokens (drop from l))) n)
    where
      ending : (xs : List (List ℕ)) (rest : List Token) → are_names xs ≡ false → named (lastly rest (declares (word_of w) xs)) ≡ broken
      ending xs [] e = ap (λ (b : Bool). cond b (declares (word_of w) xs) broken) e
      ending xs (t ∷ ts) e = refl

      go : (p : Split) → ((xs : List (List ℕ)) (rest : List Token) → p ≡ split xs rest → are_names xs ≡ false) → named (on_split p (λ xs rest. lastly rest (declares (word_of w) xs))) ≡ broken
      go (split xs rest) n = ending xs rest (n xs rest refl)
      go none n = refl

  module _ {end count : ℕ} {refused : Bool} (h : Listed kind l from end count refused) {r : Bool} (e : r ≡ is_empty (tokens (drop end l))) where
    form_is : named (declared_form (word_of w) (tokens (drop from l))) ≡ cond r (declares (word_of w) (items (drop from l))) broken
    unfolding declared_form
    form_is =
        ap (λ p. named (on_split p (λ xs rest. lastly rest (declares (word_of w) xs)))) h.cuts
        ∙ ap named (last_form (tokens (drop end l)) (declares (word_of w) (items (drop from l))) e)
        ∙ go r
      where
        go : (b : Bool) → named (cond b (declares (word_of w) (items (drop from l))) broken) ≡ cond b (declares (word_of w) (items (drop from l))) broken
        go true = ap (λ (b : Bool). cond b (declares (word_of w) (items (drop from l))) broken) h.are_names_lem
        go false = refl

    pub more_behind : r ≡ false → Otherwise (named (declared_form (word_of w) (tokens (drop from l))))
    more_behind d = otherwise (form_is ∙ ap (λ (b : Bool). cond b (declares (word_of w) (items (drop from l))) broken) d)

    pub declaring : r ≡ true → from ≤ length l → Declared kind l (named (declared_form (word_of w) (tokens (drop from l)))) (record { word = w; from = from; count = count; refused = refused })
    declaring d i = record { form = form_is ∙ ap (λ (b : Bool). cond b (declares (word_of w) (items (drop from l))) broken) d; inside = i; is_count = h.is_count; is_refused = h.is_refused }

-- a rule

module _ (hs bs ns : List (List ℕ)) where
  wrong_head : are_names hs ≡ false → named (rules hs bs ns) ≡ broken
  wrong_head e = rw e

  wrong_body : are_names bs ≡ false → named (rules hs bs ns) ≡ broken
  wrong_body e = go (are_names hs)
    where
      go : (b : Bool) → cond b (cond (are_names bs) (cond (are_names ns) (rules hs bs ns) broken) broken) broken ≡ broken
      go true = rw e
      go false = refl

  wrong_not : are_names ns ≡ false → named (rules hs bs ns) ≡ broken
  wrong_not e = go (are_names hs) (are_names bs)
    where
      go : (b c : Bool) → cond b (cond c (cond (are_names ns) (rules hs bs ns) broken) broken) broken ≡ broken
      go true true = rw e
      go true false = refl
      go false c = refl

  -- whatever follows
  closed_wrong : named (rules hs bs ns) ≡ broken → (rest : List Token) → named (closed_lastly rest (rules hs bs ns)) ≡ broken
  closed_wrong e rest = ap named (closed_form rest (rules hs bs ns) refl) ∙ go (is_closing_last rest)
    where
      go : (b : Bool) → named (cond b (rules hs bs ns) broken) ≡ broken
      go true = e
      go false = refl

abbrev behind_body : List (List ℕ) → List (List ℕ) → List Token → LineForm
behind_body hs bs s = on_split (split_list not_word s) (λ ns rest. closed_lastly rest (rules hs bs ns))

abbrev behind_head : List (List ℕ) → List Token → LineForm
behind_head hs r = on_split (split_list body_word r) (λ bs s. behind_body hs bs s)

body_wrong : (hs bs : List (List ℕ)) → ((ns : List (List ℕ)) → named (rules hs bs ns) ≡ broken) → (s : List Token) → named (behind_body hs bs s) ≡ broken
body_wrong hs bs e s = go (split_list not_word s)
  where
    go : (p : Split) → named (on_split p (λ ns rest. closed_lastly rest (rules hs bs ns))) ≡ broken
    go (split ns rest) = closed_wrong hs bs ns (e ns) rest
    go none = refl

head_wrong : (hs : List (List ℕ)) → are_names hs ≡ false → (r : List Token) → named (behind_head hs r) ≡ broken
head_wrong hs e r = go (split_list body_word r)
  where
    go : (p : Split) → named (on_split p (λ bs s. behind_body hs bs s)) ≡ broken
    go (split bs s) = body_wrong hs bs (λ ns. wrong_head hs bs ns e) s
    go none = refl

-- no list there, or a wrong name in it
abbrev NoList : List ℕ → List Token → Type 0
NoList w ts = (xs : List (List ℕ)) (rest : List Token) → split_list w ts ≡ split xs rest → are_names xs ≡ false

broken_split : (p : Split) (f : List (List ℕ) → List Token → LineForm) → ((xs : List (List ℕ)) (rest : List Token) → p ≡ split xs rest → named (f xs rest) ≡ broken) → named (on_split p f) ≡ broken
broken_split (split xs rest) f n = n xs rest refl
broken_split none f n = refl

module _ (kind : Kind) (l : List ℕ) (from : ℕ) where
  abbrev form : LineForm
  form = named (rule_form (tokens (drop from l)))

  pub no_head : NoList head_word (tokens (drop from l)) → Otherwise form
  unfolding rule_form
  no_head n = otherwise (broken_split (split_list head_word (tokens (drop from l))) behind_head (λ hs r e. head_wrong hs (n hs r e) r))

  module _ {he : ℕ} {hr : Bool} (h : ListedBehind kind head_word l from he hr) where
    behind_head_lem : form ≡ named (behind_head h.names (tokens (drop he l)))
    unfolding rule_form
    behind_head_lem = ap (λ p. named (on_split p behind_head)) h.cuts

    pub no_body : NoList body_word (tokens (drop he l)) → Otherwise form
    no_body n = otherwise (behind_head_lem ∙ broken_split (split_list body_word (tokens (drop he l))) (behind_body h.names) (λ bs s e. body_wrong h.names bs (λ ns. wrong_body h.names bs ns (n bs s e)) s))

    module _ {be : ℕ} {br : Bool} (b : ListedBehind kind body_word l he be br) where
      behind_body_lem : form ≡ named (behind_body h.names b.names (tokens (drop be l)))
      behind_body_lem = behind_head_lem ∙ ap (λ p. named (on_split p (behind_body h.names))) b.cuts

      pub no_not : NoList not_word (tokens (drop be l)) → Otherwise form
      no_not n = otherwise (behind_body_lem ∙ broken_split (split_list not_word (tokens (drop be l))) (λ ns rest. closed_lastly rest (rules h.names b.names ns)) (λ ns rest e. closed_wrong h.names b.names ns (wrong_not h.names b.names ns (n ns rest e)) rest))

      module _ {ne : ℕ} {nr : Bool} (n : ListedBehind kind not_word l be ne nr) {q : Bool} (e : q ≡ is_closing_last (tokens (drop ne l))) where
        abbrev rule : LineForm
        rule = rules h.names b.names n.names

        form_ends : form ≡ cond q rule broken
        form_ends =
            behind_body_lem
            ∙ ap (λ p. named (on_split p (λ ns rest. closed_lastly rest (rules h.names b.names ns)))) n.cuts
            ∙ ap named (closed_form (tokens (drop ne l)) rule e)
            ∙ go q
          where
            go : (c : Bool) → named (cond c rule broken) ≡ cond c rule broken
            go true = rw (h.are_names_lem, b.are_names_lem, n.are_names_lem)
            go false = refl

        pub not_ended : q ≡ false → Otherwise form
        not_ended d = otherwise (form_ends ∙ ap (λ c. cond c rule broken) d)

        pub ruling : q ≡ true → {refused : Bool} → refused ≡ (hr || (br || nr)) → Ruled kind form refused
        ruling d g =
            record {
              heads = h.names;
              bodies = b.names;
              nots = n.names;
              form = form_ends ∙ ap (λ c. cond c rule broken) d;
              is_refused = g ∙ (λ i. h.is_refused i || (b.is_refused i || n.is_refused i));
            }

-- a condition

on_cond : (b : Bool) (f : LineForm) → Otherwise f → Otherwise (cond b f broken)
on_cond true f h = h
on_cond false f h = tt

when_otherwise : (b : Bool) (ts : List Token) → Otherwise (named (cond b (when_form ts) broken))
unfolding when_form
when_otherwise true ts = go (split_then ts)
  where
    go : (p : Conditional) → Otherwise (named (paired_form p))
    go (conditional us a) = paired (pairs 0 us)
      where
        paired : (b : Bool) → Otherwise (named (cond b (condition us a) broken))
        paired true = on_cond (are_names (words_in us ++ (a ∷ []))) (condition us a) tt
        paired false = tt
    go unconditional = tt
when_otherwise false ts = tt

-- the word of a line

pub same_shape : (kind : Kind) (l : List ℕ) {f g : LineForm} → g ≡ f → (r : Shape) → ShapeIs kind l f r → ShapeIs kind l g r
same_shape kind l e r h = subst (λ f. ShapeIs kind l f r) (sym e) h

module _ (l : List ℕ) where
  abbrev line : Opened
  line = opened_of (tokens l)

  opened_at : {w : List ℕ} {q : Option ℕ} → OpenedIs l 0 w q → {p : ℕ} → q ≡ Some p → line ≡ opened w (tokens (drop p l))
  opened_at {w} o {p} e = let k : OpenedSays l 0 w (Some p) = subst (OpenedSays l 0 w) e o.says in k.1

  unlike : {w : List ℕ} {q : Option ℕ} → OpenedIs l 0 w q → q ≡ None → opens_with w line ≡ false
  unlike {w} o e = subst (OpenedSays l 0 w) e o.says

  pub of_word : (w : Keyword) {q : Option ℕ} → OpenedIs l 0 (word_bytes (word_of w)) q → {p : ℕ} → q ≡ Some p → named (opened_form line) ≡ named (declared_form (word_of w) (tokens (drop p l)))
  unfolding same_bytes
  of_word Key.Atoms o e = ap (λ t. named (opened_form t)) (opened_at o e)
  of_word Key.Min o e = ap (λ t. named (opened_form t)) (opened_at o e)
  of_word Key.Vary o e = ap (λ t. named (opened_form t)) (opened_at o e)
  of_word Key.Fix o e = ap (λ t. named (opened_form t)) (opened_at o e)

  pub of_rule : {q : Option ℕ} → OpenedIs l 0 rule_word q → {p : ℕ} → q ≡ Some p → named (opened_form line) ≡ named (rule_form (tokens (drop p l)))
  unfolding same_bytes
  of_rule o e = ap (λ t. named (opened_form t)) (opened_at o e)

  pub of_none : {a b c d f : Option ℕ} → OpenedIs l 0 rule_word a → a ≡ None → OpenedIs l 0 min_word b → b ≡ None → OpenedIs l 0 vary_word c → c ≡ None → OpenedIs l 0 fix_word d → d ≡ None → OpenedIs l 0 atoms_word f → f ≡ None → Otherwise (named (opened_form line))
  of_none oa ea ob eb oc ec od ed of ef = go line (unlike oa ea) (unlike ob eb) (unlike oc ec) (unlike od ed) (unlike of ef)
    where
      other : (x : List ℕ) (ts : List Token) → opened_form (opened x ts) ≡ cond (same_bytes x when_word) (when_form ts) broken → Otherwise (named (opened_form (opened x ts)))
      other x ts e = subst (λ f. Otherwise (named f)) (sym e) (when_otherwise (same_bytes x when_word) ts)

      go : (t : Opened) → opens_with rule_word t ≡ false → opens_with min_word t ≡ false → opens_with vary_word t ≡ false → opens_with fix_word t ≡ false → opens_with atoms_word t ≡ false → Otherwise (named (opened_form t))
      go (opened x ts) r m v f a = other x ts (rw (a, m, v, f, r))
      go unopened r m v f a = tt

  -- a line that is not ended, a blank one, and any other
  pub unended_broken : {r : Bool} → r ≡ is_ended l → not r ≡ true → form_of l ≡ broken
  unfolding form_of typed_form
  unended_broken e d = ap (λ b. named (cond b (token_form (tokens l)) broken)) (sym e ∙ not-true _ d)

  pub of_unended : {r : Bool} → r ≡ is_ended l → not r ≡ true → Otherwise (form_of l)
  of_unended e d = otherwise (unended_broken e d)

  module _ {r : Bool} (e : r ≡ is_ended l) (d : not r ≡ false) where
    ended : form_of l ≡ named (token_form (tokens l))
    unfolding form_of typed_form
    ended = ap (λ b. named (cond b (token_form (tokens l)) broken)) (sym e ∙ not-false _ d)

    pub of_blank : {q : Bool} → q ≡ is_empty (tokens l) → q ≡ true → form_of l ≡ blank
    unfolding token_form
    of_blank f g = ended ∙ go (tokens l) (sym f ∙ g)
      where
        go : (ts : List Token) → is_empty ts ≡ true → named (token_form ts) ≡ blank
        go [] n = refl
        go (t ∷ ts) n = absurd (let z : ◌≡◌ {A = ℕ} 0 1 = cc in omega arith)

    pub of_filled : {q : Bool} → q ≡ is_empty (tokens l) → q ≡ false → form_of l ≡ named (opened_form line)
    unfolding token_form
    of_filled f g = ended ∙ go (tokens l) (sym f ∙ g)
      where
        go : (ts : List Token) → is_empty ts ≡ false → named (token_form ts) ≡ named (opened_form (opened_of ts))
        go [] n = absurd (let z : ◌≡◌ {A = ℕ} 0 1 = cc in omega arith)
        go (t ∷ ts) n = refl

    pub of_when : {q : Option ℕ} → OpenedIs l 0 when_word q → {p : ℕ} → q ≡ Some p → form_of l ≡ named (when_form (tokens (drop p l)))
    unfolding same_bytes opened_of
    of_when o {p} g = of_filled refl (go (tokens l) (opened_at o g)) ∙ ap (λ t. named (opened_form t)) (opened_at o g)
      where
        go : (ts : List Token) → opened_of ts ≡ opened when_word (tokens (drop p l)) → is_empty ts ≡ false
        go [] e = absurd (let z : ◌≡◌ {A = ℕ} 0 1 = cc in omega arith)
        go (t ∷ ts) e = refl

-- a line with a bracket or a word is not blank

no_blank : (p : Split) (f : List (List ℕ) → List Token → LineForm) → ((xs : List (List ℕ)) (rest : List Token) → f xs rest ≡ blank → ⊥) → on_split p f ≡ blank → ⊥
no_blank (split xs rest) f n e = n xs rest e
no_blank none f n e = let z : ◌≡◌ {A = ℕ} 0 1 = cc in omega arith

closed_blank : (r : Bool) (f : LineForm) → (f ≡ blank → ⊥) → cond r f broken ≡ blank → ⊥
closed_blank true f n e = n e
closed_blank false f n e = let z : ◌≡◌ {A = ℕ} 0 1 = cc in omega arith

declared_blank : (w : Word) (ts : List Token) → declared_form w ts ≡ blank → ⊥
unfolding declared_form
declared_blank w ts = no_blank (split_names ts) (λ xs rest. lastly rest (declares w xs)) (λ xs rest e. closed_blank (is_empty rest) (declares w xs) (λ i. (let z : ◌≡◌ {A = ℕ} 0 1 = cc in omega arith)) (sym (last_form rest (declares w xs) refl) ∙ e))

rule_blank : (ts : List Token) → rule_form ts ≡ blank → ⊥
unfolding rule_form
rule_blank ts =
    no_blank (split_list head_word ts) behind_head
    (λ hs r. no_blank (split_list body_word r) (behind_body hs)
    (λ bs s. no_blank (split_list not_word s) (λ ns rest. closed_lastly rest (rules hs bs ns))
    (λ ns rest e. closed_blank (is_closing_last rest) (rules hs bs ns) (λ i. (let z : ◌≡◌ {A = ℕ} 0 1 = cc in omega arith)) (sym (closed_form rest (rules hs bs ns) refl) ∙ e))))

when_blank : (ts : List Token) → when_form ts ≡ blank → ⊥
unfolding when_form
when_blank ts = go (split_then ts)
  where
    go : (p : Conditional) → paired_form p ≡ blank → ⊥
    go (conditional us a) e = closed_blank (pairs 0 us) (condition us a) (λ i. (let z : ◌≡◌ {A = ℕ} 0 1 = cc in omega arith)) e
    go unconditional e = let z : ◌≡◌ {A = ℕ} 0 1 = cc in omega arith

opened_blank : (t : Opened) → opened_form t ≡ blank → ⊥
opened_blank (opened x ts) e = go (same_bytes x atoms_word) (same_bytes x min_word) (same_bytes x vary_word) (same_bytes x fix_word) (same_bytes x rule_word) (same_bytes x when_word) e
  where
    go : (a b c d f g : Bool) → cond a (declared_form atoms ts) (cond b (declared_form min ts) (cond c (declared_form vary ts) (cond d (declared_form fix ts) (cond f (rule_form ts) (cond g (when_form ts) broken))))) ≡ blank → ⊥
    go true b c d f g e = declared_blank atoms ts e
    go false true c d f g e = declared_blank min ts e
    go false false true d f g e = declared_blank vary ts e
    go false false false true f g e = declared_blank fix ts e
    go false false false false true g e = rule_blank ts e
    go false false false false false true e = when_blank ts e
    go false false false false false false e = let z : ◌≡◌ {A = ℕ} 0 1 = cc in omega arith
opened_blank unopened e = let z : ◌≡◌ {A = ℕ} 0 1 = cc in omega arith

named_blank : (f : LineForm) → named f ≡ blank → f ≡ blank
named_blank (declares w xs) e = absurd (closed_blank (are_names xs) (declares w xs) (λ i. (let z : ◌≡◌ {A = ℕ} 0 1 = cc in omega arith)) e)
named_blank (rules hs bs ns) e = absurd (go (are_names hs) (are_names bs) (are_names ns) e)
  where
    go : (a b c : Bool) → cond a (cond b (cond c (rules hs bs ns) broken) broken) broken ≡ blank → ⊥
    go true true true e = let z : ◌≡◌ {A = ℕ} 0 1 = cc in omega arith
    go true true false e = let z : ◌≡◌ {A = ℕ} 0 1 = cc in omega arith
    go true false c e = let z : ◌≡◌ {A = ℕ} 0 1 = cc in omega arith
    go false b c e = let z : ◌≡◌ {A = ℕ} 0 1 = cc in omega arith
named_blank (condition ts a) e = absurd (closed_blank (are_names (words_in ts ++ (a ∷ []))) (condition ts a) (λ i. (let z : ◌≡◌ {A = ℕ} 0 1 = cc in omega arith)) e)
named_blank blank e = refl
named_blank broken e = e

pub filled_line : (l : List ℕ) → is_empty (tokens l) ≡ false → form_of l ≡ blank → ⊥
unfolding form_of typed_form token_form
filled_line l n e = go (is_ended l) (tokens l) n (named_blank (typed_form l) e)
  where
    go : (b : Bool) (ts : List Token) → is_empty ts ≡ false → cond b (token_form ts) broken ≡ blank → ⊥
    go false ts n e = let z : ◌≡◌ {A = ℕ} 0 1 = cc in omega arith
    go true [] n e = let z : ◌≡◌ {A = ℕ} 0 1 = cc in omega arith
    go true (t ∷ ts) n e = opened_blank (opened_of (t ∷ ts)) e

pub blank_line_lem : (l : List ℕ) {q : Bool} → q ≡ is_empty (tokens l) → q ≡ true → form_of l ≡ cond (is_ended l) blank broken
unfolding form_of typed_form token_form
blank_line_lem l f g = ap (λ ts. named (cond (is_ended l) (token_form ts) broken)) (none (tokens l) (sym f ∙ g)) ∙ go (is_ended l)
  where
    none : (ts : List Token) → is_empty ts ≡ true → ts ≡ []
    none [] n = refl
    none (t ∷ ts) n = absurd (let z : ◌≡◌ {A = ℕ} 0 1 = cc in omega arith)

    go : (b : Bool) → named (cond b blank broken) ≡ cond b blank broken
    go true = refl
    go false = refl

-- only a line that opens with `(when` is a condition

abbrev NoCondition : LineForm → Type 0
NoCondition (declares w xs) = Unit {0}
NoCondition (rules hs bs ns) = Unit {0}
NoCondition (condition ts a) = ⊥
NoCondition blank = Unit {0}
NoCondition broken = Unit {0}

none_split : (p : Split) (f : List (List ℕ) → List Token → LineForm) → ((xs : List (List ℕ)) (rest : List Token) → NoCondition (f xs rest)) → NoCondition (on_split p f)
none_split (split xs rest) f n = n xs rest
none_split none f n = tt

none_last : (ts : List Token) (f : LineForm) → NoCondition f → NoCondition (lastly ts f)
none_last [] f n = n
none_last (t ∷ ts) f n = tt

none_closed : (ts : List Token) (f : LineForm) → NoCondition f → NoCondition (closed_lastly ts f)
none_closed [] f n = tt
none_closed (opening ∷ ts) f n = tt
none_closed (closing ∷ ts) f n = none_last ts f n
none_closed (word x ∷ ts) f n = tt

declared_none : (w : Word) (ts : List Token) → NoCondition (declared_form w ts)
unfolding declared_form
declared_none w ts = none_split (split_names ts) (λ xs rest. lastly rest (declares w xs)) (λ xs rest. none_last rest (declares w xs) tt)

rule_none : (ts : List Token) → NoCondition (rule_form ts)
unfolding rule_form
rule_none ts =
    none_split (split_list head_word ts) behind_head
    (λ hs r. none_split (split_list body_word r) (behind_body hs)
    (λ bs s. none_split (split_list not_word s) (λ ns rest. closed_lastly rest (rules hs bs ns)) (λ ns rest. none_closed rest (rules hs bs ns) tt)))

opened_none : (t : Opened) → opens_with when_word t ≡ false → NoCondition (opened_form t)
opened_none (opened x ts) n = go (same_bytes x atoms_word) (same_bytes x min_word) (same_bytes x vary_word) (same_bytes x fix_word) (same_bytes x rule_word) (same_bytes x when_word) n
  where
    go : (a b c d f g : Bool) → g ≡ false → NoCondition (cond a (declared_form atoms ts) (cond b (declared_form min ts) (cond c (declared_form vary ts) (cond d (declared_form fix ts) (cond f (rule_form ts) (cond g (when_form ts) broken))))))
    go true b c d f g e = declared_none atoms ts
    go false true c d f g e = declared_none min ts
    go false false true d f g e = declared_none vary ts
    go false false false true f g e = declared_none fix ts
    go false false false false true g e = rule_none ts
    go false false false false false true e = absurd (let z : ◌≡◌ {A = ℕ} 0 1 = cc in omega arith)
    go false false false false false false e = tt
opened_none unopened n = tt

named_none : (f : LineForm) → NoCondition f → NoCondition (named f)
named_none (declares w xs) n = go (are_names xs)
  where
    go : (b : Bool) → NoCondition (cond b (declares w xs) broken)
    go true = tt
    go false = tt
named_none (rules hs bs ns) n = go (are_names hs) (are_names bs) (are_names ns)
  where
    go : (a b c : Bool) → NoCondition (cond a (cond b (cond c (rules hs bs ns) broken) broken) broken)
    go true true true = tt
    go true true false = tt
    go true false c = tt
    go false b c = tt
named_none (condition ts a) n = absurd n
named_none blank n = tt
named_none broken n = tt

pub condition_opens : (l : List ℕ) {ts : List Token} {a : List ℕ} → form_of l ≡ condition ts a → opens_with when_word (opened_of (tokens l)) ≡ true
unfolding form_of typed_form token_form
condition_opens l {ts} {a} e = told (opens_with when_word (opened_of (tokens l))) refl
  where
    line_none : (b : Bool) (us : List Token) → opens_with when_word (opened_of us) ≡ false → NoCondition (cond b (token_form us) broken)
    line_none true [] n = tt
    line_none true (u ∷ us) n = opened_none (opened_of (u ∷ us)) n
    line_none false us n = tt

    told : (b : Bool) → opens_with when_word (opened_of (tokens l)) ≡ b → opens_with when_word (opened_of (tokens l)) ≡ true
    told true n = n
    told false n = absurd (subst NoCondition e (named_none (typed_form l) (line_none (is_ended l) (tokens l) n)))
