-- A turn of the scan, and what its end says.
use Prim.Native.Nat.{ℕ, zero, suc, ◌+◌, ◌-◌, ◌^◌, ◌≤◌, ◌<◌, zero-le}
use native.Mathlib.Nat.{zero-add, add-zero}
use native.Mathlib.Numerals.{add-one}
use native.Mathlib.Omega.{arith}
use mathlib.Core.Path.{◌≡◌, refl, sym, ap, ◌∙◌, subst}
use mathlib.Core.Bool.{Bool, true, false, cond, not, ◌||◌}
use mathlib.Core.List.{List, [], ◌∷◌}
use lib.Dec.{ltb}
use lib.ListN.{length, drop}
use Rattle.std.specs.Prelude.{Some, None}
use borrow.Author.Tests.{ltb-true, ltb-false, lt-ltb, le-ltb, not-true, not-false}
use Rattle.kinds.specs.Limits.{bracket_limit}
use Rattle.rules.proofs.Booleans.{or-true, or-false}
use Rattle.name_store.specs.NameStore.{among}
use Rattle.lines.specs.Tokens.{Token, opening, closing, word, tokens}
use Rattle.lines.specs.Conditions.{WordSort, negation, conjunction, disjunction, called, sort_of, by_sort, names_in, connectives_in, pairs, deeper}
use Rattle.numbering.specs.Numbers.{undeclared}
use Rattle.condition_scan.specs.declared.scan.Symbol.{Symbol}
use Rattle.condition_scan.specs.declared.scan.Step.{Step}
use Rattle.condition_scan.specs.declared.scan.Seen.{Seen}
use Rattle.condition_scan.specs.Scans.{is_scan, symbol_by, symbol_of, TokenTo, StepIs, is_fitting, after_of, Countable, ScanIs}
use Rattle.condition_scan.proofs.Turns.{parses, parses_not}

-- one bracket more, past the limit or not
module _ (st : Seen) where
  pub opened_deep : bracket_limit < st.depth + 1 → record { part = st.part; depth = st.depth + 1; deep = true; connectives = st.connectives; undeclared = st.undeclared } ≡ after_of st Symbol.Opening
  opened_deep l =
      ap (λ (b : Bool). record { part = st.part; depth = st.depth + 1; deep = cond b true st.deep; connectives = st.connectives; undeclared = st.undeclared }) (sym (lt-ltb bracket_limit (st.depth + 1) l))

  pub opened_shallow : st.depth + 1 ≤ bracket_limit → record { part = st.part; depth = st.depth + 1; deep = st.deep; connectives = st.connectives; undeclared = st.undeclared } ≡ after_of st Symbol.Opening
  opened_shallow l =
      ap (λ (b : Bool). record { part = st.part; depth = st.depth + 1; deep = cond b true st.deep; connectives = st.connectives; undeclared = st.undeclared }) (sym (le-ltb bracket_limit (st.depth + 1) l))

-- of all tokens, ts are left
pub record Passing (names : List (List ℕ)) (all ts : List Token) (st : Seen) : Type 0 where
  pub scans : is_scan st.part ts ≡ is_scan true all
  pub paired : pairs st.depth ts ≡ true
  pub deepening : (st.deep || deeper (bracket_limit - st.depth) ts) ≡ deeper bracket_limit all
  pub over : bracket_limit < st.depth → st.deep ≡ true
  pub counted : st.connectives + connectives_in ts ≡ connectives_in all
  pub declaring : (st.undeclared || undeclared names (names_in ts)) ≡ undeclared names (names_in all)

-- a bracket closes only where one is open
open_pairs : (d : ℕ) (ts : List Token) → pairs d (closing ∷ ts) ≡ true → 1 ≤ d
unfolding pairs
open_pairs zero ts p = absurd (let z : ◌≡◌ {A = ℕ} 0 1 = cc in omega arith)
open_pairs (suc d) ts p = omega arith

module _ {names : List (List ℕ)} {all ts : List Token} {st : Seen} where
  pass_opening : Passing names all (opening ∷ ts) st → st.part ≡ true → Passing names all ts (after_of st Symbol.Opening)
  unfolding is_scan pairs deeper connectives_in names_in
  pass_opening h f =
      record {
        scans = ap (λ (b : Bool). is_scan b ts) f ∙ ap (λ (b : Bool). is_scan b (opening ∷ ts)) (sym f) ∙ h.scans;
        paired = ap (λ (d : ℕ). pairs d ts) (add-one st.depth) ∙ h.paired;
        deepening = go (ltb bracket_limit (st.depth + 1)) refl;
        over = λ l. ap (λ (b : Bool). cond b true st.deep) (lt-ltb bracket_limit (st.depth + 1) l);
        counted = h.counted;
        declaring = h.declaring;
      }
    where
      go : (b : Bool) → ltb bracket_limit (st.depth + 1) ≡ b → (cond b true st.deep || deeper (bracket_limit - (st.depth + 1)) ts) ≡ deeper bracket_limit all
      go true e =
          let full : bracket_limit - st.depth ≡ 0 = omega (arith, ltb-true bracket_limit (st.depth + 1) e) in
          sym (or-true st.deep) ∙ ap (λ (r : ℕ). st.deep || deeper r (opening ∷ ts)) (sym full) ∙ h.deepening
      go false e =
          let room : bracket_limit - st.depth ≡ suc (bracket_limit - (st.depth + 1)) = omega (arith, ltb-false bracket_limit (st.depth + 1) e) in
          ap (λ (r : ℕ). st.deep || deeper r (opening ∷ ts)) (sym room) ∙ h.deepening

  pass_closing : Passing names all (closing ∷ ts) st → st.part ≡ false → Passing names all ts (after_of st Symbol.Closing)
  unfolding is_scan pairs deeper connectives_in names_in
  pass_closing h f =
      record {
        scans = ap (λ (b : Bool). is_scan b ts) f ∙ ap (λ (b : Bool). is_scan b (closing ∷ ts)) (sym f) ∙ h.scans;
        paired = ap (λ (d : ℕ). pairs d (closing ∷ ts)) more ∙ h.paired;
        deepening = go (ltb bracket_limit st.depth) refl;
        over = λ l. h.over (omega arith);
        counted = h.counted;
        declaring = h.declaring;
      }
    where
      more : suc (st.depth - 1) ≡ st.depth
      more = omega (arith, open_pairs st.depth ts h.paired)

      go : (b : Bool) → ltb bracket_limit st.depth ≡ b → (st.deep || deeper (bracket_limit - (st.depth - 1)) ts) ≡ deeper bracket_limit all
      go true e =
          let deep : st.deep ≡ true = h.over (ltb-true bracket_limit st.depth e) in
          ap (λ (b : Bool). b || deeper (bracket_limit - (st.depth - 1)) ts) deep ∙ ap (λ (b : Bool). b || deeper (bracket_limit - st.depth) (closing ∷ ts)) (sym deep) ∙ h.deepening
      go false e =
          let room : bracket_limit - (st.depth - 1) ≡ suc (bracket_limit - st.depth) = omega (arith, more, ltb-false bracket_limit st.depth e) in
          ap (λ (r : ℕ). st.deep || deeper r ts) room ∙ h.deepening

-- a word, by what it is
module _ {names : List (List ℕ)} {all : List Token} {x : List ℕ} {ts : List Token} {st : Seen} (h : Passing names all (word x ∷ ts) st) where
  module _ {z : WordSort} (e : sort_of x ≡ z) where
    part_by : st.part ≡ true → by_sort z (is_scan true ts) false false (is_scan false ts) ≡ is_scan true all
    unfolding is_scan
    part_by f = ap (λ (y : WordSort). by_sort y (is_scan true ts) false false (is_scan false ts)) (sym e) ∙ ap (λ (b : Bool). is_scan b (word x ∷ ts)) (sym f) ∙ h.scans

    link_by : st.part ≡ false → by_sort z false (is_scan true ts) (is_scan true ts) false ≡ is_scan true all
    unfolding is_scan
    link_by f = ap (λ (y : WordSort). by_sort y false (is_scan true ts) (is_scan true ts) false) (sym e) ∙ ap (λ (b : Bool). is_scan b (word x ∷ ts)) (sym f) ∙ h.scans

    count_by : st.connectives + by_sort z (suc (connectives_in ts)) (suc (connectives_in ts)) (suc (connectives_in ts)) (connectives_in ts) ≡ connectives_in all
    unfolding connectives_in
    count_by = ap (λ (y : WordSort). st.connectives + by_sort y (suc (connectives_in ts)) (suc (connectives_in ts)) (suc (connectives_in ts)) (connectives_in ts)) (sym e) ∙ h.counted

    names_by : (st.undeclared || undeclared names (by_sort z (names_in ts) (names_in ts) (names_in ts) (x ∷ names_in ts))) ≡ undeclared names (names_in all)
    unfolding names_in
    names_by = ap (λ (y : WordSort). st.undeclared || undeclared names (by_sort y (names_in ts) (names_in ts) (names_in ts) (x ∷ names_in ts))) (sym e) ∙ h.declaring

  counted_one : st.connectives + suc (connectives_in ts) ≡ connectives_in all → st.connectives + 1 + connectives_in ts ≡ connectives_in all
  counted_one n = omega (arith, n)

  joint : is_scan true ts ≡ is_scan true all → st.connectives + suc (connectives_in ts) ≡ connectives_in all → (st.undeclared || undeclared names (names_in ts)) ≡ undeclared names (names_in all) → Passing names all ts (after_of st Symbol.Joint)
  unfolding pairs deeper
  joint s n d = record { scans = s; paired = h.paired; deepening = h.deepening; over = h.over; counted = counted_one n; declaring = d }

  pass_word : (z : WordSort) (b : Bool) → sort_of x ≡ z → among names x ≡ b → is_fitting (symbol_by z b) st.part ≡ true → Passing names all ts (after_of st (symbol_by z b))
  unfolding pairs deeper
  pass_word negation b e g f =
      record {
        scans = ap (λ (y : Bool). is_scan y ts) f ∙ part_by e f;
        paired = h.paired;
        deepening = h.deepening;
        over = h.over;
        counted = counted_one (count_by e);
        declaring = names_by e;
      }
  pass_word conjunction b e g f = joint (link_by e (not-true st.part f)) (count_by e) (names_by e)
  pass_word disjunction b e g f = joint (link_by e (not-true st.part f)) (count_by e) (names_by e)
  pass_word called true e g f =
      record {
        scans = part_by e f;
        paired = h.paired;
        deepening = h.deepening;
        over = h.over;
        counted = count_by e;
        declaring = ap (λ (b : Bool). st.undeclared || (not b || undeclared names (names_in ts))) (sym g) ∙ names_by e;
      }
  pass_word called false e g f =
      record {
        scans = part_by e f;
        paired = h.paired;
        deepening = h.deepening;
        over = h.over;
        counted = count_by e;
        declaring = sym (or-true st.undeclared) ∙ ap (λ (b : Bool). st.undeclared || (not b || undeclared names (names_in ts))) (sym g) ∙ names_by e;
      }

pass : {names : List (List ℕ)} {all : List Token} (t : Token) {ts : List Token} {st : Seen} → Passing names all (t ∷ ts) st → is_fitting (symbol_of names t) st.part ≡ true → Passing names all ts (after_of st (symbol_of names t))
pass opening h f = pass_opening h f
pass closing {st = st} h f = pass_closing h (not-true st.part f)
pass {names} (word x) h f = pass_word h (sort_of x) (among names x) refl refl f

-- a token that may not come next
misfit : (names : List (List ℕ)) (t : Token) (ts : List Token) (part : Bool) → is_fitting (symbol_of names t) part ≡ false → is_scan part (t ∷ ts) ≡ false
unfolding is_scan
misfit names opening ts true e = absurd (let z : ◌≡◌ {A = ℕ} 0 1 = cc in omega arith)
misfit names opening ts false e = refl
misfit names closing ts true e = refl
misfit names closing ts false e = absurd (let z : ◌≡◌ {A = ℕ} 0 1 = cc in omega arith)
misfit names (word x) ts true e = go (sort_of x) (among names x) e
  where
    go : (z : WordSort) (b : Bool) → is_fitting (symbol_by z b) true ≡ false → by_sort z (is_scan true ts) false false (is_scan false ts) ≡ false
    go negation b e = absurd (let z : ◌≡◌ {A = ℕ} 0 1 = cc in omega arith)
    go conjunction b e = refl
    go disjunction b e = refl
    go called true e = absurd (let z : ◌≡◌ {A = ℕ} 0 1 = cc in omega arith)
    go called false e = absurd (let z : ◌≡◌ {A = ℕ} 0 1 = cc in omega arith)
misfit names (word x) ts false e = go (sort_of x) (among names x) e
  where
    go : (z : WordSort) (b : Bool) → is_fitting (symbol_by z b) false ≡ false → by_sort z false (is_scan true ts) (is_scan true ts) false ≡ false
    go negation b e = refl
    go conjunction b e = absurd (let z : ◌≡◌ {A = ℕ} 0 1 = cc in omega arith)
    go disjunction b e = absurd (let z : ◌≡◌ {A = ℕ} 0 1 = cc in omega arith)
    go called b e = refl

closes_open : (names : List (List ℕ)) (t : Token) (ts : List Token) (d : ℕ) → symbol_of names t ≡ Symbol.Closing → pairs d (t ∷ ts) ≡ true → 1 ≤ d
closes_open names opening ts d e p = absurd (let z : ◌≡◌ {A = ℕ} 0 1 = cc in omega arith)
closes_open names closing ts d e p = open_pairs d ts p
closes_open names (word x) ts d e p = absurd (go (sort_of x) (among names x) e)
  where
    go : (z : WordSort) (b : Bool) → symbol_by z b ≡ Symbol.Closing → ⊥
    go negation b e = let z : ◌≡◌ {A = ℕ} 0 1 = cc in omega arith
    go conjunction b e = let z : ◌≡◌ {A = ℕ} 0 1 = cc in omega arith
    go disjunction b e = let z : ◌≡◌ {A = ℕ} 0 1 = cc in omega arith
    go called true e = let z : ◌≡◌ {A = ℕ} 0 1 = cc in omega arith
    go called false e = let z : ◌≡◌ {A = ℕ} 0 1 = cc in omega arith

-- the tokens before a place are passed
pub record Scanning (names : List (List ℕ)) (s : List ℕ) (at : ℕ) (st : Seen) : Type 0 where
  pub inside : at ≤ length s
  pub few_open : st.depth ≤ at
  pub few : st.connectives ≤ at
  pub all_paired : pairs 0 (tokens s) ≡ true
  pub passing : Passing names (tokens s) (tokens (drop at s)) st

pub scanning : (names : List (List ℕ)) (s : List ℕ) → pairs 0 (tokens s) ≡ true → Scanning names s 0 (record { part = true; depth = 0; deep = false; connectives = 0; undeclared = false })
scanning names s p =
    record {
      inside = zero-le;
      few_open = omega arith;
      few = omega arith;
      all_paired = p;
      passing = record { scans = refl; paired = p; deepening = refl; over = λ l. absurd (omega arith); counted = zero-add (connectives_in (tokens s)); declaring = refl };
    }

-- no more than one bracket or connective each step
few_after : (st : Seen) (y : Symbol) → ((after_of st y).depth ≤ st.depth + 1) × ((after_of st y).connectives ≤ st.connectives + 1)
few_after st Symbol.Opening = (omega arith, omega arith)
few_after st Symbol.Closing = (omega arith, omega arith)
few_after st Symbol.Negation = (omega arith, omega arith)
few_after st Symbol.Joint = (omega arith, omega arith)
few_after st Symbol.Declared = (omega arith, omega arith)
few_after st Symbol.Undeclared = (omega arith, omega arith)

module _ {names : List (List ℕ)} {s : List ℕ} {at : ℕ} {st : Seen} (h : Scanning names s at st) where
  unparsed_there : is_scan true (tokens s) ≡ false → ScanIs names (tokens s) None
  unparsed_there e = record { says = λ numbers t. parses_not numbers t (tokens s) h.all_paired e }

  module _ {t : Step} (w : StepIs names s at (Some t)) where
    token_to : TokenTo names s at t.to t.symbol
    token_to = w.says

    pub to_inside : t.to ≤ length s
    to_inside = token_to.inside

    pub to_onward : at < t.to
    to_onward = token_to.onward

    left : Passing names (tokens s) (token_to.token ∷ tokens (drop t.to s)) st
    left = subst (λ us. Passing names (tokens s) us st) token_to.is h.passing

    pub countable : length s < 2 ^ 64 → Countable st t.symbol
    countable l =
        record {
          opened = λ f. closes_open names token_to.token (tokens (drop t.to s)) st.depth (sym token_to.is_symbol ∙ f) left.paired;
          few_open = omega (arith, h.few_open, to_onward, to_inside);
          few = omega (arith, h.few, to_onward, to_inside);
        }

    module _ {b : Bool} (f : b ≡ is_fitting t.symbol st.part) where
      fitting : b ≡ is_fitting (symbol_of names token_to.token) st.part
      fitting = f ∙ ap (λ z. is_fitting z st.part) token_to.is_symbol

      pub misplaced : not b ≡ true → ScanIs names (tokens s) None
      misplaced d = unparsed_there (sym left.scans ∙ misfit names token_to.token (tokens (drop t.to s)) st.part (sym fitting ∙ not-true b d))

      pub scan_again : not b ≡ false → {st' : Seen} → st' ≡ after_of st t.symbol → Scanning names s t.to st'
      scan_again d {st'} k = subst (Scanning names s t.to) (sym k) goes_on
        where
          goes_on : Scanning names s t.to (after_of st t.symbol)
          goes_on =
              record {
                inside = to_inside;
                few_open = omega (arith, (few_after st t.symbol).0, h.few_open, to_onward);
                few = omega (arith, (few_after st t.symbol).1, h.few, to_onward);
                all_paired = h.all_paired;
                passing = subst (λ z. Passing names (tokens s) (tokens (drop t.to s)) (after_of st z)) (sym token_to.is_symbol) (pass token_to.token left (sym fitting ∙ not-false b d));
              }

  module _ (w : StepIs names s at None) where
    none_left : tokens (drop at s) ≡ []
    none_left = w.says

    ended : Passing names (tokens s) [] st
    ended = subst (λ us. Passing names (tokens s) us st) none_left h.passing

    pub part_missing : st.part ≡ true → ScanIs names (tokens s) None
    unfolding is_scan
    part_missing f = unparsed_there (sym ended.scans ∙ ap (λ (b : Bool). is_scan b []) f)

    pub scan_ends : st.part ≡ false → ScanIs names (tokens s) (Some (record { deep = st.deep; connectives = st.connectives; undeclared = st.undeclared }))
    unfolding is_scan deeper connectives_in names_in
    scan_ends f =
        let all : is_scan true (tokens s) ≡ true = sym ended.scans ∙ ap (λ (b : Bool). is_scan b []) f in
        record {
          says = record {
            is_condition = λ numbers t. parses numbers t (tokens s) h.all_paired all;
            is_deep = sym (or-false st.deep) ∙ ended.deepening;
            is_count = sym (add-zero st.connectives) ∙ ended.counted;
            is_undeclared = sym (or-false st.undeclared) ∙ ended.declaring;
          };
        }
