-- The lines that the two programs print, part by part.
use Prim.Native.Nat.{ℕ, zero, suc, ◌+◌, ◌-◌, ◌/◌, ◌%◌, ◌^◌, ◌≤◌, ◌<◌}
use native.Mathlib.Numerals.{add-one}
use native.Mathlib.Omega.{arith}
use native.Mathlib.Nat.{pow-suc, div-lt_iff_lt-mul}
use mathlib.Core.Path.{◌≡◌, refl, sym, ap, ap₂, ◌∙◌, subst}
use mathlib.Core.Bool.{Bool, true, false, cond}
use mathlib.Core.List.{List, [], ◌∷◌, ◌++◌}
use lib.Dec.{ltb}
use lib.ListN.{length, get_or, take, drop, length-append}
use lib.Seq.{sets-eq, length-sets, take-append_seam}
use borrow.Author.Tests.{le-leb, lt-leb, lt-ltb, le-ltb}
use Rattle.kinds.specs.declared.refusals.Refusal.{Refusal}
use Rattle.kinds.specs.Refusals.{refusal_number}
use Rattle.rules.specs.Lists.{keep, filter, flat, from}
use Rattle.rules.specs.Sets.{has}
use Rattle.kinds.specs.Words.{space, digits, decimal, bytes}
use Rattle.text.specs.Text.{open_text, list_line, item, named}
use Rattle.output.specs.Emitted.{Emitted, InRange}
use Rattle.output.proofs.Emitting.{Ahead}
use Rattle.answers.specs.Printed.{closing, refused_text, state_word, state_line, total_line, shown}
use Rattle.printing.specs.Parts.{member, members, Shown}

-- decimal digits

digits_short : (f x : ℕ) → length (digits f x) ≤ f
unfolding digits
digits_short zero x = omega arith
digits_short (suc f) x = go (ltb x 10) (digits_short f (x / 10))
  where
    go : (b : Bool) → length (digits f (x / 10)) ≤ f → length (cond b ((48 + x) ∷ []) (digits f (x / 10) ++ ((48 + x % 10) ∷ []))) ≤ suc f
    go true h = omega arith
    go false h = omega (arith, length-append (digits f (x / 10)) ((48 + x % 10) ∷ []))

pub decimal_short : (x : ℕ) → length (decimal x) ≤ 20
decimal_short x = digits_short 20 x

-- one digit more changes nothing where there are enough
digits_more : (f x : ℕ) → x < 10 ^ suc f → digits (suc f) x ≡ digits (suc (suc f)) x
unfolding digits
digits_more zero x h = let k : x < 10 = omega arith in rw (lt-ltb x 10 k)
digits_more (suc f) x h =
    let k : x / 10 < 10 ^ suc f = (div-lt_iff_lt-mul {k = 10} (omega arith)).1 (subst (λ (m : ℕ). x < m) (pow-suc 10 (suc f)) h) in
    ap (λ (l : List ℕ). cond (ltb x 10) ((48 + x) ∷ []) (l ++ ((48 + x % 10) ∷ []))) (digits_more f (x / 10) k)

pub one_digit : (x : ℕ) → x < 10 → (48 + x % 10) ∷ [] ≡ decimal x
unfolding digits
one_digit x h = let e : x % 10 ≡ x = omega arith in rw (lt-ltb x 10 h, e)

pub last_digit : (x : ℕ) → x < 2 ^ 64 → 10 ≤ x → Ahead (decimal x) (decimal (x / 10)) ((48 + x % 10) ∷ [])
unfolding digits
last_digit x h l =
    let k : x / 10 < 10 ^ 19 = omega arith in
    record { is = ap (λ (b : Bool). cond b ((48 + x) ∷ []) (digits 19 (x / 10) ++ ((48 + x % 10) ∷ []))) (le-ltb x 10 l) ∙ ap (λ (d : List ℕ). d ++ ((48 + x % 10) ∷ [])) (digits_more 18 (x / 10) k) }

-- a refusal

pub refused_opens : (f : Refusal) (line : ℕ) {n : ℕ} → n ≡ refusal_number f → Ahead (refused_text f line) (bytes "(refused ") (decimal n ++ (space ∷ (decimal line ++ closing)))
unfolding refused_text
refused_opens f line e = record { is = rw e }

pub refused_short : (f : Refusal) (line : ℕ) → length (refused_text f line) ≤ 52
unfolding refused_text
refused_short f line = simp length-append (omega (arith, decimal_short (refusal_number f), decimal_short line))

pub refused_range : (f : Refusal) (line : ℕ) → InRange 0 (refused_text f line)
refused_range f line = record { below = omega (arith, refused_short f line) }

-- the atoms of a set, one after another

pub member_out : (names : List (List ℕ)) (s a : ℕ) {r : Bool} → r ≡ has s a → r ≡ false → [] ≡ member names s a
unfolding member
member_out names s a e t = rw (sym e ∙ t)

pub member_in : (names : List (List ℕ)) (s a : ℕ) {r : Bool} → r ≡ has s a → r ≡ true → Ahead (member names s a) (32 ∷ []) (get_or names a [])
unfolding member
member_in names s a e t = record { is = rw (sym e ∙ t) }

pub member_next : (names : List (List ℕ)) (s i n : ℕ) → i < n → Ahead (members names s i n) (member names s i) (members names s (i + 1) n)
unfolding members member
member_next names s i n l =
    let e : n - i ≡ suc (n - (i + 1)) = omega arith in
    record {
      is =
          ap (λ (c : ℕ). flat item (named names (filter (has s) (from i c)))) e
          ∙ go (has s i) (filter (has s) (from (suc i) (n - (i + 1))))
          ∙ ap (λ (j : ℕ). cond (has s i) (item (get_or names i [])) [] ++ flat item (named names (filter (has s) (from j (n - (i + 1)))))) (sym (add-one i));
    }
  where
    go : (b : Bool) (l : List ℕ) → flat item (named names (keep b i l)) ≡ cond b (item (get_or names i [])) [] ++ flat item (named names l)
    go true l = refl
    go false l = refl

pub members_end : (names : List (List ℕ)) (s i n : ℕ) → n ≤ i → members names s i n ≡ []
unfolding members
members_end names s i n l = let e : n - i ≡ 0 = omega arith in ap (λ (c : ℕ). flat item (named names (filter (has s) (from i c)))) e

-- the lines of a listing

pub state_opens : (names : List (List ℕ)) (s n : ℕ) → length names ≡ n → Ahead (state_line names s) (40 ∷ state_word) (members names s 0 n ++ closing)
unfolding state_line list_line open_text members
state_opens names s n e =
    let z : length names ≡ n - 0 = omega arith in
    record { is = ap (λ (c : ℕ). (40 ∷ state_word) ++ (flat item (named names (filter (has s) (from 0 c))) ++ closing)) z }

pub total_opens : (c : ℕ) → Ahead (total_line c) (bytes "(total ") (decimal c ++ closing)
unfolding total_line
total_opens c = record { is = refl }

pub total_short : (c : ℕ) → length (total_line c) ≤ 29
unfolding total_line
total_short c = simp length-append (omega (arith, decimal_short c))

-- a text in a lent output

pub shown_none : (text before : List ℕ) → length before < length text → Shown text before before 0
unfolding shown
shown_none text before h = record { count = rw (lt-leb (length text) (length before) h); bytes = rw (lt-leb (length text) (length before) h) }

module _ {text before after : List ℕ} {size : ℕ} (p : Emitted before 0 text after size) where
  size_is : size ≡ length text
  size_is = omega (arith, p.place)

  over_front : length text ≤ length before → after ≡ text ++ drop (length text) before
  over_front h =
      let e : 0 + length text ≡ length text = omega arith in
      p.bytes ∙ sets-eq text before 0 (omega arith) ∙ ap (λ (k : ℕ). text ++ drop k before) e

  pub shown_all : length text ≤ length before → Shown text before after size
  unfolding shown
  shown_all h = record { count = rw (le-leb (length text) (length before) h) size_is; bytes = rw (le-leb (length text) (length before) h) (over_front h) }

  -- what was written into a scratch array with room for it
  pub front_fits : length text ≤ length before → size - 0 ≤ length after
  front_fits h = omega (arith, size_is, ap length p.bytes ∙ length-sets before 0 text)

  pub written_front : length text ≤ length before → take (size - 0) (drop 0 after) ≡ text
  written_front h =
      let e : size - 0 ≡ length text = omega (arith, size_is) in
      ap₂ (λ (k : ℕ) (l : List ℕ). take k l) e (over_front h) ∙ take-append_seam text (drop (length text) before)

pub shown_renamed : {text text' before after : List ℕ} {size : ℕ} → text ≡ text' → Shown text before after size → Shown text' before after size
shown_renamed {text} {text'} {before} {after} {size} e h = subst (λ (t : List ℕ). Shown t before after size) e h
