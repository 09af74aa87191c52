-- The names of the translation, name by name.
use Prim.Native.Nat.{ℕ, zero, suc, ◌+◌, ◌-◌, ◌≤◌, ◌<◌}
use native.Mathlib.Omega.{arith}
use native.Mathlib.Nat.{add-zero}
use mathlib.Core.Path.{◌≡◌, refl, sym, ap, ap₂, ◌∙◌, subst}
use mathlib.Core.Bool.{Bool, cond}
use mathlib.Core.List.{List, [], ◌∷◌, ◌++◌, map}
use lib.Dec.{T}
use lib.ListN.{length, get_or, take, drop, length-append, length-drop}
use lib.Seq.{take_all, drop-drop, length-take-le, get_or-drop, take-append_seam, drop-append_seam}
use borrow.Author.Tests.{lt-ltb, le-ltb}
use Rattle.kinds.specs.Words.{decimal}
use Rattle.kinds.specs.Sizes.{longest_name}
use Rattle.kinds.specs.Limits.{class_limit}
use Rattle.kinds.specs.declared.limits.Kind.{Kind}
use Rattle.rules.specs.Lists.{All, flat, from}
use Rattle.rules.proofs.ListLaws.{flat_map}
use Rattle.rules.proofs.Lists.{all_imp}
use Rattle.names.specs.Names.{allowed}
use Rattle.names.proofs.Decimals.{decimal_short}
use Rattle.name_store.specs.NameStore.{name_bytes, encode_names, first_name, decode_names}
use Rattle.name_store.proofs.NameStores.{allowed_short}
use Rattle.pairing.specs.Loops.{dot}
use Rattle.output.specs.Emitted.{Emitted, InRange}
use Rattle.output.proofs.Emitting.{Ahead, Emitting, start, turn, finish, range_here}
use Rattle.translated.specs.NameBytes.{FileName, FileNames, dotted_bytes, end_bytes}
use Rattle.atom_lists.specs.ListWords.{each}
use Rattle.atom_lists.proofs.ListLaws.{run_next, run_ends}

-- one name

pub dotted_ahead : (letter : ℕ) {bs : List ℕ} → FileName bs → Ahead (dotted_bytes letter (first_name bs)) ((get_or bs 0 0 + 2) ∷ letter ∷ 46 ∷ []) (take (1 + get_or bs 0 0 - 1) (drop 1 bs))
unfolding dotted_bytes
dotted_ahead letter {bs} h =
    let e : 1 + get_or bs 0 0 - 1 ≡ get_or bs 0 0 = omega arith in
    let l : length (first_name bs) ≡ get_or bs 0 0 = length-take-le (get_or bs 0 0) (drop 1 bs) (omega (arith, h.inside, length-drop 1 bs)) in
    let c : length (dot letter (first_name bs)) ≡ get_or bs 0 0 + 2 = omega (arith, l) in
    record { is = ap₂ (λ (k m : ℕ). k ∷ letter ∷ 46 ∷ take m (drop 1 bs)) c (sym e) }

pub one_digit : (j : ℕ) → j < 10 → end_bytes j ≡ 3 ∷ 69 ∷ 46 ∷ (48 + j) ∷ []
unfolding end_bytes
one_digit j l = ap (λ (x : List ℕ). name_bytes (dot 69 x)) (decimal_short j (omega arith)) ∙ ap (λ (b : Bool). name_bytes (dot 69 (cond b ((48 + j) ∷ []) (49 ∷ (38 + j) ∷ [])))) (lt-ltb j 10 l)

pub two_digits : (j : ℕ) → 10 ≤ j → j ≤ class_limit → end_bytes j ≡ 4 ∷ 69 ∷ 46 ∷ 49 ∷ (38 + j) ∷ []
unfolding end_bytes
two_digits j l u = ap (λ (x : List ℕ). name_bytes (dot 69 x)) (decimal_short j (omega arith)) ∙ ap (λ (b : Bool). name_bytes (dot 69 (cond b ((48 + j) ∷ []) (49 ∷ (38 + j) ∷ [])))) (le-ltb j 10 l)

-- the names that are left, from a place in the bytes
pub record NamesLeft (letter count : ℕ) (bytes before : List ℕ) (at : ℕ) (now : List ℕ) (next place i : ℕ) : Type 0 where
  pub stored : FileNames (count - i) (drop place bytes)
  pub so : Emitting (each (dotted_bytes letter) (decode_names count bytes)) before at (each (dotted_bytes letter) (decode_names (count - i) (drop place bytes))) now next

pub names_begin : {letter count : ℕ} {bytes before : List ℕ} {at : ℕ} → FileNames count bytes → InRange at (each (dotted_bytes letter) (decode_names count bytes)) → NamesLeft letter count bytes before at before at 0 0
names_begin {letter} {count} {bytes} {before} {at} s r =
    let e : count ≡ count - 0 = omega arith in
    record {
      stored = subst (λ (k : ℕ). FileNames k bytes) e s;
      so = subst (λ (k : ℕ). Emitting (each (dotted_bytes letter) (decode_names count bytes)) before at (each (dotted_bytes letter) (decode_names k bytes)) before at) e (start r);
    }

module _ {letter count : ℕ} {bytes before : List ℕ} {at : ℕ} {now : List ℕ} {next place i : ℕ} (h : NamesLeft letter count bytes before at now next place i) where
  pub names_end : count ≤ i → Emitted before at (each (dotted_bytes letter) (decode_names count bytes)) now next
  unfolding decode_names each
  names_end l = let e : count - i ≡ 0 = omega arith in finish h.so (ap (λ (k : ℕ). each (dotted_bytes letter) (decode_names k (drop place bytes))) e)

  module _ (l : i < count) where
    -- what the code hands on
    abbrev front : List ℕ
    front = take (length bytes - place) (drop place bytes)

    front_is : front ≡ drop place bytes
    front_is = take_all (length bytes - place) (drop place bytes) (omega (arith, length-drop place bytes))

    more : count - i ≡ suc (count - (i + 1))
    more = omega arith

    first_stored : FileName (drop place bytes) × FileNames (count - (i + 1)) (drop (1 + get_or (drop place bytes) 0 0) (drop place bytes))
    first_stored = subst (λ (k : ℕ). FileNames k (drop place bytes)) more h.stored

    pub name_stored : FileName front
    name_stored = subst FileName (sym front_is) first_stored.0

    byte_here : get_or (drop place bytes) 0 0 ≡ get_or bytes place 0
    byte_here = get_or-drop place bytes 0 0 ∙ ap (λ (k : ℕ). get_or bytes k 0) (add-zero place)

    pub name_inside : place + (1 + get_or bytes place 0) ≤ length bytes
    name_inside = omega (arith, first_stored.0.inside, length-drop place bytes, byte_here)

    past : drop (1 + get_or (drop place bytes) 0 0) (drop place bytes) ≡ drop (place + (1 + get_or bytes place 0)) bytes
    past = drop-drop (1 + get_or (drop place bytes) 0 0) place bytes ∙ ap (λ (k : ℕ). drop (place + (1 + k)) bytes) byte_here

    name_ahead : Ahead (each (dotted_bytes letter) (decode_names (count - i) (drop place bytes))) (dotted_bytes letter (first_name front)) (each (dotted_bytes letter) (decode_names (count - (i + 1)) (drop (place + (1 + get_or bytes place 0)) bytes)))
    unfolding each decode_names
    name_ahead =
        record {
          is =
              ap (λ (k : ℕ). each (dotted_bytes letter) (decode_names k (drop place bytes))) more
              ∙ ap₂ (λ (u v : List ℕ). dotted_bytes letter (first_name u) ++ each (dotted_bytes letter) (decode_names (count - (i + 1)) v)) (sym front_is) past;
        }

    pub name_range : InRange next (dotted_bytes letter (first_name front))
    name_range = range_here h.so name_ahead

    pub names_again : {next' : ℕ} {now' : List ℕ} → Emitted now next (dotted_bytes letter (first_name front)) now' next' → NamesLeft letter count bytes before at now' next' (place + (1 + get_or bytes place 0)) (i + 1)
    names_again p = record { stored = subst (FileNames (count - (i + 1))) past first_stored.1; so = turn h.so name_ahead p }

-- a store of short names

abbrev pub Short : List (List ℕ) → Type 0
Short names = All (λ x. length x ≤ longest_name) names

pub short_of : (kind : Kind) (names : List (List ℕ)) → All (λ x. T (allowed kind x)) names → Short names
short_of kind names h = all_imp (λ x. T (allowed kind x)) (λ x. length x ≤ longest_name) (λ x t. allowed_short kind x t) names h

rest_bytes : (x bs : List ℕ) → drop (1 + length x) (name_bytes x ++ bs) ≡ bs
rest_bytes x bs = sym (drop-drop (length x) 1 (name_bytes x ++ bs)) ∙ drop-append_seam x bs

pub first_names : (names : List (List ℕ)) → Short names → (c : ℕ) → c ≤ length names → FileNames c (encode_names names)
unfolding encode_names
first_names names h zero l = tt
first_names [] h (suc c) l = absurd (omega arith)
first_names (x ∷ names) h (suc c) l = (
  record { inside = omega (arith, length-append x (flat name_bytes names)); short = h.0 },
  subst (FileNames c) (sym (rest_bytes x (flat name_bytes names))) (first_names names h.1 c (omega arith)),
)

pub first_decoded : (names : List (List ℕ)) (c : ℕ) → c ≤ length names → decode_names c (encode_names names) ≡ take c names
unfolding decode_names encode_names
first_decoded names zero l = refl
first_decoded [] (suc c) l = absurd (omega arith)
first_decoded (x ∷ names) (suc c) l =
    ap₂ (λ (y : List ℕ) (ys : List (List ℕ)). y ∷ ys) (take-append_seam x (flat name_bytes names))
    (ap (decode_names c) (rest_bytes x (flat name_bytes names)) ∙ first_decoded names c (omega arith))

-- the runs of names

pub dotted_run : (letter : ℕ) (names : List (List ℕ)) → encode_names (map (dot letter) names) ≡ each (dotted_bytes letter) names
unfolding encode_names each dotted_bytes
dotted_run letter names = flat_map name_bytes (dot letter) names

pub ends_run : (k : ℕ) → encode_names (map (λ j. dot 69 (decimal j)) (from 0 (suc k))) ≡ each end_bytes (from 0 (k + 1 - 0))
unfolding encode_names each end_bytes
ends_run k =
    let e : suc k ≡ k + 1 - 0 = omega arith in
    flat_map name_bytes (λ j. dot 69 (decimal j)) (from 0 (suc k)) ∙ ap (λ (c : ℕ). flat end_bytes (from 0 c)) e

-- E.0 to E.k, one after the other
module _ {j k : ℕ} where
  pub end_next : j ≤ k → Ahead (each end_bytes (from j (k + 1 - j))) (end_bytes j) (each end_bytes (from (j + 1) (k + 1 - (j + 1))))
  end_next l = run_next end_bytes j (k + 1) (omega arith)

  pub ends_end : k < j → each end_bytes (from j (k + 1 - j)) ≡ []
  ends_end l = run_ends end_bytes j (k + 1) (omega arith)
