-- What is left of class words, atoms and names, written one by one.
use Prim.Native.Nat.{ℕ, suc, ◌+◌, ◌-◌, ◌≤◌, ◌<◌}
use native.Mathlib.Numerals.{add-one}
use native.Mathlib.Omega.{arith}
use mathlib.Core.Path.{◌≡◌, refl, sym, ap, ap₂, ◌∙◌, subst}
use mathlib.Core.Bool.{Bool, true, false, cond}
use mathlib.Core.List.{List, [], ◌∷◌, ◌++◌, map, append_assoc}
use lib.ListN.{length, get_or, take, drop, drop_of_length-le}
use lib.Seq.{take_at, drop-cons, drop-drop, drop-append_seam}
use Rattle.rules.specs.Lists.{All, keep, filter, from}
use Rattle.rules.proofs.Lists.{all_at}
use Rattle.name_store.specs.NameStore.{name_bytes, encode_names, decode_names}
use Rattle.name_store.proofs.NamePlaces.{NameHere, stands, length_decode}
use Rattle.output.specs.Emitted.{Emitted, InRange}
use Rattle.output.proofs.Emitting.{Ahead, Emitting, start, turn, finish, renamed, range_here, byte_next}
use Rattle.restriction.specs.Atoms.{entries}
use Rattle.used_atoms.specs.Marks.{marked}

-- the marked ones among the atoms from i up to n
abbrev marked_from : List Bool → ℕ → ℕ → List ℕ
marked_from marks i n = filter (λ a. get_or marks a false) (from i (n - i))

all_marked : (marks : List Bool) (n : ℕ) → marked n marks ≡ marked_from marks 0 n
unfolding marked
all_marked marks n = let e : n ≡ n - 0 = omega arith in ap (λ (k : ℕ). filter (λ a. get_or marks a false) (from 0 k)) e

next_marked : (marks : List Bool) (i n : ℕ) → i < n → marked_from marks i n ≡ keep (get_or marks i false) i (marked_from marks (i + 1) n)
next_marked marks i n l =
    let e : n - i ≡ suc (n - (i + 1)) = omega arith in
    ap (λ (k : ℕ). filter (λ a. get_or marks a false) (from i k)) e
    ∙ ap (λ (k : ℕ). keep (get_or marks i false) i (filter (λ a. get_or marks a false) (from k (n - (i + 1))))) (sym (add-one i))

none_marked : (marks : List Bool) (i n : ℕ) → n ≤ i → marked_from marks i n ≡ []
none_marked marks i n l = let e : n - i ≡ 0 = omega arith in ap (λ (k : ℕ). filter (λ a. get_or marks a false) (from i k)) e

-- one class word

pub kept_word : {b : Bool} (w : ℕ) → b ≡ true → keep b w [] ≡ w ∷ []
kept_word w e = ap (λ (b : Bool). keep b w []) e

pub left_word : {b : Bool} (w : ℕ) → b ≡ false → [] ≡ keep b w []
left_word w e = ap (λ (b : Bool). keep b w []) (sym e)

keep_entries : (f : ℕ → ℕ) (b : Bool) (a : ℕ) (l : List ℕ) → map f (keep b a l) ≡ keep b (f a) [] ++ map f l
keep_entries f true a l = refl
keep_entries f false a l = refl

-- the class words

pub record ClassesLeft (words : List ℕ) (marks : List Bool) (before : List ℕ) (at : ℕ) (now : List ℕ) (next i : ℕ) : Type 0 where
  pub so : Emitting (entries 0 words (marked (length words) marks)) before at (entries 0 words (marked_from marks i (length words))) now next

pub classes_begin : {words : List ℕ} {marks : List Bool} {before : List ℕ} {at : ℕ} → InRange at (entries 0 words (marked (length words) marks)) → ClassesLeft words marks before at before at 0
classes_begin {words} {marks} {before} {at} r =
    record { so = subst (λ (l : List ℕ). Emitting (entries 0 words (marked (length words) marks)) before at (entries 0 words l) before at) (all_marked marks (length words)) (start r) }

module _ {words : List ℕ} {marks : List Bool} {before : List ℕ} {at : ℕ} {now : List ℕ} {next i : ℕ} (h : ClassesLeft words marks before at now next i) where
  pub classes_end : length words ≤ i → Emitted before at (entries 0 words (marked (length words) marks)) now next
  classes_end l = finish h.so (ap (entries 0 words) (none_marked marks i (length words) l))

  module _ (l : i < length words) where
    class_ahead : Ahead (entries 0 words (marked_from marks i (length words))) (keep (get_or marks i false) (get_or words i 0) []) (entries 0 words (marked_from marks (i + 1) (length words)))
    class_ahead = record { is = ap (entries 0 words) (next_marked marks i (length words) l) ∙ keep_entries (λ a. get_or words a 0) (get_or marks i false) i (marked_from marks (i + 1) (length words)) }

    module _ {word : ℕ} {kept : Bool} (w : word ≡ get_or words i 0) (k : kept ≡ get_or marks i false) where
      pub class_range : InRange next (keep kept word [])
      class_range = subst (InRange next) (ap₂ (λ (b : Bool) (x : ℕ). keep b x []) (sym k) (sym w)) (range_here h.so class_ahead)

      pub classes_again : {now' : List ℕ} {next' : ℕ} → Emitted now next (keep kept word []) now' next' → ClassesLeft words marks before at now' next' (i + 1)
      classes_again p = record { so = turn h.so class_ahead (renamed p (ap₂ (λ (b : Bool) (x : ℕ). keep b x []) k w)) }

-- atoms by their numbers

pub record AtomsPut (atoms numbers before : List ℕ) (at : ℕ) (now : List ℕ) (next i : ℕ) : Type 0 where
  pub below : All (λ a. a < length numbers) atoms
  pub so : Emitting (entries 0 numbers atoms) before at (entries 0 numbers (drop i atoms)) now next

pub put_begin : {atoms numbers before : List ℕ} {at : ℕ} → All (λ a. a < length numbers) atoms → InRange at (entries 0 numbers atoms) → AtomsPut atoms numbers before at before at 0
put_begin b r = record { below = b; so = start r }

module _ {atoms numbers before : List ℕ} {at : ℕ} {now : List ℕ} {next i : ℕ} (h : AtomsPut atoms numbers before at now next i) where
  pub put_end : length atoms ≤ i → Emitted before at (entries 0 numbers atoms) now next
  put_end l = finish h.so (ap (entries 0 numbers) (drop_of_length-le atoms l))

  module _ (l : i < length atoms) where
    pub number_inside : get_or atoms i 0 < length numbers
    number_inside = all_at (λ a. a < length numbers) 0 atoms h.below i l

    number_ahead : Ahead (entries 0 numbers (drop i atoms)) (get_or numbers (get_or atoms i 0) 0 ∷ []) (entries 0 numbers (drop (i + 1) atoms))
    number_ahead = record { is = ap (entries 0 numbers) (byte_next atoms i l).is }

    pub number_range : InRange next (get_or numbers (get_or atoms i 0) 0 ∷ [])
    number_range = range_here h.so number_ahead

    pub put_again : {now' : List ℕ} {next' : ℕ} → Emitted now next (get_or numbers (get_or atoms i 0) 0 ∷ []) now' next' → AtomsPut atoms numbers before at now' next' (i + 1)
    put_again p = record { below = h.below; so = turn h.so number_ahead p }

-- one name

pub kept_name : {b : Bool} (x : List ℕ) → b ≡ true → cond b x [] ≡ x
kept_name x e = ap (λ (b : Bool). cond b x []) e

pub left_name : {b : Bool} (x : List ℕ) → b ≡ false → [] ≡ cond b x []
left_name x e = ap (λ (b : Bool). cond b x []) (sym e)

keep_names : (f : ℕ → List ℕ) (b : Bool) (a : ℕ) (l : List ℕ) → encode_names (map f (keep b a l)) ≡ cond b (name_bytes (f a)) [] ++ encode_names (map f l)
unfolding encode_names
keep_names f true a l = refl
keep_names f false a l = refl

-- the names

pub record NamesLeft (bytes : List ℕ) (n : ℕ) (marks : List Bool) (before : List ℕ) (at : ℕ) (now : List ℕ) (next place i : ℕ) : Type 0 where
  pub rest : List ℕ
  pub here : drop place bytes ≡ encode_names (drop i (decode_names n bytes)) ++ rest
  pub so : Emitting (encode_names (entries [] (decode_names n bytes) (marked n marks))) before at (encode_names (entries [] (decode_names n bytes) (marked_from marks i n))) now next

pub names_begin : {bytes : List ℕ} {n : ℕ} {marks : List Bool} {before : List ℕ} {at : ℕ}
    → encode_names (decode_names n bytes) ++ drop (length (encode_names (decode_names n bytes))) bytes ≡ bytes
    → InRange at (encode_names (entries [] (decode_names n bytes) (marked n marks))) → NamesLeft bytes n marks before at before at 0 0
names_begin {bytes} {n} {marks} {before} {at} s r = record {
  rest = drop (length (encode_names (decode_names n bytes))) bytes;
  here = sym s;
  so = subst (λ (l : List ℕ). Emitting (encode_names (entries [] (decode_names n bytes) (marked n marks))) before at (encode_names (entries [] (decode_names n bytes) l)) before at) (all_marked marks n) (start r);
}

module _ {bytes : List ℕ} {n : ℕ} {marks : List Bool} {before : List ℕ} {at : ℕ} {now : List ℕ} {next place i : ℕ} (h : NamesLeft bytes n marks before at now next place i) where
  pub names_end : n ≤ i → Emitted before at (encode_names (entries [] (decode_names n bytes) (marked n marks))) now next
  unfolding encode_names
  names_end l = finish h.so (ap (λ (xs : List ℕ). encode_names (entries [] (decode_names n bytes) xs)) (none_marked marks i n l))

  module _ (l : i < n) where
    abbrev names : List (List ℕ)
    names = decode_names n bytes

    abbrev name : List ℕ
    name = get_or names i []

    -- the name's entry, as the code takes it
    abbrev part : List ℕ
    part = take (place + 1 + get_or bytes place 0 - place) (drop place bytes)

    split : drop place bytes ≡ name_bytes name ++ (encode_names (drop (i + 1) names) ++ h.rest)
    unfolding encode_names
    split =
        h.here
        ∙ ap (λ (l : List (List ℕ)). encode_names l ++ h.rest) (drop-cons names i [] (omega (arith, length_decode n bytes)) ∙ ap (λ (k : ℕ). name ∷ drop k names) (sym (add-one i)))
        ∙ append_assoc (name_bytes name) (encode_names (drop (i + 1) names)) h.rest

    name_here : NameHere bytes place name
    name_here = stands bytes place name (encode_names (drop (i + 1) names) ++ h.rest) split

    pub entry_inside : place + 1 + get_or bytes place 0 ≤ length bytes
    entry_inside = omega (arith, name_here.inside, name_here.size)

    part_is : part ≡ name_bytes name
    part_is =
        let e : length (name_bytes name) ≡ place + 1 + get_or bytes place 0 - place = omega (arith, name_here.size) in
        ap (take (place + 1 + get_or bytes place 0 - place)) split ∙ take_at (name_bytes name) (encode_names (drop (i + 1) names) ++ h.rest) (place + 1 + get_or bytes place 0 - place) e

    name_ahead : Ahead (encode_names (entries [] names (marked_from marks i n))) (cond (get_or marks i false) part []) (encode_names (entries [] names (marked_from marks (i + 1) n)))
    name_ahead = record {
      is =
          ap (λ (xs : List ℕ). encode_names (entries [] names xs)) (next_marked marks i n l)
          ∙ keep_names (λ a. get_or names a []) (get_or marks i false) i (marked_from marks (i + 1) n)
          ∙ ap (λ (x : List ℕ). cond (get_or marks i false) x [] ++ encode_names (entries [] names (marked_from marks (i + 1) n))) (sym part_is);
    }

    pub name_range : {kept : Bool} → kept ≡ get_or marks i false → InRange next (cond kept part [])
    name_range e = subst (λ (b : Bool). InRange next (cond b part [])) (sym e) (range_here h.so name_ahead)

    pub names_again : {kept : Bool} → kept ≡ get_or marks i false → {now' : List ℕ} {next' : ℕ} → Emitted now next (cond kept part []) now' next' → NamesLeft bytes n marks before at now' next' (place + 1 + get_or bytes place 0) (i + 1)
    names_again k p = record {
      rest = h.rest;
      here =
          let e : place + 1 + get_or bytes place 0 ≡ place + length (name_bytes name) = omega (arith, name_here.size) in
          ap (λ (k : ℕ). drop k bytes) e ∙ sym (drop-drop (length (name_bytes name)) place bytes) ∙ ap (drop (length (name_bytes name))) split ∙ drop-append_seam (name_bytes name) (encode_names (drop (i + 1) names) ++ h.rest);
      so = turn h.so name_ahead (renamed p (ap (λ (b : Bool). cond b part []) k));
    }
