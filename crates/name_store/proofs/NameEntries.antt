-- Entering one name more into an index.
use Prim.Native.Nat.{ℕ, suc, ◌+◌, ◌≤◌, ◌<◌, zero-le}
use native.Mathlib.Numerals.{add-one}
use native.Mathlib.Decide.{ℕ_discrete}
use native.Mathlib.Omega.{arith}
use mathlib.Core.Path.{◌≡◌, refl, sym, ap, ap₂, ◌∙◌, subst}
use mathlib.Core.Logic.{◌≢◌}
use mathlib.Core.List.{List, [], ◌∷◌, ◌++◌, append_assoc, append-nil}
use mathlib.Core.Bool.{Bool, true, false, cond, not}
use lib.Dec.{eqb}
use lib.ListN.{replicate, length-replicate, get_or-replicate, length, get_or, take, drop, set, length-append, length-set, get_or-append}
use lib.Seq.{length-take-le, take-suc, get_or-take, drop-append_seam, take-append-le, take-append_seam, get_or-append_seam, get_or-set_same, get_or-set_other, drop-drop}
use borrow.Author.Tests.{eq-eqb, ne_eqb}
use Rattle.rules.specs.Lists.{All, Distinct, some}
use Rattle.name_store.specs.NameStore.{name_bytes, encode_names, decode_names, same_bytes, among}
use Rattle.name_store.specs.NameIndex.{found, buckets, name_hash, hashes, last_with, name_start, Placed, Indexed}
use Rattle.name_store.proofs.ByteLoops.{hash_small}
use Rattle.name_store.proofs.NameChains.{last_ext, missing_differs, found_among}
use Rattle.name_store.proofs.NamePlaces.{length_decode}
use Rattle.name_store.proofs.NameStores.{not_seen, decode_front}
use Rattle.rules.proofs.Booleans.{T-not-out, is_true_lem, is_false}
use Rattle.rules.proofs.ListLaws.{flat_append}
use Rattle.std.specs.Prelude.{Option, Some, None, is_some}

pub encode_append : (xs ys : List (List ℕ)) → encode_names (xs ++ ys) ≡ encode_names xs ++ encode_names ys
unfolding encode_names
encode_append xs ys = flat_append name_bytes xs ys

pub encode_last : (names : List (List ℕ)) (x : List ℕ) → encode_names (names ++ (x ∷ [])) ≡ encode_names names ++ name_bytes x
unfolding encode_names
encode_last names x = encode_append names (x ∷ []) ∙ ap (λ l. encode_names names ++ l) (append-nil (name_bytes x))

-- the place after a name
pub place_next : (names : List (List ℕ)) (i : ℕ) → i < length names → name_start names (i + 1) ≡ name_start names i + (1 + length (get_or names i []))
place_next names i l =
    let e : take (i + 1) names ≡ take i names ++ (get_or names i [] ∷ []) = ap (λ k. take k names) (add-one i) ∙ take-suc names i [] l in
    omega (arith, ap (λ x. length (encode_names x)) e ∙ ap length (encode_last (take i names) (get_or names i [])) ∙ length-append (encode_names (take i names)) (name_bytes (get_or names i [])))

distinct_last : (names : List (List ℕ)) (x : List ℕ) → Distinct names → All (λ y. x ≢ y) names → Distinct (names ++ (x ∷ []))
distinct_last [] x d f = (tt, tt)
distinct_last (y ∷ names) x d f = (go names d.0, distinct_last names x d.1 f.1)
  where
    go : (l : List (List ℕ)) → All (λ z. y ≢ z) l → All (λ z. y ≢ z) (l ++ (x ∷ []))
    go [] a = (λ e. f.0 (sym e), tt)
    go (z ∷ l) a = (a.0, go l a.1)

-- no name yet
pub index_empty : (bytes starts firsts links : List ℕ) → firsts ≡ replicate buckets 0 → Indexed [] bytes starts firsts links
unfolding encode_names last_with
index_empty bytes starts firsts links e = record {
  placed = record { stored = refl; room = zero-le; start = λ i l. absurd (omega arith) };
  different = tt;
  firsts_room = omega (arith, ap length e, length-replicate {A = ℕ} buckets 0);
  links_room = zero-le;
  first = λ h l. ap (λ w. get_or w h 0) e ∙ get_or-replicate buckets h 0 0 l;
  link = λ i l. absurd (omega arith);
}

-- the bytes say the names
pub placed_names_lem : {names : List (List ℕ)} {bytes starts : List ℕ} → Placed names bytes starts → decode_names (length names) bytes ≡ names
placed_names_lem {names} {bytes} p = ap (decode_names (length names)) (sym p.stored) ∙ decode_front names (drop (length (encode_names names)) bytes)

-- x follows the names in the bytes, and is none of them
module _ {names : List (List ℕ)} {bytes starts firsts links : List ℕ} (ix : Indexed names bytes starts firsts links)
    (x rest : List ℕ) (follows : drop (length (encode_names names)) bytes ≡ name_bytes x ++ rest) (fresh : All (λ y. x ≢ y) names)
    (starts_room : length names < length starts) (links_room : length names < length links) where
  abbrev more : List (List ℕ)
  more = names ++ (x ∷ [])

  abbrev at : ℕ
  at = length (encode_names names)

  counts : length more ≡ suc (length names)
  counts = length-append names (x ∷ []) ∙ add-one (length names)

  old_name : (i : ℕ) → i < length names → get_or more i [] ≡ get_or names i []
  old_name i l = get_or-append names (x ∷ []) [] i l

  new_name : get_or more (length names) [] ≡ x
  new_name = get_or-append_seam names x [] []

  chain : (h i : ℕ) → i ≤ length names → last_with (hashes names) h i ≡ last_with (hashes more) h i
  chain h i l = last_ext (hashes names) (hashes more) h i (λ j u. sym (ap name_hash (old_name j (omega arith))))

  placed_more : Placed more bytes (set starts (length names) at)
  placed_more = record {
    stored =
        ap₂ ◌++◌ (encode_last names x) (ap (λ n. drop n bytes) (ap length (encode_last names x) ∙ length-append (encode_names names) (name_bytes x))
        ∙ sym (drop-drop (length (name_bytes x)) at bytes) ∙ ap (drop (length (name_bytes x))) follows ∙ drop-append_seam (name_bytes x) rest)
        ∙ append_assoc (encode_names names) (name_bytes x) rest ∙ ap (λ l. encode_names names ++ l) (sym follows) ∙ ix.placed.stored;
    room = omega (arith, counts, length-set starts (length names) at);
    start = λ i l. go i l (ℕ_discrete i (length names));
  }
    where
      go : (i : ℕ) → i < length more → Dec (i ≡ length names) → get_or (set starts (length names) at) i 0 ≡ name_start more i
      go i l (yes e) =
          ap (λ k. get_or (set starts (length names) at) k 0) e ∙ get_or-set_same starts (length names) at 0 starts_room
          ∙ sym (ap (λ k. name_start more k) e ∙ ap (λ l. length (encode_names l)) (take-append_seam names (x ∷ [])))
      go i l (no e) =
          let u : i < length names = omega (arith, counts) in
          get_or-set_other starts (length names) i at 0 e ∙ ix.placed.start i u
          ∙ sym (ap (λ l. length (encode_names l)) (take-append-le i names (x ∷ []) (omega arith)))

  last_more : (h : ℕ) → last_with (hashes more) h (length more) ≡ cond (eqb (name_hash x) h) (suc (length names)) (last_with (hashes more) h (length names))
  unfolding last_with
  last_more h =
      ap (last_with (hashes more) h) counts
      ∙ ap (λ k. cond (eqb k h) (suc (length names)) (last_with (hashes more) h (length names))) (ap name_hash new_name)

  head_more : (h : ℕ) → h < buckets → get_or (set firsts (name_hash x) (length names + 1)) h 0 ≡ last_with (hashes more) h (length more)
  head_more h l = go (ℕ_discrete h (name_hash x))
    where
      go : Dec (h ≡ name_hash x) → get_or (set firsts (name_hash x) (length names + 1)) h 0 ≡ last_with (hashes more) h (length more)
      go (yes e) =
          ap (λ k. get_or (set firsts (name_hash x) (length names + 1)) k 0) e
          ∙ get_or-set_same firsts (name_hash x) (length names + 1) 0 (omega (arith, ix.firsts_room, hash_small x))
          ∙ add-one (length names)
          ∙ sym (rw (eq-eqb (name_hash x) h (sym e)) at (last_more h))
      go (no e) =
          get_or-set_other firsts (name_hash x) h (length names + 1) 0 e
          ∙ ix.first h l
          ∙ chain h (length names) (omega arith)
          ∙ sym (rw (ne_eqb (name_hash x) h (λ k. e (sym k))) at (last_more h))

  link_more : (i : ℕ) → i < length more → get_or (set links (length names) (get_or firsts (name_hash x) 0)) i 0 ≡ last_with (hashes more) (hashes more i) i
  link_more i l = go (ℕ_discrete i (length names))
    where
      go : Dec (i ≡ length names) → get_or (set links (length names) (get_or firsts (name_hash x) 0)) i 0 ≡ last_with (hashes more) (hashes more i) i
      go (yes e) =
          ap (λ k. get_or (set links (length names) (get_or firsts (name_hash x) 0)) k 0) e
          ∙ get_or-set_same links (length names) (get_or firsts (name_hash x) 0) 0 links_room
          ∙ ix.first (name_hash x) (hash_small x)
          ∙ chain (name_hash x) (length names) (omega arith)
          ∙ sym (ap (λ k. last_with (hashes more) (hashes more k) k) e ∙ ap (λ h. last_with (hashes more) h (length names)) (ap name_hash new_name))
      go (no e) =
          let u : i < length names = omega (arith, counts) in
          get_or-set_other links (length names) i (get_or firsts (name_hash x) 0) 0 e
          ∙ ix.link i u
          ∙ chain (hashes names i) i (omega arith)
          ∙ ap (λ h. last_with (hashes more) h i) (sym (ap name_hash (old_name i u)))

  pub entered : Indexed more bytes (set starts (length names) at) (set firsts (name_hash x) (length names + 1)) (set links (length names) (get_or firsts (name_hash x) 0))
  entered = record {
    placed = placed_more;
    different = distinct_last names x ix.different fresh;
    firsts_room = omega (arith, ix.firsts_room, length-set firsts (name_hash x) (length names + 1));
    links_room = omega (arith, counts, length-set links (length names) (get_or firsts (name_hash x) 0));
    first = head_more;
    link = link_more;
  }

-- whether a number is found

pub is_found : (q : Option ℕ) {t : Bool} → t ≡ is_some q → t ≡ true → (j : ℕ) × (q ≡ Some j)
is_found None e d = absurd (let z : ◌≡◌ {A = Bool} false true = sym e ∙ d in let y : ◌≡◌ {A = ℕ} 0 1 = cc in omega arith)
is_found (Some j) e d = (j, refl)

pub not_found : (q : Option ℕ) {t : Bool} → t ≡ is_some q → t ≡ false → q ≡ None
not_found None e d = refl
not_found (Some j) e d = absurd (let z : ◌≡◌ {A = Bool} true false = sym e ∙ d in let y : ◌≡◌ {A = ℕ} 0 1 = cc in omega arith)

-- the part of `starts` that is filled

module _ (n : ℕ) {bytes starts firsts links : List ℕ} (ix : Indexed (decode_names n bytes) bytes starts firsts links) where
  pub length_filled : length (take n starts) ≡ n
  length_filled = length-take-le n starts (omega (arith, ix.placed.room, length_decode n bytes))

  pub filled : Indexed (decode_names (length (take n starts)) bytes) bytes (take n starts) firsts links
  filled = subst (λ m. Indexed (decode_names m bytes) bytes (take n starts) firsts links) (sym length_filled) (record {
    placed = record {
      stored = ix.placed.stored;
      room = omega (arith, length_filled, length_decode n bytes);
      start = λ i l. get_or-take n starts i 0 (omega (arith, length_decode n bytes)) ∙ ix.placed.start i l;
    };
    different = ix.different;
    firsts_room = ix.firsts_room;
    links_room = ix.links_room;
    first = ix.first;
    link = ix.link;
  })

  module _ (x : List ℕ) {r : Option ℕ} (is : r ≡ found x (decode_names (length (take n starts)) bytes)) where
    found_filled : r ≡ found x (decode_names n bytes)
    found_filled = is ∙ ap (λ m. found x (decode_names m bytes)) length_filled

    pub found_new : r ≡ None → true ≡ not (among (decode_names n bytes) x)
    found_new e = sym (is_true_lem (not (among (decode_names n bytes) x)) ((not_seen x (decode_names n bytes)).1 (missing_differs x 0 (decode_names n bytes) (sym found_filled ∙ e))))

    pub found_old : {j : ℕ} → r ≡ Some j → false ≡ not (among (decode_names n bytes) x)
    found_old e = sym (is_false (not (among (decode_names n bytes) x)) (λ t. T-not-out (some (same_bytes x) (decode_names n bytes)) t (found_among x 0 (decode_names n bytes) (sym found_filled ∙ e))))
