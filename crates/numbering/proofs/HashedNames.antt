-- Items with the hashes of their names, by their places.
use Rattle.std.specs.Prelude.{Option, Some, None}
use Prim.Native.Nat.{ℕ, ◌+◌, ◌-◌, ◌*◌, ◌%◌, ◌≤◌, ◌<◌}
use native.Mathlib.Numerals.{add-one}
use native.Mathlib.Omega.{arith}
use mathlib.Core.Path.{◌≡◌, refl, sym, ap, ap₂, ◌∙◌}
use mathlib.Core.List.{List}
use mathlib.Core.Bool.{true, false}
use lib.ListN.{length, get_or, take, drop}
use lib.Seq.{drop-cons, drop-drop}
use Rattle.name_store.specs.NameIndex.{buckets, hash_from, name_hash}
use Rattle.rules.proofs.Lists.{part_sized}
use Rattle.lines.specs.declared.scan.Item.{Item}
use Rattle.numbering.specs.declared.hashed_items.HashedItem.{HashedItem}
use Rattle.lines.specs.Tokens.{is_delimiter, run}
use Rattle.lines.specs.Shapes.{spaced, item_of}
use Rattle.numbering.specs.HashedItems.{hashed_run, hashed_of, hashed_item}
use Rattle.lines.proofs.Scanning.{run_goes_on, run_ends, run_out}

abbrev pub hashed_as : ℕ → ℕ → ℕ → HashedItem
hashed_as g n h = record { gap = g; size = n; hash = h }

-- the hash of what stands before a delimiter, h being that of the bytes before
unfoldable pub run_hash : ℕ → List ℕ → ℕ
run_hash h s = hash_from h (take (run s) s)

-- a walk from at on, which has come to i
pub record Hashing (s : List ℕ) (at i h : ℕ) : Type 0 where
  pub after : at ≤ i
  pub inside : i ≤ length s
  pub small : h < buckets
  pub size : i + run (drop i s) ≡ at + run (drop at s)
  pub hash : run_hash h (drop i s) ≡ run_hash 0 (drop at s)

pub hashing : (s : List ℕ) (at : ℕ) → at ≤ length s → Hashing s at at 0
hashing s at l = record { after = omega arith; inside = l; small = omega arith; size = refl; hash = refl }

module _ {s : List ℕ} {at i h : ℕ} (w : Hashing s at i h) (g : ℕ) where
  found : run (drop i s) ≡ 0 → hashed_as g (i - at) h ≡ hashed_run g (drop at s)
  unfolding hashed_run run_hash hash_from
  found e =
      let size : i - at ≡ run (drop at s) = omega (arith, w.size, w.after) in
      let hash : h ≡ run_hash 0 (drop at s) = sym (ap (λ n. hash_from h (take n (drop i s))) e) ∙ w.hash in
      ap₂ (hashed_as g) size hash

  pub hash_out : length s ≤ i → hashed_as g (length s - at) h ≡ hashed_run g (drop at s)
  hash_out l = let n : length s ≡ i = omega (arith, w.inside) in ap (λ k. hashed_as g (k - at) h) n ∙ found (run_out s i l)

  module _ (lt : i < length s) where
    pub hash_ends : is_delimiter (get_or s i 0) ≡ true → hashed_as g (i - at) h ≡ hashed_run g (drop at s)
    hash_ends e = found (run_ends s i lt e)

    pub hash_goes_on : is_delimiter (get_or s i 0) ≡ false → {h' : ℕ} → h' ≡ (h * 31 + get_or s i 0) % buckets → Hashing s at (i + 1) h'
    unfolding run run_hash hash_from
    hash_goes_on e {h'} d =
        let step : run_hash h (drop i s) ≡ run_hash h' (drop (i + 1) s) = rw (add-one, drop-cons s i 0, e, d) in
        record { after = omega (arith, w.after); inside = omega arith; small = omega arith; size = omega (arith, w.size, run_goes_on s i lt e); hash = sym step ∙ w.hash }

-- an item
module _ (s : List ℕ) (i : ℕ) where
  pub hashed_stop : None ≡ item_of (drop i s) → None ≡ hashed_item (drop i s)
  unfolding hashed_item
  hashed_stop e = ap (hashed_of (drop i s)) e

  pub hashed_found : {g : ℕ} → spaced g (run (drop (i + g) s)) ≡ item_of (drop i s) → {r : HashedItem} → r ≡ hashed_run g (drop (i + g) s) → Some r ≡ hashed_item (drop i s)
  unfolding hashed_item hashed_run
  hashed_found {g} e d = ap Some d ∙ ap (λ t. Some (hashed_as g (run (drop (i + g) s)) (name_hash (take (run (drop (i + g) s)) t)))) (sym (drop-drop g i s)) ∙ ap (hashed_of (drop i s)) e

-- at each step of a walk over items
module _ (s : List ℕ) (i : ℕ) {r : Option HashedItem} (e : r ≡ hashed_item (drop i s)) where
  pub hashed_end : r ≡ None → item_of (drop i s) ≡ None
  unfolding hashed_item
  hashed_end d = go (item_of (drop i s)) (sym e ∙ d)
    where
      go : (t : Option Item) → hashed_of (drop i s) t ≡ None → t ≡ None
      go (Some t) q = absurd (let z : ◌≡◌ {A = ℕ} 0 1 = cc in omega arith)
      go None q = refl

  module _ {g n h : ℕ} (d : r ≡ Some (hashed_as g n h)) where
    hashed : (item_of (drop i s) ≡ spaced g n) × (h ≡ name_hash (take n (drop g (drop i s))))
    unfolding hashed_item
    hashed = go (item_of (drop i s)) (sym e ∙ d)
      where
        go : (t : Option Item) → hashed_of (drop i s) t ≡ Some (hashed_as g n h) → (t ≡ spaced g n) × (h ≡ name_hash (take n (drop g (drop i s))))
        go (Some t) q =
            let same : ◌≡◌ {A = HashedItem} (hashed_as t.gap t.size (name_hash (take t.size (drop t.gap (drop i s))))) (hashed_as g n h) = cc in
            let x : t.gap ≡ g = ap (λ (v : HashedItem). v.gap) same in
            let y : t.size ≡ n = ap (λ (v : HashedItem). v.size) same in
            let z : name_hash (take t.size (drop t.gap (drop i s))) ≡ h = ap (λ (v : HashedItem). v.hash) same in
            (ap₂ spaced x y, sym z ∙ ap₂ (λ (k m : ℕ). name_hash (take k (drop m (drop i s)))) y x)
        go None q = absurd (let z : ◌≡◌ {A = ℕ} 0 1 = cc in omega arith)

    pub hashed_item_lem : item_of (drop i s) ≡ spaced g n
    hashed_item_lem = hashed.0

    -- of the item's bytes, as the code takes them
    pub hashed_name : h ≡ name_hash (take (i + g + n - (i + g)) (drop (i + g) s))
    hashed_name = hashed.1 ∙ ap (λ t. name_hash (take n t)) (drop-drop g i s) ∙ ap name_hash (sym (part_sized (i + g) n (drop (i + g) s)))
