-- Names entered one after another: a turn of the walk.
use Rattle.std.specs.Prelude.{Option, Some, None}
use Prim.Native.Nat.{ℕ, suc, ◌+◌, ◌≤◌, ◌<◌}
use native.Mathlib.Omega.{arith}
use mathlib.Core.Path.{◌≡◌, refl, sym, ap, ap₂, ◌∙◌, subst}
use mathlib.Core.Bool.{Bool, true, false, ◌||◌}
use mathlib.Core.List.{List, [], ◌∷◌, ◌++◌, append_assoc, append-nil}
use lib.ListN.{length, drop, length-append}
use Rattle.kinds.specs.Sizes.{longest_name}
use Rattle.kinds.specs.Limits.{atom_limit}
use Rattle.kinds.specs.declared.limits.Kind.TheVariants.{Plain}
use Rattle.rules.specs.Lists.{some}
use Rattle.rules.proofs.Booleans.{or_assoc, or-false}
use Rattle.rules.proofs.Lists.{some_app}
use Rattle.name_store.specs.NameStore.{name_bytes, encode_names, decode_names, same_bytes, among}
use Rattle.name_store.specs.NameIndex.{found, Indexed}
use Rattle.name_store.proofs.NameEntries.{encode_last}
use Rattle.lines.specs.declared.scan.Item.{Item}
use Rattle.lines.specs.Tokens.{items}
use Rattle.lines.specs.Faults.{twice}
use Rattle.lines.specs.Shapes.{spaced, item_of}
use Rattle.numbering.specs.Entries.{EntryRoom, EntrySays, EntryIs, Room, Stored, Short, AllEntered, SomeEntered}
use Rattle.lines.proofs.TokenPlaces.{items_end, item_fits, item_long, item, later, item_is, item_length}
use Rattle.numbering.proofs.NameNumbers.{named, unnamed}
use Rattle.numbering.proofs.NewNames.{decoded}

-- a list of names in two parts

pub twice_split : (old ys zs : List (List ℕ)) → twice old (ys ++ zs) ≡ (twice old ys || twice (old ++ ys) zs)
unfolding twice
twice_split old [] zs = ap (λ l. twice l zs) (sym (append-nil old))
twice_split old (y ∷ ys) zs =
    ap (λ b. among old y || b) (twice_split (old ++ (y ∷ [])) ys zs ∙ ap (λ l. twice (old ++ (y ∷ [])) ys || twice l zs) (append_assoc old (y ∷ []) ys))
    ∙ or_assoc (among old y) (twice (old ++ (y ∷ [])) ys) (twice (old ++ (y ∷ ys)) zs)

-- later names against those of a block, and among themselves
pub twice_apart : (old new zs : List (List ℕ)) → twice (old ++ new) zs ≡ (some (among old) zs || twice new zs)
unfolding twice
twice_apart old new [] = refl
twice_apart old new (z ∷ zs) =
    ap₂ ◌||◌ (some_app (same_bytes z) old new) (ap (λ l. twice l zs) (append_assoc old new (z ∷ [])) ∙ twice_apart old (new ++ (z ∷ [])) zs)
    ∙ exchange (among old z) (among new z) (some (among old) zs) (twice (new ++ (z ∷ [])) zs)
  where
    exchange : (a b c d : Bool) → ((a || b) || (c || d)) ≡ ((a || c) || (b || d))
    exchange true b c d = refl
    exchange false true true d = refl
    exchange false true false d = refl
    exchange false false c d = refl

-- the names up to i are entered
pub record Entering (names : List (List ℕ)) (s : List ℕ) (from : ℕ) (bytes starts firsts links : List ℕ) (i atom at : ℕ) : Type 0 where
  pub passed : List (List ℕ)
  pub inside : i ≤ length s
  pub all : passed ++ items (drop i s) ≡ items (drop from s)
  pub short : Short (items (drop i s))
  pub once : twice names passed ≡ false
  pub stored : Stored (names ++ passed) bytes starts firsts links atom at
  pub room : Room bytes starts links
  pub onward : from + length passed ≤ i

pub entering : {names : List (List ℕ)} {s : List ℕ} {from : ℕ} {bytes starts firsts links : List ℕ} {atom at : ℕ} → from ≤ length s → Short (items (drop from s)) → Room bytes starts links → Stored names bytes starts firsts links atom at → Entering names s from bytes starts firsts links from atom at
unfolding twice
entering {names} {s} {from} {bytes} {starts} {firsts} {links} {atom} {at} i h r st =
    record { passed = []; inside = i; all = refl; short = h; once = refl; stored = subst (λ l. Stored l bytes starts firsts links atom at) (sym (append-nil names)) st; room = r; onward = omega arith }

module _ {names : List (List ℕ)} {s : List ℕ} {from : ℕ} {bytes starts firsts links : List ℕ} {i atom at : ℕ} (h : Entering names s from bytes starts firsts links i atom at) {r : Option Item} (e : r ≡ item_of (drop i s)) where
  pub names_entered : r ≡ None → AllEntered names (items (drop from s)) bytes starts firsts links atom at
  names_entered d =
      let whole : h.passed ≡ items (drop from s) = sym (append-nil h.passed) ∙ ap (λ l. h.passed ++ l) (sym (items_end s i e d)) ∙ h.all in
      record { once = ap (twice names) (sym whole) ∙ h.once; stored = subst (λ l. Stored (names ++ l) bytes starts firsts links atom at) whole h.stored }

  module _ {g n : ℕ} (d : r ≡ spaced g n) where
    pub entry_inside : i + g + n ≤ length s
    entry_inside = item_fits s i e d

    abbrev x : List ℕ
    x = item s i e d

    abbrev xs : List (List ℕ)
    xs = later s i e d

    pub store_full : atom_limit Plain ≤ atom → SomeEntered names s from bytes starts firsts links i
    store_full f =
        record {
          passed = h.passed;
          inside = h.inside;
          all = h.all;
          once = h.once;
          index = h.stored.index;
          full = omega (arith, h.stored.count, h.stored.few);
          more = omega (arith, ap length (item_is s i e d));
          onward = h.onward;
        }

    split : h.passed ++ (x ∷ xs) ≡ items (drop from s)
    split = ap (λ l. h.passed ++ l) (sym (item_is s i e d)) ∙ h.all

    shorts : Short (x ∷ xs)
    shorts = subst Short (item_is s i e d) h.short

    pub entry_long : 1 ≤ n
    entry_long = item_long s i e d

    pub entry_short : n ≤ longest_name
    entry_short = omega (arith, item_length s i e d, shorts.0)

    module _ (f : atom < atom_limit Plain) where
      abbrev held : List (List ℕ)
      held = names ++ h.passed

      same : decode_names atom bytes ≡ held
      same = ap (λ k. decode_names k bytes) h.stored.count ∙ decoded h.stored.index

      pub entry_index : Indexed (decode_names atom bytes) bytes starts firsts links
      entry_index = subst (λ l. Indexed l bytes starts firsts links) (sym same) h.stored.index

      entry_room' : EntryRoom held x bytes starts links atom at
      entry_room' =
          record {
            count = h.stored.count;
            place = h.stored.ends;
            short = shorts.0;
            inside = omega (arith, h.stored.short, h.room.bytes_long);
            bytes_small = omega (arith, h.room.bytes_long);
            starts_room = omega (arith, h.room.starts_long);
            starts_small = omega (arith, h.room.starts_long);
            links_room = omega (arith, h.room.links_long);
          }

      pub entry_room : EntryRoom (decode_names atom bytes) x bytes starts links atom at
      entry_room = subst (λ l. EntryRoom l x bytes starts links atom at) (sym same) entry_room'

      module _ {bytes' starts' firsts' links' : List ℕ} {q : Bool} (w : EntryIs (decode_names atom bytes) x bytes' starts' firsts' links' q) where
        said : {b : Bool} → q ≡ b → EntrySays held x bytes' starts' firsts' links' b
        said {b} t = subst (λ l. EntrySays l x bytes' starts' firsts' links' b) same (subst (EntrySays (decode_names atom bytes) x bytes' starts' firsts' links') t w.says)

        last_twice : twice names (h.passed ++ (x ∷ [])) ≡ among held x
        unfolding twice
        last_twice = twice_split names h.passed (x ∷ []) ∙ ap (λ b. b || (among held x || false)) h.once ∙ or-false (among held x)

        pub entered_twice : q ≡ false → twice names (items (drop from s)) ≡ true
        unfolding twice
        entered_twice t =
            ap (twice names) (sym split) ∙ twice_split names h.passed (x ∷ xs)
            ∙ ap (λ b. b || (among held x || twice (held ++ (x ∷ [])) xs)) h.once
            ∙ ap (λ b. b || twice (held ++ (x ∷ [])) xs) (said t)

        pub entered_again : q ≡ true → length bytes' ≡ length bytes → length starts' ≡ length starts → length links' ≡ length links → Entering names s from bytes' starts' firsts' links' (i + g + n) (atom + 1) (at + (1 + n))
        entered_again t b c l =
            let k = said t in
            let grown : held ++ (x ∷ []) ≡ names ++ (h.passed ++ (x ∷ [])) = append_assoc names h.passed (x ∷ []) in
            let size : length (encode_names (held ++ (x ∷ []))) ≡ length (encode_names held) + (1 + n) =
            ap length (encode_last held x) ∙ length-append (encode_names held) (name_bytes x) ∙ ap (λ m. length (encode_names held) + m) (plus_one (item_length s i e d)) in
            record {
              passed = h.passed ++ (x ∷ []);
              inside = entry_inside;
              all = append_assoc h.passed (x ∷ []) xs ∙ split;
              short = shorts.1;
              once = last_twice ∙ k.0;
              stored = subst (λ l. Stored l bytes' starts' firsts' links' (atom + 1) (at + (1 + n))) grown (record {
                index = k.1;
                count = omega (arith, h.stored.count, length-append held (x ∷ []));
                ends = omega (arith, h.stored.ends, size);
                short = omega (arith, h.stored.short, item_length s i e d, shorts.0);
                few = omega arith;
              });
              room = record { bytes_long = b ∙ h.room.bytes_long; starts_long = c ∙ h.room.starts_long; links_long = l ∙ h.room.links_long };
              onward = omega (arith, h.onward, length-append h.passed (x ∷ []), item_long s i e d);
            }
          where
            plus_one : {m : ℕ} → m ≡ n → suc m ≡ 1 + n
            plus_one p = omega arith

-- whether a name of the list is in the index
pub record Looking (names : List (List ℕ)) (s : List ℕ) (from i : ℕ) : Type 0 where
  pub inside : i ≤ length s
  pub left : some (among names) (items (drop i s)) ≡ some (among names) (items (drop from s))

pub looking : (names : List (List ℕ)) (s : List ℕ) (from : ℕ) → from ≤ length s → Looking names s from from
looking names s from h = record { inside = h; left = refl }

module _ {names : List (List ℕ)} {s : List ℕ} {from i : ℕ} (h : Looking names s from i) {r : Option Item} (e : r ≡ item_of (drop i s)) where
  pub none_known : r ≡ None → false ≡ some (among names) (items (drop from s))
  none_known d = ap (some (among names)) (sym (items_end s i e d)) ∙ h.left

  module _ {g n : ℕ} (d : r ≡ spaced g n) where
    pub look_inside : i + g + n ≤ length s
    look_inside = item_fits s i e d

    pub look_long : 1 ≤ n
    look_long = item_long s i e d

    module _ {q : Option ℕ} (f : q ≡ found (item s i e d) names) where
      one : some (among names) (items (drop i s)) ≡ (among names (item s i e d) || some (among names) (later s i e d))
      one = ap (some (among names)) (item_is s i e d)

      pub one_known : {j : ℕ} → q ≡ Some j → true ≡ some (among names) (items (drop from s))
      one_known t = sym (rw (named (item s i e d) names f t).declared at one) ∙ h.left

      pub look_again : q ≡ None → Looking names s from (i + g + n)
      look_again t = record { inside = look_inside; left = sym (rw (unnamed (item s i e d) names f t) at one) ∙ h.left }
