-- Names that stand twice, found block by block: each block is entered into an empty index, and the later names are looked up in it.
use Prim.Native.Nat.{ℕ, ◌≤◌, ◌<◌, zero-le}
use native.Mathlib.Omega.{arith}
use mathlib.Core.Path.{◌≡◌, refl, sym, ap, ◌∙◌, subst}
use mathlib.Core.Bool.{Bool, true, false, ◌||◌}
use mathlib.Core.List.{List, [], append-nil}
use lib.ListN.{length, get_or, drop, replicate, length-replicate, get_or-replicate}
use Rattle.kinds.specs.Sizes.{longest_name}
use Rattle.rules.specs.Lists.{some}
use Rattle.rules.proofs.Lists.{all_app_r}
use Rattle.name_store.specs.NameStore.{encode_names, decode_names, among}
use Rattle.name_store.specs.NameIndex.{buckets, last_with, Indexed}
use Rattle.numbering.specs.declared.entries.Entered.{Entered}
use Rattle.numbering.specs.declared.entries.Unentered.{Unentered}
use Rattle.numbering.specs.declared.entries.Unentered.TheVariants.{Full, Twice}
use Rattle.std.specs.Prelude.{Result, Ok, Err}
use Rattle.lines.specs.Tokens.{items}
use Rattle.lines.specs.Faults.{twice}
use Rattle.numbering.specs.Entries.{Room, Stored, Short, AllEntered, SomeEntered, EnteredSays, EnteredIs}
use Rattle.numbering.proofs.Entering.{twice_split, twice_apart}
use Rattle.numbering.proofs.NewNames.{decoded}

-- the index of no name
pub empty_index : (bytes starts links : List ℕ) {firsts : List ℕ} {n : ℕ} → firsts ≡ replicate n 0 → buckets ≤ n → Indexed [] bytes starts firsts links
unfolding encode_names last_with
empty_index bytes starts links {firsts} {n} e l =
    record {
      placed = record { stored = refl; room = zero-le; start = λ i k. absurd (omega arith) };
      different = tt;
      firsts_room = omega (arith, ap length e, length-replicate {A = ℕ} n 0);
      links_room = zero-le;
      first = λ h k. ap (λ w. get_or w h 0) e ∙ get_or-replicate n h 0 0 (omega arith);
      link = λ i k. absurd (omega arith);
    }

pub empty_stored : {bytes starts firsts links : List ℕ} → Indexed [] bytes starts firsts links → Stored (decode_names 0 bytes) bytes starts firsts links 0 0
unfolding decode_names encode_names
empty_stored ix = record { index = ix; count = refl; ends = refl; short = zero-le; few = zero-le }

-- what an answer says
module _ {names : List (List ℕ)} {s : List ℕ} {from : ℕ} {bytes starts firsts links : List ℕ} {r : Result Entered Unentered} (h : EnteredIs names s from bytes starts firsts links r) where
  pub entered_all : {all : Entered} → r ≡ Ok all → AllEntered names (items (drop from s)) bytes starts firsts links all.atoms all.bytes
  entered_all e = subst (EnteredSays names s from bytes starts firsts links) e h.says

  pub entered_some : {at : ℕ} → r ≡ Err (Full at) → SomeEntered names s from bytes starts firsts links at
  entered_some e = subst (EnteredSays names s from bytes starts firsts links) e h.says

  pub not_once : r ≡ Err Twice → twice names (items (drop from s)) ≡ true
  not_once e = subst (EnteredSays names s from bytes starts firsts links) e h.says

-- the names before `at` are in blocks behind
pub record Blocks (s : List ℕ) (from at : ℕ) (bytes starts firsts links : List ℕ) : Type 0 where
  pub inside : at ≤ length s
  pub short : Short (items (drop at s))
  pub left : twice [] (items (drop at s)) ≡ twice [] (items (drop from s))
  pub room : Room bytes starts links
  pub firsts_room : buckets ≤ length firsts

pub blocks_begin : {s : List ℕ} {from : ℕ} {bytes starts firsts links : List ℕ} → from ≤ length s → Short (items (drop from s)) → Room bytes starts links → buckets ≤ length firsts → Blocks s from from bytes starts firsts links
blocks_begin i h r k = record { inside = i; short = h; left = refl; room = r; firsts_room = k }

module _ {s : List ℕ} {from at : ℕ} {bytes starts firsts links : List ℕ} (h : Blocks s from at bytes starts firsts links) where
  pub block_stored : {firsts₀ : List ℕ} → firsts₀ ≡ replicate (length firsts) 0 → Stored (decode_names 0 bytes) bytes starts firsts₀ links 0 0
  block_stored e = empty_stored (empty_index bytes starts links e h.firsts_room)

  module _ {bytes' starts' firsts' links' : List ℕ} {r : Result Entered Unentered} (w : EnteredIs (decode_names 0 bytes) s at bytes' starts' firsts' links' r) where
    block : EnteredIs [] s at bytes' starts' firsts' links' r
    unfolding decode_names
    block = w

    pub block_all : {all : Entered} → r ≡ Ok all → false ≡ twice [] (items (drop from s))
    block_all e = sym (entered_all block e).once ∙ h.left

    pub block_twice : r ≡ Err Twice → true ≡ twice [] (items (drop from s))
    block_twice e = sym (not_once block e) ∙ h.left

    module _ {rest : ℕ} (e : r ≡ Err (Full rest)) (b : length bytes' ≡ length bytes) (c : length starts' ≡ length starts) (l : length links' ≡ length links) where
      some_in : SomeEntered [] s at bytes' starts' firsts' links' rest
      some_in = entered_some block e

      pub rest_inside : rest ≤ length s
      rest_inside = some_in.inside

      pub rest_onward : at < rest
      rest_onward = omega (arith, some_in.onward, some_in.full)

      names_are : decode_names (length starts') bytes' ≡ some_in.passed
      names_are = ap (λ k. decode_names k bytes') (c ∙ h.room.starts_long ∙ sym some_in.full) ∙ decoded some_in.index

      pub rest_index : Indexed (decode_names (length starts') bytes') bytes' starts' firsts' links'
      rest_index = subst (λ ns. Indexed ns bytes' starts' firsts' links') (sym names_are) some_in.index

      parts : twice [] (items (drop at s)) ≡ (some (among some_in.passed) (items (drop rest s)) || twice [] (items (drop rest s)))
      parts =
          ap (twice []) (sym some_in.all)
          ∙ twice_split [] some_in.passed (items (drop rest s))
          ∙ ap (λ x. x || twice some_in.passed (items (drop rest s))) some_in.once
          ∙ ap (λ ns. twice ns (items (drop rest s))) (sym (append-nil some_in.passed))
          ∙ twice_apart some_in.passed [] (items (drop rest s))

      module _ {q : Bool} (k : q ≡ some (among (decode_names (length starts') bytes')) (items (drop rest s))) where
        known : q ≡ some (among some_in.passed) (items (drop rest s))
        known = k ∙ ap (λ ns. some (among ns) (items (drop rest s))) names_are

        pub rest_known : q ≡ true → true ≡ twice [] (items (drop from s))
        rest_known g = sym (rw (sym known, g) at parts) ∙ h.left

        pub next_block : q ≡ false → length firsts' ≡ length firsts → Blocks s from rest bytes' starts' firsts' links'
        next_block g m =
            record {
              inside = some_in.inside;
              short = all_app_r (λ x. length x ≤ longest_name) some_in.passed (items (drop rest s)) (subst Short (sym some_in.all) h.short);
              left = sym (rw (sym known, g) at parts) ∙ h.left;
              room = record { bytes_long = b ∙ h.room.bytes_long; starts_long = c ∙ h.room.starts_long; links_long = l ∙ h.room.links_long };
              firsts_room = omega (arith, m, h.firsts_room);
            }
