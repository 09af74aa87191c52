-- The lists of an index, one after the other, with the new rule's number behind those of its atoms.
use Prim.Native.Nat.{ℕ, ◌+◌, ◌-◌, ◌≤◌, ◌<◌}
use native.Mathlib.Numerals.{add-one}
use native.Mathlib.Nat.{add-zero}
use native.Mathlib.Omega.{arith}
use mathlib.Core.Path.{◌≡◌, sym, ap, ap₂, ◌∙◌, subst}
use mathlib.Core.Bool.{Bool, false}
use mathlib.Core.List.{List, ◌∷◌, ◌++◌}
use lib.ListN.{length, get_or, take, drop, length-drop, drop_of_length-le}
use lib.Seq.{drop-cons, drop-drop, get_or-drop}
use Rattle.rules.proofs.Lists.{part_rest}
use Rattle.output.specs.Emitted.{Emitted, InRange}
use Rattle.output.proofs.Emitting.{Ahead, Emitting, start, turn, finish, range_here, length_kept}
use Rattle.rule_adding.specs.GrownLists.{CountedLists, grown_list, grown_lists, FrontList}

pub record Growing (index : List ℕ) (marks : List Bool) (number : ℕ) (before now : List ℕ) (place next a : ℕ) : Type 0 where
  pub lists : CountedLists (length (drop a marks)) (drop place index)
  pub short : length index ≤ 65535
  pub so : Emitting (grown_lists number marks index) before 0 (grown_lists number (drop a marks) (drop place index)) now next

pub begins : (index : List ℕ) (marks : List Bool) (number : ℕ) (before : List ℕ) → CountedLists (length marks) index × (length index ≤ 65535) × InRange 0 (grown_lists number marks index) → Growing index marks number before before 0 0 0
begins index marks number before h = record { lists = h.0; short = h.1; so = start h.2 }

module _ {index : List ℕ} {marks : List Bool} {number : ℕ} {before now : List ℕ} {place next a : ℕ} (h : Growing index marks number before now place next a) where
  pub ended : length marks ≤ a → Emitted before 0 (grown_lists number marks index) now next
  unfolding grown_lists
  ended l = finish h.so (ap (λ (m : List Bool). grown_lists number m (drop place index)) (drop_of_length-le marks l))

  pub same_size : length now ≡ length before
  same_size = length_kept h.so

  module _ (l : a < length marks) where
    -- as the code takes it
    abbrev front : List ℕ
    front = take (length index - place) (drop place index)

    front_is : front ≡ drop place index
    front_is = part_rest place index

    more : drop a marks ≡ get_or marks a false ∷ drop (a + 1) marks
    more = drop-cons marks a false l ∙ ap (λ (k : ℕ). get_or marks a false ∷ drop k marks) (sym (add-one a))

    count_is : get_or (drop place index) 0 0 ≡ get_or index place 0
    count_is = get_or-drop place index 0 0 ∙ ap (λ (k : ℕ). get_or index k 0) (add-zero place)

    after : drop (1 + get_or (drop place index) 0 0) (drop place index) ≡ drop (place + (1 + get_or index place 0)) index
    after = drop-drop (1 + get_or (drop place index) 0 0) place index ∙ ap (λ (k : ℕ). drop (place + (1 + k)) index) count_is

    first_list : (1 + get_or (drop place index) 0 0 ≤ length (drop place index)) × CountedLists (length (drop (a + 1) marks)) (drop (1 + get_or (drop place index) 0 0) (drop place index))
    first_list = subst (λ (m : List Bool). CountedLists (length m) (drop place index)) more h.lists

    pub list_inside : place + (1 + get_or index place 0) ≤ length index
    list_inside = omega (arith, first_list.0, count_is, length-drop place index)

    ahead : Ahead (grown_lists number (drop a marks) (drop place index)) (grown_list number (get_or marks a false) front) (grown_lists number (drop (a + 1) marks) (drop (place + (1 + get_or index place 0)) index))
    unfolding grown_lists
    ahead = record {
      is =
          ap (λ (m : List Bool). grown_lists number m (drop place index)) more
          ∙ ap₂ (λ (u v : List ℕ). grown_list number (get_or marks a false) u ++ grown_lists number (drop (a + 1) marks) v) (sym front_is) after;
    }

    pub front_list : FrontList number (get_or marks a false) front next
    front_list = record {
      inside = subst (λ (u : List ℕ). 1 + get_or u 0 0 ≤ length u) (sym front_is) first_list.0;
      short = omega (arith, ap length front_is, length-drop place index, h.short);
      range = range_here h.so ahead;
    }

    pub again : {now' : List ℕ} {next' : ℕ} → Emitted now next (grown_list number (get_or marks a false) front) now' next' → Growing index marks number before now' (place + (1 + get_or index place 0)) next' (a + 1)
    again p = record {
      lists = subst (CountedLists (length (drop (a + 1) marks))) after first_list.1;
      short = h.short;
      so = turn h.so ahead p;
    }
