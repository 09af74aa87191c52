-- How runs of written bytes go together.
use Prim.Native.Nat.{ℕ, suc, ◌+◌, ◌-◌, ◌<◌, ◌≤◌}
use native.Mathlib.Numerals.{add-one}
use native.Mathlib.Nat.{add-zero, zero-add}
use native.Mathlib.Omega.{arith}
use mathlib.Core.Path.{◌≡◌, refl, sym, ap, ap₂, ◌∙◌, subst}
use mathlib.Core.List.{List, [], ◌∷◌, ◌++◌, append_assoc, append-nil}
use lib.ListN.{length, get_or, take, drop, set, length-append, take-append-drop}
use lib.Seq.{take_at, drop-cons, drop-drop, set-append_seam, set_out, set_comm, sets, sets-eq, length-sets, length-take-le}
use borrow.Rule.Slice.PartMut.{put_mid}
use Rattle.output.specs.Emitted.{Emitted, InRange}

-- what is written in two runs is written in one
pub sets_append : {A : Type 0} (d : List A) (at : ℕ) (u v : List A) → sets (sets d at u) (at + length u) v ≡ sets d at (u ++ v)
sets_append d at [] v = ap (λ (k : ℕ). sets d k v) (add-zero at)
sets_append d at (b ∷ u) v =
    let e : at + suc (length u) ≡ suc at + length u = omega arith in
    ap (λ (k : ℕ). sets (sets (set d at b) (suc at) u) k v) e ∙ sets_append (set d at b) (suc at) u v

-- what is written in two runs apart may be written in either sequence

set_sets : {A : Type 0} (d : List A) (p : ℕ) (x : A) (q : ℕ) (v : List A) → p < q → set (sets d q v) p x ≡ sets (set d p x) q v
set_sets d p x q [] l = refl
set_sets d p x q (y ∷ v) l = set_sets (set d q y) p x (suc q) v (omega arith) ∙ ap (λ e. sets e (suc q) v) (set_comm d q p y x (λ e. omega arith))

pub sets_comm : {A : Type 0} (d : List A) (p : ℕ) (u : List A) (q : ℕ) (v : List A) → p + length u ≤ q → sets (sets d q v) p u ≡ sets (sets d p u) q v
sets_comm d p [] q v l = refl
sets_comm d p (x ∷ u) q v l = ap (λ e. sets e (suc p) u) (set_sets d p x q v (omega arith)) ∙ sets_comm (set d p x) (suc p) u q v (omega arith)

-- a run written in front of another
pub sets_front : {A : Type 0} (d : List A) (p : ℕ) (u : List A) (q : ℕ) (v : List A) → q ≡ p + length u → sets (sets d q v) p u ≡ sets d p (u ++ v)
sets_front d p u q v e = sets_comm d p u q v (omega arith) ∙ ap (λ (k : ℕ). sets (sets d p u) k v) e ∙ sets_append d p u v

-- what is written where it has room
pub sets_seam : {A : Type 0} (p q w : List A) → length w ≤ length q → sets (p ++ q) (length p) w ≡ p ++ (w ++ drop (length w) q)
sets_seam p q [] l = refl
sets_seam p [] (a ∷ w) l = absurd (omega arith)
sets_seam p (b ∷ q) (a ∷ w) l =
    let here : set (p ++ (b ∷ q)) (length p) a ≡ (p ++ (a ∷ [])) ++ q = set-append_seam p b q a ∙ sym (append_assoc p (a ∷ []) q) in
    let place : suc (length p) ≡ length (p ++ (a ∷ [])) = sym (length-append p (a ∷ []) ∙ add-one (length p)) in
    ap₂ (λ x (k : ℕ). sets x k w) here place
    ∙ sets_seam (p ++ (a ∷ [])) q w (omega arith)
    ∙ append_assoc p (a ∷ []) (w ++ drop (length w) q)

pub none : {A : Type 0} {d : List A} {at : ℕ} → Emitted d at [] d at
none {A} {d} {at} = record { place = sym (add-zero at); bytes = refl }

pub then : {A : Type 0} {d d₁ d₂ u v : List A} {at at₁ at₂ : ℕ} → Emitted d at u d₁ at₁ → Emitted d₁ at₁ v d₂ at₂ → Emitted d at (u ++ v) d₂ at₂
then {A} {d} {d₁} {d₂} {u} {v} {at} p q =
    record {
      place = omega (arith, p.place, q.place, length-append u v);
      bytes = q.bytes ∙ ap₂ (λ (l : List A) (k : ℕ). sets l k v) p.bytes p.place ∙ sets_append d at u v;
    }

pub renamed : {A : Type 0} {d d' u v : List A} {at at' : ℕ} → Emitted d at u d' at' → u ≡ v → Emitted d at v d' at'
renamed {A} {d} {d'} {u} {v} {at} {at'} p e = subst (λ (w : List A). Emitted d at w d' at') e p

pub same_length : {A : Type 0} {d d' u : List A} {at at' : ℕ} → Emitted d at u d' at' → length d' ≡ length d
same_length {A} {d} {d'} {u} {at} p = ap length p.bytes ∙ length-sets d at u

-- without room: nothing is written
sets_out : {A : Type 0} (d : List A) (at : ℕ) (w : List A) → length d ≤ at → sets d at w ≡ d
sets_out d at [] h = refl
sets_out d at (b ∷ w) h = ap (λ l. sets l (suc at) w) (set_out d at b h) ∙ sets_out d (suc at) w (omega arith)

pub counted : {A : Type 0} {d w : List A} {at : ℕ} → length d ≤ at → Emitted d at w d (at + length w)
counted {A} {d} {w} {at} h = record { place = refl; bytes = sym (sets_out d at w h) }

-- with room: a part of the output is w
pub copied : {A : Type 0} {d w part : List A} {at : ℕ} → at + length w ≤ length d → part ≡ w → Emitted d at w (put_mid at (at + length w - at) d part) (at + length w)
copied {A} {d} {w} {part} {at} h e =
    let end : at + (at + length w - at) ≡ at + length w = omega arith in
    record {
      place = refl;
      bytes =
          ap (put_mid at (at + length w - at) d) e
          ∙ ap (λ (r : List A). take at d ++ (w ++ r)) (drop-drop (at + length w - at) at d ∙ ap (λ (k : ℕ). drop k d) end)
          ∙ sym (sets-eq w d at h ∙ append_assoc (take at d) w (drop (at + length w) d));
    }

-- with room for some: from `at` on the output is the first of w
pub cut_off : {A : Type 0} {d w part : List A} {at : ℕ} → at ≤ length d → length d ≤ at + length w → part ≡ take (length d - at) w
    → Emitted d at w (put_mid at (length d - at) d part) (at + length w)
cut_off {A} {d} {w} {part} {at} h l e =
    let room : ℕ = length d - at in
    let u : List A = take room w in
    let n : length u ≡ room = length-take-le room w (omega arith) in
    let full : length (sets d at u) ≤ at + length u = omega (arith, length-sets d at u) in
    record {
      place = refl;
      bytes =
          ap (put_mid at room d) e
          ∙ ap (λ (r : List A). take at d ++ (u ++ r)) (drop-drop room at d ∙ ap (λ (k : ℕ). drop (at + k) d) (sym n))
          ∙ sym (sets-eq u d at (omega arith) ∙ append_assoc (take at d) u (drop (at + length u) d))
          ∙ sym (sets_out (sets d at u) (at + length u) (drop room w) full)
          ∙ sets_append d at u (drop room w)
          ∙ ap (sets d at) (take-append-drop room w);
    }

-- a run behind its length, which is written last
module _ (at : ℕ) {w before after : List ℕ} {end : ℕ} (p : Emitted before (at + 1) w after end) where
  pub run_length : end - at - 1 ≡ length w
  run_length = omega (arith, p.place)

  pub behind_length : {last : List ℕ} {next : ℕ} → Emitted after at ((end - at - 1) ∷ []) last next → Emitted before at (length w ∷ w) last end
  behind_length q = record {
    place = omega (arith, p.place);
    bytes =
        q.bytes
        ∙ ap (λ (d : List ℕ). sets d at ((end - at - 1) ∷ [])) p.bytes
        ∙ sets_front before at ((end - at - 1) ∷ []) (at + 1) w refl
        ∙ ap (λ (n : ℕ). sets before at (n ∷ w)) run_length;
  }

pub range_renamed : {A : Type 0} {u v : List A} {at : ℕ} → InRange at u → u ≡ v → InRange at v
range_renamed {A} {u} {v} {at} h e = subst (InRange at) e h

-- what is left to write: a run, and the rest
pub record Ahead {A : Type 0} (left run rest : List A) : Type 0 where
  pub is : left ≡ run ++ rest

pub in_front_lem : {A : Type 0} (u v : List A) → Ahead (u ++ v) u v
in_front_lem u v = record { is = refl }

pub one_in_front : {A : Type 0} (a : A) (v : List A) → Ahead (a ∷ v) (a ∷ []) v
one_in_front a v = record { is = refl }

-- what stands written and what is left are the whole
pub record Emitting {A : Type 0} (whole before : List A) (at : ℕ) (left now : List A) (next : ℕ) : Type 0 where
  pub range : InRange at whole
  pub written : List A
  pub so : Emitted before at written now next
  pub all : written ++ left ≡ whole

pub start : {A : Type 0} {whole before : List A} {at : ℕ} → InRange at whole → Emitting whole before at whole before at
start r = record { range = r; written = []; so = none; all = refl }

module _ {A : Type 0} {whole before left now : List A} {at next : ℕ} (h : Emitting whole before at left now next) where
  pub turn : {run rest now' : List A} {next' : ℕ} → Ahead left run rest → Emitted now next run now' next' → Emitting whole before at rest now' next'
  turn {run} {rest} e p =
      record {
        range = h.range;
        written = h.written ++ run;
        so = then h.so p;
        all = append_assoc h.written run rest ∙ ap (λ (l : List A). h.written ++ l) (sym e.is) ∙ h.all;
      }

  pub finish : left ≡ [] → Emitted before at whole now next
  finish e = renamed h.so (sym (append-nil h.written) ∙ ap (λ (l : List A). h.written ++ l) (sym e) ∙ h.all)

  pub range_here : {run rest : List A} → Ahead left run rest → InRange next run
  range_here {run} {rest} e =
      record { below = omega (arith, h.range.below, h.so.place, ap length (sym h.all) ∙ length-append h.written left, ap length e.is ∙ length-append run rest) }

  pub length_kept : length now ≡ length before
  length_kept = same_length h.so

pub range_begin : {A : Type 0} {whole run rest : List A} {at : ℕ} → InRange at whole → Ahead whole run rest → InRange at run
range_begin r e = range_here {before = []} (start r) e

-- the next byte of a list
pub byte_next : (s : List ℕ) (i : ℕ) → i < length s → Ahead (drop i s) (get_or s i 0 ∷ []) (drop (i + 1) s)
byte_next s i h = record { is = drop-cons s i 0 h ∙ ap (λ (k : ℕ). get_or s i 0 ∷ drop k s) (sym (add-one i)) }

-- what stands at the front of a scratch that has room
module _ {A : Type 0} {before w after : List A} {next : ℕ} (e : Emitted before 0 w after next) (room : length w ≤ length before) where
  pub front_inside : next ≤ length after
  front_inside = omega (arith, e.place, same_length e)

  pub front_is : take next after ≡ w
  front_is =
      let c : 0 + length w ≤ length before = omega arith in
      let n : length w ≡ next = sym (e.place ∙ zero-add (length w)) in
      ap (take next) (e.bytes ∙ sets-eq w before 0 c) ∙ take_at w (drop (0 + length w) before) next n
