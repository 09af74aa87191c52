-- What the marks and the numbers say of a program's atoms, and when all of them are left.
use Prim.Native.Nat.{ℕ, zero, suc, ◌≤◌, ◌<◌}
use native.Mathlib.Omega.{arith}
use mathlib.Core.Path.{◌≡◌, refl, sym, ap, ◌∙◌, subst₂}
use mathlib.Core.Bool.{Bool, false, ◌||◌}
use mathlib.Core.List.{List}
use lib.Dec.{T}
use lib.ListN.{length, get_or, replicate, length-replicate}
use Rattle.kinds.specs.declared.limits.Kind.TheVariants.{Plain}
use Rattle.rules.specs.Lists.{All, filter, from}
use Rattle.rules.specs.Rules.{Rule}
use Rattle.rules.specs.Renumbering.{Within}
use Rattle.rules.proofs.Booleans.{or-false}
use Rattle.rules.proofs.Renumbering.{within_imp, rename_same}
use Rattle.stores.specs.Program.{Program, ProgramForm}
use Rattle.std.specs.Prelude.{Result}
use Rattle.answers.specs.declared.ReadSizes.{ReadSizes}
use Rattle.answers.specs.declared.ReadRefusal.{ReadRefusal}
use Rattle.restriction.specs.Atoms.{is_member, is_used, used, place_in}
use Rattle.restriction.specs.Remaining.{left, remaining, remaining_names}
use Rattle.restriction.proofs.Places.{member_filter, filter_place, used_covers}
use Rattle.restriction.proofs.Whole.{remaining_plain, names_plain, remaining_whole, names_whole, all_left}
use Rattle.delivery.specs.Delivered.{Delivered}
use Rattle.used_atoms.specs.Marks.{Marks, marked}
use Rattle.remaining_stores.specs.Tables.{Tables}

pub more_inside : {n k : ℕ} (rs : List (Rule ℕ)) → All (Within (λ a. a < n)) rs → n ≤ k → All (Within (λ a. a < k)) rs
more_inside {n} {k} rs h l = within_imp (λ a. a < n) (λ a. a < k) (λ a u. omega arith) rs h

-- the tables

no_mark : (k a : ℕ) → get_or (replicate k false) a false ≡ false
no_mark zero a = refl
no_mark (suc k) zero = refl
no_mark (suc k) (suc a) = no_mark k a

module _ (rs : List (Rule ℕ)) (k : ℕ) {marks : List Bool} (m : Marks (is_used rs) (replicate k false) marks) where
  marked_used : (a : ℕ) → marked a marks ≡ filter (is_used rs) (from 0 a)
  unfolding marked
  marked_used a = λ i. filter (λ b. (m.mark b ∙ ap (λ (c : Bool). is_used rs b || c) (no_mark k b) ∙ or-false (is_used rs b)) i) (from 0 a)

pub tables : {p : Program} {k : ℕ} {marks : List Bool} {numbers : List ℕ} {count n : ℕ}
    → n ≡ p.atoms → n ≤ k → n ≤ length numbers → All (Within (λ a. a < p.atoms)) p.rules → Marks (is_used p.rules) (replicate k false) marks
    → count ≡ length (marked n marks) → ((a : ℕ) → a < n → get_or numbers a 0 ≡ length (marked a marks)) → Tables p marks numbers count
unfolding used
tables {p} {k} {marks} {numbers} {count} {n} e room table inside m c f = record {
  marks_room = omega (arith, e, m.size, length-replicate {A = Bool} k false);
  numbers_room = omega (arith, e);
  inside = inside;
  marks_are = marked_used p.rules k m p.atoms;
  numbers_are = rename_same (λ a. get_or numbers a 0) (place_in (left p)) p.rules (within_imp (λ a. T (is_member (left p) a)) (λ a. get_or numbers a 0 ≡ place_in (left p) a) number p.rules (used_covers p.atoms p.rules inside).atoms);
  count_is = c ∙ ap (λ (b : ℕ). length (marked b marks)) e ∙ ap length (marked_used p.rules k m p.atoms);
}
  where
    number : (a : ℕ) → T (is_member (filter (is_used p.rules) (from 0 p.atoms)) a) → get_or numbers a 0 ≡ place_in (filter (is_used p.rules) (from 0 p.atoms)) a
    number a t =
        let q = (member_filter (is_used p.rules) p.atoms a).0 t in
        f a (omega (arith, e, q.0)) ∙ ap length (marked_used p.rules k m a) ∙ sym (filter_place (is_used p.rules) p.atoms a q.0 q.1)

-- the same program and names, delivered

module _ {p : Program} {ns : List (List ℕ)} {rules names rules' names' : List ℕ} {r : Result ReadSizes ReadRefusal} (d : Delivered p ns rules names rules' names' r) where
  as_remaining : remaining p ≡ p → remaining_names p ns ≡ ns → Delivered (remaining p) (remaining_names p ns) rules names rules' names' r
  as_remaining e f = subst₂ (λ (q : Program) (ms : List (List ℕ)). Delivered q ms rules names rules' names' r) (sym e) (sym f) d

  -- all atoms are left
  pub all_delivered : {marks : List Bool} {numbers : List ℕ} {count : ℕ} → ProgramForm p → Tables p marks numbers count → count ≡ p.atoms → length ns ≡ p.atoms
      → Delivered (remaining p) (remaining_names p ns) rules names rules' names' r
  all_delivered f t e c = let u = all_left p (sym t.count_is ∙ e) in as_remaining (remaining_whole p f u) (names_whole p f u ns c)

  pub plain_delivered : p.kind ≡ Plain → Delivered (remaining p) (remaining_names p ns) rules names rules' names' r
  plain_delivered k = as_remaining (remaining_plain p k) (names_plain p ns k)
