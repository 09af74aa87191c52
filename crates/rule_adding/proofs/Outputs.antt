-- A store and its index in two lent outputs, by their sizes.
use Prim.Native.Nat.{ℕ, ◌≤◌, ◌<◌}
use native.Mathlib.Omega.{arith}
use mathlib.Core.Path.{◌≡◌, refl, sym, ap, ◌∙◌}
use mathlib.Core.Bool.{true, false}
use mathlib.Core.List.{List, []}
use lib.Dec.{leb}
use lib.ListN.{length}
use borrow.Author.Tests.{lt-leb, le-leb}
use Rattle.std.specs.Prelude.{Ok, Err}
use Rattle.kinds.specs.declared.refusals.Refusal.TheVariants.{Output}
use Rattle.rules.proofs.Booleans.{and-false}
use Rattle.output.specs.Emitted.{Emitted}
use Rattle.output.proofs.Emitting.{sets_seam}
use Rattle.rule_index.specs.Answers.{grown_sizes}
use Rattle.rule_adding.specs.Delivered.{Delivered}

module _ (store index before index_before : List ℕ) {words : ℕ} (long : length store ≡ words) where
  pub store_short : length before < words → Delivered store index before index_before before index_before (Err Output)
  store_short l =
      let a : leb (length store) (length before) ≡ false = lt-leb (length store) (length before) (omega arith) in
      record { answer = rw a; store_after = refl; index_after_holds = refl }

  pub index_short : length index_before < length index → Delivered store index before index_before before index_before (Err Output)
  index_short l =
      let a : leb (length index) (length index_before) ≡ false = lt-leb (length index) (length index_before) l in
      record { answer = rw (a, and-false (leb (length store) (length before))); store_after = refl; index_after_holds = refl }

  pub both_written : words ≤ length before → length index ≤ length index_before
      → {after : List ℕ} {x : ℕ} → Emitted before 0 store after x
      → {index_after : List ℕ} {y : ℕ} → Emitted index_before 0 index index_after y
      → Delivered store index before index_before after index_after (Ok (grown_sizes words (length index)))
  both_written l m u v =
      let a : leb (length store) (length before) ≡ true = le-leb (length store) (length before) (omega arith) in
      let b : leb (length index) (length index_before) ≡ true = le-leb (length index) (length index_before) m in
      record {
        answer = rw (a, b) (ap (λ (n : ℕ). Ok (grown_sizes n (length index))) (sym long));
        store_after = u.bytes ∙ sets_seam [] before store (omega arith);
        index_after_holds = v.bytes ∙ sets_seam [] index_before index m;
      }
