-- Two stores in two lent outputs, by their sizes.
use Prim.Native.Nat.{ℕ, ◌≤◌, ◌<◌}
use native.Mathlib.Omega.{arith}
use mathlib.Core.Path.{◌≡◌, refl, sym, ◌∙◌}
use mathlib.Core.Bool.{true, false}
use mathlib.Core.List.{List, []}
use lib.Dec.{leb}
use lib.ListN.{length}
use lib.Seq.{sets}
use borrow.Author.Tests.{lt-leb, le-leb}
use Rattle.rules.proofs.Booleans.{and-false}
use Rattle.std.specs.Prelude.{Ok, Err}
use Rattle.kinds.specs.declared.refusals.Refusal.TheVariants.{Output}
use Rattle.name_store.specs.NameStore.{encode_names}
use Rattle.stores.specs.Program.{Program}
use Rattle.stores.specs.RuleStore.{encode}
use Rattle.rules.specs.Lists.{over}
use Rattle.output.specs.Emitted.{Emitted}
use Rattle.answers.specs.Reading.{read_sizes, read_refusal}
use Rattle.delivery.specs.Delivered.{Delivered}
use Rattle.output.proofs.Emitting.{sets_seam}

over_is : (d w : List ℕ) → length w ≤ length d → sets d 0 w ≡ over w d
over_is d w l = sets_seam [] d w l

module _ (p : Program) (ns : List (List ℕ)) {w b : ℕ} (words_long : length (encode p) ≡ w) (bytes_long : length (encode_names ns) ≡ b) (rules names : List ℕ) where
  pub rules_short : length rules < w → Delivered p ns rules names rules names (Err (read_refusal Output 0))
  rules_short l =
      let a : leb (length (encode p)) (length rules) ≡ false = lt-leb (length (encode p)) (length rules) (omega (arith, words_long)) in
      record { answer = rw a; rules_after_holds = refl; names_after_holds = refl }

  pub names_short : length names < b → Delivered p ns rules names rules names (Err (read_refusal Output 0))
  names_short l =
      let a : leb (length (encode_names ns)) (length names) ≡ false = lt-leb (length (encode_names ns)) (length names) (omega (arith, bytes_long)) in
      record { answer = rw (a, and-false (leb (length (encode p)) (length rules))); rules_after_holds = refl; names_after_holds = refl }

  pub both_written : w ≤ length rules → b ≤ length names
      → {rules' : List ℕ} {x : ℕ} → Emitted rules 0 (encode p) rules' x
      → {names' : List ℕ} {y : ℕ} → Emitted names 0 (encode_names ns) names' y
      → Delivered p ns rules names rules' names' (Ok (read_sizes w b))
  both_written l m u v =
      let a : leb (length (encode p)) (length rules) ≡ true = le-leb (length (encode p)) (length rules) (omega (arith, words_long)) in
      let c : leb (length (encode_names ns)) (length names) ≡ true = le-leb (length (encode_names ns)) (length names) (omega (arith, bytes_long)) in
      record {
        answer = rw (a, c) (λ i. Ok (read_sizes (sym words_long i) (sym bytes_long i)));
        rules_after_holds = u.bytes ∙ over_is rules (encode p) (omega (arith, words_long));
        names_after_holds = v.bytes ∙ over_is names (encode_names ns) (omega (arith, bytes_long));
      }
