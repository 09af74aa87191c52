-- A declared line whose names are in order: the counts, and its class words in the scratch.
use Prim.Native.Nat.{ℕ, ◌+◌, ◌≤◌, ◌<◌}
use native.Mathlib.Numerals.{add-one}
use native.Mathlib.Omega.{arith}
use mathlib.Core.Path.{◌≡◌, refl, sym, ap, ◌∙◌}
use mathlib.Core.Bool.{Bool, true, false, not}
use mathlib.Core.List.{List}
use lib.ListN.{replicate}
use borrow.Author.Tests.{lt-leb, le-leb, not-true, not-false}
use Rattle.std.specs.Prelude.{Ok, Err}
use Rattle.kinds.specs.Limits.{class_limit, within}
use Rattle.kinds.specs.declared.limits.Kind.{Kind}
use Rattle.kinds.specs.declared.refusals.Refusal.TheVariants.{Limit}
use Rattle.output.specs.Emitted.{Emitted}
use Rattle.output.proofs.Emitting.{none, renamed}
use Rattle.gathering.specs.declared.gathered.Gathered.{Gathered}
use Rattle.lines.specs.declared.forms.Keyword.{Keyword}
use Rattle.lines.specs.declared.forms.Keyword.TheVariants.{Atoms, Min, Vary, Fix}
use Rattle.lines.specs.declared.stage.Stage.{Stage}
use Rattle.lines.specs.Forms.{Word}
use Rattle.lines.specs.Faults.{stage_after, classes_after, class_words}
use Rattle.lines.specs.Shapes.{word_of}
use Rattle.gathering.specs.Gathered.{atom_counts, kept_names, KeptNames}

-- one class more
pub min_classes : (classes : ℕ) {word : Keyword} → word ≡ Min → classes + 1 ≡ classes_after (word_of word) classes
min_classes classes e = add-one classes ∙ ap (λ w. classes_after (word_of w) classes) (sym e)

-- the class words of each word
module _ (classes count : ℕ) {before : List ℕ} {at : ℕ} {word : Keyword} where
  pub no_class_words : word ≡ Atoms → Emitted before at (class_words (word_of word) classes count) before at
  no_class_words e = renamed none (ap (λ w. class_words (word_of w) classes count) (sym e))

  module _ {after : List ℕ} {end : ℕ} where
    pub min_words : word ≡ Min → Emitted before at (replicate count (classes + 1)) after end → Emitted before at (class_words (word_of word) classes count) after end
    min_words e p = renamed p (ap (replicate count) (add-one classes) ∙ ap (λ w. class_words (word_of w) classes count) (sym e))

    pub vary_words : word ≡ Vary → Emitted before at (replicate count 17) after end → Emitted before at (class_words (word_of word) classes count) after end
    vary_words e p = renamed p (ap (λ w. class_words (word_of w) classes count) (sym e))

    pub fix_words : word ≡ Fix → Emitted before at (replicate count 18) after end → Emitted before at (class_words (word_of word) classes count) after end
    fix_words e p = renamed p (ap (λ w. class_words (word_of w) classes count) (sym e))

-- the answer
module _ (kind : Kind) (g : Gathered) (w : Word) (count atoms used : ℕ) (before : List ℕ) {classes : ℕ} (c : classes ≡ classes_after w g.classes)
    {fits : Bool} (e : fits ≡ within kind (atom_counts g.counts atoms)) where
  pub atoms_over : not fits ≡ true → KeptNames kind g w count atoms used before before (Err Limit)
  unfolding kept_names
  atoms_over d = record { answer = rw (sym e, not-true fits d); words = refl }

  module _ (d : not fits ≡ false) where
    pub classes_over : class_limit < classes → KeptNames kind g w count atoms used before before (Err Limit)
    unfolding kept_names
    classes_over l = let many = lt-leb (classes_after w g.classes) class_limit (omega (arith, c)) in record { answer = rw (sym e, not-false fits d, many); words = refl }

    pub names_kept : classes ≤ class_limit → {stage : Stage} → stage ≡ stage_after w → {after : List ℕ} {end : ℕ} → Emitted before g.words (class_words w g.classes count) after end
        → KeptNames kind g w count atoms used before after (Ok (record { stage = stage; classes = classes; counts = atom_counts g.counts atoms; made = g.made; words = end; bytes = used }))
    unfolding kept_names
    names_kept l s p =
        let few = le-leb (classes_after w g.classes) class_limit (omega (arith, c)) in
        record {
          answer = rw (sym e, not-false fits d, few) (λ i. Ok (record { stage = s i; classes = c i; counts = atom_counts g.counts atoms; made = g.made; words = p.place i; bytes = used }));
          words = p.bytes;
        }
