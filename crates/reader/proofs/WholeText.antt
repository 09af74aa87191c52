-- What the reader answers and writes, from what its lines give.
use Prim.Native.Nat.{ℕ, ◌≤◌, ◌<◌, zero-le}
use native.Mathlib.Omega.{arith}
use mathlib.Core.Path.{◌≡◌, refl, sym, ap, ◌∙◌, subst}
use mathlib.Core.List.{List, [], ◌++◌, append-nil}
use lib.ListN.{length, take, drop, replicate, take-append-drop}
use lib.Seq.{length-take-le}
use borrow.Author.Tests.{lt-leb, le-leb}
use Rattle.std.specs.Prelude.{Result, Ok, Err}
use Rattle.kinds.specs.Sizes.{store_words, store_bytes}
use Rattle.kinds.specs.Limits.{atom_limit, text_limit, empty_counts}
use Rattle.kinds.specs.declared.limits.Kind.{Kind}
use Rattle.kinds.specs.declared.limits.Kind.TheVariants.{Plain, Preference}
use Rattle.kinds.specs.declared.refusals.Refusal.TheVariants.{TextTooLong}
use Rattle.name_store.specs.NameStore.{encode_names, decode_names}
use Rattle.name_store.specs.NameIndex.{buckets}
use Rattle.stores.specs.Checking.{Below}
use Rattle.stores.specs.RuleStore.{word_count}
use Rattle.answers.specs.declared.ReadSizes.{ReadSizes}
use Rattle.answers.specs.declared.ReadRefusal.{ReadRefusal}
use Rattle.gathering.specs.declared.gathered.Gathered.{Gathered}
use Rattle.lines.specs.Lines.{lines}
use Rattle.restriction.specs.Remaining.{remaining, remaining_names}
use Rattle.lines.specs.Said.{kind_of, start, read_lines, typed, what_remains, said, program_of, placed}
use Rattle.answers.specs.Reading.{read_refusal, read_answer, read_rules, read_names}
use Rattle.gathering.specs.Gathered.{state_of, Held, HeldIndex, HeldMarks}
use Rattle.delivery.specs.Delivered.{Delivered}
use Rattle.delivery.proofs.Outcomes.{refused_as, delivered_as}
use Rattle.lines.specs.Faults.{SoFar}
use Rattle.reader.specs.FormedState.{Formed}
use Rattle.reader.specs.Gathering.{start_counts, GatherSays, GatherIs}
use Rattle.numbering.proofs.NameBlocks.{empty_index}
use Rattle.gathering.proofs.HeldState.{limits_within}

no_words : (kind : Kind) → 0 ≡ word_count kind 0
no_words Plain = refl
no_words Preference = refl

-- empty scratch stores hold the state before the first line
pub start_held : (text : List ℕ) {kind : Kind} → kind ≡ kind_of (lines text)
    → (words bytes : List ℕ) → length words ≡ store_words → length bytes ≡ store_bytes → Held kind (start text) start_counts words bytes
unfolding start encode_names
start_held text {kind} e words bytes a b =
    record {
      kind_is = sym e;
      stage_is = refl;
      classes_is = refl;
      counts_are = refl;
      made_is = refl;
      class_words_lem = no_words kind;
      stored = record { front = take 4 words; rest = drop 4 words; is = sym (first words); before = length-take-le 4 words (omega arith); ends = refl };
      names_allowed = tt;
      names_stored = refl;
      bytes_is = refl;
      short = omega arith;
      counts_fit = limits_within {kind = kind} {c = empty_counts} (record { atoms = zero-le; rules = zero-le; occurrences = zero-le });
      classes_fit = omega arith;
      made_fits = omega arith;
      made_kind = λ z. refl;
      no_rules = λ z. refl;
      words_room = a;
      bytes_room = b;
    }
  where
    first : (w : List ℕ) → (take 4 w ++ []) ++ drop 4 w ≡ w
    first w = ap (λ x. x ++ drop 4 w) (append-nil (take 4 w)) ∙ take-append-drop 4 w

pub start_index : (bytes starts links : List ℕ) {firsts : List ℕ} {n : ℕ} → firsts ≡ replicate n 0 → buckets ≤ n
    → length starts ≡ atom_limit Plain → length links ≡ atom_limit Plain → HeldIndex start_counts bytes starts firsts links
unfolding decode_names
start_index bytes starts links e l c d = record { index = empty_index bytes starts links e l; starts_room = c; links_room = d }

pub start_marks : {marks : List ℕ} → Below 1 marks → length marks ≡ atom_limit Plain → HeldMarks start_counts marks
start_marks m i = record { below = record { mark = λ x. omega (arith, m.mark x) }; room = i }

module _ (text rules names : List ℕ) where
  pub too_long : text_limit < length text → (Err (read_refusal TextTooLong 0) ≡ read_answer text (length rules) (length names)) × ((rules ≡ read_rules text rules names) × (names ≡ read_names text rules names))
  unfolding said typed read_answer read_rules read_names
  too_long l = refused_as (said text) rules names (rw (lt-leb (length text) text_limit l))

  module _ (l : length text ≤ text_limit) where
    typed_lines : typed text ≡ read_lines 1 (start text) (lines text)
    unfolding typed
    typed_lines = rw (le-leb (length text) text_limit l)

    said_lines : said text ≡ what_remains (read_lines 1 (start text) (lines text))
    unfolding said
    said_lines = ap what_remains typed_lines

    module _ {kind : Kind} {words bytes : List ℕ} {q : Result Gathered ReadRefusal} (w : GatherIs kind (read_lines 1 (start text) (lines text)) words bytes q) where
      gather : {p : Result Gathered ReadRefusal} → q ≡ p → GatherSays kind (read_lines 1 (start text) (lines text)) words bytes p
      gather e = subst (GatherSays kind (read_lines 1 (start text) (lines text)) words bytes) e w.says

      pub lines_refused : {e : ReadRefusal} → q ≡ Err e → (Err e ≡ read_answer text (length rules) (length names)) × ((rules ≡ read_rules text rules names) × (names ≡ read_names text rules names))
      unfolding read_answer read_rules read_names
      lines_refused e = refused_as (said text) rules names (said_lines ∙ ap what_remains (gather e))

      module _ {g : Gathered} (e : q ≡ Ok g) where
        abbrev st : SoFar
        st = state_of kind g words bytes

        -- what is gathered is of the form
        pub lines_held : Held kind st g words bytes × Formed st
        lines_held = ((gather e).1, (gather e).2)

        pub delivered : {rules' names' : List ℕ} {r : Result ReadSizes ReadRefusal} → Delivered (remaining (program_of (placed st))) (remaining_names (program_of (placed st)) (placed st).names) rules names rules' names' r
            → (r ≡ read_answer text (length rules) (length names)) × ((rules' ≡ read_rules text rules names) × (names' ≡ read_names text rules names))
        unfolding read_answer read_rules read_names
        delivered d = delivered_as (said text) rules names (said_lines ∙ ap what_remains (gather e).0) d
