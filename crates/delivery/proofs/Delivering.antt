-- The gathered stores in the two lent outputs.
use Prim.Native.Nat.{ℕ, ◌≤◌, ◌<◌}
use native.Mathlib.Omega.{arith}
use mathlib.Core.Path.{◌≡◌, sym, ap, ◌∙◌}
use mathlib.Core.List.{List, [], ◌∷◌, ◌++◌}
use lib.ListN.{length, take, drop}
use lib.Seq.{take_at}
use Rattle.kinds.specs.declared.limits.Kind.{Kind}
use Rattle.std.specs.Prelude.{Ok, Err}
use Rattle.kinds.specs.declared.refusals.Refusal.TheVariants.{Output}
use Rattle.name_store.specs.NameStore.{encode_names}
use Rattle.stores.specs.RuleStore.{kind_word, encode}
use Rattle.output.specs.Emitted.{Emitted, InRange}
use Rattle.answers.specs.Reading.{read_sizes, read_refusal}
use Rattle.gathering.specs.declared.gathered.Gathered.{Gathered}
use Rattle.lines.specs.Faults.{SoFar}
use Rattle.lines.specs.Said.{program_of}
use Rattle.gathering.specs.Gathered.{stored_words, Held}
use Rattle.delivery.specs.Delivered.{header_words, Delivered}
use Rattle.output.proofs.Emitting.{sets_seam, renamed}
use Rattle.gathering.proofs.HeldState.{behind, atoms_is, rules_is, held_small}
use Rattle.delivery.proofs.Fitting.{rules_short, names_short, both_written}

module _ {kind : Kind} {st : SoFar} {g : Gathered} {words bytes : List ℕ} (h : Held kind st g words bytes) where
  pub header_small : (g.counts.atoms < 65536) × (g.classes < 65536) × (g.counts.rules < 65536)
  header_small = let s = held_small h in (omega (arith, s.atoms), omega (arith, h.classes_fit), omega (arith, s.rules))

  header_is : header_words kind g ++ stored_words st ≡ encode (program_of st)
  unfolding encode
  header_is = λ i. kind_word (sym h.kind_is i) ∷ atoms_is h i ∷ h.classes_is i ∷ rules_is h i ∷ stored_words st

  pub words_length : length (encode (program_of st)) ≡ g.words
  words_length = omega (arith, ap length header_is, h.stored.ends)

  pub bytes_length : length (encode_names st.names) ≡ g.bytes
  bytes_length = sym h.bytes_is

  module _ {words' : List ℕ} {e : ℕ} (w : Emitted words 0 (header_words kind g) words' e) where
    with_header : words' ≡ encode (program_of st) ++ h.stored.rest
    with_header =
        w.bytes
        ∙ sets_seam [] words (header_words kind g) (omega (arith, h.words_room))
        ∙ ap (λ x. header_words kind g ++ x) (behind h.stored)
        ∙ ap (λ x. x ++ h.stored.rest) header_is

    pub words_part : take g.words words' ≡ encode (program_of st)
    words_part = ap (take g.words) with_header ∙ take_at (encode (program_of st)) h.stored.rest g.words words_length

    pub words_part_length : g.words ≡ length (take g.words words')
    words_part_length = sym (ap length words_part ∙ words_length)

    pub words_range : InRange 0 (take g.words words')
    words_range = record { below = omega (arith, words_part_length, (held_small h).words) }

  pub bytes_part : take g.bytes bytes ≡ encode_names st.names
  bytes_part = ap (take g.bytes) (sym h.names_stored) ∙ take_at (encode_names st.names) (drop (length (encode_names st.names)) bytes) g.bytes bytes_length

  pub bytes_part_length : g.bytes ≡ length (take g.bytes bytes)
  bytes_part_length = sym (ap length bytes_part ∙ bytes_length)

  pub bytes_range : InRange 0 (take g.bytes bytes)
  bytes_range = record { below = omega (arith, bytes_part_length, (held_small h).bytes) }

  module _ (rules names : List ℕ) where
    pub rules_lack : length rules < g.words → Delivered (program_of st) st.names rules names rules names (Err (read_refusal Output 0))
    rules_lack l = rules_short (program_of st) st.names words_length bytes_length rules names l

    pub names_lack : length names < g.bytes → Delivered (program_of st) st.names rules names rules names (Err (read_refusal Output 0))
    names_lack l = names_short (program_of st) st.names words_length bytes_length rules names l

    pub all_written : g.words ≤ length rules → g.bytes ≤ length names → {words' : List ℕ} {e : ℕ} → Emitted words 0 (header_words kind g) words' e
        → {rules' : List ℕ} {p : ℕ} → Emitted rules 0 (take g.words words') rules' p
        → {names' : List ℕ} {q : ℕ} → Emitted names 0 (take g.bytes bytes) names' q
        → Delivered (program_of st) st.names rules names rules' names' (Ok (read_sizes g.words g.bytes))
    all_written l m w u v = both_written (program_of st) st.names words_length bytes_length rules names l m (renamed u (words_part w)) (renamed v bytes_part)
