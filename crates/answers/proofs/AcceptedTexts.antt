-- A text that was accepted, and what was then read.
use Prim.Native.Nat.{ℕ, ◌≤◌}
use mathlib.Core.Path.{◌≡◌, refl, sym, ap, subst}
use mathlib.Core.Bool.{Bool, true, false, cond, ◌&&◌}
use mathlib.Core.List.{List}
use native.Mathlib.Omega.{arith}
use lib.Dec.{T, leb, leb→le}
use lib.ListN.{length, take, drop}
use lib.Seq.{take-append_seam}
use borrow.Author.Tests.{le-leb}
use Rattle.std.specs.Prelude.{Result, Ok, Err}
use Rattle.rules.proofs.Booleans.{T-and-l, T-and-r}
use Rattle.rules.specs.Lists.{over}
use Rattle.answers.specs.declared.ReadSizes.{ReadSizes}
use Rattle.answers.specs.declared.ReadRefusal.{ReadRefusal}
use Rattle.kinds.specs.declared.refusals.Refusal.TheVariants.{Output}
use Rattle.stores.specs.Program.{Program}
use Rattle.stores.specs.RuleStore.{encode}
use Rattle.name_store.specs.NameStore.{encode_names}
use Rattle.lines.specs.Said.{Said, accepted, refused, said}
use Rattle.answers.specs.Reading.{read_sizes, read_refusal, read_answer, read_rules, read_names, answer_of}
use Rattle.answers.specs.ReadsAs.{ReadsAs}

pub never : {A : Type 0} → ◌≡◌ {A = ℕ} 0 1 → A
never z = absurd (omega arith)

-- a text that was accepted

pub record Filled (text : List ℕ) (rules names : ℕ) (words bytes : ℕ) : Type 0 where
  pub program : Program
  pub atom_names : List (List ℕ)
  pub lines : said text ≡ accepted program atom_names
  pub words_are : words ≡ length (encode program)
  pub bytes_are : bytes ≡ length (encode_names atom_names)
  pub rules_room : length (encode program) ≤ rules
  pub names_room : length (encode_names atom_names) ≤ names

pub filled : (text : List ℕ) (rules names words bytes : ℕ) → read_answer text rules names ≡ Ok (read_sizes words bytes) → Filled text rules names words bytes
unfolding read_answer
filled text rules names words bytes e = by_said (said text) refl e
  where
    by_fit : (p : Program) (ns : List (List ℕ)) → said text ≡ accepted p ns → (b : Bool) → leb (length (encode p)) rules && leb (length (encode_names ns)) names ≡ b
        → ◌≡◌ {A = Result ReadSizes ReadRefusal} (cond b (Ok (read_sizes (length (encode p)) (length (encode_names ns)))) (Err (read_refusal Output 0))) (Ok (read_sizes words bytes))
        → Filled text rules names words bytes
    by_fit p ns q true f r =
        let t : T (leb (length (encode p)) rules && leb (length (encode_names ns)) names) = subst T (sym f) tt in
        let z : read_sizes (length (encode p)) (length (encode_names ns)) ≡ read_sizes words bytes = cc in
        record {
          program = p;
          atom_names = ns;
          lines = q;
          words_are = ap (λ (s : ReadSizes). s.words) (sym z);
          bytes_are = ap (λ (s : ReadSizes). s.bytes) (sym z);
          rules_room = leb→le _ _ (T-and-l (leb (length (encode p)) rules) (leb (length (encode_names ns)) names) t);
          names_room = leb→le _ _ (T-and-r (leb (length (encode p)) rules) (leb (length (encode_names ns)) names) t);
        }
    by_fit p ns q false f r = never (cc)

    by_said : (s : Said) → said text ≡ s → answer_of s rules names ≡ Ok (read_sizes words bytes) → Filled text rules names words bytes
    by_said (accepted p ns) q r = by_fit p ns q (leb (length (encode p)) rules && leb (length (encode_names ns)) names) refl r
    by_said (refused f k) q r = never (cc)

-- an accepted text, with outputs that are long enough
pub reads_as : (text : List ℕ) (p : Program) (names : List (List ℕ)) → said text ≡ accepted p names → ReadsAs text p names
unfolding read_answer read_rules read_names
reads_as text p names e = record {
  lines = e;
  answer = λ rules-out names-out r n. rw (e, le-leb _ _ r, le-leb _ _ n);
  rules_filled = λ rules-out names-out r n. rw (e, le-leb _ _ r, le-leb _ _ n);
  names_filled = λ rules-out names-out r n. rw (e, le-leb _ _ r, le-leb _ _ n);
}

pub front : (w before : List ℕ) → take (length w) (over w before) ≡ w
front w before = take-append_seam w (drop (length w) before)
