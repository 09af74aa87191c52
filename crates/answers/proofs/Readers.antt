-- Which texts a reader refuses, and what it then leaves, from what a text says.
use Prim.Native.Nat.{ℕ}
use native.Mathlib.Omega.{arith}
use mathlib.Core.Path.{◌≡◌, refl, sym, ap, ap₂, ◌∙◌}
use mathlib.Core.Logic.{◌↔◌, ◌⊎◌, inl, inr}
use mathlib.Core.Bool.{Bool, true, false, cond, ◌&&◌}
use mathlib.Core.List.{List, ◌++◌}
use lib.Dec.{T, leb}
use lib.ListN.{length, drop}
use Rattle.std.specs.Prelude.{Result, Ok, Err}
use Rattle.kinds.specs.declared.refusals.Refusal.{Refusal}
use Rattle.kinds.specs.declared.refusals.Refusal.TheVariants.{Output}
use Rattle.rules.specs.Lists.{over}
use Rattle.stores.specs.Program.{Program}
use Rattle.stores.specs.RuleStore.{encode}
use Rattle.name_store.specs.NameStore.{encode_names}
use Rattle.lines.specs.Said.{Said, accepted, refused, said}
use Rattle.faults.specs.EarliestFault.{Refuses, Accepts}
use Rattle.faults.proofs.EarliestFault.{said_refused, said_accepted}
use Rattle.clauses.specs.ClausesSaid.{clauses_said}
use Rattle.clauses.specs.Sentences.{RefusesClauses, AcceptsClauses}
use Rattle.clauses.proofs.ClauseSentences.{clauses_refused, clauses_accepted}
use Rattle.answers.specs.declared.ReadSizes.{ReadSizes}
use Rattle.answers.specs.declared.ReadRefusal.{ReadRefusal}
use Rattle.answers.specs.Reading.{read_sizes, read_refusal, answer_of, written_if, rules_after, names_after, read_answer, read_rules, read_names}
use Rattle.answers.specs.ReadingClauses.{clauses_answer, clauses_rules, clauses_names}
use Rattle.answers.specs.Refusals.{TooShort, NoRoom, Reads, ReadRefuses, ClausesRefuse}
use Rattle.answers.proofs.Refusals.{past}
use Rattle.rules.proofs.Booleans.{T-and-l, T-and-r}

read_inj : {r f : Refusal} {line k : ℕ} → ◌≡◌ {A = Result ReadSizes ReadRefusal} (Err (read_refusal f k)) (Err (read_refusal r line)) → (f ≡ r) × (k ≡ line)
read_inj {r} {f} {line} {k} e = let z : read_refusal f k ≡ read_refusal r line = cc in (ap (λ (x : ReadRefusal). x.refusal) z, ap (λ (x : ReadRefusal). x.line) z)

never_read : {A : Type 0} {r : Refusal} {line words bytes : ℕ} → ◌≡◌ {A = Result ReadSizes ReadRefusal} (Err (read_refusal r line)) (Ok (read_sizes words bytes)) → A
never_read e = absurd (let z : ◌≡◌ {A = ℕ} 0 1 = cc in omega arith)

module _ (words bytes : ℕ) (p : Program) (ns : List (List ℕ)) where
  abbrev fits : Bool
  fits = leb (length (encode p)) words && leb (length (encode_names ns)) bytes

  no_room : NoRoom p ns words bytes ↔ (T fits → ⊥)
  no_room = (there, λ h. step (leb (length (encode p)) words) (leb (length (encode_names ns)) bytes) (past (length (encode p)) words) (past (length (encode_names ns)) bytes) h)
    where
      there : NoRoom p ns words bytes → T fits → ⊥
      there (inl h) t = (past (length (encode p)) words).0 h (T-and-l (leb (length (encode p)) words) (leb (length (encode_names ns)) bytes) t)
      there (inr h) t = (past (length (encode_names ns)) bytes).0 h (T-and-r (leb (length (encode p)) words) (leb (length (encode_names ns)) bytes) t)

      step : (a b : Bool) → TooShort (encode p) words ↔ (T a → ⊥) → TooShort (encode_names ns) bytes ↔ (T b → ⊥) → (T (a && b) → ⊥) → NoRoom p ns words bytes
      step true b l k h = inr (k.1 h)
      step false b l k h = inl (l.1 (λ t. t))

  short_refused : (r : Refusal) (line : ℕ) → answer_of (accepted p ns) words bytes ≡ Err (read_refusal r line) ↔ (NoRoom p ns words bytes × (r ≡ Output) × (line ≡ 0))
  short_refused r line = step fits no_room
    where
      step : (b : Bool) → NoRoom p ns words bytes ↔ (T b → ⊥) → cond b (Ok (read_sizes (length (encode p)) (length (encode_names ns)))) (Err (read_refusal Output 0)) ≡ Err (read_refusal r line) ↔ (NoRoom p ns words bytes × (r ≡ Output) × (line ≡ 0))
      step true l = (λ q. never_read (sym q), λ h. absurd (l.0 h.0 tt))
      step false l = (λ q. let i = read_inj q in (l.1 (λ t. t), sym i.0, sym i.1), λ h. rw (h.1, h.2))

  long_accepted : (w b : ℕ) → answer_of (accepted p ns) words bytes ≡ Ok (read_sizes w b) ↔ ((NoRoom p ns words bytes → ⊥) × (w ≡ length (encode p)) × (b ≡ length (encode_names ns)))
  long_accepted w b = step fits no_room
    where
      step : (c : Bool) → NoRoom p ns words bytes ↔ (T c → ⊥) → cond c (Ok (read_sizes (length (encode p)) (length (encode_names ns)))) (Err (read_refusal Output 0)) ≡ Ok (read_sizes w b) ↔ ((NoRoom p ns words bytes → ⊥) × (w ≡ length (encode p)) × (b ≡ length (encode_names ns)))
      step true l = (
        λ q. (let z : read_sizes (length (encode p)) (length (encode_names ns)) ≡ read_sizes w b = cc in (λ h. l.0 h tt, ap (λ (s : ReadSizes). s.words) (sym z), ap (λ (s : ReadSizes). s.bytes) (sym z))),
        λ h. rw (h.1, h.2),
      )
      step false l = (λ q. never_read q, λ h. absurd (h.0 (l.1 (λ t. t))))

-- a text says s exactly as it is refused or accepted
module _ (Refuses : Refusal → ℕ → Type 0) (Accepts : Program → List (List ℕ) → Type 0) (s : Said)
    (refused-iff : (r : Refusal) (k : ℕ) → s ≡ refused r k ↔ Refuses r k) (accepted_iff : (p : Program) (ns : List (List ℕ)) → s ≡ accepted p ns ↔ Accepts p ns) where
  module _ (words bytes : ℕ) where
    abbrev Short : Refusal → ℕ → Type 0
    Short r line = (p : Program) × (ns : List (List ℕ)) × Accepts p ns × NoRoom p ns words bytes × (r ≡ Output) × (line ≡ 0)

    read_refused : (r : Refusal) (line : ℕ) → answer_of s words bytes ≡ Err (read_refusal r line) ↔ (Refuses r line ⊎ Short r line)
    read_refused r line = (λ q. there s refl q, back)
      where
        there : (t : Said) → s ≡ t → answer_of s words bytes ≡ Err (read_refusal r line) → Refuses r line ⊎ Short r line
        there (accepted p ns) e q =
            let h = (short_refused words bytes p ns r line).0 (ap (λ (t : Said). answer_of t words bytes) (sym e) ∙ q) in inr (p, ns, (accepted_iff p ns).0 e, h.0, h.1, h.2)
        there (refused f k) e q = let i = read_inj (ap (λ (t : Said). answer_of t words bytes) (sym e) ∙ q) in inl ((refused-iff r line).0 (e ∙ ap₂ refused i.0 i.1))

        back : Refuses r line ⊎ Short r line → answer_of s words bytes ≡ Err (read_refusal r line)
        back (inl h) = ap (λ (t : Said). answer_of t words bytes) ((refused-iff r line).1 h)
        back (inr h) = ap (λ (t : Said). answer_of t words bytes) ((accepted_iff h.0 h.1).1 h.2) ∙ (short_refused words bytes h.0 h.1 r line).1 (h.3, h.4, h.5)

    read_accepted : (w b : ℕ) → answer_of s words bytes ≡ Ok (read_sizes w b)
        ↔ ((p : Program) × (ns : List (List ℕ)) × Accepts p ns × (NoRoom p ns words bytes → ⊥) × (w ≡ length (encode p)) × (b ≡ length (encode_names ns)))
    read_accepted w b = (
      λ q. there s refl q,
      λ h. ap (λ (t : Said). answer_of t words bytes) ((accepted_iff h.0 h.1).1 h.2) ∙ (long_accepted words bytes h.0 h.1 w b).1 (h.3, h.4, h.5),
    )
      where
        there : (t : Said) → s ≡ t → answer_of s words bytes ≡ Ok (read_sizes w b)
            → (p : Program) × (ns : List (List ℕ)) × Accepts p ns × (NoRoom p ns words bytes → ⊥) × (w ≡ length (encode p)) × (b ≡ length (encode_names ns))
        there (accepted p ns) e q =
            let h = (long_accepted words bytes p ns w b).0 (ap (λ (t : Said). answer_of t words bytes) (sym e) ∙ q) in (p, ns, (accepted_iff p ns).0 e, h.0, h.1, h.2)
        there (refused f k) e q = never_read (ap (λ (t : Said). answer_of t words bytes) (sym e) ∙ q)

  pub reads : (rules names : List ℕ) → Reads Refuses Accepts (answer_of s (length rules) (length names)) rules names (rules_after s rules names) (names_after s rules names)
  reads rules names = record {
    refused = read_refused (length rules) (length names);
    accepted = read_accepted (length rules) (length names);
    kept = λ r line q. (ap (λ (v : Result ReadSizes ReadRefusal). over (written_if v (λ p ns. encode p) s) rules) q, ap (λ (v : Result ReadSizes ReadRefusal). over (written_if v (λ p ns. encode_names ns) s) names) q);
    filled = λ words bytes q p ns a. (
        let e = (accepted_iff p ns).1 a in
        let h = (long_accepted (length rules) (length names) p ns words bytes).0 (ap (λ (t : Said). answer_of t (length rules) (length names)) (sym e) ∙ q) in (
          ap₂ (λ (v : Result ReadSizes ReadRefusal) (t : Said). over (written_if v (λ p ns. encode p) t) rules) q e ∙ ap (λ (k : ℕ). encode p ++ drop k rules) (sym h.1),
          ap₂ (λ (v : Result ReadSizes ReadRefusal) (t : Said). over (written_if v (λ p ns. encode_names ns) t) names) q e ∙ ap (λ (k : ℕ). encode_names ns ++ drop k names) (sym h.2),
        )
        );
  }

pub read_refuses : (text rules names : List ℕ) → ReadRefuses text rules names
unfolding read_answer read_rules read_names
read_refuses text rules names = reads (Refuses text) (Accepts text) (said text) (said_refused text) (said_accepted text) rules names

pub clauses_refuse : (text rules names : List ℕ) → ClausesRefuse text rules names
unfolding clauses_answer clauses_rules clauses_names
clauses_refuse text rules names = reads (RefusesClauses text) (AcceptsClauses text) (clauses_said text) (clauses_refused text) (clauses_accepted text) rules names
