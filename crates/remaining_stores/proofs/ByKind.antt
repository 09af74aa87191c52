-- What is held of a program of a kind, told by the kind.
use Prim.Native.Nat.{ℕ}
use mathlib.Core.Path.{◌≡◌, sym, ◌∙◌, subst}
use mathlib.Core.List.{List}
use Rattle.kinds.specs.declared.limits.Kind.{Kind}
use Rattle.kinds.specs.declared.limits.Kind.TheVariants.{Plain, Preference}
use Rattle.stores.specs.Program.{ProgramForm}
use Rattle.lines.specs.Said.{program_of}
use Rattle.std.specs.Prelude.{Result}
use Rattle.answers.specs.declared.ReadSizes.{ReadSizes}
use Rattle.answers.specs.declared.ReadRefusal.{ReadRefusal}
use Rattle.restriction.specs.Remaining.{remaining, remaining_names}
use Rattle.gathering.specs.declared.gathered.Gathered.{Gathered}
use Rattle.gathering.specs.Gathered.{state_of, Held}
use Rattle.delivery.specs.Delivered.{Delivered}
use Rattle.remaining_stores.proofs.Tabling.{plain_delivered}

-- what is left, delivered
abbrev Left : Gathered → List ℕ → List ℕ → List ℕ → List ℕ → List ℕ → List ℕ → Result ReadSizes ReadRefusal → Kind → Type 0
Left g words bytes rules names rules' names' r kind =
    Delivered (remaining (program_of (state_of kind g words bytes))) (remaining_names (program_of (state_of kind g words bytes)) (state_of kind g words bytes).names) rules names rules' names' r

module _ {kind : Kind} {g : Gathered} {words bytes : List ℕ} (h : Held kind (state_of kind g words bytes) g words bytes × ProgramForm (program_of (state_of kind g words bytes))) where
  pub preferring : kind ≡ Preference → Held Preference (state_of Preference g words bytes) g words bytes × ProgramForm (program_of (state_of Preference g words bytes))
  preferring e = subst (λ (k : Kind). Held k (state_of k g words bytes) g words bytes × ProgramForm (program_of (state_of k g words bytes))) e h

  module _ {rules names rules' names' : List ℕ} {r : Result ReadSizes ReadRefusal} where
    pub preference_left : kind ≡ Preference → Left g words bytes rules names rules' names' r Preference → Left g words bytes rules names rules' names' r kind
    preference_left e d = subst (Left g words bytes rules names rules' names' r) (sym e) d

    pub plain_left : kind ≡ Plain → Delivered (program_of (state_of kind g words bytes)) (state_of kind g words bytes).names rules names rules' names' r → Left g words bytes rules names rules' names' r kind
    plain_left e d = plain_delivered d (h.0.kind_is ∙ e)
