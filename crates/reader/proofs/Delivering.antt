-- From what is gathered to what is delivered: the atoms that conditions made in their place.
use Prim.Native.Nat.{ℕ, ◌+◌, ◌≤◌, ◌<◌}
use native.Mathlib.Omega.{arith}
use mathlib.Core.Path.{◌≡◌, refl, sym, ◌∙◌, subst}
use mathlib.Core.Bool.{true}
use mathlib.Core.List.{List}
use lib.ListN.{length}
use Rattle.std.specs.Prelude.{Result}
use Rattle.kinds.specs.declared.refusals.Refusal.{Refusal}
use Rattle.kinds.specs.Limits.{atom_limit}
use Rattle.kinds.specs.declared.limits.Kind.{Kind}
use Rattle.kinds.specs.declared.limits.Kind.TheVariants.{Plain, Preference}
use Rattle.rules.specs.Renumbering.{Within}
use Rattle.rules.proofs.Lists.{all_imp}
use Rattle.stores.specs.Program.{ProgramForm, RuleForm}
use Rattle.restriction.specs.Remaining.{remaining, remaining_names}
use Rattle.lines.specs.Forms.{LineForm}
use Rattle.lines.specs.Faults.{SoFar}
use Rattle.lines.specs.Said.{program_of, placed}
use Rattle.answers.specs.declared.ReadSizes.{ReadSizes}
use Rattle.answers.specs.declared.ReadRefusal.{ReadRefusal}
use Rattle.gathering.specs.declared.gathered.Gathered.{Gathered}
use Rattle.gathering.specs.Gathered.{state_of, Held, LineIs, opens_condition}
use Rattle.gathering.proofs.HeldState.{held_is}
use Rattle.delivery.specs.Delivered.{Delivered}
use Rattle.placing.specs.Unplaced.{Unplaced}
use Rattle.reader.specs.FormedState.{Formed}
use Rattle.reader.proofs.PlacedLines.{none_placed, placed_form}

-- what a state declares is delivered
abbrev pub StateDelivered : SoFar → List ℕ → List ℕ → List ℕ → List ℕ → Result ReadSizes ReadRefusal → Type 0
StateDelivered st rules names rules' names' r = Delivered (remaining (program_of st)) (remaining_names (program_of st) st.names) rules names rules' names' r

-- only a preference file has made atoms

pub made_preference : (kind : Kind) {st : SoFar} {g : Gathered} {words bytes : List ℕ} → Held kind st g words bytes → (g.made ≡ 0 → ⊥) → kind ≡ Preference
made_preference Plain h n = absurd (n (h.made_kind refl))
made_preference Preference h n = refl

pub condition_preference : (kind : Kind) (l : List ℕ) → opens_condition kind l ≡ true → kind ≡ Preference
condition_preference Plain l e = absurd (let z : ◌≡◌ {A = ℕ} 0 1 = cc in omega arith)
condition_preference Preference l e = refl

module _ {kind : Kind} {g : Gathered} {words bytes : List ℕ} (h : Held kind (state_of kind g words bytes) g words bytes) (e : kind ≡ Preference) where
  pub held_preference : Held Preference (state_of Preference g words bytes) g words bytes
  held_preference = subst (λ k. Held k (state_of k g words bytes) g words bytes) e h

  pub formed_preference : Formed (state_of kind g words bytes) → Formed (state_of Preference g words bytes)
  formed_preference = subst (λ k. Formed (state_of k g words bytes)) e

  pub line_preference : {f : LineForm} {words' bytes' starts firsts links : List ℕ} {r : Result Gathered Refusal} → LineIs Preference (state_of Preference g words bytes) f words' bytes' starts firsts links r → LineIs kind (state_of kind g words bytes) f words' bytes' starts firsts links r
  line_preference {f} {words'} {bytes'} {starts} {firsts} {links} {r} = subst (λ k. LineIs k (state_of k g words bytes) f words' bytes' starts firsts links r) (sym e)

  pub delivered_preference : {rules names rules' names' : List ℕ} {r : Result ReadSizes ReadRefusal} → StateDelivered (placed (state_of Preference g words bytes)) rules names rules' names' r → StateDelivered (placed (state_of kind g words bytes)) rules names rules' names' r
  delivered_preference {rules} {names} {rules'} {names'} {r} = subst (λ k. StateDelivered (placed (state_of k g words bytes)) rules names rules' names' r) (sym e)

module _ {kind : Kind} {g : Gathered} {words bytes : List ℕ} (h : Held kind (state_of kind g words bytes) g words bytes) (f : Formed (state_of kind g words bytes)) where
  abbrev st : SoFar
  st = state_of kind g words bytes

  made_here : st.made ≡ g.made
  made_here = sym h.made_is

  -- no atom is made

  module _ (e : g.made ≡ 0) where
    pub form_here : ProgramForm (program_of st)
    form_here = subst (λ z. ProgramForm (program_of z)) (none_placed st (made_here ∙ e)) (placed_form st f).0

    pub delivered_here : {rules names rules' names' : List ℕ} {r : Result ReadSizes ReadRefusal} → StateDelivered st rules names rules' names' r → StateDelivered (placed st) rules names rules' names' r
    delivered_here {rules} {names} {rules'} {names'} {r} = subst (λ z. StateDelivered z rules names rules' names' r) (sym (none_placed st (made_here ∙ e)))

  -- some are

  pub unplaced : 1 ≤ g.made → kind ≡ Preference → Unplaced st
  unplaced l e = record {
    one = omega (arith, made_here);
    few = subst (λ k. length st.names + st.made ≤ atom_limit k) (h.kind_is ∙ e) f.atoms_fit;
    inside = all_imp (RuleForm st.kind (length st.names + st.made)) (Within (λ a. a < length st.names + st.made)) (λ r q. record { head = q.head_form.0; body = q.body_form.0; nots = q.nots_form.0 }) st.program_rules f.rule_forms;
  }

  module _ {g' : Gathered} {words' bytes' : List ℕ} (h' : Held Preference (placed st) g' words' bytes') where
    pub placed_held : Held Preference (state_of Preference g' words' bytes') g' words' bytes' × ProgramForm (program_of (state_of Preference g' words' bytes'))
    placed_held = let is = held_is h' in (subst (λ z. Held Preference z g' words' bytes') is h', subst (λ z. ProgramForm (program_of z)) is (placed_form st f).0)

    pub placed_delivered : {rules names rules' names' : List ℕ} {r : Result ReadSizes ReadRefusal} → StateDelivered (state_of Preference g' words' bytes') rules names rules' names' r → StateDelivered (placed st) rules names rules' names' r
    placed_delivered {rules} {names} {rules'} {names'} {r} = subst (λ z. StateDelivered z rules names rules' names' r) (sym (held_is h'))
