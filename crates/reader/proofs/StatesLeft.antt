-- The preferred sets of an accepted file are those of all atoms that it declares, cut to what is left.
use Prim.Native.Nat.{ℕ}
use mathlib.Core.Path.{◌≡◌, sym, subst, ◌∙◌}
use mathlib.Core.List.{List}
use Rattle.kinds.specs.declared.limits.Kind.{Kind}
use Rattle.kinds.specs.declared.limits.Kind.TheVariants.{Preference}
use Rattle.stores.specs.Program.{Program, ClassesForm}
use Rattle.restriction.specs.Remaining.{restrict, left}
use Rattle.restriction.specs.Covers.{Covers}
use Rattle.restriction.specs.PreferredLeft.{PreferredLeft}
use Rattle.restriction.proofs.Forms.{covers_left}
use Rattle.restriction.proofs.Whole.{remaining_preference}
use Rattle.restriction.proofs.PreferredLeft.{preferred_left}
use Rattle.faults.specs.EarliestFault.{Accepts}
use Rattle.reader.proofs.RoundTrip.{form, whole_kind}

pub states_left : (text : List ℕ) (p : Program) (names : List (List ℕ)) (a : Accepts text p names) → p.kind ≡ Preference
    → PreferredLeft (left a.1.whole) a.1.whole.words a.1.whole.rules p.words p.rules
unfolding restrict
states_left text p names a e =
    let q = a.1.whole in
    let f = (form text p names a).0 in
    let k = whole_kind text p names a e in
    let size = (subst (λ (kind : Kind). ClassesForm kind q.atoms q.classes q.words) k f.classes_form).1 in
    let c = subst (λ (n : ℕ). Covers n (left q) q.rules) (sym size) (covers_left q f) in
    subst (λ (r : Program). PreferredLeft (left q) q.words q.rules r.words r.rules) (sym (a.1.program ∙ remaining_preference q k)) (preferred_left (left q) q.words q.rules c)
