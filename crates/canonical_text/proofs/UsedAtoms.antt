-- Rules that are the same as sets have the same atoms.
use Prim.Native.Nat.{ℕ}
use mathlib.Core.Path.{◌≡◌}
use mathlib.Core.Logic.{◌⊎◌, inl, inr}
use mathlib.Core.List.{List, ◌++◌}
use lib.Dec.{T}
use Rattle.rules.specs.Lists.{Any}
use Rattle.rules.specs.Rules.{Rule}
use Rattle.rules.proofs.Lists.{all_any, any_imp, any_app, app_any, some_any}
use Rattle.stores.specs.Program.{Program}
use Rattle.restriction.specs.Atoms.{is_member, atoms_of, is_used}
use Rattle.restriction.specs.Remaining.{AllUsed}
use Rattle.restriction.proofs.Places.{member_any}
use Rattle.canonical.specs.Order.{Member}
use Rattle.canonical.specs.Canonical.{SameRule, SameRules}
use Rattle.canonical.specs.CanonicalProgram.{canonical_program}
use Rattle.canonical.proofs.CanonicalRules.{canonical_rules, rules_sym}

-- of two lists in place of two with the same members
joined : (a : ℕ) (xs ys xs' ys' : List ℕ) → (Member a xs → Member a xs') → (Member a ys → Member a ys') → Member a (xs ++ ys) → Member a (xs' ++ ys')
joined a xs ys xs' ys' f g h = any_app (λ y. a ≡ y) xs' ys' (step (app_any (λ y. a ≡ y) xs ys h))
  where
    step : Member a xs ⊎ Member a ys → Member a xs' ⊎ Member a ys'
    step (inl m) = inl (f m)
    step (inr m) = inr (g m)

same_atoms : (a : ℕ) (r s : Rule ℕ) → SameRule r s → Member a (atoms_of r) → Member a (atoms_of s)
same_atoms a r s h = joined a r.head (r.body ++ r.nots) s.head (s.body ++ s.nots) (h.heads a).0 (joined a r.body r.nots s.body s.nots (h.bodies a).0 (h.nots a).0)

used_same : (rs ss : List (Rule ℕ)) → SameRules rs ss → (a : ℕ) → T (is_used rs a) → T (is_used ss a)
used_same rs ss h a t =
    let law = some_any (λ r. is_member (atoms_of r) a) (λ r. Member a (atoms_of r)) (λ r. member_any (atoms_of r) a) in
    let q = all_any (λ r. Any (SameRule r) ss) (λ r. Member a (atoms_of r)) rs h.there ((law rs).0 t) in
    (law ss).1 (any_imp (SameRule q.0) (λ s. Member a (atoms_of s)) (λ s k. same_atoms a q.0 s k q.2) ss q.1)

pub canonical_used : (p : Program) → AllUsed p → AllUsed (canonical_program p)
unfolding canonical_program
canonical_used p all a l = let c = canonical_rules p.rules in used_same p.rules _ (rules_sym _ p.rules c) a (all a l)
