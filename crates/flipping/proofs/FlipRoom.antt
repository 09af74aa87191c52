-- The answer copied to an output that has room for it, and refusal 9.
use Prim.Native.Nat.{ℕ, ◌≤◌, ◌<◌}
use native.Mathlib.Nat.{zero-add}
use native.Mathlib.Omega.{arith}
use mathlib.Core.Path.{◌≡◌, sym, ap, ◌∙◌, subst}
use mathlib.Core.Bool.{Bool, cond}
use mathlib.Core.List.{List, ◌++◌}
use lib.ListN.{length, take, drop}
use lib.Seq.{sets, sets-eq}
use borrow.Author.Tests.{le-leb, lt-leb}
use Rattle.std.specs.Prelude.{Result, Ok, Err}
use Rattle.kinds.specs.Limits.{rule_limit}
use Rattle.kinds.specs.declared.limits.Kind.TheVariants.{Plain}
use Rattle.kinds.specs.declared.refusals.Refusal.{Refusal}
use Rattle.kinds.specs.declared.refusals.Refusal.TheVariants.{Output}
use Rattle.rules.specs.Lists.{over}
use Rattle.stores.specs.RuleStore.{decode}
use Rattle.stores.specs.declared.rule_store.Header.{Header}
use Rattle.output.specs.Emitted.{Emitted, InRange}
use Rattle.output.proofs.Emitting.{front_inside, front_is}
use Rattle.restriction.specs.Atoms.{is_member}
use Rattle.rule_index.specs.Index.{is_standing}
use Rattle.rule_index.specs.Flip.{is_broken, flipped, after_flip}
use Rattle.rule_index.specs.Answers.{fitted, filled_words, flip_list}
use Rattle.rule_index.proofs.RuleNumbers.{numbers_few}
use Rattle.flipping.specs.Checked.{Checked, fitted_output}

module _ {rules : List ℕ} {header : Header} {index list : List ℕ} {set atom : ℕ} (c : Checked rules header index list set atom) where
  abbrev ws : List ℕ
  ws = flip_list rules list set atom

  few : length ws ≤ rule_limit Plain
  unfolding flip_list after_flip
  few = omega (arith, numbers_few (λ i r. cond (is_standing atom r) (is_broken (flipped set atom) r) (is_member list i)) 0 (decode rules).rules, c.read.rules_are, c.read.few_rules)

  module _ {answer answer' : List ℕ} {size : ℕ} (e : Emitted answer 0 ws answer' size) (room : rule_limit Plain ≤ length answer) where
    size_is : size ≡ length ws
    size_is = e.place ∙ zero-add (length ws)

    pub answer_inside : size ≤ length answer'
    answer_inside = front_inside e (omega (arith, few))

    answer_is : take size answer' ≡ ws
    answer_is = front_is e (omega (arith, few))

    pub answer_range : InRange 0 (take size answer')
    answer_range = subst (InRange 0) (sym answer_is) (record { below = omega (arith, few) })

    pub no_room : (before : List ℕ) → length before < size → (Err Output ≡ fitted ws (length before)) × (before ≡ fitted_output ws before)
    no_room before l =
        let q : Err Output ≡ fitted ws (length before) = ap (λ (b : Bool). cond b (Ok (length ws)) (Err Output)) (sym (lt-leb (length ws) (length before) (omega (arith, size_is)))) in
        (q, ap (λ (r : Result ℕ Refusal). over (filled_words r ws) before) q)

    pub copied : (before : List ℕ) → size ≤ length before → {after : List ℕ} {next : ℕ} → Emitted before 0 (take size answer') after next → (Ok size ≡ fitted ws (length before)) × (after ≡ fitted_output ws before)
    copied before l {after} p =
        let fits : length ws ≤ length before = omega (arith, size_is) in
        let q : Ok (length ws) ≡ fitted ws (length before) = ap (λ (b : Bool). cond b (Ok (length ws)) (Err Output)) (sym (le-leb (length ws) (length before) fits)) in
        let written : after ≡ over ws before =
        p.bytes ∙ ap (λ (w : List ℕ). sets before 0 w) answer_is ∙ sets-eq ws before 0 (omega arith) ∙ ap (λ (k : ℕ). ws ++ drop k before) (zero-add (length ws)) in
        (ap Ok size_is ∙ q, written ∙ ap (λ (r : Result ℕ Refusal). over (filled_words r ws) before) q)
