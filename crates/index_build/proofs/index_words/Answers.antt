use Prim.Native.Nat.{ℕ}
use mathlib.Core.Path.{sym, ap, subst, refl, ◌∙◌}
use native.Mathlib.Omega.{arith}
use lib.ListN.{length}
use Rattle.rules.specs.Lists.{over}
use Rattle.stores.specs.RuleStore.{rules_from}
use Rattle.stores.specs.StoredRules.{StoredRules}
use Rattle.rule_index.specs.Answers.{fitted, filled_words}
use Rattle.rule_index.specs.Index.{index}
use Rattle.index_build.proofs.FittedIndex.{unset_part, part_length}
use Rattle.index_build.proofs.index_words.Goals as goal

pub slice_bounds-index_with-end : goal.slice_bounds-index_with-end
slice_bounds-index_with-end c = sym (part_length c.args.atoms 1100 c.requires.2)

pub slice_bounds-index_with-end-2 : goal.slice_bounds-index_with-end-2
slice_bounds-index_with-end-2 c = sym (part_length c.args.atoms 1100 c.requires.2)

pub index_with-requires : goal.index_with-requires
index_with-requires c =
    record {
      stored_rules = (subst (λ (k : ℕ). StoredRules k c.args.rules c.args.words.now) (sym (part_length c.args.atoms 1100 c.requires.2)) c.requires.0, c.requires.1, omega (arith, part_length c.args.atoms 1100 c.requires.2, c.requires.2), refl);
      by_index = (unset_part c.args.atoms 1100, omega (arith, ap (λ (k : ℕ). length (index k (rules_from c.args.rules c.args.words.now))) (part_length c.args.atoms 1100 c.requires.2), c.requires.3));
    }

pub returns : goal.returns
returns c =
    record {
      value = c.index_with.ensures.value ∙ ap (λ (k : ℕ). fitted (index k (rules_from c.args.rules c.args.words.now)) (length c.args.out.now)) (part_length c.args.atoms 1100 c.requires.2);
      out_after = c.index_with.ensures.out_after ∙ ap (λ (k : ℕ). over (filled_words c.index_with.result (index k (rules_from c.args.rules c.args.words.now))) c.args.out.now) (part_length c.args.atoms 1100 c.requires.2);
    }
