use Rattle.masks.specs.Masks.{care_at, want_at}
use Rattle.stable_verdict.proofs.ReductFill.{put_masks}
use borrow.Author.Rules.{rules}
use Rattle.stable_verdict.proofs.reduct.put_rule.Goals as goal

pub fill_rules-requires : goal.fill_rules-requires
fill_rules-requires c =
    record {
      n_le_walk_atoms = c.requires.n_le_walk_atoms;
      stored_rules = (c.requires.stored_rule, tt);
      rules_in_bounds = (search rules, search rules);
    }

pub returns : goal.returns
returns c =
    record {
      care_after = put_masks (care_at c.args.n) _ _ _ _ c.requires.at_in_bounds.0 c.fill_rules.ensures.care_after;
      want_after = put_masks (want_at c.args.n) _ _ _ _ c.requires.at_in_bounds.1 c.fill_rules.ensures.want_after;
    }
