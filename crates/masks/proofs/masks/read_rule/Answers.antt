use Rattle.stores.proofs.RuleLists.{heads_below, bodies_below}
use Rattle.masks.proofs.RulesFill.{read_unbreakable, read_breakable}
use Rattle.masks.proofs.masks.read_rule.Goals as goal

pub mask_of-heads-requires : goal.mask_of-heads-requires
mask_of-heads-requires c =
    record {
      n_le_walk_atoms = c.requires.n_le_walk_atoms;
      all = heads_below c.requires.stored_rule c.rule_lists-lists.ensures.heads;
    }

pub mask_of-bodies-requires : goal.mask_of-bodies-requires
mask_of-bodies-requires c =
    record {
      n_le_walk_atoms = c.requires.n_le_walk_atoms;
      all = bodies_below c.requires.stored_rule c.rule_lists-lists.ensures.bodies;
    }

pub returns-then-not-is_breakable : goal.returns-then-not-is_breakable
returns-then-not-is_breakable c = read_unbreakable _ c.rule_lists-lists.ensures.heads c.rule_lists-lists.ensures.bodies _ _ _ c.mask_of-heads.ensures c.mask_of-bodies.ensures _ c.is_breakable.ensures c.if-not-is_breakable.true

pub returns : goal.returns
returns c = read_breakable _ c.rule_lists-lists.ensures.heads c.rule_lists-lists.ensures.bodies _ _ _ c.mask_of-heads.ensures c.mask_of-bodies.ensures _ c.is_breakable.ensures c.if-not-is_breakable.false
