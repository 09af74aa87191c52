use mathlib.Core.Path.{refl, sym, subst, ◌∙◌}
use Prim.Native.Nat.{ℕ}
use native.Mathlib.Omega.{arith}
use lib.ListN.{length}
use lib.Seq.{length-take-le}
use Rattle.stores.specs.RuleStore.{rules_from}
use Rattle.stores.specs.StoredRules.{StoredRules}
use Rattle.index_build.proofs.FittedIndex.{counted_size, no_room, has_room, written}
use borrow.Author.Rules.{rules}
use Rattle.index_build.proofs.index_with.Goals as goal

pub place_lists-size-requires : goal.place_lists-size-requires
place_lists-size-requires c = (search rules, omega (arith, counted_size (length c.args.counts.now) (rules_from c.args.rules c.args.words.now) c.count_rules.new.counts (search rules) c.count_rules.ensures, c.requires.by_index.1))

pub returns-then-out-size : goal.returns-then-out-size
returns-then-out-size c =
    record {
      value = no_room (length c.args.counts.now) (rules_from c.args.rules c.args.words.now) c.count_rules.new.counts (search rules) c.count_rules.ensures c.place_lists-size.ensures.value c.if-out-size.true;
      out_after = refl;
    }

pub slice_bounds-fill_index-end-2 : goal.slice_bounds-fill_index-end-2
slice_bounds-fill_index-end-2 c = sym (length-take-le c.place_lists-size.result c.args.out.now c.if-out-size.false)

pub fill_index-requires : goal.fill_index-requires
fill_index-requires c =
    record {
      stored_rules = (subst (λ (k : ℕ). StoredRules k c.args.rules c.args.words.now) (search rules) c.requires.stored_rules.0, c.requires.stored_rules.1, search rules, search rules);
      by_index = (λ a l. (c.count_rules.ensures a, c.place_lists-size.ensures.by_index a l));
      out_len = (length-take-le c.place_lists-size.result c.args.out.now c.if-out-size.false ∙ c.place_lists-size.ensures.value, omega (arith, counted_size (length c.args.counts.now) (rules_from c.args.rules c.args.words.now) c.count_rules.new.counts (search rules) c.count_rules.ensures, c.requires.by_index.1));
    }

pub returns : goal.returns
returns c =
    record {
      value = has_room (length c.args.counts.now) (rules_from c.args.rules c.args.words.now) c.count_rules.new.counts (search rules) c.count_rules.ensures c.place_lists-size.ensures.value c.if-out-size.false;
      out_after = written (length c.args.counts.now) (rules_from c.args.rules c.args.words.now) c.count_rules.new.counts (search rules) c.count_rules.ensures c.place_lists-size.ensures.value c.args.out.now c.fill_index.ensures;
    }
