use Prim.Native.Nat.{ℕ, ◌≤◌}
use mathlib.Core.Path.{refl, sym, ap, ◌∙◌}
use Rattle.std.specs.Prelude.{Err}
use Rattle.std.proofs.lemmas.Result.{err_from_is_err_and}
use lib.ListN.{replicate, length-replicate}
use Rattle.kinds.specs.Sizes.{store_words, store_bytes}
use Rattle.kinds.specs.Limits.{atom_limit}
use Rattle.kinds.specs.declared.limits.Kind.TheVariants.{Plain}
use Rattle.name_store.specs.NameIndex.{buckets}
use Rattle.stores.proofs.StoreHeader.{unmarked}
use Rattle.reader.proofs.WholeText.{start_held, start_index, start_marks, too_long, lines_refused, lines_held, delivered}
use native.Mathlib.Omega.{arith}
use borrow.Author.Rules.{rules}
use Rattle.reader.proofs.read.Goals as goal

pub returns-then-text-gt-TEXT : goal.returns-then-text-gt-TEXT
returns-then-text-gt-TEXT c =
    let r = too_long c.args.text.now c.args.rules.now c.args.names.now c.if-text-gt-TEXT.true in
    record {
      answer = r.0;
      rules = r.1.0;
      names = r.1.1;
    }

pub read_lines-requires : goal.read_lines-requires
read_lines-requires c =
    let room : buckets ≤ 4096 = omega arith in
    record {
      text_len_bound = c.if-text-gt-TEXT.false;
      held = start_held c.args.text.now c.kind_of-kind.ensures (replicate store_words 0) (replicate store_bytes 0) (length-replicate {A = ℕ} store_words 0) (length-replicate {A = ℕ} store_bytes 0);
      held_index = start_index (replicate store_bytes 0) (replicate (atom_limit Plain) 0) (replicate (atom_limit Plain) 0) refl room (length-replicate {A = ℕ} (atom_limit Plain) 0) (length-replicate {A = ℕ} (atom_limit Plain) 0);
      held_marks = start_marks (unmarked (atom_limit Plain)) (length-replicate {A = ℕ} (atom_limit Plain) 0);
    }

pub deliver-requires : goal.deliver-requires
deliver-requires c = lines_held c.args.text.now c.args.rules.now c.args.names.now c.if-text-gt-TEXT.false c.read_lines.ensures c.in_ok-gathered.was

pub returns : goal.returns
returns c =
    let r = delivered c.args.text.now c.args.rules.now c.args.names.now c.if-text-gt-TEXT.false c.read_lines.ensures c.in_ok-gathered.was c.deliver.ensures in
    record {
      answer = r.0;
      rules = r.1.0;
      names = r.1.1;
    }

pub returns-in_err-gathered : goal.returns-in_err-gathered
returns-in_err-gathered c =
    let p = err_from_is_err_and c.from_residual.result c.from_residual.ensures.1 in
    let r = lines_refused c.args.text.now c.args.rules.now c.args.names.now c.if-text-gt-TEXT.false c.read_lines.ensures c.in_err-gathered.was in
    record {
      answer = p.1 ∙ ap Err p.2 ∙ r.0;
      rules = r.1.0;
      names = r.1.1;
    }
