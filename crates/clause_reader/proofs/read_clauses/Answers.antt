use Prim.Native.Nat.{ℕ, ◌*◌}
use lib.ListN.{length-replicate}
use Rattle.kinds.specs.Limits.{atom_limit, occurrence_limit}
use Rattle.kinds.specs.Sizes.{store_words, store_bytes}
use Rattle.kinds.specs.declared.limits.Kind.TheVariants.{Preference}
use Rattle.std.proofs.lemmas.Result.{err_from_is_err_and}
use Rattle.stores.proofs.StoreHeader.{unmarked}
use Rattle.clause_reader.proofs.WholeFile.{empty_scratch, too_long, lines_refused, lines_held, delivered}
use Rattle.clause_reader.proofs.read_clauses.Goals as goal

pub returns-then-text-gt-TEXT : goal.returns-then-text-gt-TEXT
returns-then-text-gt-TEXT c =
    let r = too_long c.args.text.now c.args.rules.now c.args.names.now c.if-text-gt-TEXT.true in
    record {
      answer = r.0;
      rules = r.1.0;
      names = r.1.1;
    }

pub read_lines-requires : goal.read_lines-requires
read_lines-requires c =
    record {
      text_len_bound = c.if-text-gt-TEXT.false;
      empty = empty_scratch (length-replicate {A = ℕ} store_words 0) (length-replicate {A = ℕ} (occurrence_limit Preference) 0) (unmarked (2 * atom_limit Preference)) (length-replicate {A = ℕ} (2 * atom_limit Preference) 0);
    }

pub deliver-requires : goal.deliver-requires
deliver-requires c = lines_held c.args.text.now c.args.rules.now c.args.names.now c.if-text-gt-TEXT.false c.read_lines.ensures c.in_ok-counts.was c.put_names-used.ensures (length-replicate {A = ℕ} store_bytes 0) c.preference_counts-gathered.ensures

pub returns : goal.returns
returns c =
    let r = delivered c.args.text.now c.args.rules.now c.args.names.now c.if-text-gt-TEXT.false c.read_lines.ensures c.in_ok-counts.was c.put_names-used.ensures (length-replicate {A = ℕ} store_bytes 0) c.preference_counts-gathered.ensures c.deliver.ensures in
    record {
      answer = r.0;
      rules = r.1.0;
      names = r.1.1;
    }

pub returns-in_err-counts : goal.returns-in_err-counts
returns-in_err-counts c =
    let p = err_from_is_err_and c.from_residual.result c.from_residual.ensures.1 in
    let r = lines_refused c.args.text.now c.args.rules.now c.args.names.now c.if-text-gt-TEXT.false c.read_lines.ensures c.in_err-counts.was in
    record {
      answer = rw (p.1, p.2) r.0;
      rules = r.1.0;
      names = r.1.1;
    }
