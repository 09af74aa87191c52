-- The gathered clauses as what the lines of a preference file would give.
use Rattle.std.specs.Prelude.{ℕ, replicate}
use Rattle.kinds.specs.declared.limits.Kind.TheVariants.{Preference}
use Rattle.lines.specs.declared.stage.Stage.TheVariants.{Ruling}
use Rattle.lines.specs.Faults.{SoFar}
use Rattle.gathering.specs.declared.gathered.Gathered.{Gathered as Lines}
use Rattle.clauses.specs.Gathered.{Gathered}
use Rattle.clauses.specs.Written.{clause_names}
use Rattle.clause_rules.specs.declared.clause.ClauseCounts.{ClauseCounts}

-- one class with all atoms
abbrev pub clause_state : ℕ → Gathered → SoFar
clause_state n g = record {
  kind = Preference;
  stage = Ruling;
  classes = 1;
  words = replicate n 1;
  names = clause_names n;
  program_rules = g.rules;
  made = 0;
}

abbrev pub clause_lines : ClauseCounts → ℕ → Lines
clause_lines c used = record {
  stage = Ruling;
  classes = 1;
  counts = record { atoms = c.atoms; rules = c.rules; occurrences = c.occurrences };
  made = 0;
  words = c.words;
  bytes = used;
}
