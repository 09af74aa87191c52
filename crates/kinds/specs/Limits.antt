-- The limits of the two kinds of file (document 01, the table of "The two kinds of file"; document 02, W-201 and W-208).
use Rattle.std.specs.Prelude.{Bool, ◌&&◌, ℕ, ◌^◌, leb}
use Rattle.kinds.specs.declared.limits.Kind.{Kind}
use Rattle.kinds.specs.declared.limits.Kind.TheVariants.{Plain, Preference}
use Rattle.kinds.specs.declared.limits.Counts.{Counts}

abbrev pub atom_limit : Kind → ℕ
atom_limit Plain = 1100
atom_limit Preference = 256

abbrev pub rule_limit : Kind → ℕ
rule_limit Plain = 4200
rule_limit Preference = 1024

abbrev pub occurrence_limit : Kind → ℕ
occurrence_limit Plain = 24000
occurrence_limit Preference = 8192

-- `min` lines of a preference file
abbrev pub class_limit : ℕ
class_limit = 16

-- brackets of a condition, one in another (document 02, W-208)
abbrev pub bracket_limit : ℕ
bracket_limit = 32

-- class words past the classes
abbrev pub varying : ℕ
varying = 17

abbrev pub fixed : ℕ
fixed = 18

-- bytes of a text
abbrev pub text_limit : ℕ
text_limit = 917504

-- bytes that the two programs read and write
abbrev pub stream_limit : ℕ
stream_limit = 65536

-- bytes of a house name
abbrev pub name_limit : ℕ
name_limit = 24

-- atoms for a verdict or the lister, and the largest budget
abbrev pub walk_atoms : ℕ
walk_atoms = 60

abbrev pub budget_limit : ℕ
budget_limit = 2 ^ 40

abbrev pub empty_counts : Counts
empty_counts = record { atoms = 0; rules = 0; occurrences = 0 }

-- no count passes its limit
abbrev pub within : Kind → Counts → Bool
within k c = leb c.atoms (atom_limit k) && (leb c.rules (rule_limit k) && leb c.occurrences (occurrence_limit k))
