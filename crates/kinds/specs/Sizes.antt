-- The longest name and the largest stores, which follow from the limits.
use Rattle.std.specs.Prelude.{ℕ, ◌+◌, ◌*◌}
use Rattle.kinds.specs.declared.limits.Kind.TheVariants.{Plain}
use Rattle.kinds.specs.Limits.{atom_limit, rule_limit, occurrence_limit, name_limit}

-- a generated name has two bytes more than the house name in it
abbrev pub longest_name : ℕ
longest_name = name_limit + 2

-- its bytes in a name store, with that of its length
abbrev pub longest_entry : ℕ
longest_entry = 1 + longest_name

-- the largest stores are those of a plain program
abbrev pub store_words : ℕ
store_words = 4 + 3 * rule_limit Plain + occurrence_limit Plain

abbrev pub store_bytes : ℕ
store_bytes = atom_limit Plain * longest_entry
