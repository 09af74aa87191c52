-- What a word is in a condition.
use Rattle.lines.specs.Conditions.{WordSort, negation, conjunction, disjunction, called}
use Rattle.condition_scan.specs.declared.sorts.Sort.{Sort}

abbrev pub word_sort : Sort → WordSort
word_sort Sort.Not = negation
word_sort Sort.And = conjunction
word_sort Sort.Or = disjunction
word_sort Sort.Name = called
