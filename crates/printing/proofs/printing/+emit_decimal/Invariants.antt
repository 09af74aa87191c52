use Rattle.printing.proofs.printing.+emit_decimal.Given as goal

abbrev pub decreases-emit_decimal : goal.decreases-emit_decimal
decreases-emit_decimal l = l.x
