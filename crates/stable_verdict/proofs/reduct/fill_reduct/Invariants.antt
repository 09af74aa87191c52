use Rattle.stable_verdict.proofs.ReductFill.{Reducing}
use Rattle.stable_verdict.proofs.reduct.fill_reduct.Given as goal

abbrev pub invariant-loop-j : goal.invariant-loop-j
invariant-loop-j l = Reducing l.words l.rules l.n l.of l.initial.care l.initial.want l.marks l.care l.want l.from l.kept l.j
