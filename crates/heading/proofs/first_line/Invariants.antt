use Rattle.heading.proofs.Going.{Going}
use Rattle.heading.proofs.first_line.Given as goal

abbrev pub invariant-loop-i : goal.invariant-loop-i
invariant-loop-i l = Going l.filled l.initial.caption l.bytes l.caption l.k l.i
