use Rattle.worst.proofs.Looking.{Found}
use Rattle.worst.proofs.greatest_error.Given as goal

abbrev pub invariant-loop-i : goal.invariant-loop-i
invariant-loop-i l = Found l.room l.used l.most l.i
