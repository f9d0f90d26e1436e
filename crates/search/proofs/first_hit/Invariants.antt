use Rattle.search.proofs.Passing.{Passed}
use Rattle.search.proofs.first_hit.Given as goal

abbrev pub invariant-loop-i : goal.invariant-loop-i
invariant-loop-i l = Passed l.first l.last l.bar l.room l.used l.i
