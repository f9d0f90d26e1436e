use Rattle.scan.proofs.Scanning.{Passed}
use Rattle.scan.proofs.over.Given as goal

abbrev pub invariant-loop-i : goal.invariant-loop-i
invariant-loop-i g l = Passed g.row.EDITION l.room l.from l.to l.shift l.initial.best l.best l.i
