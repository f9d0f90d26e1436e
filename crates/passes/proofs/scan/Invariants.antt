use Rattle.passes.proofs.Scanning.{Scan}
use Rattle.passes.proofs.scan.Given as goal

abbrev pub invariant-loop-i : goal.invariant-loop-i
invariant-loop-i l = Scan l.kind l.told_runs l.told_readings l.room l.used l.runs l.readings l.end l.i
