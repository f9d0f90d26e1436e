use mathlib.Core.Path.{◌≡◌}
use Prim.Native.Nat.{◌-◌}
use Rattle.rules.proofs.Numbered.{MetBelow}
use Rattle.faults.proofs.Faults.{scan}
use Rattle.faults.proofs.first_fault.Given as goal

abbrev pub invariant-loop-rule : goal.invariant-loop-rule
invariant-loop-rule l = MetBelow l.kind l.end l.b l.rule

abbrev pub invariant-records : goal.invariant-records
invariant-records l = scan l.kind l.file l.n l.end l.i ≡ scan l.kind l.file l.n 0 0

abbrev pub decreases-records : goal.decreases-records
decreases-records l = l.n - l.i
