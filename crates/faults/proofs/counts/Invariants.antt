use Prim.Native.Nat.{◌+◌, ◌≤◌}
use mathlib.Core.Path.{◌≡◌}
use Rattle.rule.specs.Numbers.{word}
use Rattle.faults.proofs.Faults.{readings_left, runs_left}
use Rattle.faults.proofs.counts.Given as goal

abbrev pub invariant-loop-i : goal.invariant-loop-i
invariant-loop-i l = (l.runs ≤ l.i) × ((l.runs + runs_left l.file l.i-end l.end l.i ≡ runs_left l.file l.i-end word 0) × (l.readings + readings_left l.file l.i-end l.i ≡ readings_left l.file l.i-end 0))
