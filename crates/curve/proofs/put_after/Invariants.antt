use Prim.Native.Nat.{◌-◌}
use mathlib.Core.List.{[], ◌∷◌}
use Rattle.rule.specs.Room.{slots}
use Rattle.output.proofs.Left.{Left}
use Rattle.curve.specs.Joints.{lines_after}
use Rattle.curve.proofs.put_after.Given as goal

abbrev pub invariant-loop-i : goal.invariant-loop-i
invariant-loop-i l = Left l.initial.out l.at (lines_after l.v l.first (slots l.room 1 (l.used - 1))) l.next l.out (lines_after l.v l.end (slots l.room l.i (l.used - l.i)) ∷ [])
