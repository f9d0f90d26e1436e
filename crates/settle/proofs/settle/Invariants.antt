use Rattle.rooms.proofs.Merges.{Merged}
use Rattle.settle.proofs.settle.Given as goal

abbrev pub invariant-loop-left : goal.invariant-loop-left
invariant-loop-left l = Merged l.edition l.runs l.most l.initial.room l.used l.room l.left

abbrev pub decreases-loop-left : goal.decreases-loop-left
decreases-loop-left l = l.left
