use Rattle.scale.proofs.Viewing.{Seen}
use Rattle.scale.proofs.view.Given as goal

abbrev pub invariant-loop-i : goal.invariant-loop-i
invariant-loop-i l = Seen l.room l.used l.top l.low l.i
