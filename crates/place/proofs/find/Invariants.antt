use Rattle.rooms.proofs.Placing.{Sought}
use Rattle.place.proofs.find.Given as goal

abbrev pub invariant-loop-i : goal.invariant-loop-i
invariant-loop-i l = Sought l.room l.used l.tick l.i
