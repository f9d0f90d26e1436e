use Rattle.rule.specs.Room.{slots}
use Rattle.notation.specs.Printing.{Printed, rows}
use Rattle.showing.proofs.rows.Given as goal

abbrev pub invariant-loop-done : goal.invariant-loop-done
invariant-loop-done l = Printed l.initial.out 0 (rows (slots l.room 0 l.done)) l.at l.out
