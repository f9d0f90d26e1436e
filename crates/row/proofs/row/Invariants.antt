-- The buckets of the first i slots are written.
use mathlib.Core.Path.{◌≡◌}
use Rattle.row.specs.Answers.{up_to}
use Rattle.row.proofs.row.Given as goal

abbrev pub invariant-loop-i : goal.invariant-loop-i
invariant-loop-i l = l.out ≡ up_to l.room l.i l.initial.out
