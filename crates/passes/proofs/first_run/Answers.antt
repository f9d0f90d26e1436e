-- `passes::first_run` meets its contract: the first bucket begins a run in any case.
use native.Mathlib.Omega.{arith}
use Rattle.std.proofs.lemmas.Bool.Decides.{nat_tests}
use Rattle.rule.specs.Room.{slot}
use Rattle.passes.proofs.Tests.{zero_told}
use Rattle.passes.proofs.Scanning.{runs_counted}
use Rattle.passes.proofs.first_run.Goals.{then-used-gt0, else-used-gt0}
use Rattle.passes.proofs.first_run.Goals as goal

pub returns-clause-used_value : goal.returns-clause-used_value
unfolding slot
returns-clause-used_value c =
    runs_counted c.args.room.now c.args.used _
    (elim c.if-used-gt0.branch [ then-used-gt0 w ↦ grind (arith, nat_tests, w.result-is, zero_told) | else-used-gt0 w ↦ grind (arith, nat_tests, w.result-is) ])
