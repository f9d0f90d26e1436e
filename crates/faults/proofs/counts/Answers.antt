-- `faults::counts` meets its contract. What is counted and what is left to count are the whole's; they are few enough to be added.
use Prim.Native.Nat.{◌/◌, ◌≤◌, ◌<◌}
use native.Mathlib.Omega.{arith}
use lib.ListN.{length}
use Rattle.rule.specs.Numbers.{record_width}
use Rattle.rules.proofs.Numbered.{at_most_one}
use Rattle.faults.proofs.Faults.{readings_done, readings_next, readings_whole, runs_done, runs_next, runs_whole}
use Rattle.storage.proofs.RoundTrip.{file_fitted}
use Rattle.faults.proofs.counts.Goals as goal

pub overflow_add-readings : goal.overflow_add-readings
overflow_add-readings c =
    let l = c.args.file.now in
    let loop = c.loop-i in
    let read = c.read-b in
    let more : loop.i < length l / record_width = omega arith in
    omega (arith, readings_whole l, readings_next l _ loop.end loop.i read.result read.ensures more)

pub loop-i-preserved : goal.loop-i-preserved
loop-i-preserved c =
    let l = c.args.file.now in
    let loop = c.loop-i in
    let read = c.read-b in
    let more : loop.i < length l / record_width = omega arith in
    rw c.end-end.ensures
    (omega (
      arith,
      at_most_one loop.end read.result.start,
      runs_next l _ loop.end loop.i read.result read.ensures more,
      readings_next l _ loop.end loop.i read.result read.ensures more,
    ))

pub returns : goal.returns
returns c =
    let l = c.args.file.now in
    let loop = c.loop-i in
    let left : length l / record_width ≤ loop.i = omega arith in
    omega (
      arith,
      runs_done l _ loop.end loop.i left,
      readings_done l _ loop.i left,
      runs_whole l (file_fitted l (λ i. (c.type_inv.file i).fits)),
      readings_whole l,
    )
