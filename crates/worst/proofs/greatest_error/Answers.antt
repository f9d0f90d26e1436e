-- `worst::greatest_error` meets its contract: the worst error so far and that of the slots that are left make the whole.
use native.Mathlib.Omega.{arith}
use Rattle.rooms.proofs.Reading.{filled}
use Rattle.worst.proofs.Looking.{found_end, found_next, found_start}
use Rattle.worst.proofs.greatest_error.Goals as goal

pub read-requires : goal.read-requires
read-requires c = filled c.requires c.loop-i.i c.loop-i-test.true

pub loop-i-preserved : goal.loop-i-preserved
loop-i-preserved c =
    rw (c.max-most.ensures, c.error.ensures, c.read.ensures) (found_next c.args.room.now c.args.used c.loop-i.invariant c.loop-i-test.true)

pub loop-i-init : goal.loop-i-init
loop-i-init c = found_start c.args.room.now c.args.used

pub returns : goal.returns
returns c = found_end c.args.room.now c.args.used c.loop-i.invariant (omega arith)
