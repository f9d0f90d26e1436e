-- `place::find` meets its contract: the buckets passed, and those behind that start no later, are all.
use native.Mathlib.Omega.{arith}
use Rattle.rooms.proofs.Placing.{sought_start, sought_stop, sought_next, sought_end}
use Rattle.place.proofs.find.Goals as goal

pub returns-then-wanted-room : goal.returns-then-wanted-room
returns-then-wanted-room c =
    sought_stop c.loop-i.invariant c.requires c.loop-i-test.true c.ranges.tick.fits c.if-wanted-room.true

pub loop-i-preserved : goal.loop-i-preserved
loop-i-preserved c =
    sought_next c.loop-i.invariant c.requires c.loop-i-test.true c.ranges.tick.fits c.if-wanted-room.false

pub loop-i-init : goal.loop-i-init
loop-i-init c = sought_start c.args.room.now c.args.used c.args.tick

pub returns : goal.returns
returns c = omega (arith, sought_end c.loop-i.invariant c.loop-i-test.false)
