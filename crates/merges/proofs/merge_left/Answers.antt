-- `merges::merge_left` meets its contract.
use native.Mathlib.Omega.{arith}
use Rattle.rooms.proofs.Moving.{merged_left, one_counts}
use Rattle.rooms.proofs.Reading.{filled}
use Rattle.merges.proofs.merge_left.Goals as goal

pub union-requires : goal.union-requires
union-requires c =
    rw c.read-before.ensures (omega (arith, c.requires.count, one_counts c.args.room.now c.args.i c.args.used (omega (arith, c.requires.inside))))

pub returns : goal.returns
returns c =
    rw (c.write.ensures, c.union.ensures, c.read-before.ensures)
    (merged_left c.args.room.now c.args.used c.args.i c.requires.filled (omega (arith, c.requires.inside)) c.args.b)

pub read-before-requires : goal.read-before-requires
read-before-requires c = filled c.requires.filled c.args.i (omega (arith, c.requires.inside))
