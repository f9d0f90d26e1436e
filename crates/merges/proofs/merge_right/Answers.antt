-- `merges::merge_right` meets its contract.
use native.Mathlib.Omega.{arith}
use Rattle.rooms.proofs.Moving.{merged_right, one_counts}
use Rattle.rooms.proofs.Reading.{filled}
use Rattle.merges.proofs.merge_right.Goals as goal

pub union-requires : goal.union-requires
union-requires c =
    rw c.read-behind.ensures (omega (arith, c.requires.0.count, one_counts c.args.room.now c.args.at c.args.used (omega (arith, c.requires.0.inside))))

pub returns : goal.returns
returns c =
    rw (c.write.ensures, c.union.ensures, c.read-behind.ensures)
    (merged_right c.args.room.now c.args.used c.args.at c.requires.0.filled (omega (arith, c.requires.0.inside)) c.args.b)

pub read-behind-requires : goal.read-behind-requires
read-behind-requires c = filled c.requires.0.filled c.args.at (omega (arith, c.requires.0.inside))
