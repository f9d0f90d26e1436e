-- `raise::merge_after` meets its contract.
use Prim.Native.Nat.{◌-◌}
use mathlib.Core.Path.{refl}
use native.Mathlib.Omega.{arith}
use Rattle.rooms.proofs.Moving.{merged_after, pair_counts}
use Rattle.rooms.proofs.Reading.{filled}
use Rattle.raise.proofs.merge_after.Goals as goal

pub union-requires : goal.union-requires
union-requires c =
    rw (c.read-right.ensures, c.read-left.ensures) (omega (arith, c.requires.0.count, pair_counts c.args.room.now (c.args.i - 1) c.args.i c.args.used (omega arith) (omega arith)))

pub returns : goal.returns
returns c =
    rw (c.write.ensures, c.union.ensures, c.up.ensures, c.read-right.ensures, c.read-left.ensures)
    (merged_after c.args.room.now c.args.used c.args.at (c.args.i - 1) c.args.i _ c.args.b c.requires.0.filled (omega arith) (omega arith) c.requires.1.1 refl)

pub read-left-requires : goal.read-left-requires
read-left-requires c = filled c.requires.0.filled (c.args.i - 1) (omega arith)

pub read-right-requires : goal.read-right-requires
read-right-requires c = filled c.requires.0.filled c.args.i (omega arith)
