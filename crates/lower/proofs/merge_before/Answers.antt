-- `lower::merge_before` meets its contract.
use Prim.Native.Nat.{◌+◌}
use mathlib.Core.Path.{refl}
use native.Mathlib.Omega.{arith}
use Rattle.rooms.proofs.Moving.{merged_before, pair_counts}
use Rattle.rooms.proofs.Reading.{filled}
use Rattle.lower.proofs.merge_before.Goals as goal

pub union-requires : goal.union-requires
union-requires c =
    rw (c.read-second.ensures, c.read-first.ensures) (omega (arith, c.requires.0.count, pair_counts c.args.room.now c.args.i (c.args.i + 1) c.args.used (omega arith) (omega arith)))

pub returns : goal.returns
returns c =
    rw (c.write.ensures, c.union.ensures, c.down.ensures, c.read-second.ensures, c.read-first.ensures)
    (merged_before c.args.room.now c.args.used c.args.at c.args.i _ c.args.b c.requires.0.filled c.requires.0.inside c.requires.1 refl)

pub read-first-requires : goal.read-first-requires
read-first-requires c = filled c.requires.0.filled c.args.i (omega arith)

pub read-second-requires : goal.read-second-requires
read-second-requires c = filled c.requires.0.filled (c.args.i + 1) (omega arith)
