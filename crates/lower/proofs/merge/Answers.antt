-- `lower::merge` meets its contract.
use mathlib.Core.Path.{refl}
use native.Mathlib.Omega.{arith}
use Rattle.rule.specs.Room.{zeros}
use Rattle.rooms.proofs.Moving.{merged_alone}
use Rattle.lower.proofs.merge.Goals as goal

pub merge_before-requires : goal.merge_before-requires
merge_before-requires c =
    (record { filled = c.requires.0; inside = omega arith; count = omega (arith, c.requires.1.1) }, c.requires.1.0)

pub returns : goal.returns
unfolding zeros
returns c =
    rw c.merge_before.ensures (merged_alone c.args.room.now c.args.used c.args.at _ refl c.requires.1.0)
