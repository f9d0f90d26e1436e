-- `moves::insert` meets its contract.
use mathlib.Core.Path.{refl}
use Rattle.rooms.proofs.Moving.{inserted}
use Rattle.moves.proofs.insert.Goals as goal

pub returns : goal.returns
returns c =
    rw c.up.ensures (inserted c.args.room.now c.args.used c.args.at _ c.args.b c.requires.0 c.requires.1.0 c.requires.1.1 refl)
