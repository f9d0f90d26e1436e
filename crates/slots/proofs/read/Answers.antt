-- `slots::read` meets its contract: the slot's numbers lie in the ranges of its fields.
use native.Mathlib.Nat.{add-zero}
use mir.Syntax.{w64}
use Rattle.rule.specs.Room.{slot}
use Rattle.rule.proofs.Signed.{narrowed, signed_fits}
use Rattle.rooms.proofs.Reading.{ranges, unsigned_held}
use Rattle.slots.proofs.read.Goals as goal

pub returns : goal.returns
unfolding slot
returns c =
    let r = ranges c.args.room.now c.args.at c.requires.1 in
    rw (unsigned_held _ r.start, unsigned_held _ r.count, narrowed w64 tt (signed_fits _ r.least), narrowed w64 tt (signed_fits _ r.largest), add-zero)
