-- `slots::write` meets its contract.
use native.Mathlib.Omega.{arith}
use mir.Syntax.{w32, w64}
use mir.Val.{SFits}
use mir.Facts.{to_z_pos}
use Rattle.std.proofs.Common.{rules}
use Rattle.rule.proofs.Signed.{widened}
use Rattle.rooms.proofs.Reading.{stored}
use Rattle.slots.proofs.write.Goals as goal

pub returns : goal.returns
returns c =
    let b = c.args.b in
    let least : SFits w32 b.least = search rules in
    let largest : SFits w32 b.largest = search rules in
    rw (to_z_pos w64 {n = b.start} (omega arith), to_z_pos w64 {n = b.count} (omega arith), widened w64 tt least, widened w64 tt largest)
    (stored c.args.room.now c.args.at b c.requires)
