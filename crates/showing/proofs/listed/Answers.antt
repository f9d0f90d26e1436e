-- `showing::listed` meets its contract: a sound trace's slots are filled, and its count of readings is the table's.
use Prim.Native.Nat.{◌*◌}
use mathlib.Core.Path.{sym}
use native.Mathlib.Omega.{arith}
use Rattle.rooms.proofs.Sounding.{Facts, sound_facts, sound_filled}
use Rattle.rooms.specs.Slots.{Filled}
use Rattle.rooms.proofs.Laying.{length_slots}
use Rattle.notation.specs.Printing.{line_room, listing}
use Rattle.notation.proofs.Texts.{room_left, then}
use Rattle.showing.proofs.Showing.{rows_short}
use Rattle.showing.proofs.listed.Goals.{Start}
use Rattle.showing.proofs.listed.Goals as goal

facts : (c : Start) → Facts c.args.t.state c.args.room.now
facts c = sound_facts c.args.t.state c.args.room.now c.requires.whole

in_use : (c : Start) → Filled c.args.room.now c.args.t.state.used
in_use c = sound_filled c.args.t.state c.args.room.now (facts c)

pub rows-at-requires : goal.rows-at-requires
rows-at-requires c =
    (in_use (goal.at.rows-at-requires c).Start, omega (arith, c.requires.room))

pub put_total-requires : goal.put_total-requires
put_total-requires c =
    let used = c.args.t.state.used in
    room_left (line_room * used) line_room (rows_short (in_use (goal.at.put_total-requires c).Start) used (omega arith)) (omega (arith, c.requires.room)) c.rows-at.ensures

pub returns : goal.returns
unfolding listing
returns c =
    rw (sym (facts (goal.at.returns c).Start).true_readings, length_slots c.args.room.now 0 c.args.t.state.used, sym c.greatest_error.ensures) (then c.rows-at.ensures c.put_total.ensures)

pub greatest_error-requires : goal.greatest_error-requires
greatest_error-requires c = in_use (goal.at.greatest_error-requires c).Start
