-- `showing::rows` meets its contract: before each turn the rows of the slots done are printed.
use Prim.Native.Nat.{◌*◌}
use mathlib.Core.Path.{◌≡◌, refl}
use native.Mathlib.Numerals.{add-one}
use native.Mathlib.Omega.{arith}
use Rattle.rule.specs.Room.{slots}
use Rattle.rooms.proofs.Reading.{filled}
use Rattle.notation.specs.Printing.{line_room, rows}
use Rattle.notation.proofs.Texts.{room_left, then}
use Rattle.showing.proofs.Showing.{rows_next, rows_short}
use Rattle.showing.proofs.rows.Goals as goal

pub loop-done-init : goal.loop-done-init
unfolding rows slots
loop-done-init c = record { next = refl; bytes = refl; inside = omega arith }

pub put_row-at-requires : goal.put_row-at-requires
put_row-at-requires c =
    let loop = c.loop-done in
    room_left (line_room * loop.done) line_room (rows_short c.requires.0 loop.done (omega arith)) (omega (arith, c.requires.1)) loop.invariant

pub loop-done-preserved : goal.loop-done-preserved
loop-done-preserved c =
    let loop = c.loop-done in
    let a = c.args in
    rw (add-one loop.done, rows_next a.room.now loop.done) (then loop.invariant (rw c.read.ensures at c.put_row-at.ensures))

pub returns : goal.returns
returns c =
    let all : c.loop-done.done ≡ c.args.used = omega arith in
    rw all at c.loop-done.invariant

pub read-requires : goal.read-requires
read-requires c = filled c.requires.0 c.loop-done.done (omega arith)
