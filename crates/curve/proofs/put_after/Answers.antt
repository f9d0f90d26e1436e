-- `curve::put_after` meets its contract: what is left to print from here on completes the whole.
use Prim.Native.Nat.{◌+◌, ◌-◌}
use mathlib.Core.List.{[], ◌∷◌, ◌++◌}
use Rattle.rule.specs.Bucket.{end}
use Rattle.rule.specs.Room.{slots}
use Rattle.rooms.proofs.Reading.{filled}
use Rattle.output.proofs.Left.{Left, left_none, left_room, left_split, left_then}
use Rattle.drawing.specs.Picture.{line_end, points_of, printed}
use Rattle.curve.specs.Joints.{joint, lines_after}
use Rattle.curve.proofs.Joining.{after_end, after_next, end_of_line}
use Rattle.curve.proofs.put_after.Goals.{After-loop-i, After-read-b}
use Rattle.curve.proofs.put_after.Goals as goal

turn : (c : After-read-b) → let a = c.args in let loop = c.loop-i in let b = c.read-b.result in
    Left a.out.now a.at (lines_after a.v a.first (slots a.room.now 1 (a.used - 1))) loop.next loop.out ((joint loop.end b.start ++ printed (points_of a.v (b ∷ []))) ∷ lines_after a.v (end b) (slots a.room.now (loop.i + 1) (a.used - (loop.i + 1))) ∷ [])
turn c =
    let a = c.args in
    let loop = c.loop-i in
    left_split _ _ loop.invariant (after_next a.v a.room.now a.used loop.end loop.i c.read-b.result c.read-b.ensures c.loop-i-test.true)

closing : (c : After-loop-i) → let a = c.args in let loop = c.loop-i in
    Left a.out.now a.at (lines_after a.v a.first (slots a.room.now 1 (a.used - 1))) loop.next loop.out (line_end ∷ [])
closing c =
    let a = c.args in
    let loop = c.loop-i in
    rw (← after_end a.v a.room.now a.used loop.end loop.i c.loop-i-test.false) loop.invariant

pub read-b-requires : goal.read-b-requires
read-b-requires c = filled c.requires.0 c.loop-i.i c.loop-i-test.true

pub put_next-next-requires : goal.put_next-next-requires
put_next-next-requires c = (c.requires.1.1.0, left_room (turn (goal.at.put_next-next-requires c).After-read-b) c.requires.1.1.1)

pub loop-i-preserved : goal.loop-i-preserved
loop-i-preserved c = rw c.end-end.ensures (left_then (turn (goal.at.loop-i-preserved c).After-read-b) c.put_next-next.ensures)

pub put_text-requires : goal.put_text-requires
put_text-requires c = rw (end_of_line []) (left_room (closing (goal.at.put_text-requires c).After-loop-i) c.requires.1.1.1)

pub returns : goal.returns
returns c = left_none (left_then (closing (goal.at.returns c).After-loop-i) (rw (end_of_line []) at c.put_text.ensures))
