-- `curve::put_lines` meets its contract: the first bucket, and all that follows it.
use Prim.Native.Nat.{◌-◌}
use mathlib.Core.Path.{refl, ◌∙◌}
use mathlib.Core.List.{[], ◌∷◌}
use native.Mathlib.Omega.{arith}
use Rattle.rule.specs.Bucket.{end}
use Rattle.rule.specs.Room.{slots}
use Rattle.rooms.proofs.Reading.{filled}
use Rattle.output.proofs.Left.{Left, left_all, left_none, left_room, left_then}
use Rattle.drawing.specs.Picture.{line_text, points_of, polylines, printed, runs_of}
use Rattle.curve.specs.Joints.{lines_after}
use Rattle.curve.proofs.Joining.{text_line, lines_first, lines_none}
use Rattle.curve.proofs.put_lines.Goals.{After-put_points-next, After-put_text-begun, After-read-first}
use Rattle.curve.proofs.put_lines.Goals as goal

pub returns-then-used-eq0 : goal.returns-then-used-eq0
returns-then-used-eq0 c =
    let a = c.args in
    rw (lines_none a.v a.room.now a.used c.if-used-eq0.true) (record { next = omega arith; bytes = refl })

begun : (c : After-read-first) → let a = c.args in let b = c.read-first.result in
    Left a.out.now a.at (polylines a.v (runs_of (slots a.room.now 0 a.used))) a.at a.out.now (line_text ∷ printed (points_of a.v (b ∷ [])) ∷ lines_after a.v (end b) (slots a.room.now 1 (a.used - 1)) ∷ [])
begun c =
    let a = c.args in
    left_all _ _ _ _ (lines_first a.v a.room.now a.used c.read-first.result c.read-first.ensures c.if-used-eq0.false)

begun_after_put_points_next : (c : After-put_points-next) → let a = c.args in let b = c.read-first.result in
    Left a.out.now a.at (polylines a.v (runs_of (slots a.room.now 0 a.used))) a.at a.out.now (line_text ∷ printed (points_of a.v (b ∷ [])) ∷ lines_after a.v (end b) (slots a.room.now 1 (a.used - 1)) ∷ [])
begun_after_put_points_next c =
    let a = c.args in
    left_all _ _ _ _ (lines_first a.v a.room.now a.used c.read-first.result c.read-first.ensures c.if-used-eq0.false)

begun_after_put_text_begun : (c : After-put_text-begun) → let a = c.args in let b = c.read-first.result in
    Left a.out.now a.at (polylines a.v (runs_of (slots a.room.now 0 a.used))) a.at a.out.now (line_text ∷ printed (points_of a.v (b ∷ [])) ∷ lines_after a.v (end b) (slots a.room.now 1 (a.used - 1)) ∷ [])
begun_after_put_text_begun c =
    let a = c.args in
    left_all _ _ _ _ (lines_first a.v a.room.now a.used c.read-first.result c.read-first.ensures c.if-used-eq0.false)

opened : (c : After-put_text-begun) → let a = c.args in let b = c.read-first.result in
    Left a.out.now a.at (polylines a.v (runs_of (slots a.room.now 0 a.used))) c.put_text-begun.result c.put_text-begun.new.out (printed (points_of a.v (b ∷ [])) ∷ lines_after a.v (end b) (slots a.room.now 1 (a.used - 1)) ∷ [])
opened c = left_then (begun_after_put_text_begun c) (rw (text_line []) at c.put_text-begun.ensures)

opened_after_put_points_next : (c : After-put_points-next) → let a = c.args in let b = c.read-first.result in
    Left a.out.now a.at (polylines a.v (runs_of (slots a.room.now 0 a.used))) c.put_text-begun.result c.put_text-begun.new.out (printed (points_of a.v (b ∷ [])) ∷ lines_after a.v (end b) (slots a.room.now 1 (a.used - 1)) ∷ [])
opened_after_put_points_next c = left_then (begun_after_put_points_next c) (rw (text_line []) at c.put_text-begun.ensures)

first_put : (c : After-put_points-next) → let a = c.args in let b = c.read-first.result in
    Left a.out.now a.at (polylines a.v (runs_of (slots a.room.now 0 a.used))) c.put_points-next.result c.put_points-next.new.out (lines_after a.v (end b) (slots a.room.now 1 (a.used - 1)) ∷ [])
first_put c = left_then (opened_after_put_points_next c) c.put_points-next.ensures

pub read-first-requires : goal.read-first-requires
read-first-requires c = filled c.requires.0 0 (omega (arith, c.if-used-eq0.false))

pub put_text-begun-requires : goal.put_text-begun-requires
put_text-begun-requires c = rw (text_line []) (left_room (begun (goal.at.put_text-begun-requires c).After-read-first) c.requires.1.1)

pub put_points-next-requires : goal.put_points-next-requires
put_points-next-requires c = (c.requires.1.0, left_room (opened (goal.at.put_points-next-requires c).After-put_text-begun) c.requires.1.1)

pub put_after-requires : goal.put_after-requires
put_after-requires c = (c.requires.0, (omega (arith, c.if-used-eq0.false), (c.requires.1.0, rw c.end.ensures (left_room (first_put (goal.at.put_after-requires c).After-put_points-next) c.requires.1.1))))

pub shape_of-out : goal.shape_of-out
shape_of-out c = c.put_after.auto.out ∙ c.put_points-next.auto.out ∙ c.put_text-begun.auto.out

pub returns : goal.returns
returns c = left_none (left_then (first_put (goal.at.returns c).After-put_points-next) (rw c.end.ensures at c.put_after.ensures))
