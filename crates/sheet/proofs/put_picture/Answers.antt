-- `sheet::put_picture` meets its contract: five pieces, one behind the other.
use Prim.Native.Nat.{◌≤◌, ◌<◌, ◌^◌}
use mathlib.Core.List.{[], ◌∷◌}
use native.Mathlib.Omega.{arith}
use Rattle.rule.specs.Room.{slots}
use Rattle.output.specs.Output.{filled}
use Rattle.output.proofs.Left.{Left, left_none, left_room, left_then}
use Rattle.scale.proofs.Viewing.{some_span}
use Rattle.drawing.specs.Picture.{curve_text, end_text, front, picture, polylines, runs_of, scale}
use Rattle.sheet.proofs.Pieces.{first_most, picture_pieces, span_most}
use Rattle.sheet.proofs.put_picture.Goals.{After-view-v}
use Rattle.sheet.proofs.put_picture.Goals as goal

module _ (c : After-view-v) where
  begun : let a = c.args in let t = slots a.room.now 0 a.used in let v = c.view-v.result in
      Left a.out.now a.at (picture t a.caption.now) a.at a.out.now (front a.caption.now ∷ scale a.used v ∷ filled curve_text [] ∷ polylines v (runs_of t) ∷ filled end_text [] ∷ [])
  begun = let a = c.args in picture_pieces a.room.now a.used a.caption.now a.out.now a.at c.view-v.result c.view-v.ensures

  shown : (c.view-v.result.first < 2 ^ 40) × ((1 ≤ c.view-v.result.span) × (c.view-v.result.span < 2 ^ 40))
  shown =
      let t = slots c.args.room.now 0 c.args.used in
      let d = c.requires.0 in
      rw c.view-v.ensures (omega (arith, d.ticks, first_most t d.ordered), (omega (arith, some_span t d.ordered), omega (arith, d.ticks, span_most t)))

pub put_front-a-requires : goal.put_front-a-requires
put_front-a-requires c = left_room (begun (goal.at.put_front-a-requires c).After-view-v) c.requires.1

pub put_scale-b-requires : goal.put_scale-b-requires
put_scale-b-requires c =
    let x = (goal.at.put_scale-b-requires c).After-view-v in
    let s = shown x in
    (s.0, (s.1.0, (s.1.1, left_room (left_then (begun x) c.put_front-a.ensures) c.requires.1)))

pub put_text-c-requires : goal.put_text-c-requires
put_text-c-requires c =
    left_room (left_then (left_then (begun (goal.at.put_text-c-requires c).After-view-v) c.put_front-a.ensures) c.put_scale-b.ensures) c.requires.1

pub put_lines-d-requires : goal.put_lines-d-requires
put_lines-d-requires c =
    let x = (goal.at.put_lines-d-requires c).After-view-v in
    (c.requires.0.filled, ((shown x).1.0, left_room (left_then (left_then (left_then (begun x) c.put_front-a.ensures) c.put_scale-b.ensures) c.put_text-c.ensures) c.requires.1))

pub put_text-requires : goal.put_text-requires
put_text-requires c =
    left_room
    (left_then (left_then (left_then (left_then (begun (goal.at.put_text-requires c).After-view-v) c.put_front-a.ensures) c.put_scale-b.ensures) c.put_text-c.ensures) c.put_lines-d.ensures)
    c.requires.1

pub returns : goal.returns
returns c =
    left_none
    (left_then (left_then (left_then (left_then (left_then (begun (goal.at.returns c).After-view-v) c.put_front-a.ensures) c.put_scale-b.ensures) c.put_text-c.ensures) c.put_lines-d.ensures) c.put_text.ensures)
