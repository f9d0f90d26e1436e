-- `sheet::put_front` meets its contract: five pieces, one behind the other.
use mathlib.Core.List.{[], ◌∷◌}
use Rattle.output.specs.Output.{filled}
use Rattle.output.proofs.Left.{Left, left_none, left_room, left_then}
use Rattle.captions.specs.Caption.{escaped}
use Rattle.drawing.specs.Picture.{behind_text, between_text, front, head_text}
use Rattle.sheet.proofs.Pieces.{front_pieces}
use Rattle.sheet.proofs.put_front.Goals.{After-split_at}
use Rattle.sheet.proofs.put_front.Goals as goal

begun : (c : After-split_at) → let a = c.args in let cut = c.split_at.result in
    Left a.out.now a.at (front a.caption.now) a.at a.out.now (filled head_text [] ∷ escaped cut.0.now ∷ filled between_text [] ∷ escaped cut.1.now ∷ filled behind_text [] ∷ [])
begun c =
    let s = c.args.caption.now in
    let cut = c.split_at in
    front_pieces s c.args.out.now c.args.at cut.result.0.now cut.result.1.now (rw c.min.ensures at cut.ensures.front) (rw c.min.ensures at cut.ensures.back)

pub put_text-a-requires : goal.put_text-a-requires
put_text-a-requires c = left_room (begun (goal.at.put_text-a-requires c).After-split_at) c.requires

pub put_caption-b-requires : goal.put_caption-b-requires
put_caption-b-requires c = left_room (left_then (begun (goal.at.put_caption-b-requires c).After-split_at) c.put_text-a.ensures) c.requires

pub put_text-c-requires : goal.put_text-c-requires
put_text-c-requires c =
    left_room (left_then (left_then (begun (goal.at.put_text-c-requires c).After-split_at) c.put_text-a.ensures) c.put_caption-b.ensures) c.requires

pub put_caption-d-requires : goal.put_caption-d-requires
put_caption-d-requires c =
    left_room
    (left_then (left_then (left_then (begun (goal.at.put_caption-d-requires c).After-split_at) c.put_text-a.ensures) c.put_caption-b.ensures) c.put_text-c.ensures)
    c.requires

pub put_text-requires : goal.put_text-requires
put_text-requires c =
    left_room
    (left_then (left_then (left_then (left_then (begun (goal.at.put_text-requires c).After-split_at) c.put_text-a.ensures) c.put_caption-b.ensures) c.put_text-c.ensures) c.put_caption-d.ensures)
    c.requires

pub returns : goal.returns
returns c =
    left_none
    (left_then (left_then (left_then (left_then (left_then (begun (goal.at.returns c).After-split_at) c.put_text-a.ensures) c.put_caption-b.ensures) c.put_text-c.ensures) c.put_caption-d.ensures) c.put_text.ensures)
