-- `curve::put_next` meets its contract: two pieces, one behind the other.
use mathlib.Core.List.{[], ◌∷◌, ◌++◌, append-nil}
use Rattle.output.proofs.Left.{Left, left_all, left_none, left_room, left_then}
use Rattle.drawing.specs.Picture.{points_of, printed}
use Rattle.curve.specs.Joints.{joint}
use Rattle.curve.proofs.put_next.Goals.{After-put_joint-next, Start}
use Rattle.curve.proofs.put_next.Goals as goal

begun : (c : Start) → let a = c.args in let points = printed (points_of a.v (a.b ∷ [])) in
    Left a.out.now a.at (joint a.end a.b.start ++ points) a.at a.out.now (joint a.end a.b.start ∷ points ∷ [])
begun c = left_all _ _ _ _ (rw append-nil)

begun_after_put_joint_next : (c : After-put_joint-next) → let a = c.args in let points = printed (points_of a.v (a.b ∷ [])) in
    Left a.out.now a.at (joint a.end a.b.start ++ points) a.at a.out.now (joint a.end a.b.start ∷ points ∷ [])
begun_after_put_joint_next c = left_all _ _ _ _ (rw append-nil)

joined : (c : After-put_joint-next) → let a = c.args in let points = printed (points_of a.v (a.b ∷ [])) in
    Left a.out.now a.at (joint a.end a.b.start ++ points) c.put_joint-next.result c.put_joint-next.new.out (points ∷ [])
joined c = left_then (begun_after_put_joint_next c) c.put_joint-next.ensures

pub put_joint-next-requires : goal.put_joint-next-requires
put_joint-next-requires c = left_room (begun (goal.at.put_joint-next-requires c).Start) c.requires.1

pub put_points-requires : goal.put_points-requires
put_points-requires c = (c.requires.0, left_room (joined (goal.at.put_points-requires c).After-put_joint-next) c.requires.1)

pub returns : goal.returns
returns c = left_none (left_then (joined (goal.at.returns c).After-put_joint-next) c.put_points.ensures)
