-- `sketch::drawn` meets its contract.
use Rattle.sketch.proofs.Drawing.{drawn_printed, never_refused}
use Rattle.sketch.proofs.drawn.Goals as goal

pub returns-in_default : goal.returns-in_default
returns-in_default c =
    let a = c.args in
    absurd (never_refused a.t.state a.room.now a.caption.now a.out.now c.requires.0 c.requires.1.0 c.requires.1.1 _ _ c.picture-d.ensures _ c.in_default.is)

pub returns : goal.returns
returns c =
    let a = c.args in
    drawn_printed a.t.state a.room.now a.caption.now a.out.now c.requires.0 c.requires.1.0 c.requires.1.1 _ _ c.picture-d.ensures _ c.in-Ok.is
