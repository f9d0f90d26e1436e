-- `sketch::sketch` meets its contract: the caption first, then by the last answer the picture or the refused line.
use native.Mathlib.Omega.{arith}
use mathlib.Core.Path.{◌≡◌, sym, ◌∙◌}
use mathlib.Core.Bool.{true}
use Rattle.rule.proofs.Ruling.{flipped}
use Rattle.captions.specs.Caption.{caption_good}
use Rattle.sketching.specs.Heading.{Drawable}
use Rattle.sketching.specs.Sketching.{drawn, sketched}
use Rattle.sketch.proofs.sketch.Goals.{Else-not-caption_good}
use Rattle.sketch.proofs.sketch.Goals as goal

pub returns-then-not-caption_good : goal.returns-then-not-caption_good
unfolding sketched
returns-then-not-caption_good c =
    rw (sym c.caption_good.ensures ∙ c.if-not-caption_good.true, sym c.number.ensures)
    c.put_refused.ensures

-- past the test the caption is good
good : (c : Else-not-caption_good) → caption_good c.args.caption.now ≡ true
good c = flipped c.caption_good.ensures c.if-not-caption_good.false-raw

pub drawn-requires : goal.drawn-requires
unfolding Drawable
drawn-requires c =
    (rw c.in-Ok.is at c.requires.0, (good (goal.at.drawn-requires c).Else-not-caption_good, c.requires.1))

pub returns-in-Ok : goal.returns-in-Ok
unfolding sketched drawn
returns-in-Ok c = rw (good (goal.at.returns-in-Ok c).Else-not-caption_good, c.in-Ok.is) c.drawn.ensures

pub returns-in-Err : goal.returns-in-Err
unfolding sketched drawn
returns-in-Err c =
    rw (good (goal.at.returns-in-Err c).Else-not-caption_good, c.in-Err.is, sym c.number-in-Err.ensures)
    c.put_refused-in-Err.ensures

pub put_refused-requires : goal.put_refused-requires
put_refused-requires c = omega (arith, c.requires.1)

pub put_refused-requires-in-Err : goal.put_refused-requires-in-Err
put_refused-requires-in-Err c = omega (arith, c.requires.1)
