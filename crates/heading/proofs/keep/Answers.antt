-- `heading::keep` meets its contract.
use borrow.Author.Tests.{lt-ltb, le-ltb}
use lib.ListN.{length}
use Rattle.sketching.specs.Heading.{kept}
use Rattle.heading.proofs.keep.Goals as goal

pub returns-then-filled-caption : goal.returns-then-filled-caption
unfolding kept
returns-then-filled-caption c =
    let a = c.args in
    rw (lt-ltb a.filled (length a.caption.now) c.if-filled-caption.true)

pub returns : goal.returns
unfolding kept
returns c =
    let a = c.args in
    rw (le-ltb a.filled (length a.caption.now) c.if-filled-caption.false)
