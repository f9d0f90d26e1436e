-- `heading::head` meets its contract.
use Rattle.sketching.specs.Heading.{headed}
use Rattle.heading.proofs.head.Goals as goal

pub returns-then-h : goal.returns-then-h
unfolding headed
returns-then-h c = rw c.if-h.true

pub returns : goal.returns
unfolding headed
returns c = rw c.if-h.false c.first_line.ensures
