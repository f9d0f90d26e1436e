-- `heading::first_line` meets its contract: what is left of the bytes leads where all lead.
use Rattle.heading.proofs.Going.{going_ends, going_on, going_rests}
use Rattle.heading.proofs.first_line.Goals as goal

pub returns-then-b-eq10 : goal.returns-then-b-eq10
returns-then-b-eq10 c = going_ends c.loop-i.invariant c.loop-i-test.true c.if-b-eq10.true

pub loop-i-preserved : goal.loop-i-preserved
loop-i-preserved c =
    going_on c.loop-i.invariant c.loop-i-test.true c.if-b-eq10.false c.keep-k.ensures

pub returns : goal.returns
returns c = going_rests c.loop-i.invariant c.loop-i-test.false
