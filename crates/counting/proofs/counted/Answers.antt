-- `counting::counted` meets its contract: its arms are those of the definition.
use Rattle.rule.specs.Calls.{counted}
use Rattle.trace.specs.Answers.{verdict}
use Rattle.counting.proofs.counted.Goals as goal

pub returns-in-Ok : goal.returns-in-Ok
unfolding counted verdict
returns-in-Ok c = rw (c.in-Ok.is, c.merged.ensures, c.grown.ensures)

pub returns-in-Err : goal.returns-in-Err
unfolding counted verdict
returns-in-Err c = rw (c.in-Err.is, c.grown-in-Err.ensures)
