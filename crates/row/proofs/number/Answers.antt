-- `row::number` meets its contract.
use Rattle.row.specs.Answers.{number}
use Rattle.row.proofs.number.Goals as goal

pub returns-in-Ok : goal.returns-in-Ok
unfolding number
returns-in-Ok c = rw c.in-Ok.is

pub returns-in-Err : goal.returns-in-Err
unfolding number
returns-in-Err c = rw c.in-Err.is
