-- `plain::telling` meets its contract: its arms are those of the definition.
use Rattle.plain.specs.Plain.{telling}
use Rattle.plain.proofs.telling.Goals as goal

pub returns-in-Ok : goal.returns-in-Ok
unfolding telling
returns-in-Ok c = rw c.in-Ok.is

pub returns-in-Err : goal.returns-in-Err
unfolding telling
returns-in-Err c = rw (c.in-Err.is, c.number.ensures, c.place.ensures)
