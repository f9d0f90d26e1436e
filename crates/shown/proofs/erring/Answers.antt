-- `shown::erring` meets its contract: its arms are those of the definition.
use Rattle.plain.specs.Plain.{erring}
use Rattle.shown.proofs.erring.Goals as goal

pub returns-in-Ok : goal.returns-in-Ok
unfolding erring
returns-in-Ok c = rw c.in-Ok.is

pub returns-in-Err : goal.returns-in-Err
unfolding erring
returns-in-Err c = rw (c.in-Err.is, c.number.ensures, c.place.ensures)
