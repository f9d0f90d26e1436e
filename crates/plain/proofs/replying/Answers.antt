-- `plain::replying` meets its contract: its arms are those of the definition.
use Rattle.plain.specs.Plain.{replying}
use Rattle.plain.proofs.replying.Goals as goal

pub returns-in-Ok : goal.returns-in-Ok
unfolding replying
returns-in-Ok c = rw (c.in-Ok.is, c.fields_of.ensures)

pub returns-in-Err : goal.returns-in-Err
unfolding replying
returns-in-Err c = rw (c.in-Err.is, c.number.ensures, c.place.ensures)
