-- `shown::pointing` meets its contract: its arms are those of the definition.
use Rattle.plain.specs.Plain.{pointing}
use Rattle.shown.proofs.pointing.Goals as goal

pub returns-in-Ok-Some : goal.returns-in-Ok-Some
unfolding pointing
returns-in-Ok-Some c = let e = rw c.in-Ok-Some.is at c.in-Ok-Some.field-0-is in rw (c.in-Ok-Some.is, e)

pub returns-in-Ok-None : goal.returns-in-Ok-None
unfolding pointing
returns-in-Ok-None c = let e = rw c.in-Ok-None.is at c.in-Ok-None.field-0-is in rw (c.in-Ok-None.is, e)

pub returns-in-Err : goal.returns-in-Err
unfolding pointing
returns-in-Err c = rw (c.in-Err.is, c.number.ensures, c.place.ensures)
