-- `pictured::picturing` meets its contract: its arms are those of the definition.
use Rattle.pictured.specs.Pictured.{picturing}
use Rattle.pictured.proofs.picturing.Goals as goal

pub returns-in-Ok : goal.returns-in-Ok
unfolding picturing
returns-in-Ok c = rw c.in-Ok.is

pub returns-in-Err : goal.returns-in-Err
unfolding picturing
returns-in-Err c = rw (c.in-Err.is, c.number.ensures, c.place.ensures)
