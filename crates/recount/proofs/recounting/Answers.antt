-- `recount::recounting` meets its contract: its arms are those of the definition.
use Rattle.plain.specs.Plain.{recounting}
use Rattle.recount.proofs.recounting.Goals as goal

pub returns-in-Ok : goal.returns-in-Ok
unfolding recounting
returns-in-Ok c = rw (c.in-Ok.is, c.fields_of.ensures)

pub returns-in-Err : goal.returns-in-Err
unfolding recounting
returns-in-Err c = rw (c.in-Err.is, c.number.ensures, c.place.ensures, c.none.ensures)
