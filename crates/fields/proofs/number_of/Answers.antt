-- `fields::number_of` meets its contract: its arms are those of the definition.
use Rattle.fields.specs.States.{number_of}
use Rattle.fields.proofs.number_of.Goals as goal

pub returns-in-InOrder : goal.returns-in-InOrder
unfolding number_of
returns-in-InOrder c = rw c.in-InOrder.is

pub returns-in-Late : goal.returns-in-Late
unfolding number_of
returns-in-Late c = rw c.in-Late.is
