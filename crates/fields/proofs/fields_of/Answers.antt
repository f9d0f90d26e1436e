-- `fields::fields_of` meets its contract.
use Rattle.fields.proofs.fields_of.Goals as goal

pub returns : goal.returns
returns c = rw c.number_of.ensures
