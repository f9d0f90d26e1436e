-- `fields::opening_of` meets its contract.
use Rattle.fields.proofs.opening_of.Goals as goal

pub returns : goal.returns
returns c = rw (c.kind_of-kind.ensures, c.size_of-size.ensures)
