-- `fields::trace_of` meets its contract.
use Rattle.fields.proofs.trace_of.Goals as goal

pub returns : goal.returns
returns c = rw c.kind_of-kind.ensures
