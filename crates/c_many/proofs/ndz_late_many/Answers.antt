-- `c_many::ndz_late_many` meets its contract: what the call ensures, as plain fields.
use mathlib.Core.Path.{ap}
use Rattle.feeding.specs.Feeding.{fed}
use Rattle.c_many.proofs.ndz_late_many.Goals as goal

pub returns : goal.returns
returns c = rw c.feeding.ensures (ap (fed c.args.state) (rw c.trace_of-trace.ensures at c.late.ensures))
