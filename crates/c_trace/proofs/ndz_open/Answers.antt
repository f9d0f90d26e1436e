-- `c_trace::ndz_open` meets its contract: what the call ensures, as plain fields.
use mathlib.Core.Path.{ap}
use Rattle.fields.specs.States.{none}
use Rattle.plain.specs.Plain.{replied}
use Rattle.c_trace.proofs.ndz_open.Goals as goal

pub returns : goal.returns
returns c = rw (c.replying.ensures, c.none.ensures) (ap (replied none) (rw c.opening_of-opening.ensures at c.«open».ensures))
