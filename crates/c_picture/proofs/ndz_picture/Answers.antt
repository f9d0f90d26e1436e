-- `c_picture::ndz_picture` meets its contract: what the call ensures, as plain fields.
use mathlib.Core.Path.{ap}
use Rattle.pictured.specs.Pictured.{pictured}
use Rattle.c_picture.proofs.ndz_picture.Goals as goal

pub returns : goal.returns
returns c = rw c.picturing.ensures (ap pictured (rw c.trace_of-trace.ensures at c.picture.ensures))
