-- `c_trace::ndz_next` meets its contract: what the call ensures, as plain fields.
use mathlib.Core.Path.{ap}
use mir.Facts.{to_z-of_z}
use Rattle.plain.specs.Plain.{replied}
use Rattle.c_trace.proofs.ndz_next.Goals as goal

pub returns : goal.returns
returns c = rw c.replying.ensures (ap (replied c.args.state) (rw (c.trace_of-trace.ensures, to_z-of_z c.ranges.value) at c.next.ensures))
