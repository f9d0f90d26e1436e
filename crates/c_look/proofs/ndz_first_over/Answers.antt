-- `c_look::ndz_first_over` meets its contract: what the call ensures, as plain fields.
use mir.Facts.{to_z-of_z}
use Rattle.c_look.proofs.ndz_first_over.Goals as goal

pub returns : goal.returns
returns c = rw (c.pointing.ensures, c.first_over.ensures, c.trace_of-trace.ensures, to_z-of_z c.ranges.bar)
