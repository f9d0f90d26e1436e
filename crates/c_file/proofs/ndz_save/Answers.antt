-- `c_file::ndz_save` meets its contract: what the call ensures, as plain fields.
use mathlib.Core.Path.{ap}
use Rattle.plain.specs.Plain.{told}
use Rattle.c_file.proofs.ndz_save.Goals as goal

pub returns : goal.returns
returns c = rw c.telling.ensures (ap told (rw c.trace_of-trace.ensures at c.save.ensures))
