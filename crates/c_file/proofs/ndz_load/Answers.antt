-- `c_file::ndz_load` meets its contract: what the call ensures, as plain fields.
use mathlib.Core.Path.{ap}
use Rattle.fields.specs.States.{none}
use Rattle.plain.specs.Plain.{replied}
use Rattle.c_file.proofs.ndz_load.Goals as goal

pub returns : goal.returns
returns c = rw (c.replying.ensures, c.none.ensures) (ap (replied none) (rw c.opening_of-wanted.ensures at c.load.ensures))
