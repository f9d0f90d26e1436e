-- `c_look::ndz_worst` meets its contract: what the call ensures, as plain fields.
use Rattle.c_look.proofs.ndz_worst.Goals as goal

pub returns : goal.returns
returns c = rw (c.erring.ensures, c.worst.ensures, c.trace_of-trace.ensures)
