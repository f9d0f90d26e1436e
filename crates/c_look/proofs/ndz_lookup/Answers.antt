-- `c_look::ndz_lookup` meets its contract: what the call ensures, as plain fields.
use Rattle.c_look.proofs.ndz_lookup.Goals as goal

pub returns : goal.returns
returns c = rw (c.showing.ensures, c.lookup.ensures, c.trace_of-trace.ensures)
