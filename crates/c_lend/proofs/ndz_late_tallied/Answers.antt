-- `c_lend::ndz_late_tallied` meets its contract: it hands on to the call of its name, of the trace that the fields are.
use mir.Facts.{to_z-of_z}
use Rattle.handing.proofs.Tallied.{late_handed}
use Rattle.c_lend.proofs.ndz_late_tallied.Goals as goal

pub returns : goal.returns
returns c =
    let a = c.late-a in
    late_handed c.args.state c.trace_of-trace.result.state c.trace_of-trace.ensures c.args.room.now a.new.room a.result c.args.tally.now a.new.tally c.replying.result c.replying.ensures c.args.tick c.args.value (rw (to_z-of_z c.ranges.value) at a.ensures)
