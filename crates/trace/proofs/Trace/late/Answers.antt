-- `trace::Trace::late` meets its contract.
use mir.Facts.{to_z-of_z}
use Rattle.trace.proofs.Taking.{late_arrives, late_taken}
use Rattle.trace.proofs.Trace.late.Goals as goal

pub take-requires : goal.take-requires
take-requires c =
    rw (to_z-of_z c.ranges.value, c.late-arrival.ensures c.args.value) (late_arrives c.args.self.state c.args.room.now c.args.value c.args.tick)

pub returns : goal.returns
returns c =
    rw (to_z-of_z c.ranges.value, c.late-arrival.ensures c.args.value, late_taken c.args.self.state c.args.room.now c.args.value c.args.tick) at c.take.ensures
