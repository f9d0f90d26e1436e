-- `trace::Trace::next` meets its contract.
use mir.Facts.{to_z-of_z}
use Rattle.trace.proofs.Taking.{next_arrives, next_taken}
use Rattle.trace.proofs.Trace.next.Goals as goal

pub take-requires : goal.take-requires
take-requires c =
    rw (to_z-of_z c.ranges.value, c.next-arrival.ensures) (next_arrives c.args.self.state c.args.room.now c.args.value)

pub returns : goal.returns
returns c =
    rw (to_z-of_z c.ranges.value, c.next-arrival.ensures, next_taken c.args.self.state c.args.room.now c.args.value) at c.take.ensures
