-- `arrival::next_tick` meets its contract.
use native.Mathlib.Omega.{arith}
use Prim.Native.Nat.{◌-◌}
use mathlib.Core.Path.{sym}
use Rattle.rule.specs.Room.{slots}
use Rattle.rule.specs.Table.{last_end}
use Rattle.rooms.proofs.Reading.{filled}
use Rattle.rooms.proofs.Following.{last_slot}
use Rattle.arrival.proofs.next_tick.Goals as goal

pub returns-then-used-eq0 : goal.returns-then-used-eq0
unfolding slots last_end
returns-then-used-eq0 c = rw c.if-used-eq0.true

pub read-requires : goal.read-requires
read-requires c = filled c.requires (c.args.used - 1) (omega arith)

pub returns : goal.returns
returns c = rw (c.end.ensures, c.read.ensures) (sym (last_slot c.args.room.now c.args.used c.if-used-eq0.false))
