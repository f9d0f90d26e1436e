-- `place::held` meets its contract.
use mathlib.Core.Path.{sym}
use borrow.Author.Tests.{le-ltb}
use native.Mathlib.Omega.{arith}
use Rattle.rule.specs.Calls.{is_held}
use Rattle.rooms.proofs.Placing.{filled_before, slot_first, slot_held}
use Rattle.rooms.proofs.Reading.{filled}
use Rattle.place.proofs.held.Goals as goal

pub read-requires : goal.read-requires
read-requires c = filled (filled_before c.requires) _ (omega arith)

pub returns-then-at-gt0 : goal.returns-then-at-gt0
returns-then-at-gt0 c = rw (c.end.ensures, c.read.ensures) (sym (slot_held c.requires (omega arith)))

pub returns-else-at-gt0 : goal.returns-else-at-gt0
unfolding is_held
returns-else-at-gt0 c = rw (slot_first c.requires (omega arith), le-ltb 0 c.args.at c.if-at-gt0.false)
