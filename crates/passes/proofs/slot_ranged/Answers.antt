-- `passes::slot_ranged` meets its contract.
use native.Mathlib.Omega.{arith}
use mir.Facts.{to_z-of_z}
use Rattle.rule.specs.Room.{slot_ranged}
use Rattle.passes.proofs.slot_ranged.Goals as goal

pub returns-then-signed : goal.returns-then-signed
unfolding slot_ranged
returns-then-signed c = grind (arith, to_z-of_z)

pub returns-else-signed : goal.returns-else-signed
unfolding slot_ranged
returns-else-signed c = grind (arith, to_z-of_z)
