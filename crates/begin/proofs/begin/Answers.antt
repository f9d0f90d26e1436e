-- `begin::begin` meets its contract.
use mathlib.Core.Path.{ap}
use mathlib.Core.List.{List}
use lib.IntN.{ℤ}
use Rattle.listing.specs.declared.Feeding.{Feeding}
use Rattle.listing.specs.declared.Stage.{Stage}
use Rattle.begin.proofs.begin.Goals as goal

pub returns : goal.returns
returns c = rw c.in_order.ensures at (ap {B = Feeding × List ℤ} (λ o. (record { last = o.0; stage = Stage.Nothing; lines = 0; filled = 0 }, o.1)) c.open-last.ensures)
