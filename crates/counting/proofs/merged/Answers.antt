-- `counting::merged` meets its contract: growing twice is growing by the sum, stopped once.
use native.Mathlib.Omega.{arith}
use Rattle.rule.specs.Calls.{grown}
use Rattle.counting.proofs.merged.Goals as goal

pub returns-then-after-before : goal.returns-then-after-before
unfolding grown
returns-then-after-before c = omega (arith, c.grown-then-after-before.ensures, c.grown.ensures)
