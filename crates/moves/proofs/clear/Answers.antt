-- `moves::clear` meets its contract.
use native.Mathlib.Omega.{arith}
use Rattle.std.proofs.lemmas.Grind.{common_steps}
use Rattle.rule.specs.Room.{zeros}
use Rattle.moves.proofs.clear.Goals as goal

pub returns : goal.returns
unfolding zeros
returns c = let filled = c.fill.ensures.after (λ y e. e) in grind (arith, common_steps)
