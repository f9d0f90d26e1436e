-- `sound::sound` meets its contract: a test that fails decides, and where the others hold, the unused slots do.
use native.Mathlib.Omega.{arith}
use Rattle.rule.specs.Room.{all_of, rest_zero, roomy}
use Rattle.sound.proofs.Clauses.{limits, sound_tests}
use Rattle.sound.proofs.sound.Goals as goal

pub returns-then-scan : goal.returns-then-scan
unfolding all_of roomy rest_zero
returns-then-scan c = grind (arith, limits, sound_tests)

pub returns-else-scan : goal.returns-else-scan
unfolding all_of roomy rest_zero
returns-else-scan c = grind (arith, limits, sound_tests)
