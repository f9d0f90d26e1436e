-- Each public function's contract allows one outcome.
use Rattle.rule.specs.Outcomes.{OneOutcome}
use Rattle.rule.proofs.Determined.{by_result}
use Rattle.sound.specs.contracts.sound as sound

pub sound_one : OneOutcome sound.ended (λ M 𝓤. sound.clauses)
sound_one M 𝓤 𝓛 mem run κs a g r r' l l' = by_result 𝓤
