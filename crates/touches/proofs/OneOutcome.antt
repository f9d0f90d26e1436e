-- Each public function's contract allows one outcome.
use Rattle.rule.specs.Outcomes.{OneOutcome}
use Rattle.rule.proofs.Determined.{by_result}
use Rattle.touches.specs.contracts.over as over

pub over_one : OneOutcome over.ended (λ M 𝓤. over.clauses)
over_one M 𝓤 𝓛 mem run κs a g r r' l l' = by_result 𝓤
