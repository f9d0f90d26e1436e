-- The public function's contract allows one outcome.
use Rattle.rule.specs.Outcomes.{OneOutcome}
use Rattle.rule.proofs.Determined.{by_result}
use Rattle.pictured.specs.contracts.picturing as picturing

pub picturing_one : OneOutcome picturing.ended (λ M 𝓤. picturing.clauses)
picturing_one M 𝓤 𝓛 mem run κs a g r r' l l' = by_result 𝓤
