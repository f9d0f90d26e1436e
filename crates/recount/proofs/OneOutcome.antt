-- Each public function's contract allows one outcome.
use Rattle.rule.specs.Outcomes.{OneOutcome}
use Rattle.rule.proofs.Determined.{by_result}
use Rattle.recount.specs.contracts.recounting as recounting

pub recounting_one : OneOutcome recounting.ended (λ M 𝓤. recounting.clauses)
recounting_one M 𝓤 𝓛 mem run κs a g r r' l l' = by_result 𝓤
