-- Each public function's contract allows one outcome.
use Rattle.rule.specs.Outcomes.{OneOutcome}
use Rattle.rule.proofs.Determined.{by_result}
use Rattle.worst.specs.contracts.greatest_error as greatest
use Rattle.worst.specs.contracts.worst as worst

pub greatest_error_one : OneOutcome greatest.ended (λ M 𝓤. greatest.clauses)
greatest_error_one M 𝓤 𝓛 mem run κs a g r r' l l' = by_result 𝓤

pub worst_one : OneOutcome worst.ended (λ M 𝓤. worst.clauses)
worst_one M 𝓤 𝓛 mem run κs a g r r' l l' = by_result 𝓤
