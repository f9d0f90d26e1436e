-- Each public function's contract allows one outcome.
use Rattle.rule.specs.Outcomes.{OneOutcome}
use Rattle.rule.proofs.Determined.{by_result}
use Rattle.cheapest.specs.contracts.cheapest as cheapest
use Rattle.cheapest.specs.contracts.least_cost as least-cost

pub cheapest_one : OneOutcome cheapest.ended (λ M 𝓤. cheapest.clauses)
cheapest_one M 𝓤 𝓛 mem run κs a g r r' l l' = by_result 𝓤

pub least_cost_one : OneOutcome least-cost.ended (λ M 𝓤. least-cost.clauses)
least_cost_one M 𝓤 𝓛 mem run κs a g r r' l l' = by_result 𝓤
