-- Each public function's contract allows one outcome.
use Rattle.rule.specs.Outcomes.{OneOutcome}
use Rattle.rule.proofs.Determined.{by_result}
use Rattle.inserted.specs.contracts.cheapest_with as cheapest-with

pub cheapest_with_one : OneOutcome cheapest-with.ended (λ M 𝓤. cheapest-with.clauses)
cheapest_with_one M 𝓤 𝓛 mem run κs a g r r' l l' = by_result 𝓤
