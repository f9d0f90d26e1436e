-- The call's contract allows one outcome.
use Rattle.rule.specs.Outcomes.{OneOutcome}
use Rattle.rule.proofs.Determined.{by_result}
use Rattle.search.specs.contracts.first_over as first

pub first_over_one : OneOutcome first.ended (λ M 𝓤. first.clauses)
first_over_one M 𝓤 𝓛 mem run κs a g r r' l l' = by_result 𝓤
