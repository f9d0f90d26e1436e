-- Each public function's contract allows one outcome.
use Rattle.rule.specs.Outcomes.{OneOutcome}
use Rattle.rule.proofs.Determined.{by_result}
use Rattle.scale.specs.contracts.view as view
use Rattle.scale.specs.contracts.start_of as start_of_lem
use Rattle.scale.specs.contracts.end_of as end_of_lem
use Rattle.scale.specs.contracts.down as down

pub view_one : OneOutcome view.ended (λ M 𝓤. view.clauses)
view_one M 𝓤 𝓛 mem run κs a g r r' l l' = by_result 𝓤

pub start_of_one : OneOutcome start_of_lem.ended (λ M 𝓤. start_of_lem.clauses)
start_of_one M 𝓤 𝓛 mem run κs a g r r' l l' = by_result 𝓤

pub end_of_one : OneOutcome end_of_lem.ended (λ M 𝓤. end_of_lem.clauses)
end_of_one M 𝓤 𝓛 mem run κs a g r r' l l' = by_result 𝓤

pub down_one : OneOutcome down.ended (λ M 𝓤. down.clauses)
down_one M 𝓤 𝓛 mem run κs a g r r' l l' = by_result 𝓤
