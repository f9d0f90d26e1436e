-- Each public function's contract allows one outcome.
use Rattle.rule.specs.Outcomes.{OneOutcome}
use Rattle.rule.proofs.Determined.{by_result}
use Rattle.readings.specs.contracts.distance as distance
use Rattle.readings.specs.contracts.middle as middle
use Rattle.readings.specs.contracts.lesser as lesser
use Rattle.readings.specs.contracts.larger as larger

pub distance_one : OneOutcome distance.ended (λ M 𝓤. distance.clauses)
distance_one M 𝓤 𝓛 mem run κs a g r r' l l' = by_result 𝓤

pub middle_one : OneOutcome middle.ended (λ M 𝓤. middle.clauses)
middle_one M 𝓤 𝓛 mem run κs a g r r' l l' = by_result 𝓤

pub lesser_one : OneOutcome lesser.ended (λ M 𝓤. lesser.clauses)
lesser_one M 𝓤 𝓛 mem run κs a g r r' l l' = by_result 𝓤

pub larger_one : OneOutcome larger.ended (λ M 𝓤. larger.clauses)
larger_one M 𝓤 𝓛 mem run κs a g r r' l l' = by_result 𝓤
