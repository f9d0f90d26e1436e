-- Each public function's contract allows one outcome.
use Rattle.rule.specs.Outcomes.{OneOutcome}
use Rattle.rule.proofs.Determined.{by_result}
use Rattle.refusal.specs.contracts.number as number
use Rattle.refusal.specs.contracts.place as place

pub number_one : OneOutcome number.ended (λ M 𝓤. number.clauses)
number_one M 𝓤 𝓛 mem run κs a g r r' l l' = by_result 𝓤

pub place_one : OneOutcome place.ended (λ M 𝓤. place.clauses)
place_one M 𝓤 𝓛 mem run κs a g r r' l l' = by_result 𝓤
