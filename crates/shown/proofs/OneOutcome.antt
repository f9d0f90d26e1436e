-- Each public function's contract allows one outcome.
use Rattle.rule.specs.Outcomes.{OneOutcome}
use Rattle.rule.proofs.Determined.{by_result}
use Rattle.shown.specs.contracts.showing as showing
use Rattle.shown.specs.contracts.pointing as pointing
use Rattle.shown.specs.contracts.erring as erring

pub showing_one : OneOutcome showing.ended (λ M 𝓤. showing.clauses)
showing_one M 𝓤 𝓛 mem run κs a g r r' l l' = by_result 𝓤

pub pointing_one : OneOutcome pointing.ended (λ M 𝓤. pointing.clauses)
pointing_one M 𝓤 𝓛 mem run κs a g r r' l l' = by_result 𝓤

pub erring_one : OneOutcome erring.ended (λ M 𝓤. erring.clauses)
erring_one M 𝓤 𝓛 mem run κs a g r r' l l' = by_result 𝓤
