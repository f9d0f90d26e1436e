-- Each public function's contract allows one outcome.
use Rattle.rule.specs.Outcomes.{OneOutcome}
use Rattle.rule.proofs.Determined.{by_result}
use Rattle.plain.specs.contracts.replying as replying
use Rattle.plain.specs.contracts.telling as telling

pub replying_one : OneOutcome replying.ended (λ M 𝓤. replying.clauses)
replying_one M 𝓤 𝓛 mem run κs a g r r' l l' = by_result 𝓤

pub telling_one : OneOutcome telling.ended (λ M 𝓤. telling.clauses)
telling_one M 𝓤 𝓛 mem run κs a g r r' l l' = by_result 𝓤
