-- The public function's contract allows one outcome.
use Rattle.rule.specs.Outcomes.{OneOutcome}
use Rattle.rule.proofs.Determined.{by_result}
use Rattle.lookup.specs.contracts.lookup as lookup

pub lookup_one : OneOutcome lookup.ended (λ M 𝓤. lookup.clauses)
lookup_one M 𝓤 𝓛 mem run κs a g r r' l l' = by_result 𝓤
