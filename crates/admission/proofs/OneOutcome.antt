-- Each public function's contract allows one outcome.
use Rattle.rule.specs.Outcomes.{OneOutcome}
use Rattle.rule.proofs.Determined.{by_result}
use Rattle.admission.specs.contracts.admit as admit

pub admit_one : OneOutcome admit.ended (λ M 𝓤. admit.clauses)
admit_one M 𝓤 𝓛 mem run κs a g r r' l l' = by_result 𝓤
