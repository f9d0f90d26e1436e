-- Each public function's contract allows one outcome.
use Rattle.rule.specs.Outcomes.{OneOutcome}
use Rattle.rule.proofs.Determined.{by_pair}
use Rattle.picture.specs.contracts.picture as picture

pub picture_one : OneOutcome picture.ended (λ M 𝓤. picture.clauses)
picture_one M 𝓤 𝓛 mem run κs a g r r' l l' = by_pair 𝓤 (λ x. (l.0, (l.1.0, (l.1.1.0, (x, l.1.1.1.1)))))
