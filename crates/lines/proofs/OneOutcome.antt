-- Each public function's contract allows one outcome.
use Rattle.rule.specs.Outcomes.{OneOutcome}
use Rattle.rule.proofs.Determined.{by_pair}
use Rattle.lines.specs.contracts.byte as byte
use Rattle.lines.specs.contracts.line_ended as line-ended

pub byte_one : OneOutcome byte.ended (λ M 𝓤. byte.clauses)
byte_one M 𝓤 𝓛 mem run κs a g r r' l l' = by_pair 𝓤 (λ x. (l.0, (x.0, (x.1, l.1.1.1))))

pub line_ended_one : OneOutcome line-ended.ended (λ M 𝓤. line-ended.clauses)
line_ended_one M 𝓤 𝓛 mem run κs a g r r' l l' = by_pair 𝓤 (λ x. (l.0, (l.1.0, (x, l.1.1.1))))
