-- The public function's contract allows one outcome.
use Rattle.rule.specs.Outcomes.{OneOutcome}
use Rattle.rule.proofs.Determined.{by_result}
use Rattle.text.specs.contracts.parse_line as parse-line

pub parse_line_one : OneOutcome parse-line.ended (λ M 𝓤. parse-line.clauses)
parse_line_one M 𝓤 𝓛 mem run κs a g r r' l l' = by_result 𝓤
