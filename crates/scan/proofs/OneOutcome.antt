-- Each public function's contract allows one outcome.
use Rattle.rule.specs.Outcomes.{OneOutcome}
use Rattle.rule.proofs.Determined.{by_result}
use Rattle.scan.specs.contracts.better as better
use Rattle.scan.specs.contracts.pass as pass

pub better_one : OneOutcome better.ended (λ M 𝓤. better.clauses)
better_one M 𝓤 𝓛 mem run κs a g r r' l l' = by_result 𝓤

pub pass_one : OneOutcome pass.ended (λ M 𝓤. pass.clauses)
pass_one M 𝓤 𝓛 mem run κs a g r r' l l' = by_result 𝓤
