-- Each public function's contract allows one outcome.
use Rattle.rule.specs.Outcomes.{OneOutcome}
use Rattle.rule.proofs.Determined.{by_result}
use Rattle.passes.specs.contracts.all_zero as zeros_all
use Rattle.passes.specs.contracts.scan as scan

pub all_zero_one : OneOutcome zeros_all.ended (λ M 𝓤. zeros_all.clauses)
all_zero_one M 𝓤 𝓛 mem run κs a g r r' l l' = by_result 𝓤

pub scan_one : OneOutcome scan.ended (λ M 𝓤. scan.clauses)
scan_one M 𝓤 𝓛 mem run κs a g r r' l l' = by_result 𝓤
