-- Each public function's contract allows one outcome.
use Rattle.rule.specs.Outcomes.{OneOutcome}
use Rattle.rule.proofs.Determined.{by_result}
use Rattle.counting.specs.contracts.grown as grown
use Rattle.counting.specs.contracts.merged as merged
use Rattle.counting.specs.contracts.counted as counted

pub grown_one : OneOutcome grown.ended (λ M 𝓤. grown.clauses)
grown_one M 𝓤 𝓛 mem run κs a g r r' l l' = by_result 𝓤

pub merged_one : OneOutcome merged.ended (λ M 𝓤. merged.clauses)
merged_one M 𝓤 𝓛 mem run κs a g r r' l l' = by_result 𝓤

pub counted_one : OneOutcome counted.ended (λ M 𝓤. counted.clauses)
counted_one M 𝓤 𝓛 mem run κs a g r r' l l' = by_result 𝓤
