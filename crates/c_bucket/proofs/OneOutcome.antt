-- Each exported function's contract allows one outcome.
use Rattle.rule.specs.Outcomes.{OneOutcome}
use Rattle.rule.proofs.Determined.{by_result}
use Rattle.c_bucket.specs.contracts.ndz_level as level
use Rattle.c_bucket.specs.contracts.ndz_error as error

pub level_one : OneOutcome level.ended (λ M 𝓤. level.clauses)
level_one M 𝓤 𝓛 mem run κs a g r r' l l' = by_result 𝓤

pub error_one : OneOutcome error.ended (λ M 𝓤. error.clauses)
error_one M 𝓤 𝓛 mem run κs a g r r' l l' = by_result 𝓤
