-- Each public function's contract allows one outcome.
use Rattle.rule.specs.Outcomes.{OneOutcome}
use Rattle.rule.proofs.Determined.{by_result}
use Rattle.bucket.specs.contracts.end as end
use Rattle.bucket.specs.contracts.spread as spread
use Rattle.bucket.specs.contracts.level as level
use Rattle.bucket.specs.contracts.error as error
use Rattle.bucket.specs.contracts.union as union
use Rattle.bucket.specs.contracts.union_spread as union-spread
use Rattle.bucket.specs.contracts.neighbours as neighbours

pub end_one : OneOutcome end.ended (λ M 𝓤. end.clauses)
end_one M 𝓤 𝓛 mem run κs a g r r' l l' = by_result 𝓤

pub spread_one : OneOutcome spread.ended (λ M 𝓤. spread.clauses)
spread_one M 𝓤 𝓛 mem run κs a g r r' l l' = by_result 𝓤

pub level_one : OneOutcome level.ended (λ M 𝓤. level.clauses)
level_one M 𝓤 𝓛 mem run κs a g r r' l l' = by_result 𝓤

pub error_one : OneOutcome error.ended (λ M 𝓤. error.clauses)
error_one M 𝓤 𝓛 mem run κs a g r r' l l' = by_result 𝓤

pub union_one : OneOutcome union.ended (λ M 𝓤. union.clauses)
union_one M 𝓤 𝓛 mem run κs a g r r' l l' = by_result 𝓤

pub union_spread_one : OneOutcome union-spread.ended (λ M 𝓤. union-spread.clauses)
union_spread_one M 𝓤 𝓛 mem run κs a g r r' l l' = by_result 𝓤

pub neighbours_one : OneOutcome neighbours.ended (λ M 𝓤. neighbours.clauses)
neighbours_one M 𝓤 𝓛 mem run κs a g r r' l l' = by_result 𝓤
