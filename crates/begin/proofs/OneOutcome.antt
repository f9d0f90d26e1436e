-- Each public function's contract allows one outcome.
use Rattle.rule.specs.Outcomes.{OneOutcome}
use Rattle.rule.proofs.Determined.{by_pair, by_result}
use Rattle.begin.specs.contracts.begin as begin
use Rattle.begin.specs.contracts.ended as ended

pub begin_one : OneOutcome begin.ended (λ M 𝓤. begin.clauses)
begin_one M 𝓤 𝓛 mem run κs a g r r' l l' = by_pair 𝓤 (λ x. (x, l.1))

pub ended_one : OneOutcome ended.ended (λ M 𝓤. ended.clauses)
ended_one M 𝓤 𝓛 mem run κs a g r r' l l' = by_result 𝓤
