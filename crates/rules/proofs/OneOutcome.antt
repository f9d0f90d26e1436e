-- Each public function's contract allows one outcome.
use Rattle.rule.specs.Outcomes.{OneOutcome}
use Rattle.rule.proofs.Determined.{by_result}
use Rattle.rules.specs.contracts.follows as follows
use Rattle.rules.specs.contracts.meets as meets
use Rattle.rules.specs.contracts.first_broken as first-broken
use Rattle.rules.specs.contracts.starts_run as starts-run

pub follows_one : OneOutcome follows.ended (λ M 𝓤. follows.clauses)
follows_one M 𝓤 𝓛 mem run κs a g r r' l l' = by_result 𝓤

pub meets_one : OneOutcome meets.ended (λ M 𝓤. meets.clauses)
meets_one M 𝓤 𝓛 mem run κs a g r r' l l' = by_result 𝓤

pub first_broken_one : OneOutcome first-broken.ended (λ M 𝓤. first-broken.clauses)
first_broken_one M 𝓤 𝓛 mem run κs a g r r' l l' = by_result 𝓤

pub starts_run_one : OneOutcome starts-run.ended (λ M 𝓤. starts-run.clauses)
starts_run_one M 𝓤 𝓛 mem run κs a g r r' l l' = by_result 𝓤
