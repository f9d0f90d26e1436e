-- Each public function's contract allows one outcome.
use Rattle.rule.specs.Outcomes.{OneOutcome}
use Rattle.rule.proofs.Determined.{by_result}
use Rattle.settings.specs.contracts.is_late as is-late
use Rattle.settings.specs.contracts.bounded as bounded
use Rattle.settings.specs.contracts.edition_good as good_edition
use Rattle.settings.specs.contracts.gaps_good as good_gaps
use Rattle.settings.specs.contracts.runs_allowed as runs-allowed
use Rattle.settings.specs.contracts.limit as limit
use Rattle.settings.specs.contracts.needed as needed

pub is_late_one : OneOutcome is-late.ended (λ M 𝓤. is-late.clauses)
is_late_one M 𝓤 𝓛 mem run κs a g r r' l l' = by_result 𝓤

pub bounded_one : OneOutcome bounded.ended (λ M 𝓤. bounded.clauses)
bounded_one M 𝓤 𝓛 mem run κs a g r r' l l' = by_result 𝓤

pub edition_good_one : OneOutcome good_edition.ended (λ M 𝓤. good_edition.clauses)
edition_good_one M 𝓤 𝓛 mem run κs a g r r' l l' = by_result 𝓤

pub gaps_good_one : OneOutcome good_gaps.ended (λ M 𝓤. good_gaps.clauses)
gaps_good_one M 𝓤 𝓛 mem run κs a g r r' l l' = by_result 𝓤

pub runs_allowed_one : OneOutcome runs-allowed.ended (λ M 𝓤. runs-allowed.clauses)
runs_allowed_one M 𝓤 𝓛 mem run κs a g r r' l l' = by_result 𝓤

pub limit_one : OneOutcome limit.ended (λ M 𝓤. limit.clauses)
limit_one M 𝓤 𝓛 mem run κs a g r r' l l' = by_result 𝓤

pub needed_one : OneOutcome needed.ended (λ M 𝓤. needed.clauses)
needed_one M 𝓤 𝓛 mem run κs a g r r' l l' = by_result 𝓤
