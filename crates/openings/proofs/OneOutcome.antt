-- Each public function's contract allows one outcome.
use Rattle.rule.specs.Outcomes.{OneOutcome}
use Rattle.rule.proofs.Determined.{by_result}
use Rattle.openings.specs.contracts.in_order as in_order
use Rattle.openings.specs.contracts.late as late
use Rattle.openings.specs.contracts.size_good as size-good
use Rattle.openings.specs.contracts.base_of as base-of
use Rattle.openings.specs.contracts.kept as kept
use Rattle.openings.specs.contracts.empty as empty

pub in_order_one : OneOutcome in_order.ended (λ M 𝓤. in_order.clauses)
in_order_one M 𝓤 𝓛 mem run κs a g r r' l l' = by_result 𝓤

pub late_one : OneOutcome late.ended (λ M 𝓤. late.clauses)
late_one M 𝓤 𝓛 mem run κs a g r r' l l' = by_result 𝓤

pub size_good_one : OneOutcome size-good.ended (λ M 𝓤. size-good.clauses)
size_good_one M 𝓤 𝓛 mem run κs a g r r' l l' = by_result 𝓤

pub base_of_one : OneOutcome base-of.ended (λ M 𝓤. base-of.clauses)
base_of_one M 𝓤 𝓛 mem run κs a g r r' l l' = by_result 𝓤

pub kept_one : OneOutcome kept.ended (λ M 𝓤. kept.clauses)
kept_one M 𝓤 𝓛 mem run κs a g r r' l l' = by_result 𝓤

pub empty_one : OneOutcome empty.ended (λ M 𝓤. empty.clauses)
empty_one M 𝓤 𝓛 mem run κs a g r r' l l' = by_result 𝓤
