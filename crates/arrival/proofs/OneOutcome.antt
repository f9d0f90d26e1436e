-- Each public function's contract allows one outcome.
use lib.IntN.{pos}
use mathlib.Core.Path.{refl, sym, ◌∙◌}
use Rattle.rule.specs.Outcomes.{OneOutcome}
use Rattle.rule.proofs.Determined.{both, by_result}
use Rattle.arrival.specs.contracts.following as following
use Rattle.arrival.specs.contracts.next as next
use Rattle.arrival.specs.contracts.placed as placed
use Rattle.arrival.specs.contracts.late as late

pub following_one : OneOutcome following.ended (λ M 𝓤. following.clauses)
following_one M 𝓤 𝓛 mem run κs a g r r' l l' = by_result 𝓤

pub next_one : OneOutcome next.ended (λ M 𝓤. next.clauses)
next_one M 𝓤 𝓛 mem run κs a g r r' l l' = by_result 𝓤

pub placed_one : OneOutcome placed.ended (λ M 𝓤. placed.clauses)
placed_one M 𝓤 𝓛 mem run κs a g r r' l l' = both 𝓤 (λ p q. (p (pos 0) ∙ sym (q (pos 0)), refl))

pub late_one : OneOutcome late.ended (λ M 𝓤. late.clauses)
late_one M 𝓤 𝓛 mem run κs a g r r' l l' = both 𝓤 (λ p q. (p (pos 0) ∙ sym (q (pos 0)), refl))
