-- Each exported function's contract allows one outcome.
use Rattle.rule.specs.Outcomes.{OneOutcome}
use Rattle.rule.proofs.Determined.{by_pair}
use Rattle.c_many.specs.contracts.ndz_next_many as next
use Rattle.c_many.specs.contracts.ndz_late_many as late

pub next_many_one : OneOutcome next.ended (λ M 𝓤. next.clauses)
next_many_one M 𝓤 𝓛 mem run κs a g r r' l l' = by_pair 𝓤 (λ x. (l.0, (x, l.1.1)))

pub late_many_one : OneOutcome late.ended (λ M 𝓤. late.clauses)
late_many_one M 𝓤 𝓛 mem run κs a g r r' l l' = by_pair 𝓤 (λ x. (l.0, (x, l.1.1)))
