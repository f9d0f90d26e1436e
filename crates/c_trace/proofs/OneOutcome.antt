-- Each exported function's contract allows one outcome.
use Rattle.rule.specs.Outcomes.{OneOutcome}
use Rattle.rule.proofs.Determined.{by_pair}
use Rattle.c_trace.specs.contracts.ndz_open as opens
use Rattle.c_trace.specs.contracts.ndz_next as next
use Rattle.c_trace.specs.contracts.ndz_late as late

pub open_one : OneOutcome opens.ended (λ M 𝓤. opens.clauses)
open_one M 𝓤 𝓛 mem run κs a g r r' l l' = by_pair 𝓤 (λ x. (l.0, (x, l.1.1)))

pub next_one : OneOutcome next.ended (λ M 𝓤. next.clauses)
next_one M 𝓤 𝓛 mem run κs a g r r' l l' = by_pair 𝓤 (λ x. (l.0, (x, l.1.1)))

pub late_one : OneOutcome late.ended (λ M 𝓤. late.clauses)
late_one M 𝓤 𝓛 mem run κs a g r r' l l' = by_pair 𝓤 (λ x. (l.0, (x, l.1.1)))
