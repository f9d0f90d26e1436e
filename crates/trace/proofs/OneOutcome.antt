-- Each public function's contract allows one outcome.
use Rattle.rule.specs.Outcomes.{OneOutcome}
use mathlib.Core.Path.{sym, ap, ◌∙◌}
use Rattle.rule.specs.declared.State.{State}
use Rattle.rule.proofs.Determined.{both, by_pair, by_result}
use Rattle.trace.specs.declared.Trace.{Trace}
use Rattle.trace.specs.contracts.Trace.open as opens
use Rattle.trace.specs.contracts.Trace.accept as accept
use Rattle.trace.specs.contracts.Trace.take as take
use Rattle.trace.specs.contracts.Trace.next as next
use Rattle.trace.specs.contracts.Trace.late as late
use Rattle.trace.specs.contracts.Trace.lookup as lookup

pub open_one : OneOutcome opens.ended (λ M 𝓤. opens.clauses)
open_one M 𝓤 𝓛 mem run κs a g r r' l l' = by_pair 𝓤 (λ x. (l.0, (x, l.1.1)))

pub accept_one : OneOutcome accept.ended (λ M 𝓤. accept.clauses)
accept_one M 𝓤 𝓛 mem run κs a g r r' l l' = both 𝓤 (λ p q. (ap (λ (x : State). record { state = x }) (p.0 ∙ sym q.0), ap (λ x. (l.0, (x, l.1.1))) (p.1 ∙ sym q.1)))

pub take_one : OneOutcome take.ended (λ M 𝓤. take.clauses)
take_one M 𝓤 𝓛 mem run κs a g r r' l l' = by_pair 𝓤 (λ x. (l.0, (l.1.0, (x, l.1.1.1))))

pub next_one : OneOutcome next.ended (λ M 𝓤. next.clauses)
next_one M 𝓤 𝓛 mem run κs a g r r' l l' = by_pair 𝓤 (λ x. (l.0, (x, l.1.1)))

pub late_one : OneOutcome late.ended (λ M 𝓤. late.clauses)
late_one M 𝓤 𝓛 mem run κs a g r r' l l' = by_pair 𝓤 (λ x. (l.0, (x, l.1.1)))

pub lookup_one : OneOutcome lookup.ended (λ M 𝓤. lookup.clauses)
lookup_one M 𝓤 𝓛 mem run κs a g r r' l l' = by_result 𝓤
