-- Each public function's contract allows one outcome.
use mathlib.Core.Path.{refl, sym, ◌∙◌}
use Rattle.rule.specs.Outcomes.{OneOutcome}
use Rattle.rule.proofs.Determined.{both, by_result}
use Rattle.faults.specs.contracts.first_fault as first-fault
use Rattle.faults.specs.contracts.counts as counts
use Rattle.faults.specs.contracts.inspect as inspect

pub first_fault_one : OneOutcome first-fault.ended (λ M 𝓤. first-fault.clauses)
first_fault_one M 𝓤 𝓛 mem run κs a g r r' l l' = by_result 𝓤

pub counts_one : OneOutcome counts.ended (λ M 𝓤. counts.clauses)
counts_one M 𝓤 𝓛 mem run κs a g r r' l l' = both 𝓤 (λ p q. (λ i. record { runs = (p.0 ∙ sym q.0) i; readings = (p.1 ∙ sym q.1) i }, refl))

pub inspect_one : OneOutcome inspect.ended (λ M 𝓤. inspect.clauses)
inspect_one M 𝓤 𝓛 mem run κs a g r r' l l' = by_result 𝓤
