-- Each public function's contract allows one outcome.
use mathlib.Core.Path.{refl, sym, ◌∙◌}
use Rattle.rule.specs.Outcomes.{OneOutcome}
use Rattle.rule.proofs.Determined.{both, by_result}
use Rattle.fields.specs.contracts.opening_of as Opening-of
use Rattle.fields.specs.contracts.trace_of as trace-of
use Rattle.fields.specs.contracts.fields_of as fields-of
use Rattle.fields.specs.contracts.none as none

pub opening_of_one : OneOutcome Opening-of.ended (λ M 𝓤. Opening-of.clauses)
opening_of_one M 𝓤 𝓛 mem run κs a g r r' l l' = by_result 𝓤

pub trace_of_one : OneOutcome trace-of.ended (λ M 𝓤. trace-of.clauses)
trace_of_one M 𝓤 𝓛 mem run κs a g r r' l l' = both 𝓤 (λ p q. let e = p ∙ sym q in (λ i. record { state = e i }, refl))

pub fields_of_one : OneOutcome fields-of.ended (λ M 𝓤. fields-of.clauses)
fields_of_one M 𝓤 𝓛 mem run κs a g r r' l l' = by_result 𝓤

pub none_one : OneOutcome none.ended (λ M 𝓤. none.clauses)
none_one M 𝓤 𝓛 mem run κs a g r r' l l' = by_result 𝓤
