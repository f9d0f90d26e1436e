-- Each exported function's contract allows one outcome.
use Rattle.rule.specs.Outcomes.{OneOutcome}
use Rattle.rule.proofs.Determined.{by_result}
use Rattle.c_look.specs.contracts.ndz_lookup as lookup
use Rattle.c_look.specs.contracts.ndz_first_over as first
use Rattle.c_look.specs.contracts.ndz_worst as worst

pub lookup_one : OneOutcome lookup.ended (λ M 𝓤. lookup.clauses)
lookup_one M 𝓤 𝓛 mem run κs a g r r' l l' = by_result 𝓤

pub first_over_one : OneOutcome first.ended (λ M 𝓤. first.clauses)
first_over_one M 𝓤 𝓛 mem run κs a g r r' l l' = by_result 𝓤

pub worst_one : OneOutcome worst.ended (λ M 𝓤. worst.clauses)
worst_one M 𝓤 𝓛 mem run κs a g r r' l l' = by_result 𝓤
