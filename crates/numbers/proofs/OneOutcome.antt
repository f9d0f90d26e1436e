-- Each public function's contract allows one outcome.
use Rattle.rule.specs.Outcomes.{OneOutcome}
use Rattle.rule.proofs.Determined.{by_result}
use Rattle.numbers.specs.contracts.signed_field as signed-field
use Rattle.numbers.specs.contracts.unsigned_field as unsigned-field

pub signed_field_one : OneOutcome signed-field.ended (λ M 𝓤. signed-field.clauses)
signed_field_one M 𝓤 𝓛 mem run κs a g r r' l l' = by_result 𝓤

pub unsigned_field_one : OneOutcome unsigned-field.ended (λ M 𝓤. unsigned-field.clauses)
unsigned_field_one M 𝓤 𝓛 mem run κs a g r r' l l' = by_result 𝓤
