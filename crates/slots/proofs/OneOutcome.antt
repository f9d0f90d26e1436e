-- Each public function's contract allows one outcome.
use mathlib.Core.Path.{refl, sym, ap, ◌∙◌}
use Rattle.rule.specs.Outcomes.{OneOutcome}
use Rattle.rule.proofs.Determined.{both, by_result}
use Rattle.slots.specs.contracts.read as read
use Rattle.slots.specs.contracts.write as write

pub read_one : OneOutcome read.ended (λ M 𝓤. read.clauses)
read_one M 𝓤 𝓛 mem run κs a g r r' l l' = by_result 𝓤

pub write_one : OneOutcome write.ended (λ M 𝓤. write.clauses)
write_one M 𝓤 𝓛 mem run κs a g r r' l l' = both 𝓤 (λ p q. (refl, ap (λ x. (x, l.1)) (p ∙ sym q)))
