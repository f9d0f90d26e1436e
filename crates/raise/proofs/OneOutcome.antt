-- The public function's contract allows one outcome.
use mathlib.Core.Path.{refl, sym, ap, ◌∙◌}
use Rattle.rule.specs.Outcomes.{OneOutcome}
use Rattle.rule.proofs.Determined.{both}
use Rattle.raise.specs.contracts.merge_after as merge-after

pub merge_after_one : OneOutcome merge-after.ended (λ M 𝓤. merge-after.clauses)
merge_after_one M 𝓤 𝓛 mem run κs a g r r' l l' = both 𝓤 (λ p q. (refl, ap (λ x. (x, l.1)) (p ∙ sym q)))
