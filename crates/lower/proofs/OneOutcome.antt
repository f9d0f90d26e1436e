-- Each public function's contract allows one outcome.
use mathlib.Core.Path.{refl, sym, ap, ◌∙◌}
use Rattle.rule.specs.Outcomes.{OneOutcome}
use Rattle.rule.proofs.Determined.{both}
use Rattle.lower.specs.contracts.merge_before as merge-before
use Rattle.lower.specs.contracts.merge as merge

pub merge_before_one : OneOutcome merge-before.ended (λ M 𝓤. merge-before.clauses)
merge_before_one M 𝓤 𝓛 mem run κs a g r r' l l' = both 𝓤 (λ p q. (refl, ap (λ x. (x, l.1)) (p ∙ sym q)))

pub merge_one : OneOutcome merge.ended (λ M 𝓤. merge.clauses)
merge_one M 𝓤 𝓛 mem run κs a g r r' l l' = both 𝓤 (λ p q. (refl, ap (λ x. (x, l.1)) (p ∙ sym q)))
