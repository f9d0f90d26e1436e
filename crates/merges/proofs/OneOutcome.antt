-- The public function's contract allows one outcome.
use mathlib.Core.Path.{refl, sym, ap, ◌∙◌}
use Rattle.rule.specs.Outcomes.{OneOutcome}
use Rattle.rule.proofs.Determined.{both}
use Rattle.merges.specs.contracts.insert_merged as insert-merged

pub insert_merged_one : OneOutcome insert-merged.ended (λ M 𝓤. insert-merged.clauses)
insert_merged_one M 𝓤 𝓛 mem run κs a g r r' l l' = both 𝓤 (λ p q. (refl, ap (λ x. (x, l.1)) (p ∙ sym q)))
