-- Each public function's contract allows one outcome.
use mathlib.Core.Path.{sym, ap, ◌∙◌}
use Rattle.rule.specs.Outcomes.{OneOutcome}
use Rattle.rule.proofs.Determined.{both}
use Rattle.settle.specs.contracts.settle as settle

pub settle_one : OneOutcome settle.ended (λ M 𝓤. settle.clauses)
settle_one M 𝓤 𝓛 mem run κs a g r r' l l' = both 𝓤 (λ p q. (p.0 ∙ sym q.0, ap (λ x. (l.0, (l.1.0, (x, l.1.1.1)))) (p.1 ∙ sym q.1)))
