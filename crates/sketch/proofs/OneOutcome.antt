-- Each public function's contract allows one outcome.
use mathlib.Core.Path.{sym, ap, ◌∙◌}
use Rattle.rule.specs.Outcomes.{OneOutcome}
use Rattle.rule.proofs.Determined.{both}
use Rattle.sketch.specs.contracts.sketch as sketch

pub sketch_one : OneOutcome sketch.ended (λ M 𝓤. sketch.clauses)
sketch_one M 𝓤 𝓛 mem run κs a g r r' l l' =
    both 𝓤 (λ p q. (p.next ∙ sym q.next, ap (λ x. (l.0, (l.1.0, (l.1.1.0, (x, l.1.1.1.1))))) (p.bytes ∙ sym q.bytes)))
