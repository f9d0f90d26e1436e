-- Each public function's contract allows one outcome.
use mathlib.Core.Path.{sym, ap, ◌∙◌}
use Rattle.rule.specs.Outcomes.{OneOutcome}
use Rattle.rule.proofs.Determined.{both}
use Rattle.showing.specs.contracts.show as show

pub show_one : OneOutcome show.ended (λ M 𝓤. show.clauses)
show_one M 𝓤 𝓛 mem run κs a g r r' l l' =
    both 𝓤 (λ p q. (p.next ∙ sym q.next, ap (λ x. (l.0, (l.1.0, (x, l.1.1.1)))) (p.bytes ∙ sym q.bytes)))
