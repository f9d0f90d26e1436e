-- The public function's contract allows one outcome.
use mathlib.Core.Path.{sym, ap, ◌∙◌}
use Rattle.rule.specs.Outcomes.{OneOutcome}
use Rattle.rule.proofs.Determined.{both}
use Rattle.room.specs.contracts.accept as accept

pub accept_one : OneOutcome accept.ended (λ M 𝓤. accept.clauses)
accept_one M 𝓤 𝓛 mem run κs a g r r' l l' = both 𝓤 (λ p q. (p.0 ∙ sym q.0, ap (λ x. (l.0, (x, l.1.1))) (p.1 ∙ sym q.1)))
