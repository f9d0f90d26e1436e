-- The public function's contract allows one outcome.
use mathlib.Core.Path.{sym, ap, ◌∙◌}
use Rattle.rule.specs.Outcomes.{OneOutcome}
use Rattle.rule.proofs.Determined.{both}
use Rattle.sheet.specs.contracts.put_picture as put-picture

pub put_picture_one : OneOutcome put-picture.ended (λ M 𝓤. put-picture.clauses)
put_picture_one M 𝓤 𝓛 mem run κs a g r r' l l' = both 𝓤 (λ p q. (p.next ∙ sym q.next, ap (λ x. (x, l.1)) (p.bytes ∙ sym q.bytes)))
