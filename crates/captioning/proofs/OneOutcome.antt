-- The public function's contract allows one outcome.
use mathlib.Core.Path.{sym, ap, ◌∙◌}
use Rattle.rule.specs.Outcomes.{OneOutcome}
use Rattle.rule.proofs.Determined.{both}
use Rattle.captioning.specs.contracts.put_caption as put-caption

pub put_caption_one : OneOutcome put-caption.ended (λ M 𝓤. put-caption.clauses)
put_caption_one M 𝓤 𝓛 mem run κs a g r r' l l' = both 𝓤 (λ p q. (p.next ∙ sym q.next, ap (λ x. (x, l.1)) (p.bytes ∙ sym q.bytes)))
