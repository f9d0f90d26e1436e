-- The public function's contract allows one outcome: the answer, and every byte of the output.
use mathlib.Core.Path.{sym, ap, ◌∙◌}
use Rattle.rule.specs.Outcomes.{OneOutcome}
use Rattle.rule.proofs.Determined.{both}
use Rattle.wording.specs.contracts.put_text as put-text

pub put_text_one : OneOutcome put-text.ended (λ M 𝓤. put-text.clauses)
put_text_one M 𝓤 𝓛 mem run κs a g r r' l l' = both 𝓤 (λ p q. (p.next ∙ sym q.next, ap (λ x. (x, l.1)) (p.bytes ∙ sym q.bytes)))
