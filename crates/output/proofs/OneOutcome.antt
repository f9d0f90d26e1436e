-- What is printed is determined by the contract: the answer, and every byte of the output.
use mathlib.Core.Path.{sym, ap, ◌∙◌}
use Rattle.rule.specs.Outcomes.{OneOutcome}
use Rattle.rule.proofs.Determined.{both}
use Rattle.output.specs.contracts.put_byte as put_byte
use Rattle.output.specs.contracts.put_decimal as put-decimal

pub put_byte_one : OneOutcome put_byte.ended (λ M 𝓤. put_byte.clauses)
put_byte_one M 𝓤 𝓛 mem run κs a g r r' l l' = both 𝓤 (λ p q. (p.next ∙ sym q.next, ap (λ x. (x, l.1)) (p.bytes ∙ sym q.bytes)))

pub put_decimal_one : OneOutcome put-decimal.ended (λ M 𝓤. put-decimal.clauses)
put_decimal_one M 𝓤 𝓛 mem run κs a g r r' l l' = both 𝓤 (λ p q. (p.next ∙ sym q.next, ap (λ x. (x, l.1)) (p.bytes ∙ sym q.bytes)))
