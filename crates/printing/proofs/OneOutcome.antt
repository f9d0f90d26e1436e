-- Each public function's contract allows one outcome.
use mathlib.Core.Path.{sym, ap, ◌∙◌}
use Rattle.rule.specs.Outcomes.{OneOutcome}
use Rattle.rule.proofs.Determined.{both}
use Rattle.printing.specs.contracts.put_row as put-row
use Rattle.printing.specs.contracts.put_total as put-total
use Rattle.printing.specs.contracts.put_refused as Put-refused

pub put_row_one : OneOutcome put-row.ended (λ M 𝓤. put-row.clauses)
put_row_one M 𝓤 𝓛 mem run κs a g r r' l l' = both 𝓤 (λ p q. (p.next ∙ sym q.next, ap (λ x. (x, l.1)) (p.bytes ∙ sym q.bytes)))

pub put_total_one : OneOutcome put-total.ended (λ M 𝓤. put-total.clauses)
put_total_one M 𝓤 𝓛 mem run κs a g r r' l l' = both 𝓤 (λ p q. (p.next ∙ sym q.next, ap (λ x. (x, l.1)) (p.bytes ∙ sym q.bytes)))

pub put_refused_one : OneOutcome Put-refused.ended (λ M 𝓤. Put-refused.clauses)
put_refused_one M 𝓤 𝓛 mem run κs a g r r' l l' = both 𝓤 (λ p q. (p.next ∙ sym q.next, ap (λ x. (x, l.1)) (p.bytes ∙ sym q.bytes)))
