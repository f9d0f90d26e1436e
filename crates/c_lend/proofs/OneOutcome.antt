-- Each exported function's contract allows one outcome.
use mathlib.Core.Path.{sym, ◌∙◌}
use Rattle.rule.specs.Outcomes.{OneOutcome}
use Rattle.rule.proofs.Determined.{both, by_pair}
use Rattle.c_lend.specs.contracts.ndz_next_tallied as next-tallied
use Rattle.c_lend.specs.contracts.ndz_late_tallied as late_tallied
use Rattle.c_lend.specs.contracts.ndz_row as row

pub next_tallied_one : OneOutcome next-tallied.ended (λ M 𝓤. next-tallied.clauses)
next_tallied_one M 𝓤 𝓛 mem run κs a g r r' l l' = both 𝓤 (λ p q. let e = p.0 ∙ sym q.0 in let d = p.1 ∙ sym q.1 in (λ i. (e i).0, λ i. (l.0, ((e i).1, (l.1.1.0, (d i, l.1.1.1.1))))))

pub late_tallied_one : OneOutcome late_tallied.ended (λ M 𝓤. late_tallied.clauses)
late_tallied_one M 𝓤 𝓛 mem run κs a g r r' l l' = both 𝓤 (λ p q. let e = p.0 ∙ sym q.0 in let d = p.1 ∙ sym q.1 in (λ i. (e i).0, λ i. (l.0, ((e i).1, (l.1.1.0, (l.1.1.1.0, (d i, l.1.1.1.1.1)))))))

pub row_one : OneOutcome row.ended (λ M 𝓤. row.clauses)
row_one M 𝓤 𝓛 mem run κs a g r r' l l' = by_pair 𝓤 (λ x. (l.0, (l.1.0, (x, l.1.1.1))))
