-- Each public function's contract allows one outcome.
use Rattle.rule.specs.Outcomes.{OneOutcome}
use Rattle.rule.proofs.Determined.{both}
use Rattle.lending.proofs.Reading.{same}
use Rattle.tally.specs.contracts.next as next
use Rattle.tally.specs.contracts.late as late

pub next_one : OneOutcome next.ended (λ M 𝓤. next.clauses)
next_one M 𝓤 𝓛 mem run κs a g r r' l l' = both 𝓤 (λ p q. let e = same a.1.1.1.0.now a.0.state.used p q in (e.answer, λ i. (l.0, (e.room i, (l.1.1.0, (e.tally i, l.1.1.1.1))))))

pub late_one : OneOutcome late.ended (λ M 𝓤. late.clauses)
late_one M 𝓤 𝓛 mem run κs a g r r' l l' = both 𝓤 (λ p q. let e = same a.1.1.1.1.0.now a.0.state.used p q in (e.answer, λ i. (l.0, (e.room i, (l.1.1.0, (l.1.1.1.0, (e.tally i, l.1.1.1.1.1)))))))
