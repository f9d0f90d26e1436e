-- The public function's contract allows one outcome.
use Rattle.rule.specs.Outcomes.{OneOutcome}
use Rattle.rule.proofs.Determined.{by_pair}
use Rattle.row.specs.contracts.row as row

pub row_one : OneOutcome row.ended (λ M 𝓤. row.clauses)
row_one M 𝓤 𝓛 mem run κs a g r r' l l' = by_pair 𝓤 (λ x. (l.0, (l.1.0, (x, l.1.1.1))))
