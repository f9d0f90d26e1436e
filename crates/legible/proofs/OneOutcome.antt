-- The public function's contract allows one outcome.
use Rattle.rule.specs.Outcomes.{OneOutcome}
use Rattle.rule.proofs.Determined.{by_result}
use Rattle.legible.specs.contracts.caption_good as caption-good

pub caption_good_one : OneOutcome caption-good.ended (λ M 𝓤. caption-good.clauses)
caption_good_one M 𝓤 𝓛 mem run κs a g r r' l l' = by_result 𝓤
