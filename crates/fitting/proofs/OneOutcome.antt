-- Each public function's contract allows one outcome.
use Rattle.rule.specs.Outcomes.{OneOutcome}
use Rattle.rule.proofs.Determined.{by_pair, by_result}
use Rattle.fitting.specs.contracts.fits as fits
use Rattle.fitting.specs.contracts.line_taken as line_Taken

pub fits_one : OneOutcome fits.ended (λ M 𝓤. fits.clauses)
fits_one M 𝓤 𝓛 mem run κs a g r r' l l' = by_result 𝓤

pub line_taken_one : OneOutcome line_Taken.ended (λ M 𝓤. line_Taken.clauses)
line_taken_one M 𝓤 𝓛 mem run κs a g r r' l l' = by_pair 𝓤 (λ x. (l.0, (x, l.1.1)))
