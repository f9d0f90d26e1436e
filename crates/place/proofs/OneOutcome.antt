-- Each public function's contract allows one outcome.
use mathlib.Core.Path.{refl}
use native.Mathlib.Omega.{arith}
use lib.IntN.{pos}
use Rattle.rule.specs.Outcomes.{OneOutcome}
use Rattle.rule.proofs.Determined.{both, by_result}
use Rattle.place.specs.contracts.find as find
use Rattle.place.specs.contracts.held as held
use Rattle.place.specs.contracts.joins as joins

pub find_one : OneOutcome find.ended (λ M 𝓤. find.clauses)
find_one M 𝓤 𝓛 mem run κs a g r r' l l' = by_result 𝓤

pub held_one : OneOutcome held.ended (λ M 𝓤. held.clauses)
held_one M 𝓤 𝓛 mem run κs a g r r' l l' = by_result 𝓤

pub joins_one : OneOutcome joins.ended (λ M 𝓤. joins.clauses)
joins_one M 𝓤 𝓛 mem run κs a g r r' l l' = both 𝓤 (λ p q. (omega (arith, p (pos 0), q (pos 0)), refl))
