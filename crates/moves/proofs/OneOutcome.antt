-- Each public function's contract allows one outcome.
use mathlib.Core.Path.{refl, sym, ap, ◌∙◌}
use Rattle.rule.specs.Outcomes.{OneOutcome}
use Rattle.rule.proofs.Determined.{both}
use Rattle.moves.specs.contracts.clear as clear
use Rattle.moves.specs.contracts.down as down
use Rattle.moves.specs.contracts.insert as insert
use Rattle.moves.specs.contracts.up as up

pub clear_one : OneOutcome clear.ended (λ M 𝓤. clear.clauses)
clear_one M 𝓤 𝓛 mem run κs a g r r' l l' = both 𝓤 (λ p q. (refl, ap (λ x. (x, l.1)) (p ∙ sym q)))

pub down_one : OneOutcome down.ended (λ M 𝓤. down.clauses)
down_one M 𝓤 𝓛 mem run κs a g r r' l l' = both 𝓤 (λ p q. (refl, ap (λ x. (x, l.1)) (p ∙ sym q)))

pub up_one : OneOutcome up.ended (λ M 𝓤. up.clauses)
up_one M 𝓤 𝓛 mem run κs a g r r' l l' = both 𝓤 (λ p q. (refl, ap (λ x. (x, l.1)) (p ∙ sym q)))

pub insert_one : OneOutcome insert.ended (λ M 𝓤. insert.clauses)
insert_one M 𝓤 𝓛 mem run κs a g r r' l l' = both 𝓤 (λ p q. (refl, ap (λ x. (x, l.1)) (p ∙ sym q)))
