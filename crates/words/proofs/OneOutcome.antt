-- Each public function's contract allows one outcome.
use mathlib.Core.Path.{refl, sym, ap, ◌∙◌}
use Rattle.rule.specs.Outcomes.{OneOutcome}
use Rattle.rule.proofs.Determined.{both, by_result}
use Rattle.words.specs.contracts.word as word
use Rattle.words.specs.contracts.put_word as put_word
use Rattle.words.specs.contracts.reading as reading
use Rattle.words.specs.contracts.bits as bits

pub word_one : OneOutcome word.ended (λ M 𝓤. word.clauses)
word_one M 𝓤 𝓛 mem run κs a g r r' l l' = by_result 𝓤

pub put_word_one : OneOutcome put_word.ended (λ M 𝓤. put_word.clauses)
put_word_one M 𝓤 𝓛 mem run κs a g r r' l l' = both 𝓤 (λ p q. (refl, ap (λ x. (x, l.1)) (p ∙ sym q)))

pub reading_one : OneOutcome reading.ended (λ M 𝓤. reading.clauses)
reading_one M 𝓤 𝓛 mem run κs a g r r' l l' = by_result 𝓤

pub bits_one : OneOutcome bits.ended (λ M 𝓤. bits.clauses)
bits_one M 𝓤 𝓛 mem run κs a g r r' l l' = by_result 𝓤
