-- Each exported function's contract allows one outcome.
use Rattle.rule.specs.Outcomes.{OneOutcome}
use Rattle.rule.proofs.Determined.{by_pair}
use Rattle.c_file.specs.contracts.ndz_save as save
use Rattle.c_file.specs.contracts.ndz_load as load

pub save_one : OneOutcome save.ended (λ M 𝓤. save.clauses)
save_one M 𝓤 𝓛 mem run κs a g r r' l l' = by_pair 𝓤 (λ x. (l.0, (l.1.0, (x, l.1.1.1))))

pub load_one : OneOutcome load.ended (λ M 𝓤. load.clauses)
load_one M 𝓤 𝓛 mem run κs a g r r' l l' = by_pair 𝓤 (λ x. (l.0, (l.1.0, (x, l.1.1.1))))
