-- An answer is of the verdict that it answers.
use mathlib.Core.Path.{◌≡◌, refl, sym, ap, ◌∙◌}
use mathlib.Core.List.{List}
use lib.IntN.{ℤ}
use Rattle.rule.specs.declared.State.{State}
use Rattle.rule.specs.Calls.{Verdict}
use Rattle.trace.specs.Answers.{answer, answered, verdict}
use Rattle.trace.specs.declared.Trace.{Trace}
use Rattle.std.specs.Prelude.{Ok, Err}

pub verdict_answer : (v : Verdict State) → verdict (answer v) ≡ v
unfolding verdict answer
verdict_answer (Err r) = refl
verdict_answer (Ok s) = refl

-- the outcome that an answer is of
pub outcome_of : {a : Verdict Trace} {m : List ℤ} (o : Verdict State × List ℤ) → (a, m) ≡ answered o → o ≡ (verdict a, m)
outcome_of o e = sym (ap (λ (x : Verdict Trace × List ℤ). (verdict x.0, x.1)) e ∙ ap (λ (v : Verdict State). (v, o.1)) (verdict_answer o.0))
