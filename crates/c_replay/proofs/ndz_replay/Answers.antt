-- `c_replay::ndz_replay` meets its contract: what the call ensures, as plain fields.
use mathlib.Core.Path.{ap}
use mathlib.Core.List.{List}
use lib.IntN.{ℤ}
use Rattle.plain.specs.Plain.{recounting}
use Rattle.c_replay.proofs.ndz_replay.Goals as goal
use Rattle.rule.specs.Calls.{Verdict}
use Rattle.course.specs.declared.Fed.{Fed}

pub returns : goal.returns
returns c = rw c.recounting.ensures (ap (λ (x : Verdict Fed × List ℤ). (recounting x.0, x.1)) (rw c.opening_of-opening.ensures at c.replay.ensures))
