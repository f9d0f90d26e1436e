-- What open, load and the two readings answer: document 01's verdict, case by case.
use Rattle.std.specs.Prelude.{List, ℤ, Ok, Err}
use Rattle.rule.specs.declared.State.{State}
use Rattle.rule.specs.Calls.{Verdict}
use Rattle.trace.specs.declared.Trace.{Trace}

-- accepted: the next state; refused: the refusal, whose number and place are document 01's
unfoldable pub answer : Verdict State → Verdict Trace
answer (Ok s) = Ok (record { state = s })
answer (Err r) = Err r

-- the verdict that an answer is of
unfoldable pub verdict : Verdict Trace → Verdict State
verdict (Ok t) = Ok t.state
verdict (Err r) = Err r

-- the answer, and the room afterwards
abbrev pub answered : Verdict State × List ℤ → Verdict Trace × List ℤ
answered v = (answer v.0, v.1)
