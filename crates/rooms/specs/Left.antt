-- What a call leaves: after an accepted one the trace is sound, so a caller who hands back what the last call left never meets refusal 4.
use Rattle.std.specs.Prelude.{◌≡◌, true, List, ℤ, Ok, Err}
use Rattle.rule.specs.declared.State.{State}
use Rattle.rule.specs.Calls.{Verdict}
use Rattle.rule.specs.Room.{sound}

unfoldable pub LeftBy : Verdict State → List ℤ → Type 0
LeftBy (Err r) l = Unit {0}
LeftBy (Ok s) l = sound s l ≡ true

-- of an outcome
abbrev pub LeavesSound : Verdict State × List ℤ → Type 0
LeavesSound o = LeftBy o.0 o.1
