-- What a reading comes to once it is known where it goes, and what is asked for that.
use Rattle.std.specs.Prelude.{List, ℤ, Ok, Err}
use Rattle.rule.specs.declared.State.{State}
use Rattle.rule.specs.Calls.{Verdict}
use Rattle.rule.specs.Room.{table_of}
use Rattle.rule.specs.Table.{Table, accept}
use Rattle.rooms.specs.Steps.{Ready}
use Rattle.arrival.specs.declared.Arrival.{Arrival}

unfoldable pub taken : State → List ℤ → ℤ → Verdict Arrival → Verdict Table
taken s l v (Err r) = Err r
taken s l v (Ok a) = Ok (accept s.settings (table_of s l) a.tick v)

unfoldable pub Arrives : State → List ℤ → ℤ → Verdict Arrival → Type 0
Arrives s l v (Err r) = Unit {0}
Arrives s l v (Ok a) = Ready s l a.at a.runs a.tick v
