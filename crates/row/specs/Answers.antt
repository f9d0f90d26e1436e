-- What the row answers where the output has so many places, and the output while it is written.
use Rattle.std.specs.Prelude.{ℕ, List, ◌++◌, ℤ, length, drop, Ok, Err}
use Rattle.rule.specs.declared.State.{State}
use Rattle.rule.specs.Calls.{Verdict, write_verdict}
use Rattle.rule.specs.Room.{slots}
use Rattle.rule.specs.Table.{Table}

-- the refusal, or the number of buckets
unfoldable pub answer : Verdict Table → Verdict ℕ
answer (Err r) = Err r
answer (Ok t) = Ok (length t)

-- the row's answer does not depend on what the output holds
abbrev pub row_answer : State → List ℤ → ℕ → Verdict ℕ
row_answer s l places = answer (write_verdict s l s.used places)

-- how many buckets are written
unfoldable pub number : Verdict ℕ → ℕ
number (Ok n) = n
number (Err r) = 0

-- the output with the buckets of the first i slots in its first places
abbrev pub up_to : List ℤ → ℕ → Table → Table
up_to l i out = slots l 0 i ++ drop i out
