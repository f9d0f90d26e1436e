-- The number and the place of each refusal.
use Rattle.std.specs.Prelude.{ℕ}
use Rattle.rule.specs.declared.Refusal.{Refusal}
use Rattle.rule.specs.declared.Refusal.TheVariants.{Steps, Gaps, Room, Unsound, Kind, Tick, Length, Record, Runs, Overfull, Taken, Absent, Short, Line, Caption, Edition}

abbrev pub number : Refusal → ℕ
number Steps = 1
number Gaps = 2
number Room = 3
number Unsound = 4
number Kind = 5
number Tick = 6
number Length = 7
number (Record i) = 8
number Runs = 9
number Overfull = 10
number Taken = 11
number Absent = 12
number Short = 13
number Line = 14
number Caption = 15
number Edition = 16

-- 0 but for the index of a record that breaks a rule
abbrev pub place : Refusal → ℕ
place Steps = 0
place Gaps = 0
place Room = 0
place Unsound = 0
place Kind = 0
place Tick = 0
place Length = 0
place (Record i) = i
place Runs = 0
place Overfull = 0
place Taken = 0
place Absent = 0
place Short = 0
place Line = 0
place Caption = 0
place Edition = 0
