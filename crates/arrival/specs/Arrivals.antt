-- A reading's refusal, by document 01's tests, or where it goes: its place among the buckets, the runs there are with it, its tick.
use Rattle.std.specs.Prelude.{List, ℤ, ℕ, Ok}
use Rattle.rule.specs.declared.State.{State}
use Rattle.rule.specs.Calls.{Verdict, checked, late_checks, next_checks}
use Rattle.rule.specs.Room.{table_of}
use Rattle.rule.specs.Table.{next_tick, runs}
use Rattle.rooms.specs.Steps.{position, with}
use Rattle.arrival.specs.declared.Arrival.{Arrival}

-- in order the reading goes behind the buckets, which are one run with it
abbrev pub next_arrival : State → List ℤ → Verdict Arrival
next_arrival s l = checked (next_checks s l) (Ok (record { at = s.used; runs = 1; tick = next_tick (table_of s l) }))

abbrev pub late_arrival : State → List ℤ → ℕ → ℤ → Verdict Arrival
late_arrival s l tick v = checked (late_checks s l tick v) (Ok (record { at = position tick (table_of s l); runs = runs (with s l tick v); tick = tick }))
