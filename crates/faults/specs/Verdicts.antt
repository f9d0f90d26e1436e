-- The answer of load's inner check: document 01's verdict, case by case.
use Rattle.rule.specs.Calls.{Verdict}
use Rattle.rule.specs.Table.{Table, readings, runs}
use Rattle.std.specs.Prelude.{Ok, Err}
use Rattle.faults.specs.declared.Contents.{Contents}

-- a file that loads: its runs and readings
unfoldable pub inspection : Verdict Table → Verdict Contents
inspection (Err r) = Err r
inspection (Ok t) = Ok (record { runs = runs t; readings = readings t })
