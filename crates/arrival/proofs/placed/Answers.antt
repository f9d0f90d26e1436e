-- `arrival::placed` meets its contract: each return is its case of the arrival.
use borrow.Author.Tests.{le-leb, le-ltb, lt-leb, lt-ltb}
use native.Mathlib.Omega.{arith}
use Prim.Native.Nat.{◌+◌, ◌-◌}
use mathlib.Core.Path.{◌≡◌, sym, ◌∙◌}
use mathlib.Core.Bool.{false}
use lib.IntN.{ℤ, pos}
use Rattle.rule.specs.Calls.{checked, is_held}
use Rattle.rule.specs.Numbers.{ticks}
use Rattle.rule.specs.Room.{table_of}
use Rattle.rule.specs.Table.{holding, runs}
use Rattle.rooms.specs.Steps.{Placed, with}
use Rattle.rooms.proofs.Arriving.{Passed, late_filled, late_free, late_joins, late_left, late_placed, late_runs, late_truth}
use Rattle.arrival.proofs.placed.Goals.{After-find-at, After-joins, Else-held, Else-tick-ge-TICKS}
use Rattle.arrival.proofs.placed.Goals as goal

passed : (c : Else-tick-ge-TICKS) → Passed c.args.s c.args.room.now c.args.tick
passed c = record { fit = c.requires.0; kind = c.requires.1; small = omega (arith, c.if-tick-ge-TICKS.false) }

passed_after_joins : (c : After-joins) → Passed c.args.s c.args.room.now c.args.tick
passed_after_joins c = record { fit = c.requires.0; kind = c.requires.1; small = omega (arith, c.if-tick-ge-TICKS.false) }

passed_after_find_at : (c : After-find-at) → Passed c.args.s c.args.room.now c.args.tick
passed_after_find_at c = record { fit = c.requires.0; kind = c.requires.1; small = omega (arith, c.if-tick-ge-TICKS.false) }

found : (c : After-find-at) → Placed c.args.room.now c.args.s.used c.find-at.result c.args.tick
found c = late_placed (passed_after_find_at c) c.find-at.ensures

free : (c : Else-held) → is_held (holding c.args.tick (table_of c.args.s c.args.room.now)) ≡ false
free c = sym c.held.ensures ∙ c.if-held.false

truth : (c : After-joins) (v : ℤ) → c.args.s.runs + 1 - c.joins.result ≡ runs (with c.args.s c.args.room.now c.args.tick v)
truth c = late_truth (passed_after_joins c) c.joins.result c.joins.ensures

pub returns-then-tick-ge-TICKS : goal.returns-then-tick-ge-TICKS
unfolding checked
returns-then-tick-ge-TICKS c v = rw (c.requires.0, c.requires.1, le-leb ticks _ c.if-tick-ge-TICKS.true)

pub returns-then-held : goal.returns-then-held
unfolding checked
returns-then-held c v =
    let p = passed (goal.at.returns-then-held c).Else-tick-ge-TICKS in
    rw (p.fit, p.kind, lt-leb ticks _ p.small, sym c.held.ensures ∙ c.if-held.true)

pub joins-requires : goal.joins-requires
joins-requires c = (found (goal.at.joins-requires c).After-find-at, late_free (passed (goal.at.joins-requires c).Else-tick-ge-TICKS) (free (goal.at.joins-requires c).Else-held))

pub overflow_sub-runs : goal.overflow_sub-runs
overflow_sub-runs c = late_joins (passed (goal.at.overflow_sub-runs c).Else-tick-ge-TICKS) c.joins.result c.joins.ensures (pos 0)

pub returns-then-settings-runs : goal.returns-then-settings-runs
unfolding checked
returns-then-settings-runs c v =
    let s = c.args.s in
    rw (late_left (passed (goal.at.returns-then-settings-runs c).Else-tick-ge-TICKS) (free (goal.at.returns-then-settings-runs c).Else-held) v, ← truth (goal.at.returns-then-settings-runs c).After-joins v, lt-ltb s.settings.gaps (s.runs + 1 - c.joins.result) c.if-settings-runs.true)

pub returns : goal.returns
unfolding checked
returns c v =
    let s = c.args.s in
    rw (late_left (passed (goal.at.returns c).Else-tick-ge-TICKS) (free (goal.at.returns c).Else-held) v, ← truth (goal.at.returns c).After-joins v, le-ltb s.settings.gaps (s.runs + 1 - c.joins.result) c.if-settings-runs.false, ← c.find-at.ensures)

pub find-at-requires : goal.find-at-requires
find-at-requires c = late_filled (passed c)

pub held-requires : goal.held-requires
held-requires c = found c

pub overflow_add-runs : goal.overflow_add-runs
overflow_add-runs c = omega (arith, late_runs (passed (goal.at.overflow_add-runs c).Else-tick-ge-TICKS))
