-- `lookup::lookup` meets its contract: each return is its case of the outcome.
use borrow.Author.Tests.{le-leb, lt-leb}
use native.Mathlib.Omega.{arith}
use mathlib.Core.Path.{◌≡◌}
use mathlib.Core.Bool.{Bool, true, false, not}
use lib.Dec.{leb}
use Rattle.rule.specs.Calls.{checked, found, found_of, is_held, lookup_outcome}
use Rattle.rule.specs.Numbers.{ticks}
use Rattle.rule.specs.Room.{sound, table_of}
use Rattle.rule.specs.Table.{holding}
use Rattle.rooms.specs.Steps.{Placed}
use Rattle.rooms.proofs.Placing.{filled_before}
use Rattle.rooms.proofs.Reading.{filled}
use Rattle.rooms.proofs.Sounding.{sound_facts, sound_filled}
use Rattle.rule.proofs.Ruling.{flipped}
use Rattle.rooms.proofs.Finding.{before_holds, not_held, past_first, sound_placed}
use Rattle.lookup.proofs.lookup.Goals.{After-find-at, After-held, Else-not-sound, Else-tick-ge-TICKS}
use Rattle.lookup.proofs.lookup.Goals as goal

-- past the first test the trace is sound, past the second the tick is in range
whole : (c : Else-not-sound) → sound c.args.s c.args.room.now ≡ true
whole c = flipped c.sound.ensures c.if-not-sound.false-raw

-- past the first test the trace is sound, past the second the tick is in range
whole_after_find_at : (c : After-find-at) → sound c.args.s c.args.room.now ≡ true
whole_after_find_at c = flipped c.sound.ensures c.if-not-sound.false-raw

in_range : (c : Else-tick-ge-TICKS) → leb ticks c.args.tick ≡ false
in_range c = lt-leb ticks c.args.tick (omega arith)

placed : (c : After-find-at)
    → let a = c.args in Placed a.room.now a.s.used c.find-at.result a.tick
placed c =
    let a = c.args in
    sound_placed a.s a.room.now c.find-at.result a.tick (whole_after_find_at c) c.find-at.ensures

-- what the third test tells
told : (c : After-held) {v : Bool} → not c.held.result ≡ v
    → let a = c.args in is_held (holding a.tick (table_of a.s a.room.now)) ≡ not v
told c = flipped c.held.ensures

pub returns-then-not-sound : goal.returns-then-not-sound
unfolding lookup_outcome checked found_of
returns-then-not-sound c = rw (flipped c.sound.ensures c.if-not-sound.true-raw)

pub returns-then-tick-ge-TICKS : goal.returns-then-tick-ge-TICKS
unfolding lookup_outcome checked found_of
returns-then-tick-ge-TICKS c = rw (whole (goal.at.returns-then-tick-ge-TICKS c).Else-not-sound, le-leb ticks c.args.tick c.if-tick-ge-TICKS.true)

pub find-at-requires : goal.find-at-requires
find-at-requires c =
    let a = c.args in
    sound_filled a.s a.room.now (sound_facts a.s a.room.now (whole (goal.at.find-at-requires c).Else-not-sound))

pub returns-then-not-held : goal.returns-then-not-held
unfolding lookup_outcome checked found_of found
returns-then-not-held c =
    rw (whole (goal.at.returns-then-not-held c).Else-not-sound, in_range (goal.at.returns-then-not-held c).Else-tick-ge-TICKS, not_held _ (told (goal.at.returns-then-not-held c).After-held c.if-not-held.true-raw))

pub read-requires : goal.read-requires
read-requires c =
    let w = placed (goal.at.read-requires c).After-find-at in
    filled (filled_before w) _ (omega (arith, past_first w (told (goal.at.read-requires c).After-held c.if-not-held.false-raw)))

pub returns : goal.returns
unfolding lookup_outcome checked found_of
returns c =
    rw (c.found_in.ensures, c.read.ensures, whole (goal.at.returns c).Else-not-sound, in_range (goal.at.returns c).Else-tick-ge-TICKS, before_holds (placed (goal.at.returns c).After-find-at) (told (goal.at.returns c).After-held c.if-not-held.false-raw))

pub held-requires : goal.held-requires
held-requires c = placed c

pub overflow_sub-at : goal.overflow_sub-at
overflow_sub-at c = omega (arith, past_first (placed (goal.at.overflow_sub-at c).After-find-at) (told (goal.at.overflow_sub-at c).After-held c.if-not-held.false-raw))
