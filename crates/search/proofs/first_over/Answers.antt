-- `search::first_over` meets its contract: each return is its case of the outcome.
use borrow.Author.Tests.{le-leb, lt-leb}
use native.Mathlib.Omega.{arith}
use mathlib.Core.Path.{◌≡◌}
use mathlib.Core.Bool.{true, false}
use lib.Dec.{leb}
use mir.Facts.{to_z-of_z}
use Rattle.over.specs.Search.{search_outcome, sought_of}
use Rattle.rule.specs.Calls.{checked}
use Rattle.rule.specs.Numbers.{ticks}
use Rattle.rule.specs.Room.{sound}
use Rattle.rule.proofs.Ruling.{flipped}
use Rattle.rooms.proofs.Sounding.{sound_facts, sound_filled}
use Rattle.rooms.proofs.Reading.{filled}
use Rattle.search.proofs.first_over.Goals.{Else-first-ge-TICKS, Else-last-ge-TICKS, Else-not-sound}
use Rattle.search.proofs.first_over.Goals as goal

-- past the first test the trace is sound, past the second and the third both ends are in range
whole : (c : Else-not-sound) → sound c.args.trace.state c.args.room.now ≡ true
whole c = flipped c.sound.ensures c.if-not-sound.false-raw

first_in : (c : Else-first-ge-TICKS) → leb ticks c.args.first ≡ false
first_in c = lt-leb ticks c.args.first (omega arith)

last_in : (c : Else-last-ge-TICKS) → leb ticks c.args.last ≡ false
last_in c = lt-leb ticks c.args.last (omega arith)

pub returns-then-not-sound : goal.returns-then-not-sound
unfolding search_outcome sought_of checked
returns-then-not-sound c = rw (flipped c.sound.ensures c.if-not-sound.true-raw)

pub returns-then-first-ge-TICKS : goal.returns-then-first-ge-TICKS
unfolding search_outcome sought_of checked
returns-then-first-ge-TICKS c =
    let a = c.args in
    let above : leb ticks a.first ≡ true = le-leb ticks a.first (omega arith) in
    rw (whole (goal.at.returns-then-first-ge-TICKS c).Else-not-sound, above)

pub returns-then-last-ge-TICKS : goal.returns-then-last-ge-TICKS
unfolding search_outcome sought_of checked
returns-then-last-ge-TICKS c =
    let a = c.args in
    let above : leb ticks a.last ≡ true = le-leb ticks a.last (omega arith) in
    rw (whole (goal.at.returns-then-last-ge-TICKS c).Else-not-sound, first_in (goal.at.returns-then-last-ge-TICKS c).Else-first-ge-TICKS, above)

pub first_hit-requires : goal.first_hit-requires
first_hit-requires c =
    let a = c.args in
    let all = sound_filled a.trace.state a.room.now (sound_facts a.trace.state a.room.now (whole (goal.at.first_hit-requires c).Else-not-sound)) in
    record { slots = λ i h _. filled all i h }

pub returns : goal.returns
unfolding search_outcome sought_of checked
returns c =
    rw (whole (goal.at.returns c).Else-not-sound, first_in (goal.at.returns c).Else-first-ge-TICKS, last_in (goal.at.returns c).Else-last-ge-TICKS) (rw (to_z-of_z c.ranges.bar) at c.first_hit.ensures)
