-- `arrival::following` meets its contract: each return is its case of the arrival.
use borrow.Author.Tests.{le-leb, lt-leb}
use Rattle.rule.specs.Calls.{checked}
use Rattle.rule.specs.Numbers.{ticks}
use Rattle.rooms.proofs.Sounding.{sound_facts, sound_filled}
use Rattle.arrival.proofs.following.Goals as goal

pub next_tick-tick-requires : goal.next_tick-tick-requires
next_tick-tick-requires c = sound_filled c.args.s c.args.room.now (sound_facts c.args.s c.args.room.now c.requires.0)

pub returns-then-tick-ge-TICKS : goal.returns-then-tick-ge-TICKS
unfolding checked
returns-then-tick-ge-TICKS c = rw (c.requires.0, c.requires.1, ← c.next_tick-tick.ensures, le-leb ticks c.next_tick-tick.result c.if-tick-ge-TICKS.true)

pub returns : goal.returns
unfolding checked
returns c = rw (c.requires.0, c.requires.1, ← c.next_tick-tick.ensures, lt-leb ticks c.next_tick-tick.result c.if-tick-ge-TICKS.false)
