-- `row::written` meets its contract: each return is its case of the answer.
use borrow.Author.Tests.{le-ltb, lt-ltb}
use mathlib.Core.Path.{◌≡◌}
use mathlib.Core.Bool.{true}
use Rattle.rule.specs.Calls.{checked, write_verdict}
use Rattle.rule.specs.Room.{sound}
use Rattle.rooms.proofs.Laying.{length_slots}
use Rattle.rule.proofs.Ruling.{flipped}
use Rattle.row.specs.Answers.{answer}
use Rattle.row.proofs.written.Goals.{Else-not-sound}
use Rattle.row.proofs.written.Goals as goal

whole : (c : Else-not-sound) → sound c.args.trace.state c.args.room.now ≡ true
whole c = flipped c.sound.ensures c.if-not-sound.false-raw

pub returns-then-not-sound : goal.returns-then-not-sound
unfolding answer write_verdict checked
returns-then-not-sound c = rw (flipped c.sound.ensures c.if-not-sound.true-raw)

pub returns-then-places-s : goal.returns-then-places-s
unfolding answer write_verdict checked
returns-then-places-s c = rw (whole (goal.at.returns-then-places-s c).Else-not-sound, lt-ltb _ _ c.if-places-s.true)

pub returns : goal.returns
unfolding answer write_verdict checked
returns c =
    let a = c.args in
    rw (whole (goal.at.returns c).Else-not-sound, le-ltb _ _ c.if-places-s.false, length_slots a.room.now 0 a.trace.state.used)
