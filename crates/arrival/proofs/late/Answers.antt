-- `arrival::late` meets its contract: each return is its case of the arrival.
use mathlib.Core.Path.{◌≡◌}
use mathlib.Core.Bool.{true}
use Rattle.rule.specs.Calls.{checked}
use Rattle.rule.specs.Room.{sound}
use Rattle.rule.proofs.Ruling.{flipped}
use Rattle.arrival.proofs.late.Goals.{Else-not-sound}
use Rattle.arrival.proofs.late.Goals as goal

whole : (c : Else-not-sound) → sound c.args.s c.args.room.now ≡ true
whole c = flipped c.sound.ensures c.if-not-sound.false-raw

pub returns-then-not-sound : goal.returns-then-not-sound
unfolding checked
returns-then-not-sound c v = rw (flipped c.sound.ensures c.if-not-sound.true-raw)

pub returns-then-not-is_late : goal.returns-then-not-is_late
unfolding checked
returns-then-not-is_late c v = rw (whole (goal.at.returns-then-not-is_late c).Else-not-sound, flipped c.is_late.ensures c.if-not-is_late.true-raw)

pub placed-requires : goal.placed-requires
placed-requires c = (whole (goal.at.placed-requires c).Else-not-sound, flipped c.is_late.ensures c.if-not-is_late.false-raw)

pub returns : goal.returns
returns c = c.placed.ensures
