-- `worst::worst` meets its contract: each return is its case of the outcome.
use mathlib.Core.Path.{◌≡◌}
use mathlib.Core.Bool.{true}
use Rattle.rule.specs.Calls.{checked, worst_outcome}
use Rattle.rule.specs.Room.{sound}
use Rattle.rule.proofs.Ruling.{flipped}
use Rattle.rooms.proofs.Sounding.{sound_facts, sound_filled}
use Rattle.worst.proofs.worst.Goals.{Else-not-sound}
use Rattle.worst.proofs.worst.Goals as goal

whole : (c : Else-not-sound) → sound c.args.trace.state c.args.room.now ≡ true
whole c = flipped c.sound.ensures c.if-not-sound.false-raw

pub returns-then-not-sound : goal.returns-then-not-sound
unfolding worst_outcome checked
returns-then-not-sound c = rw (flipped c.sound.ensures c.if-not-sound.true-raw)

pub greatest_error-requires : goal.greatest_error-requires
greatest_error-requires c =
    let a = c.args in
    sound_filled a.trace.state a.room.now (sound_facts a.trace.state a.room.now (whole c))

pub returns : goal.returns
unfolding worst_outcome checked
returns c = rw (whole (goal.at.returns c).Else-not-sound, c.greatest_error.ensures)
