-- `arrival::next` meets its contract: each return is its case of the arrival.
use mathlib.Core.Path.{◌≡◌, sym, ◌∙◌}
use mathlib.Core.Bool.{true, false}
use Rattle.rule.specs.Calls.{checked, late}
use Rattle.rule.specs.Room.{sound}
use Rattle.rule.proofs.Ruling.{flipped}
use Rattle.arrival.proofs.next.Goals.{Else-is_late, Else-not-sound}
use Rattle.arrival.proofs.next.Goals as goal

-- past the first test the trace is sound, past the second it is in order
whole : (c : Else-not-sound) → sound c.args.s c.args.room.now ≡ true
whole c = flipped c.sound.ensures c.if-not-sound.false-raw

in_order : (c : Else-is_late) → late c.args.s.settings.kind ≡ false
in_order c = sym c.is_late.ensures ∙ c.if-is_late.false

pub returns-then-not-sound : goal.returns-then-not-sound
unfolding checked
returns-then-not-sound c = rw (flipped c.sound.ensures c.if-not-sound.true-raw)

pub returns-then-is_late : goal.returns-then-is_late
unfolding checked
returns-then-is_late c = rw (whole (goal.at.returns-then-is_late c).Else-not-sound, sym c.is_late.ensures ∙ c.if-is_late.true)

pub following-requires : goal.following-requires
following-requires c = (whole (goal.at.following-requires c).Else-not-sound, in_order c)

pub returns : goal.returns
returns c = c.following.ensures
