-- `saved::save` meets its contract: each return is its case of the outcome.
use borrow.Author.Tests.{lt-ltb}
use native.Mathlib.Omega.{arith}
use Prim.Native.Nat.{◌*◌}
use mathlib.Core.Path.{◌≡◌, sym}
use mathlib.Core.Bool.{true}
use lib.ListN.{length}
use Rattle.rule.specs.Numbers.{record_width}
use Rattle.rule.specs.Calls.{checked, write_verdict, wrote}
use Rattle.rule.specs.Room.{sound}
use Rattle.rooms.proofs.Sounding.{sound_facts, sound_filled, used_needed}
use Rattle.rooms.proofs.Bounds.{needed_small}
use Rattle.rule.proofs.Ruling.{flipped}
use Rattle.storage.proofs.Filing.{save_writes}
use Rattle.saved.proofs.save.Goals.{Else-not-sound}
use Rattle.saved.proofs.save.Goals as goal

whole : (c : Else-not-sound) → sound c.args.trace.state c.args.room.now ≡ true
whole c = flipped c.sound.ensures c.if-not-sound.false-raw

pub returns-then-not-sound : goal.returns-then-not-sound
unfolding write_verdict checked wrote
returns-then-not-sound c = rw (flipped c.sound.ensures c.if-not-sound.true-raw)

pub overflow_mul-s : goal.overflow_mul-s
overflow_mul-s c =
    let a = c.args in
    let f = sound_facts a.trace.state a.room.now (whole (goal.at.overflow_mul-s c).Else-not-sound) in
    omega (arith, used_needed a.trace.state a.room.now f, needed_small a.trace.state.settings f.good_base f.good_gaps)

pub returns-then-out-s : goal.returns-then-out-s
unfolding write_verdict checked wrote
returns-then-out-s c =
    let a = c.args in
    rw (whole (goal.at.returns-then-out-s c).Else-not-sound, lt-ltb (length a.out.now) (record_width * a.trace.state.used) c.if-out-s.true)

pub save_slots-requires : goal.save_slots-requires
save_slots-requires c =
    let a = c.args in
    (sound_filled a.trace.state a.room.now (sound_facts a.trace.state a.room.now (whole (goal.at.save_slots-requires c).Else-not-sound)), c.if-out-s.false)

pub returns : goal.returns
returns c =
    let a = c.args in
    rw c.save_slots.ensures (sym (save_writes a.trace.state a.room.now a.out.now (whole (goal.at.returns c).Else-not-sound) c.if-out-s.false))
