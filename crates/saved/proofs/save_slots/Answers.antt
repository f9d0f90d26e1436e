-- `saved::save_slots` meets its contract. The loop's invariant: the first `i` buckets are saved, the rest is as it was.
use Prim.Native.Nat.{◌-◌}
use mathlib.Core.Path.{◌≡◌, refl, ap, ◌∙◌}
use native.Mathlib.Omega.{arith}
use native.Mathlib.Numerals.{add-one}
use Rattle.rule.specs.Bytes.{saved}
use Rattle.rule.specs.Room.{slots}
use Rattle.rooms.proofs.Reading.{filled}
use Rattle.storage.proofs.Filing.{saved_length, saved_next, saved_up_to}
use Rattle.saved.proofs.save_slots.Goals as goal

pub loop-i-init : goal.loop-i-init
unfolding saved slots
loop-i-init c = refl

pub write-requires : goal.write-requires
write-requires c =
    let a = c.args in
    let loop = c.loop-i in
    omega (arith, saved_length a.room.now a.out.now loop.i loop.out (omega arith) loop.invariant)

pub loop-i-preserved : goal.loop-i-preserved
loop-i-preserved c =
    let loop = c.loop-i in
    let a = c.args in
    rw (c.write.ensures, c.read.ensures, loop.invariant, add-one loop.i) (saved_next a.room.now a.out.now loop.i)

pub shape_of-out : goal.shape_of-out
shape_of-out c =
    let a = c.args in
    let loop = c.loop-i in
    saved_length a.room.now a.out.now loop.i loop.out (omega arith) loop.invariant

pub returns : goal.returns
returns c =
    let a = c.args in
    let all : c.loop-i.i ≡ a.used = omega arith in
    c.loop-i.invariant ∙ ap (saved_up_to a.room.now a.out.now) all

pub read-requires : goal.read-requires
read-requires c = filled c.requires.0 c.loop-i.i (omega arith)
