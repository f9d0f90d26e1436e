-- `loaded::load_slots` meets its contract. The loop's invariant: the first `i` records are loaded, the rest is as it was.
use Prim.Native.Nat.{◌-◌}
use mathlib.Core.Path.{◌≡◌, refl, ap, ◌∙◌}
use native.Mathlib.Omega.{arith}
use native.Mathlib.Numerals.{add-one}
use Rattle.rule.specs.Bytes.{records}
use Rattle.rule.specs.Room.{flat}
use Rattle.storage.proofs.Filing.{loaded_length, loaded_next, loaded_up_to}
use Rattle.loaded.proofs.load_slots.Goals as goal

pub loop-i-init : goal.loop-i-init
unfolding flat records
loop-i-init c = refl

pub write-requires : goal.write-requires
write-requires c =
    let a = c.args in
    let loop = c.loop-i in
    omega (arith, loaded_length a.file.now a.room.now loop.i loop.room (omega arith) loop.invariant)

pub loop-i-preserved : goal.loop-i-preserved
loop-i-preserved c =
    let loop = c.loop-i in
    let a = c.args in
    rw (c.write.ensures, c.read.ensures, loop.invariant, add-one loop.i) (loaded_next a.file.now a.room.now loop.i)

pub shape_of-room : goal.shape_of-room
shape_of-room c =
    let a = c.args in
    let loop = c.loop-i in
    loaded_length a.file.now a.room.now loop.i loop.room (omega arith) loop.invariant

pub returns : goal.returns
returns c =
    let a = c.args in
    let all : c.loop-i.i ≡ a.count = omega arith in
    c.loop-i.invariant ∙ ap (loaded_up_to a.file.now a.room.now) all
