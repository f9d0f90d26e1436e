-- `search::first_hit` meets its contract: while none that was passed is over, what is found from here on is what is found in all.
use mathlib.Core.Path.{◌≡◌, sym}
use mathlib.Core.Bool.{Bool}
use native.Mathlib.Omega.{arith}
use mir.Syntax.{w32}
use mir.Val.{of_z, to_z}
use mir.Facts.{to_z-of_z}
use Rattle.over.specs.Search.{over, sought}
use Rattle.rule.specs.Room.{slot}
use Rattle.search.proofs.Passing.{passed_end, passed_next, passed_start, passed_stop}
use Rattle.search.proofs.first_hit.Goals.{After-over}
use Rattle.search.proofs.first_hit.Goals as goal

pub read-b-requires : goal.read-b-requires
read-b-requires c =
    c.requires.slots c.loop-i.i c.loop-i-test.true (rw (to_z-of_z c.ranges.bar) at c.loop-i.invariant.none_yet)

-- what the turn's test told of the slot
told : (c : After-over) {v : Bool} → c.over.result ≡ v
    → let a = c.args in over a.first a.last (to_z w32 (of_z w32 a.bar)) (slot a.room.now c.loop-i.i) ≡ v
told c e = sym (rw (c.read-b.ensures, e) at c.over.ensures)

pub returns-then-over : goal.returns-then-over
unfolding sought
returns-then-over c =
    let a = c.args in
    let hit = passed_stop a.first a.last (to_z w32 (of_z w32 a.bar)) a.room.now a.used c.loop-i.invariant c.loop-i-test.true (told (goal.at.returns-then-over c).After-over c.if-over.true) in
    rw (c.read-b.ensures, rw (to_z-of_z c.ranges.bar) at hit)

pub loop-i-preserved : goal.loop-i-preserved
loop-i-preserved c =
    let a = c.args in
    passed_next a.first a.last (to_z w32 (of_z w32 a.bar)) a.room.now a.used c.loop-i.invariant c.loop-i-test.true (told (goal.at.loop-i-preserved c).After-over c.if-over.false)

pub returns : goal.returns
unfolding sought
returns c =
    let a = c.args in
    let none_left = passed_end a.first a.last (to_z w32 (of_z w32 a.bar)) a.room.now a.used c.loop-i.invariant (omega arith) in
    rw (rw (to_z-of_z c.ranges.bar) at none_left)

pub loop-i-init : goal.loop-i-init
loop-i-init c = let a = c.args in passed_start a.first a.last (to_z w32 (of_z w32 a.bar)) a.room.now a.used
