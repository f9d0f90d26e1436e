-- `scale::view` meets its contract: the levels seen so far and those that are left make the whole.
use native.Mathlib.Omega.{arith}
use mathlib.Core.Path.{◌≡◌, sym}
use mir.Syntax.{w32}
use mir.Val.{to_z}
use Rattle.rule.specs.Bucket.{larger, lesser, level}
use Rattle.rule.specs.Room.{slot}
use Rattle.rule.proofs.Signed.{read}
use Rattle.rooms.proofs.Reading.{filled}
use Rattle.scale.proofs.Viewing.{first_before, seen_next, seen_start, view_none, view_some}
use Rattle.scale.proofs.view.Goals as goal

pub loop-i-init : goal.loop-i-init
loop-i-init c =
    let a = c.args in
    rw (read w32 c.level-top.result c.level-top.type_inv)
    (seen_start a.room.now a.used c.if-used-eq0.false c.level-top.result (rw c.read-first.ensures at c.level-top.ensures))

pub loop-i-preserved : goal.loop-i-preserved
loop-i-preserved c =
    let loop = c.loop-i in
    let a = c.args in
    let z = c.level-z in
    let level-is : z.result ≡ level (slot a.room.now loop.i) = rw c.read.ensures at z.ensures in
    let high : c.larger-top.result ≡ larger (to_z w32 loop.top-bits) z.result = rw (read w32 z.result z.type_inv) at c.larger-top.ensures in
    let low : c.lesser-low.result ≡ lesser (to_z w32 loop.low-bits) z.result = rw (read w32 z.result z.type_inv) at c.lesser-low.ensures in
    rw (read w32 c.larger-top.result c.larger-top.type_inv, read w32 c.lesser-low.result c.lesser-low.type_inv, high, low)
    (seen_next a.room.now a.used loop.invariant c.loop-i-test.true z.result level-is)

pub returns : goal.returns
returns c =
    let a = c.args in
    rw (c.read-first.ensures, c.end.ensures, c.read-last.ensures)
    (sym (view_some a.room.now a.used c.loop-i.invariant c.loop-i-test.false c.if-used-eq0.false))

pub overflow_sub-result : goal.overflow_sub-result
overflow_sub-result c =
    let a = c.args in
    rw (c.read-first.ensures, c.end.ensures, c.read-last.ensures)
    (first_before a.room.now a.used c.if-used-eq0.false c.requires.1)

pub returns-then-used-eq0 : goal.returns-then-used-eq0
returns-then-used-eq0 c = sym (view_none c.args.room.now c.args.used c.if-used-eq0.true)

pub read-first-requires : goal.read-first-requires
read-first-requires c = filled c.requires.0 0 (omega (arith, c.if-used-eq0.false))

pub overflow_sub-used : goal.overflow_sub-used
overflow_sub-used c = omega (arith, c.if-used-eq0.false)

pub read-last-requires : goal.read-last-requires
read-last-requires c = filled c.requires.0 _ (omega (arith, c.if-used-eq0.false))

pub read-requires : goal.read-requires
read-requires c = filled c.requires.0 c.loop-i.i (omega arith)
