-- `wording::put_whole` meets its contract: behind the minus sign stands the size.
use mathlib.Core.Path.{◌≡◌, ap}
use native.Mathlib.Omega.{arith}
use lib.IntN.{nat_abs}
use lib.ListN.{length}
use mir.Facts.{to_z-of_z}
use Rattle.rule.proofs.Signed.{straight_casts}
use Rattle.notation.proofs.Texts.{below_zero, not_below_zero}
use Rattle.output.proofs.Left.{then}
use Rattle.wording.proofs.put_whole.Goals as goal

pub put_byte-next-requires : goal.put_byte-next-requires
put_byte-next-requires c =
    let f = c.ranges.z in omega (arith, ap length (below_zero c.args.z (rw (to_z-of_z f) at c.if-z-lt0.true)))

pub put_decimal-requires : goal.put_decimal-requires
put_decimal-requires c =
    let f = c.ranges.z in
    let size : c.unsigned_abs.result ≡ nat_abs c.args.z = rw (to_z-of_z f) at c.unsigned_abs.ensures.value in
    rw size (omega (arith, ap length (below_zero c.args.z (rw (to_z-of_z f) at c.if-z-lt0.true)), c.put_byte-next.ensures.next))

pub returns-then-z-lt0 : goal.returns-then-z-lt0
returns-then-z-lt0 c =
    let f = c.ranges.z in
    let size : c.unsigned_abs.result ≡ nat_abs c.args.z = rw (to_z-of_z f) at c.unsigned_abs.ensures.value in
    rw (below_zero c.args.z (rw (to_z-of_z f) at c.if-z-lt0.true)) (then c.put_byte-next.ensures (rw size at c.put_decimal.ensures))

pub overflow_cast-z : goal.overflow_cast-z
overflow_cast-z c =
    let f = c.ranges.z in rw (to_z-of_z f) (straight_casts _ f (rw (to_z-of_z f) at c.if-z-lt0.false))

pub put_decimal-requires-2 : goal.put_decimal-requires-2
put_decimal-requires-2 c =
    let f = c.ranges.z in
    rw (to_z-of_z f) (omega (arith, ap length (not_below_zero c.args.z (rw (to_z-of_z f) at c.if-z-lt0.false))))

pub returns : goal.returns
returns c =
    let f = c.ranges.z in
    rw (not_below_zero c.args.z (rw (to_z-of_z f) at c.if-z-lt0.false)) (rw (to_z-of_z f) at c.put_decimal-2.ensures)
