-- The digits before the last are those of a tenth, which is the smaller number.
use mathlib.Core.Path.{ap}
use native.Mathlib.Omega.{arith}
use lib.ListN.{length}
use Rattle.notation.proofs.Texts.{last_digit, one_digit, one_digit_more}
use Rattle.output.proofs.Left.{then}
use Rattle.output.proofs.+put_decimal.Goals as goal

pub put_byte-requires : goal.put_byte-requires
put_byte-requires t c = omega (arith, ap length (one_digit c.args.n c.if-n-lt10.true))

pub returns-then-n-lt10 : goal.returns-then-n-lt10
returns-then-n-lt10 t c = rw (one_digit c.args.n c.if-n-lt10.true) c.put_byte.ensures

pub put_decimal-next-requires : goal.put_decimal-next-requires
put_decimal-next-requires t c = (omega arith, omega (arith, one_digit_more c.args.n c.if-n-lt10.false))

pub put_byte-requires-2 : goal.put_byte-requires-2
put_byte-requires-2 t c = omega (arith, one_digit_more c.args.n c.if-n-lt10.false, c.put_decimal-next.ensures.next)

pub returns : goal.returns
returns t c = rw (last_digit c.args.n c.if-n-lt10.false) (then c.put_decimal-next.ensures c.put_byte-2.ensures)
