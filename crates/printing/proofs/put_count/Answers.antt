-- `printing::put_count` meets its contract.
use mathlib.Core.List.{[]}
use native.Mathlib.Omega.{arith}
use lib.ListN.{length-append}
use Rattle.notation.specs.Printing.{decimal}
use Rattle.output.specs.Output.{filled}
use Rattle.output.proofs.Left.{then}
use Rattle.printing.proofs.put_count.Goals as goal

pub put_text-next-requires : goal.put_text-next-requires
put_text-next-requires c =
    let a = c.args in omega (arith, length-append (filled a.text.now []) (decimal a.count))

pub put_decimal-requires : goal.put_decimal-requires
put_decimal-requires c =
    let a = c.args in
    omega (arith, length-append (filled a.text.now []) (decimal a.count), c.put_text-next.ensures.next)

pub returns : goal.returns
returns c = then c.put_text-next.ensures c.put_decimal.ensures
