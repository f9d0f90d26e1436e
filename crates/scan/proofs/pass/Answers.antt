-- `scan::pass` meets its contract: in edition 2 as it stands, in any other without ticks, as in edition 1.
use native.Mathlib.Omega.{arith}
use mathlib.Core.Path.{◌≡◌}
use borrow.Author.Tests.{ne_eqb}
use Rattle.scan.proofs.Keeping.{cheapest_first}
use Rattle.scan.proofs.pass.Goals as goal

pub returns-else-edition-eq2 : goal.returns-else-edition-eq2
returns-else-edition-eq2 c =
    let first = ne_eqb c.args.edition 2 c.if-edition-eq2.false in
    let none : c.args.met.ticks ≡ 0 = c.requires.1.1.1 first in
    grind (arith, cheapest_first c.args.edition first)
