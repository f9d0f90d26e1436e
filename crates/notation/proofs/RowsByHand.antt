-- The listings worked by hand: both sides compute to the same.
use mathlib.Core.Path.{refl}
use Rattle.rule.specs.Bucket.{distance, middle}
use Rattle.rule.specs.Table.{readings, worst}
use Rattle.notation.specs.Printing.{decimal, decimal_in, line, listing, refused, row, rows, total, whole}
use Rattle.notation.specs.RowsByHand.{ByHand}

pub by_hand : ByHand
unfolding decimal decimal_in line listing refused row rows total whole distance middle readings worst
by_hand = record { listed = refl; lowest = refl; none = refl; refusal = refl }
