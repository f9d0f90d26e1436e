-- `printing::put_row` meets its contract: the machine's numbers are the bucket's, and their line fits.
use Prim.Native.Nat.{◌+◌, ◌≤◌, ◌<◌, ◌^◌}
use mathlib.Core.Path.{◌≡◌}
use native.Mathlib.Omega.{arith}
use borrow.Author.Rules.{sfits_of}
use lib.ListN.{length}
use mir.Syntax.{w32, w64}
use mir.Val.{SFits}
use Rattle.rule.proofs.Signed.{widens}
use Rattle.notation.specs.Printing.{line_room, row}
use Rattle.notation.proofs.Texts.{row_short}
use Rattle.printing.proofs.Lines.{filled_row, inside_line, row_filled}
use Rattle.printing.proofs.put_row.Goals.{After-level, After-struct_told-1, After-struct_told-2-1}
use Rattle.printing.proofs.put_row.Goals as goal

least_fits : (c : After-struct_told-1) → SFits w32 c.args.b.least
least_fits c = sfits_of c.struct_told-1.given.1.1.0.1

least_fits_after_level : (c : After-level) → SFits w32 c.args.b.least
least_fits_after_level c = sfits_of c.struct_told-1.given.1.1.0.1

largest_fits : (c : After-struct_told-2-1) → SFits w32 c.args.b.largest
largest_fits c = sfits_of c.struct_told-2-1.given.1.1.1.0.1

largest_fits_after_level : (c : After-level) → SFits w32 c.args.b.largest
largest_fits_after_level c = sfits_of c.struct_told-2-1.given.1.1.1.0.1

level_fits : (c : After-level) → SFits w32 c.level.result
level_fits c = sfits_of c.level.type_inv

short : (c : After-level) → length (row c.args.b) ≤ line_room
short c =
    row_short c.args.b (omega (arith, c.struct_known-1.given)) (omega (arith, c.struct_known-2-1.given)) (least_fits_after_level c) (largest_fits_after_level c)

text : (c : After-level) → filled_row c.args.b c.level.result ≡ row c.args.b
text c =
    row_filled c.args.b c.level.result (omega (arith, c.struct_known-1.given)) (omega (arith, c.struct_known-2-1.given)) (least_fits_after_level c) (largest_fits_after_level c) (level_fits c) c.level.ensures

room : (c : After-level) → c.args.at + length (filled_row c.args.b c.level.result) < 2 ^ 64
room c = rw (text c) (omega (arith, short c))

pub overflow_cast-b-3 : goal.overflow_cast-b-3
overflow_cast-b-3 c = widens w64 tt (least_fits c)

pub overflow_cast-b-4 : goal.overflow_cast-b-4
overflow_cast-b-4 c = widens w64 tt (largest_fits c)

pub overflow_cast-level : goal.overflow_cast-level
overflow_cast-level c = widens w64 tt (level_fits c)

pub put_text-requires : goal.put_text-requires
put_text-requires c = room (goal.at.put_text-requires c).After-level

pub returns : goal.returns
returns c = inside_line (short (goal.at.returns c).After-level) c.requires (rw (text (goal.at.returns c).After-level) at c.put_text.ensures)
