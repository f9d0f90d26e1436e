-- `lines::line_ended` meets its contract.
use Rattle.std.proofs.Common.{length, le-leb}
use borrow.Author.Tests.{lt-leb}
use native.Mathlib.Nat.{sub-zero}
use Rattle.listing.specs.Feeding.{line_ended}
use Rattle.lines.proofs.line_ended.Goals as goal

pub returns-then-filled-line : goal.returns-then-filled-line
unfolding line_ended
returns-then-filled-line c =
    let a = c.args in
    rw (le-leb a.f.filled (length a.line.now) c.if-filled-line.true) (rw (sub-zero a.f.filled) at c.line_read.ensures)

pub returns : goal.returns
unfolding line_ended
returns c =
    let a = c.args in
    rw (lt-leb a.f.filled (length a.line.now) c.if-filled-line.false, c.too_long.ensures)
