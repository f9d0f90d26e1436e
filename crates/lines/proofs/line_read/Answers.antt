-- `lines::line_read` meets its contract.
use Rattle.std.proofs.Common.{List, ℤ, ap}
use Rattle.listing.specs.declared.Feeding.{Feeding}
use Rattle.listing.specs.Feeding.{answered_by, line_fed}
use Rattle.listing.specs.Listing.{stage_after}
use Rattle.lines.proofs.line_read.Goals as goal

pub returns : goal.returns
unfolding line_fed
returns c =
    let a = c.args in
    rw (c.answered.ensures, c.stage_after.ensures, c.parse_line-l.ensures)
    (rw c.parse_line-l.ensures at (ap {B = Feeding × List ℤ} (λ o. (answered_by a.f (stage_after c.parse_line-l.result) o.0, o.1)) c.obey-a.ensures))
