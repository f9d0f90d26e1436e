-- `showing::show` meets its contract: by the last answer, the listing or the refused line.
use mathlib.Core.Path.{sym}
use Rattle.listing.specs.Listing.{shown}
use Rattle.listing.specs.Feeding.{Showable}
use Rattle.showing.proofs.show.Goals as goal

pub listed-requires : goal.listed-requires
unfolding Showable
listed-requires c = rw c.in-Ok.is at c.requires

pub put_refused-requires : goal.put_refused-requires
unfolding Showable
put_refused-requires c = rw c.in-Err.is at c.requires

pub returns-in-Ok : goal.returns-in-Ok
unfolding shown
returns-in-Ok c = rw c.in-Ok.is c.listed.ensures

pub returns-in-Err : goal.returns-in-Err
unfolding shown
returns-in-Err c = rw (c.in-Err.is, sym c.number.ensures) c.put_refused.ensures
