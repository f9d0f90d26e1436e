-- `place::joins` meets its contract.
use Rattle.rooms.proofs.Placing.{filled_before, slot_joins}
use Rattle.place.proofs.joins.Goals as goal

pub returns : goal.returns
returns c = λ v. rw (c.ends_before.ensures, c.starts_after.ensures) (slot_joins c.requires.0 c.requires.1 v)

pub ends_before-requires : goal.ends_before-requires
ends_before-requires c = filled_before c.requires.0
