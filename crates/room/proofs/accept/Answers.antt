-- `room::accept` meets its contract, by whether the table has room left.
use native.Mathlib.Numerals.{add-one}
use mir.Facts.{to_z-of_z}
use Rattle.rule.specs.Room.{table_of}
use Rattle.rule.specs.Table.{single}
use Rattle.rooms.specs.Slots.{put_at}
use Rattle.rooms.proofs.Taking.{Steps, steps}
use Rattle.room.proofs.accept.Goals.{Start}
use Rattle.room.proofs.accept.Goals as goal

taking : (a : Start) → let g = a.args in Steps g.s g.room.now g.at g.runs g.tick g.value (put_at g.at (single g.tick g.value) (table_of g.s g.room.now))
taking a = let g = a.args in steps g.s g.room.now g.at g.runs g.tick g.value a.requires a.ranges.value a.ranges.tick.fits

pub returns-then-used-limit : goal.returns-then-used-limit
returns-then-used-limit c =
    rw (add-one c.args.s.used, c.insert.ensures, to_z-of_z c.ranges.value) ((taking (goal.at.returns-then-used-limit c).Start).rests (rw c.limit.ensures at c.if-used-limit.true))

pub cheapest_with-place-requires : goal.cheapest_with-place-requires
cheapest_with-place-requires c = rw (to_z-of_z c.ranges.value) ((taking (goal.at.cheapest_with-place-requires c).Start).filled, (c.requires.inside, (taking (goal.at.cheapest_with-place-requires c).Start).new))

pub insert_merged-requires : goal.insert_merged-requires
insert_merged-requires c =
    rw (c.cheapest_with-place.ensures, to_z-of_z c.ranges.value) ((taking (goal.at.insert_merged-requires c).Start).joins, (taking (goal.at.insert_merged-requires c).Start).inside (rw c.limit.ensures at c.if-used-limit.false))

pub settle-requires : goal.settle-requires
settle-requires c =
    rw (c.insert_merged.ensures, c.cheapest_with-place.ensures, to_z-of_z c.ranges.value) ((taking (goal.at.settle-requires c).Start).settles (rw c.limit.ensures at c.if-used-limit.false))

pub returns : goal.returns
returns c =
    rw (c.settle.ensures.0, c.settle.ensures.1, c.insert_merged.ensures, c.cheapest_with-place.ensures, to_z-of_z c.ranges.value)
    ((taking (goal.at.returns c).Start).settled (rw c.limit.ensures at c.if-used-limit.false))

pub limit-requires : goal.limit-requires
limit-requires c = (taking (goal.at.limit-requires c).Start).small

pub insert-requires : goal.insert-requires
insert-requires c = ((taking (goal.at.insert-requires c).Start).filled, (c.requires.inside, (taking (goal.at.insert-requires c).Start).more))
