-- `settle::settle` meets its contract. The loop's invariant: the buckets that are left settle to the same table.
use mathlib.Core.Path.{refl}
use native.Mathlib.Omega.{arith}
use Rattle.rooms.proofs.Merges.{merged_end, merged_same_length, merged_place, merged_start, merged_step}
use Rattle.settle.proofs.settle.Goals as goal

pub merge-requires : goal.merge-requires
merge-requires c =
    let p = c.loop-left.invariant in
    (p.filled, (rw c.cheapest-at.ensures (merged_place p c.loop-left-test.true), p.count))

pub loop-left-preserved : goal.loop-left-preserved
loop-left-preserved c =
    merged_step c.loop-left.invariant c.loop-left-test.true _ (rw c.cheapest-at.ensures at c.merge.ensures)

pub returns : goal.returns
returns c = merged_end c.loop-left.invariant c.args.s refl c.limit-most.ensures c.loop-left-test.false

pub limit-most-requires : goal.limit-most-requires
limit-most-requires c = c.requires.small

pub loop-left-init : goal.loop-left-init
loop-left-init c = rw c.limit-most.ensures (merged_start c.requires)

pub cheapest-at-requires : goal.cheapest-at-requires
cheapest-at-requires c = c.loop-left.invariant.filled

pub overflow_sub-left : goal.overflow_sub-left
overflow_sub-left c = omega arith

pub loop-left-smaller : goal.loop-left-smaller
loop-left-smaller c = omega arith

pub shape_of-room : goal.shape_of-room
shape_of-room c = merged_same_length c.loop-left.invariant c.requires.filled.there
