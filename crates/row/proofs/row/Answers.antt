-- `row::row` meets its contract: bucket by bucket, in the places that the answer counts.
use Prim.Native.Nat.{ℕ, ◌<◌, ◌≤◌}
use mathlib.Core.Path.{◌≡◌, refl, sym, ap, ◌∙◌}
use native.Mathlib.Omega.{arith}
use lib.ListN.{length, length-set}
use Rattle.row.specs.Answers.{number, row_answer, up_to}
use Rattle.row.proofs.Filling.{all_written, as_long, none_yet, number_fits, one_more, readable}
use Rattle.row.proofs.row.Goals.{In-loop-i}
use Rattle.row.proofs.row.Goals as goal

-- the turns are those that the answer counts
turns : (c : In-loop-i) → c.number-n.result ≡ number (row_answer c.args.trace.state c.args.room.now (length c.args.out.now))
turns c = c.number-n.ensures ∙ ap number c.written-a.ensures

here : (c : In-loop-i) → c.loop-i.i < number (row_answer c.args.trace.state c.args.room.now (length c.args.out.now))
here c = omega (arith, turns c, c.loop-i-test.true)

within : (c : In-loop-i) → c.loop-i.i < length c.args.out.now
within c = omega (arith, here c, number_fits c.args.trace.state c.args.room.now (length c.args.out.now))

pub loop-i-init : goal.loop-i-init
loop-i-init c = none_yet c.args.room.now c.args.out.now

pub read-requires : goal.read-requires
read-requires c = readable c.args.trace.state c.args.room.now (length c.args.out.now) c.loop-i.i (here (goal.at.read-requires c).In-loop-i)

pub offset_bounds-out-i : goal.offset_bounds-out-i
offset_bounds-out-i c = let w = within (goal.at.offset_bounds-out-i c).In-loop-i in omega (arith, w)

pub bounds-out-i : goal.bounds-out-i
bounds-out-i c =
    let w = within (goal.at.bounds-out-i c).In-loop-i in
    rw c.loop-i.invariant (omega (arith, w, as_long c.args.room.now c.loop-i.i c.args.out.now (omega arith)))

pub loop-i-preserved : goal.loop-i-preserved
loop-i-preserved c =
    let w = within (goal.at.loop-i-preserved c).In-loop-i in
    rw (c.loop-i.invariant, c.read.ensures) (one_more c.args.room.now c.loop-i.i c.args.out.now w)

pub returns : goal.returns
returns c =
    let a = c.args in
    let n : c.number-n.result ≡ number (row_answer a.trace.state a.room.now (length a.out.now)) = c.number-n.ensures ∙ ap number c.written-a.ensures in
    let all : c.loop-i.i ≡ number (row_answer a.trace.state a.room.now (length a.out.now)) = omega (arith, n) in
    rw (c.written-a.ensures, c.loop-i.invariant, all) (all_written a.trace.state a.room.now a.out.now)
