-- `merges::insert_merged` meets its contract, by where the two that become one stand.
use Prim.Native.Nat.{suc}
use mathlib.Core.Path.{◌≡◌}
use native.Mathlib.Omega.{arith}
use Rattle.merges.proofs.insert_merged.Goals as goal

pub merge_left-requires : goal.merge_left-requires
merge_left-requires c =
    let next : c.args.at ≡ suc c.args.i = omega arith in
    rw next at c.requires.0

pub returns-then-i-at-2 : goal.returns-then-i-at-2
returns-then-i-at-2 c =
    let next : c.args.at ≡ suc c.args.i = omega arith in
    rw next c.merge_left.ensures

pub returns-then-i-at-3 : goal.returns-then-i-at-3
returns-then-i-at-3 c = rw c.if-i-at-3.true c.merge_right.ensures
