-- `inserted::ending` meets its contract.
use Prim.Native.Nat.{◌-◌}
use mathlib.Core.Path.{◌∙◌, ap}
use native.Mathlib.Nat.{sub-zero}
use native.Mathlib.Omega.{arith}
use Rattle.rule.specs.Room.{slot, slots}
use Rattle.rule.specs.Table.{cheapest, choice}
use Rattle.scan.specs.Best.{better, unmet}
use Rattle.scan.proofs.Keeping.{better_both}
use Rattle.scan.proofs.Scanning.{ended}
use Rattle.inserted.proofs.ending.Goals as goal

pub returns-then-at-eq0 : goal.returns-then-at-eq0
unfolding better cheapest slots
returns-then-at-eq0 c = rw c.if-at-eq0.true

pub returns : goal.returns
returns c =
    let a = c.args in
    let l = a.room.now in
    rw (c.better.ensures, c.read.ensures, c.pass-slots.ensures, sub-zero)
    (better_both unmet (cheapest a.edition 0 (slots l 0 a.at)) (choice a.edition (a.at - 1) (slot l (a.at - 1)) a.b) ∙ ap (better unmet) (ended a.edition l a.b (a.at - 1) a.at (omega arith)))
