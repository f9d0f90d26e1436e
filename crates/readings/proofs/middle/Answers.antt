-- `readings::middle` meets its contract: 64 bits hold the sum and one less, and 32 hold its half.
use Prim.Native.Nat.{◌≤◌, ◌^◌}
use mathlib.Core.Path.{◌≡◌}
use lib.IntN.{ℤ, pos, ◌+ℤ◌, ◌-ℤ◌}
use lib.Signed.{quot_z}
use mir.Syntax.{w32, w64}
use mir.Val.{SFits}
use mir.Facts.{sfits_widen, to_z-of_z}
use Rattle.rule.specs.Bucket.{middle}
use Rattle.rule.proofs.Whole.{whole, cut_down, cut_up, difference, down, middle_down, middle_up, one_side, sum, up}
use Rattle.rule.proofs.Signed.{middle_fits, narrowed, narrows, sum_fits, sum_held, widened, widens}
use Rattle.readings.proofs.middle.Goals.{Else-s-lt0, Then-s-lt0}
use Rattle.readings.proofs.middle.Goals as goal

one_less : (z : ℤ) → up z ≤ 2 ^ 32 → down z ≤ 2 ^ 32 → SFits w64 (z -ℤ pos 1)
one_less z h k = omega (whole, difference z (pos 1), one_side (z -ℤ pos 1))

less_fits : {a b : ℤ} → SFits w32 a → SFits w32 b → SFits w64 ((a +ℤ b) -ℤ pos 1)
less_fits {a} {b} fits-a fits-b = one_less (a +ℤ b) (omega (whole, sum a b, one_side (a +ℤ b))) (omega (whole, sum a b, one_side (a +ℤ b)))

-- a division that cuts toward zero rounds a sum down: below 0 after one is taken away, above as it is
halved_less : (c : Then-s-lt0) → let p = c.args in quot_z ((p.a +ℤ p.b) -ℤ pos 1) (pos 2) ≡ middle p.a p.b
halved_less c =
    let f = c.ranges in
    let a = c.args.a in
    let b = c.args.b in
    let s = a +ℤ b in
    omega (whole, f.a, f.b, sum a b, rw (sum_held w64 tt f.a f.b) at c.if-s-lt0.true, cut_up (s -ℤ pos 1), cut_down (s -ℤ pos 1), difference s (pos 1), middle_up a b, middle_down a b, one_side s, one_side (s -ℤ pos 1))

halved : (c : Else-s-lt0) → let p = c.args in quot_z (p.a +ℤ p.b) (pos 2) ≡ middle p.a p.b
halved c =
    let f = c.ranges in
    let a = c.args.a in
    let b = c.args.b in
    omega (whole, f.a, f.b, sum a b, rw (sum_held w64 tt f.a f.b) at c.if-s-lt0.false, cut_up (a +ℤ b), cut_down (a +ℤ b), middle_up a b, middle_down a b, one_side (a +ℤ b))

pub overflow_cast-s : goal.overflow_cast-s
overflow_cast-s c = widens w64 tt c.ranges.a

pub overflow_cast-s-2 : goal.overflow_cast-s-2
overflow_cast-s-2 c = widens w64 tt c.ranges.b

pub overflow_add-s : goal.overflow_add-s
overflow_add-s c = let f = c.ranges in rw (widened w64 tt f.a, widened w64 tt f.b) (sum_fits w64 tt f.a f.b)

pub overflow_sub-result : goal.overflow_sub-result
overflow_sub-result c = let f = c.ranges in rw (sum_held w64 tt f.a f.b) (less_fits f.a f.b)

pub nonzero_div-result : goal.nonzero_div-result
nonzero_div-result c = let f = c.ranges in rw (sum_held w64 tt f.a f.b, to_z-of_z (less_fits f.a f.b), halved_less c) (omega whole, sfits_widen tt (middle_fits f.a f.b))

pub overflow_cast-result : goal.overflow_cast-result
overflow_cast-result c = let f = c.ranges in rw (sum_held w64 tt f.a f.b, to_z-of_z (less_fits f.a f.b), halved_less c) (narrows w64 tt (middle_fits f.a f.b))

pub nonzero_div-result-else-s-lt0 : goal.nonzero_div-result-else-s-lt0
nonzero_div-result-else-s-lt0 c = let f = c.ranges in rw (sum_held w64 tt f.a f.b, halved c) (omega whole, sfits_widen tt (middle_fits f.a f.b))

pub overflow_cast-result-else-s-lt0 : goal.overflow_cast-result-else-s-lt0
overflow_cast-result-else-s-lt0 c = let f = c.ranges in rw (sum_held w64 tt f.a f.b, halved c) (narrows w64 tt (middle_fits f.a f.b))

pub returns-then-s-lt0 : goal.returns-then-s-lt0
returns-then-s-lt0 c = let f = c.ranges in rw (sum_held w64 tt f.a f.b, to_z-of_z (less_fits f.a f.b), halved_less c) (narrowed w64 tt (middle_fits f.a f.b))

pub returns-else-s-lt0 : goal.returns-else-s-lt0
returns-else-s-lt0 c = let f = c.ranges in rw (sum_held w64 tt f.a f.b, halved c) (narrowed w64 tt (middle_fits f.a f.b))
