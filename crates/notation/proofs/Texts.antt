-- Texts printed one behind the other, and how long the text of a number is.
use Prim.Native.Nat.{ℕ, zero, suc, ◌+◌, ◌/◌, ◌%◌, ◌≤◌, ◌<◌, ◌^◌}
use mathlib.Core.Path.{◌≡◌, refl, ap, ◌∙◌}
use mathlib.Core.Bool.{true, false}
use mathlib.Core.List.{List, [], ◌∷◌, ◌++◌}
use native.Mathlib.Nat.{pow-succ'}
use native.Mathlib.Omega.{arith}
use borrow.Author.Tests.{le-ltb, lt-ltb, ltb-false, ltb-true}
use lib.Dec.{ltb}
use lib.IntN.{ℤ, pos, negsuc, nat_abs}
use lib.ListN.{length, length-append}
use lib.Seq.{length-sets}
use lib.Signed.{lt_z}
use mir.Syntax.{w32}
use mir.Val.{SFits}
use Rattle.rule.specs.declared.Bucket.{Bucket}
use Rattle.rule.specs.Numbers.{word}
use Rattle.rule.specs.Bucket.{level}
use Rattle.rule.proofs.Signed.{middle_fits}
use Rattle.rule.proofs.Stores.{sets_append}
use Rattle.rule.proofs.Whole.{by_test}
use Rattle.rule.proofs.Whole.{whole as wholes}
use Rattle.notation.specs.Signs.{minus}
use Rattle.notation.specs.Printing.{Printed, decimal, decimal_in, digit, line, line_room, refused, row, total, whole}

module _ {o p q : List ℕ} {at m r : ℕ} where
  pub then : {a b : List ℕ} → Printed o at a m p → Printed p m b r q → Printed o at (a ++ b) r q
  then {a} {b} x y =
      record { next = rw (length-append a b) (omega arith); bytes = rw (y.bytes, x.bytes, x.next) (sets_append o at a b); inside = omega (arith, y.inside, ap length x.bytes, length-sets o at a) }

-- ---- digits

-- more digits than a number has change nothing
enough : (k j n : ℕ) → n < k → n < j → decimal_in k n ≡ decimal_in j n
unfolding decimal_in
enough zero j n h g = absurd (omega arith)
enough (suc k) zero n h g = absurd (omega arith)
enough (suc k) (suc j) n h g =
    by_test (ltb n 10) (λ e. rw e)
    (λ e. rw (e, enough k j (n / 10) (omega (arith, ltb-false n 10 e)) (omega (arith, ltb-false n 10 e))))

pub one_digit : (n : ℕ) → n < 10 → decimal n ≡ digit n ∷ []
unfolding decimal decimal_in
one_digit n h = rw (lt-ltb n 10 h)

pub last_digit : (n : ℕ) → 10 ≤ n → decimal n ≡ decimal (n / 10) ++ (digit (n % 10) ∷ [])
unfolding decimal decimal_in
last_digit n h = rw (le-ltb n 10 h, enough n (suc (n / 10)) (n / 10) (omega arith) (omega arith))

pub one_digit_more : (n : ℕ) → 10 ≤ n → length (decimal n) ≡ length (decimal (n / 10)) + 1
one_digit_more n h = ap length (last_digit n h) ∙ length-append (decimal (n / 10)) (digit (n % 10) ∷ [])

pub short : (k n : ℕ) → n < 10 ^ suc k → length (decimal n) ≤ suc k
short zero n h = rw (one_digit n (omega arith)) (omega arith)
short (suc k) n h =
    by_test (ltb n 10) (λ e. rw (one_digit n (ltb-true n 10 e)) (omega arith))
    (λ e. rw (last_digit n (ltb-false n 10 e), length-append) (omega (arith, short k (n / 10) (omega (arith, pow-succ' 10 (suc k))))))

-- ---- whole numbers

pub below_zero : (z : ℤ) → lt_z z (pos 0) ≡ true → whole z ≡ minus ∷ decimal (nat_abs z)
unfolding whole
below_zero (pos n) h = absurd (omega wholes)
below_zero (negsuc n) h = refl

pub not_below_zero : (z : ℤ) → lt_z z (pos 0) ≡ false → whole z ≡ decimal (nat_abs z)
unfolding whole
not_below_zero (pos n) h = refl
not_below_zero (negsuc n) h = absurd (omega wholes)

pub whole_short : (z : ℤ) → SFits w32 z → length (whole z) ≤ 11
unfolding whole
whole_short (pos n) h = omega (arith, short 9 n (omega arith))
whole_short (negsuc n) h = omega (arith, short 9 (suc n) (omega arith))

-- ---- room

-- a text of at most k bytes leaves the rest of the room
pub room_left : {o q t : List ℕ} {at r : ℕ} (k room : ℕ) → length t ≤ k → at + (k + room) ≤ length o → Printed o at t r q → r + room ≤ length q
room_left {o} {t = t} {at = at} k room h g x = omega (arith, ap length x.bytes, length-sets o at t)

-- ---- a line of the listing has room

pub row_short : (b : Bucket) → b.start < word → b.count < word → SFits w32 b.least → SFits w32 b.largest → length (row b) ≤ line_room
unfolding row line
row_short b start count least largest =
    simp length-append
    (omega (
      arith,
      short 9 b.start (omega arith),
      short 9 b.count (omega arith),
      whole_short b.least least,
      whole_short b.largest largest,
      whole_short (level b) (middle_fits least largest),
    ))

pub total_short : (readings buckets worst : ℕ) → readings < 2 ^ 64 → buckets < 2 ^ 64 → worst < word → length (total readings buckets worst) ≤ line_room
unfolding total line
total_short readings buckets worst r b w =
    simp length-append (omega (arith, short 19 readings (omega arith), short 19 buckets (omega arith), short 9 worst (omega arith)))

pub refused_short : (l n : ℕ) → l < 2 ^ 64 → n < word → length (refused l n) ≤ line_room
unfolding refused line
refused_short l n h g = simp length-append (omega (arith, short 19 l (omega arith), short 9 n (omega arith)))
