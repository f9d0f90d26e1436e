-- Whole numbers as differences of two naturals, up and down, one of them 0: with these laws `omega` proves what is linear over ℤ, with no case on signs.
use Prim.Native.Nat.{ℕ, zero, suc, ◌+◌, ◌-◌, ◌/◌, ◌≤◌, ◌<◌, ◌^◌, min, max}
use mathlib.Core.Path.{◌≡◌, refl, sym, ap, ◌∙◌}
use mathlib.Core.Bool.{Bool, true, false, cond, false≢true, true≢false}
use native.Mathlib.Omega.{arith}
use borrow.Author.Tests.{ltb-true, ltb-false, leb-true, leb-false, lt-ltb, le-ltb, le-leb, lt-leb}
use lib.Dec.{ltb}
use lib.IntN.{ℤ, pos, negsuc, neg_ℤ, nat_abs, sub_ℕ, ◌+ℤ◌, ◌-ℤ◌}
use lib.Signed.{le_z, lt_z, quot_z}
use mir.Syntax.{Width}
use mir.Val.{SFits, hbits}
use Rattle.rule.specs.Bucket.{distance, halved, middle}

abbrev pub up : ℤ → ℕ
up (pos n) = n
up (negsuc n) = 0

abbrev pub down : ℤ → ℕ
down (pos n) = 0
down (negsuc n) = suc n

pub one_side : (z : ℤ) → min (up z) (down z) ≡ 0
one_side (pos n) = omega arith
one_side (negsuc n) = omega arith

-- a test kept with what it showed
pub cond_ind {ℓ ℓ'} : {A : Type ℓ} (c : Bool) (x y : A) (P : A → Type ℓ') → (c ≡ true → P x) → (c ≡ false → P y) → P (cond c x y)
cond_ind true x y P f g = f refl
cond_ind false x y P f g = g refl

pub by_test {ℓ} : {P : Type ℓ} (c : Bool) → (c ≡ true → P) → (c ≡ false → P) → P
by_test true f g = f refl
by_test false f g = g refl

-- ---- sums

sub_up_down : (a b : ℕ) → up (sub_ℕ a b) + b ≡ a + down (sub_ℕ a b)
sub_up_down a b =
    cond_ind (ltb a b) (negsuc (b - suc a)) (pos (a - b)) (λ z. up z + b ≡ a + down z)
    (λ h. omega (arith, ltb-true a b h)) (λ h. omega (arith, ltb-false a b h))

pub sum : (a b : ℤ) → up (a +ℤ b) + (down a + down b) ≡ up a + up b + down (a +ℤ b)
sum (pos a) (pos b) = omega arith
sum (pos a) (negsuc b) = omega (arith, sub_up_down a (suc b))
sum (negsuc a) (pos b) = omega (arith, sub_up_down b (suc a))
sum (negsuc a) (negsuc b) = omega arith

pub up_negated : (z : ℤ) → up (neg_ℤ z) ≡ down z
up_negated (pos zero) = refl
up_negated (pos (suc n)) = refl
up_negated (negsuc n) = refl

pub down_negated : (z : ℤ) → down (neg_ℤ z) ≡ up z
down_negated (pos zero) = refl
down_negated (pos (suc n)) = refl
down_negated (negsuc n) = refl

pub difference : (a b : ℤ) → up (a -ℤ b) + (down a + up b) ≡ up a + down b + down (a -ℤ b)
difference a b = omega (arith, sum a (neg_ℤ b), up_negated b, down_negated b)

pub abs : (z : ℤ) → nat_abs z ≡ up z + down z
abs (pos n) = omega arith
abs (negsuc n) = omega arith

-- ---- orders, as tests

pub le_z_true : (a b : ℤ) → le_z a b ≡ true → up a + down b ≤ up b + down a
le_z_true (pos a) (pos b) e = omega (arith, leb-true a b e)
le_z_true (pos a) (negsuc b) e = absurd (false≢true e)
le_z_true (negsuc a) (pos b) e = omega arith
le_z_true (negsuc a) (negsuc b) e = omega (arith, leb-true b a e)

pub le_z_false : (a b : ℤ) → le_z a b ≡ false → up b + down a < up a + down b
le_z_false (pos a) (pos b) e = omega (arith, leb-false a b e)
le_z_false (pos a) (negsuc b) e = omega arith
le_z_false (negsuc a) (pos b) e = absurd (true≢false e)
le_z_false (negsuc a) (negsuc b) e = omega (arith, leb-false b a e)

pub lt_z_true : (a b : ℤ) → lt_z a b ≡ true → up a + down b < up b + down a
lt_z_true (pos a) (pos b) e = omega (arith, ltb-true a b e)
lt_z_true (pos a) (negsuc b) e = absurd (false≢true e)
lt_z_true (negsuc a) (pos b) e = omega arith
lt_z_true (negsuc a) (negsuc b) e = omega (arith, ltb-true b a e)

pub lt_z_false : (a b : ℤ) → lt_z a b ≡ false → up b + down a ≤ up a + down b
lt_z_false (pos a) (pos b) e = omega (arith, ltb-false a b e)
lt_z_false (pos a) (negsuc b) e = omega arith
lt_z_false (negsuc a) (pos b) e = absurd (true≢false e)
lt_z_false (negsuc a) (negsuc b) e = omega (arith, ltb-false b a e)

pub le_le_z : (a b : ℤ) → up a + down b ≤ up b + down a → le_z a b ≡ true
le_le_z (pos a) (pos b) h = le-leb a b (omega arith)
le_le_z (pos a) (negsuc b) h = absurd (omega arith)
le_le_z (negsuc a) (pos b) h = refl
le_le_z (negsuc a) (negsuc b) h = le-leb b a (omega arith)

pub lt_le_z : (a b : ℤ) → up b + down a < up a + down b → le_z a b ≡ false
lt_le_z (pos a) (pos b) h = lt-leb a b (omega arith)
lt_le_z (pos a) (negsuc b) h = refl
lt_le_z (negsuc a) (pos b) h = absurd (omega arith)
lt_le_z (negsuc a) (negsuc b) h = lt-leb b a (omega arith)

pub lt_lt_z : (a b : ℤ) → up a + down b < up b + down a → lt_z a b ≡ true
lt_lt_z (pos a) (pos b) h = lt-ltb a b (omega arith)
lt_lt_z (pos a) (negsuc b) h = absurd (omega arith)
lt_lt_z (negsuc a) (pos b) h = refl
lt_lt_z (negsuc a) (negsuc b) h = lt-ltb b a (omega arith)

pub le_lt_z : (a b : ℤ) → up b + down a ≤ up a + down b → lt_z a b ≡ false
le_lt_z (pos a) (pos b) h = le-ltb a b (omega arith)
le_lt_z (pos a) (negsuc b) h = refl
le_lt_z (negsuc a) (pos b) h = absurd (omega arith)
le_lt_z (negsuc a) (negsuc b) h = le-ltb b a (omega arith)

pub same_up_down : (a b : ℤ) → a ≡ b → up a + down b ≡ up b + down a
same_up_down a b e = ap (λ (z : ℤ). up z + down b) e ∙ sym (ap (λ (z : ℤ). up b + down z) e)

pub up_down_same : (a b : ℤ) → up a + down b ≡ up b + down a → a ≡ b
up_down_same (pos a) (pos b) e = ap pos (omega arith)
up_down_same (pos a) (negsuc b) e = absurd (omega arith)
up_down_same (negsuc a) (pos b) e = absurd (omega arith)
up_down_same (negsuc a) (negsuc b) e = ap negsuc (omega arith)

-- ---- ranges

pub fits_up_down : (w : Width) (z : ℤ) → SFits w z → max (suc (up z)) (down z) ≤ 2 ^ hbits w
fits_up_down w (pos n) h = omega (arith, h.sfits)
fits_up_down w (negsuc n) h = omega (arith, h.sfits)

pub up_down_fits : (w : Width) (z : ℤ) → max (suc (up z) - down z) (down z - up z) ≤ 2 ^ hbits w → SFits w z
up_down_fits w (pos n) h = record { sfits = omega arith }
up_down_fits w (negsuc n) h = record { sfits = omega arith }

-- what lets `omega` read tests and equations of whole numbers, and prove them
pub ruleset whole = (arith, le_z_true, le_z_false, lt_z_true, lt_z_false, le_le_z, lt_le_z, lt_lt_z, le_lt_z, same_up_down, up_down_same, fits_up_down, up_down_fits)

-- ---- distance and middle

pub distance_is : (a b : ℤ) → distance a b ≡ ((up a + down b) - (up b + down a)) + ((up b + down a) - (up a + down b))
unfolding distance
distance_is a b = omega (arith, abs (a -ℤ b), difference a b, one_side (a -ℤ b))

-- a division cuts toward zero
pub cut_up : (z : ℤ) → up (quot_z z (pos 2)) ≡ up z / 2
cut_up (pos n) = refl
cut_up (negsuc n) = up_negated (pos (suc n / 2)) ∙ omega arith

pub cut_down : (z : ℤ) → down (quot_z z (pos 2)) ≡ down z / 2
cut_down (pos n) = omega arith
cut_down (negsuc n) = down_negated (pos (suc n / 2))

halved_up : (z : ℤ) → up (halved z) ≡ up z / 2
halved_up (pos n) = refl
halved_up (negsuc n) = omega arith

halved_down : (z : ℤ) → down (halved z) ≡ (down z + 1) / 2
halved_down (pos n) = omega arith
halved_down (negsuc n) = omega arith

pub middle_up : (a b : ℤ) → up (middle a b) ≡ up (a +ℤ b) / 2
unfolding middle
middle_up a b = halved_up (a +ℤ b)

pub middle_down : (a b : ℤ) → down (middle a b) ≡ (down (a +ℤ b) + 1) / 2
unfolding middle
middle_down a b = halved_down (a +ℤ b)
