-- Signed values as the machine has them: the bits of a width, read back as a whole number.
use Prim.Native.Nat.{ℕ, ◌+◌, ◌≤◌, ◌<◌, ◌^◌}
use mathlib.Core.Path.{◌≡◌, sym, ap, ◌∙◌}
use mathlib.Core.Bool.{true, false, false≢true}
use native.Mathlib.Omega.{arith}
use native.Mathlib.Nat.{pow-suc, le_of_lt}
use lib.Dec.{T, eqb, leb, ltb, ltb→lt, le→leb}
use lib.Pow.{pow_mono}
use lib.IntN.{ℤ, pos, negsuc, nat_abs, neg_ℤ, ◌+ℤ◌, ◌-ℤ◌}
use lib.Signed.{le_z, lt_z, mag, non_neg}
use borrow.Author.Rules.{sfits_of}
use borrow.Author.Tests.{eq-eqb, eqb-true}
use mir.Syntax.{Width, w32, w64}
use mir.Val.{Fits, SFits, hbits, to_z, of_z}
use mir.Facts.{Fits-nat_abs, sfits_widen, to_z-of_z}
use Rattle.rule.specs.Bucket.{middle}
use Rattle.rule.specs.Numbers.{half, word}
use Rattle.rule.specs.Room.{signed, unsigned, within}
use Rattle.rule.specs.Rules.{equal}
use Rattle.rule.proofs.Whole.{whole, by_test, down, sum, difference, le_le_z, middle_down, middle_up, one_side}
use Rattle.rule.proofs.Ruling.{and_both, and_left, and_right}

-- z read from its bits, where its range is told by itself: of a field of a struct, of a call's result
pub read : (w : Width) (z : ℤ) → mag z < 2 ^ hbits w → to_z w (of_z w z) ≡ z
read w z h = to_z-of_z (sfits_of h)

-- z, which the width w holds, taken to a width w' as wide or wider, and back from there
module _ {w : Width} (w' : Width) {z : ℤ} (narrower : T (leb (hbits w) (hbits w'))) (fits : SFits w z) where
  pub widens : SFits w' (to_z w (of_z w z))
  widens = rw (to_z-of_z fits) (sfits_widen narrower fits)

  pub widened : to_z w' (of_z w' (to_z w (of_z w z))) ≡ z
  widened = rw (to_z-of_z fits) (to_z-of_z (sfits_widen narrower fits))

  pub narrows : SFits w (to_z w' (of_z w' z))
  narrows = rw (to_z-of_z (sfits_widen narrower fits)) fits

  pub narrowed : to_z w (of_z w (to_z w' (of_z w' z))) ≡ z
  narrowed = rw (to_z-of_z (sfits_widen narrower fits)) (to_z-of_z fits)

as_wide : (w w' : Width) → T (ltb (hbits w) (hbits w')) → T (leb (hbits w) (hbits w'))
as_wide w w' narrower = le→leb (hbits w) (hbits w') (le_of_lt (ltb→lt (hbits w) (hbits w') narrower))

doubled : (w w' : Width) → T (ltb (hbits w) (hbits w')) → 2 ^ hbits w + 2 ^ hbits w ≤ 2 ^ hbits w'
doubled w w' narrower = omega (arith, pow-suc 2 (hbits w), pow_mono (ltb→lt (hbits w) (hbits w') narrower))

-- a and b of the width w, added or taken away in a wider one
module _ {w : Width} (w' : Width) {a b : ℤ} (narrower : T (ltb (hbits w) (hbits w'))) (fits-a : SFits w a) (fits-b : SFits w b) where
  pub sum_fits : SFits w' (a +ℤ b)
  sum_fits = omega (whole, doubled w w' narrower, sum a b, one_side (a +ℤ b))

  pub difference_fits : SFits w' (a -ℤ b)
  difference_fits = omega (whole, doubled w w' narrower, difference a b, one_side (a -ℤ b))

  pub sum_held : to_z w' (of_z w' (to_z w' (of_z w' (to_z w (of_z w a))) +ℤ to_z w' (of_z w' (to_z w (of_z w b))))) ≡ a +ℤ b
  sum_held = rw (widened w' (as_wide w w' narrower) fits-a, widened w' (as_wide w w' narrower) fits-b) (to_z-of_z sum_fits)

  pub difference_held : to_z w' (of_z w' (to_z w' (of_z w' (to_z w (of_z w a))) -ℤ to_z w' (of_z w' (to_z w (of_z w b))))) ≡ a -ℤ b
  difference_held = rw (widened w' (as_wide w w' narrower) fits-a, widened w' (as_wide w w' narrower) fits-b) (to_z-of_z difference_fits)

-- ---- equality, told by the numbers or by their bits

pub equal_same : (a b : ℤ) → a ≡ b → equal a b ≡ true
unfolding equal
equal_same a b e = rw (le_le_z a b (omega whole), le_le_z b a (omega whole))

pub equal_other : (a b : ℤ) → (a ≡ b → ⊥) → equal a b ≡ false
unfolding equal
equal_other a b n = by_test (le_z a b) (λ h. by_test (le_z b a) (λ k. absurd (n (omega whole))) (λ k. rw (h, k))) (λ h. rw h)

module _ (w : Width) {a b : ℤ} (fits-a : SFits w a) (fits-b : SFits w b) where
  pub same_bits : of_z w a ≡ of_z w b → a ≡ b
  same_bits e = sym (to_z-of_z fits-a) ∙ ap (to_z w) e ∙ to_z-of_z fits-b

  pub equal_bits : eqb (of_z w a) (of_z w b) ≡ equal a b
  equal_bits =
      by_test (eqb (of_z w a) (of_z w b))
      (λ h. h ∙ sym (equal_same a b (same_bits (eqb-true (of_z w a) (of_z w b) h))))
      (λ h. h ∙ sym (equal_other a b (λ e. false≢true (sym h ∙ eq-eqb (of_z w a) (of_z w b) (ap (of_z w) e)))))

-- ---- the ranges of a reading, and of a tick or a count

pub signed_fits : (z : ℤ) → signed z ≡ true → SFits w32 z
unfolding within
signed_fits z e =
    omega (whole, and_left (le_z (neg_ℤ (pos half)) z) (lt_z z (pos half)) e, and_right (le_z (neg_ℤ (pos half)) z) (lt_z z (pos half)) e, one_side z)

pub fits_signed : (z : ℤ) → SFits w32 z → signed z ≡ true
unfolding within
fits_signed z h = and_both {a = le_z (neg_ℤ (pos half)) z} {b = lt_z z (pos half)} (omega whole) (omega whole)

pub middle_fits : {a b : ℤ} → SFits w32 a → SFits w32 b → SFits w32 (middle a b)
middle_fits {a} {b} fits-a fits-b = omega (whole, middle_up a b, middle_down a b, sum a b, one_side (a +ℤ b))

pub unsigned_fits : (z : ℤ) → unsigned z ≡ true → T (non_neg z) × Fits w32 (nat_abs z)
unfolding within
unsigned_fits (pos n) e = (tt, omega (whole, and_right (le_z (pos 0) (pos n)) (lt_z (pos n) (pos word)) e))
unsigned_fits (negsuc n) e = absurd (false≢true e)

pub fits_unsigned : (n : ℕ) → n < word → unsigned (pos n) ≡ true
unfolding within
fits_unsigned n h = and_both {a = le_z (pos 0) (pos n)} {b = lt_z (pos n) (pos word)} (omega whole) (omega whole)

-- ---- one below the opposite, which has a number's bits turned over in two's complement

pub turned_fits : {w : Width} (z : ℤ) → SFits w z → SFits w (negsuc 0 -ℤ z)
turned_fits z fits = omega (whole, difference (negsuc 0) z, one_side z, one_side (negsuc 0 -ℤ z))

-- what a cast to an unsigned number asks
casts : (z : ℤ) → SFits w64 z → down z ≤ 0 → T (non_neg z) × Fits w64 (nat_abs z)
casts (pos n) fits h = (tt, Fits-nat_abs tt fits)
casts (negsuc n) fits h = absurd (omega whole)

module _ (z : ℤ) (fits : SFits w64 z) where
  -- of a number below 0 turned over, and of another as it is
  pub turned_casts : lt_z z (pos 0) ≡ true → T (non_neg (negsuc 0 -ℤ z)) × Fits w64 (nat_abs (negsuc 0 -ℤ z))
  turned_casts h = casts (negsuc 0 -ℤ z) (turned_fits z fits) (omega (whole, difference (negsuc 0) z, one_side z, one_side (negsuc 0 -ℤ z)))

  pub straight_casts : lt_z z (pos 0) ≡ false → T (non_neg z) × Fits w64 (nat_abs z)
  straight_casts h = casts z fits (omega (whole, one_side z))
