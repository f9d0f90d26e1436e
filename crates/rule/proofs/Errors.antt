-- Distances, the level and the error of a bucket: what demand 3 needs of one bucket.
use Prim.Native.Nat.{ℕ, ◌+◌, ◌*◌, ◌/◌, ◌≤◌}
use mathlib.Core.Path.{◌≡◌, refl}
use mathlib.Core.Bool.{true}
use mathlib.Core.Logic.{◌⊎◌, inl, inr}
use lib.IntN.{ℤ, ◌+ℤ◌}
use lib.Signed.{le_z}
use Rattle.rule.specs.declared.Bucket.{Bucket}
use Rattle.rule.specs.Bucket.{distance, error, larger, lesser, level, middle, spread}
use Rattle.rule.proofs.Whole.{whole, cond_ind, distance_is, middle_down, middle_up, one_side, sum, up, down}

pub le_z_refl : (a : ℤ) → le_z a a ≡ true
le_z_refl a = omega whole

pub lesser_left : (a b : ℤ) → le_z (lesser a b) a ≡ true
unfolding lesser
lesser_left a b = cond_ind (le_z a b) a b (λ z. le_z z a ≡ true) (λ h. omega whole) (λ h. omega whole)

pub lesser_right : (a b : ℤ) → le_z (lesser a b) b ≡ true
unfolding lesser
lesser_right a b = cond_ind (le_z a b) a b (λ z. le_z z b ≡ true) (λ h. h) (λ h. omega whole)

pub larger_left : (a b : ℤ) → le_z a (larger a b) ≡ true
unfolding larger
larger_left a b = cond_ind (le_z a b) b a (λ z. le_z a z ≡ true) (λ h. h) (λ h. omega whole)

pub larger_right : (a b : ℤ) → le_z b (larger a b) ≡ true
unfolding larger
larger_right a b = cond_ind (le_z a b) b a (λ z. le_z b z ≡ true) (λ h. omega whole) (λ h. omega whole)

pub lesser_is : (a b : ℤ) → (lesser a b ≡ a) ⊎ (lesser a b ≡ b)
unfolding lesser
lesser_is a b = cond_ind (le_z a b) a b (λ z. (z ≡ a) ⊎ (z ≡ b)) (λ h. inl refl) (λ h. inr refl)

pub larger_is : (a b : ℤ) → (larger a b ≡ a) ⊎ (larger a b ≡ b)
unfolding larger
larger_is a b = cond_ind (le_z a b) b a (λ z. (z ≡ a) ⊎ (z ≡ b)) (λ h. inr refl) (λ h. inl refl)

pub distance_symmetric : (a b : ℤ) → distance a b ≡ distance b a
distance_symmetric a b = omega (whole, distance_is a b, distance_is b a)

pub near_both : (a b v : ℤ) (E : ℕ) → distance a v ≤ E → distance b v ≤ E → distance a b ≤ 2 * E
near_both a b v E h k = omega (whole, distance_is a b, distance_is a v, distance_is b v)

-- with the order known, a distance has one form
pub apart : (a b : ℤ) → le_z a b ≡ true → distance b a + (up a + down b) ≡ up b + down a
apart a b h = omega (whole, distance_is b a)

least_level : (a b : ℤ) → le_z a b ≡ true → le_z a (middle a b) ≡ true
least_level a b h = omega (whole, middle_up a b, middle_down a b, sum a b, one_side a, one_side b, one_side (a +ℤ b))

level_largest : (a b : ℤ) → le_z a b ≡ true → le_z (middle a b) b ≡ true
level_largest a b h = omega (whole, middle_up a b, middle_down a b, sum a b, one_side a, one_side b, one_side (a +ℤ b))

module _ (b : Bucket) (good : le_z b.least b.largest ≡ true) where
  least : ℤ
  least = b.least

  largest : ℤ
  largest = b.largest

  -- error equals half the spread, rounded up
  pub error_is_half : error b ≡ (spread b + 1) / 2
  unfolding least largest
  error_is_half =
      omega (
        whole,
        apart least largest good,
        apart least (level b) (least_level least largest good),
        apart (level b) largest (level_largest least largest good),
        middle_up least largest,
        middle_down least largest,
        sum least largest,
        one_side least,
        one_side largest,
        one_side (least +ℤ largest),
      )

  pub error_within : (E : ℕ) → spread b ≤ 2 * E → error b ≤ E
  error_within E h = omega (whole, error_is_half)

  -- every reading of the bucket is as near to its level as the error says
  pub within_level : (E : ℕ) (v : ℤ) → le_z b.least v ≡ true → le_z v b.largest ≡ true → spread b ≤ 2 * E → distance v (level b) ≤ E
  unfolding least largest
  within_level E v h k s =
      omega (whole, error_within E s, distance_is v (level b), apart least (level b) (least_level least largest good), apart (level b) largest (level_largest least largest good))
