-- A reading and its 32 bits: each gives back the other, and both are the machine's.
use Prim.Native.Nat.{ℕ, ◌-◌, suc}
use mathlib.Core.Path.{◌≡◌, refl}
use mathlib.Core.Bool.{Bool, true, false, cond}
use lib.Dec.{ltb}
use lib.IntN.{ℤ, pos, negsuc}
use mir.Syntax.{w32}
use mir.Val.{Fits, SFits, of_z, sel, to_z}
use mir.Facts.{Fits-of_z, of_z-to_z, sfits_to_z, to_z-of_z}
use Rattle.rule.specs.Numbers.{half, word}
use Rattle.rule.specs.Bytes.{bits, reading}

chosen : (c : Bool) (x y : ℤ) → cond c x y ≡ sel c x y
chosen true x y = refl
chosen false x y = refl

-- ---- both are what the machine makes of 32 signed bits

pub reading_is : (n : ℕ) → reading n ≡ to_z w32 n
unfolding reading
reading_is n = chosen (ltb n half) (pos n) (negsuc (word - suc n))

pub bits_is : (z : ℤ) → bits z ≡ of_z w32 z
unfolding bits
bits_is (pos n) = refl
bits_is (negsuc n) = refl

pub reading_fits : {n : ℕ} → Fits w32 n → SFits w32 (reading n)
reading_fits {n} h = rw (reading_is n) (sfits_to_z h)

pub bits_fit : {z : ℤ} → SFits w32 z → Fits w32 (bits z)
bits_fit {z} h = rw (bits_is z) (Fits-of_z h)

pub reading_bits : {z : ℤ} → SFits w32 z → reading (bits z) ≡ z
reading_bits {z} h = rw (reading_is, bits_is) (to_z-of_z h)

pub bits_reading : {n : ℕ} → Fits w32 n → bits (reading n) ≡ n
bits_reading {n} h = rw (bits_is, reading_is) (of_z-to_z h)
