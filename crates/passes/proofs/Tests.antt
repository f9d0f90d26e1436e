-- A law of a test: 0 as its bits tell it.
use mathlib.Core.Path.{◌≡◌}
use native.Mathlib.Omega.{arith}
use lib.IntN.{ℤ, pos, negsuc, nat_abs}
use lib.Dec.{eqb}
use Rattle.std.proofs.lemmas.Bool.Decides.{nat_tests}
use mir.Syntax.{w64}
use mir.Val.{SFits, of_z}

-- 0 is told by its bits
pub zero_told : (z : ℤ) → SFits w64 z → eqb (of_z w64 z) 0 ≡ eqb 0 (nat_abs z)
zero_told (pos n) fits = grind (arith, nat_tests)
zero_told (negsuc n) fits = grind (arith, nat_tests, fits.sfits)
