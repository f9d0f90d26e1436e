-- `numbers::read_number` meets its contract: the sign is taken off, and given to what the digits behind it stand for.
use Prim.Native.Nat.{◌≤◌}
use mathlib.Core.Path.{◌≡◌, ap, sym, ◌∙◌}
use native.Mathlib.Omega.{arith}
use lib.IntN.{pos, neg_ℤ, ◌-ℤ◌, +ℤ_idl}
use lib.ListN.{get_or, length}
use mir.Syntax.{w64}
use mir.Val.{SFits}
use mir.Facts.{to_z-of_z}
use Rattle.std.proofs.Common.{Some, rules}
use Rattle.rule.proofs.Whole.{whole, difference, one_side}
use Rattle.notation.specs.Signs.{minus}
use Rattle.notation.specs.Reading.{negated}
use Rattle.notation.proofs.Lines.{digits_positive, number_minus, number_plain}
use Rattle.numbers.proofs.read_number.Goals.{In_ok-digits-in-45}
use Rattle.numbers.proofs.read_number.Goals as goal

-- what the digits stand for
module _ (c : In_ok-digits-in-45) where
  fits : SFits w64 c.in_ok-digits-in-45.field-0
  fits = search rules

  negative_fits : SFits w64 (pos 0 -ℤ c.in_ok-digits-in-45.field-0)
  negative_fits =
      let z = c.in_ok-digits-in-45.field-0 in
      omega (whole, digits_positive _ z (sym c.digits.ensures ∙ c.in_ok-digits-in-45.was), fits, difference (pos 0) z, one_side (pos 0 -ℤ z))

pub returns-in_err-digits-in-45 : goal.returns-in_err-digits-in-45
unfolding negated
returns-in_err-digits-in-45 c =
    rw (c.from_residual.ensures, number_minus c.args.s.now (omega arith), ← c.digits.ensures, c.in_err-digits-in-45.was)

pub overflow_sub-result : goal.overflow_sub-result
overflow_sub-result c = rw (to_z-of_z (fits c)) (negative_fits c)

pub returns-in_ok-digits-in-45 : goal.returns-in_ok-digits-in-45
unfolding negated
returns-in_ok-digits-in-45 c =
    rw (to_z-of_z (fits c), to_z-of_z (negative_fits c), number_minus c.args.s.now (omega arith), ← c.digits.ensures, c.in_ok-digits-in-45.was)
    (ap Some (+ℤ_idl (neg_ℤ c.in_ok-digits-in-45.field-0)))

pub returns-in_default : goal.returns-in_default
returns-in_default c =
    let s = c.args.s.now in
    let plain : (1 ≤ length s → get_or s 0 0 ≡ minus → ⊥) = λ h e. search rules in
    c.digits-in_default.ensures ∙ sym (number_plain s plain)
