-- `numbers::signed_field` meets its contract: the conversion answers what the definition does.
use mir.Syntax.{w64}
use mir.Val.{SFits}
use mir.Facts.{to_z-of_z}
use Rattle.std.proofs.Common.{rules}
use Rattle.notation.specs.Reading.{signed_field}
use Rattle.notation.proofs.Lines.{tried_signed}
use Rattle.numbers.proofs.signed_field.Goals as goal

pub returns-in_err-read_number : goal.returns-in_err-read_number
unfolding signed_field
returns-in_err-read_number c = rw (c.from_residual.ensures, ← c.read_number.ensures, c.in_err-read_number.was)

pub returns : goal.returns
returns c =
    let z = c.in_ok-read_number.field-0 in
    let fits : SFits w64 z = search rules in
    rw (c.ok.ensures.value, ← c.read_number.ensures, c.in_ok-read_number.was) (tried_signed z _ (simp (to_z-of_z fits) at c.try_from.ensures))
