-- `curve::put_points` meets its contract: a text with four numbers.
use mathlib.Core.Path.{◌≡◌, ap, ◌∙◌}
use mathlib.Core.List.{[], ◌∷◌}
use native.Mathlib.Omega.{arith}
use lib.ListN.{length}
use mir.Syntax.{w32, w64}
use mir.Val.{of_z, to_z}
use Rattle.rule.proofs.Signed.{read}
use Rattle.notation.specs.Signs.{ascii}
use Rattle.output.specs.Output.{filled}
use Rattle.drawing.specs.Picture.{points_of, printed}
use Rattle.curve.proofs.Joining.{both_ends}
use Rattle.curve.proofs.put_points.Goals.{After-end_of}
use Rattle.curve.proofs.put_points.Goals as goal

text : (c : After-end_of) → let a = c.args in
    let x = to_z w64 (of_z w64 c.start_of.result) in
    let y = to_z w64 (of_z w64 c.down-y.result) in
    let z = to_z w64 (of_z w64 c.end_of.result) in
    printed (points_of a.v (a.b ∷ [])) ≡ filled (ascii "%,% %,% ") (x ∷ y ∷ z ∷ y ∷ [])
text c =
    let a = c.args in
    let level = c.level in
    let down = c.down-y in
    both_ends a.v a.b _ _ _
    (read w64 c.start_of.result c.start_of.type_inv ∙ c.start_of.ensures)
    (read w64 down.result down.type_inv ∙ (rw (read w32 level.result level.type_inv, level.ensures) at down.ensures))
    (read w64 c.end_of.result c.end_of.type_inv ∙ c.end_of.ensures)

pub returns : goal.returns
returns c = rw (text (goal.at.returns c).After-end_of) c.put_text.ensures

pub put_text-requires : goal.put_text-requires
put_text-requires c = omega (arith, ap length (text (goal.at.put_text-requires c).After-end_of), c.requires.1)
