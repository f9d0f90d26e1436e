-- `sheet::put_scale` meets its contract: a text with eight numbers, or one with none.
use Prim.Native.Nat.{◌+◌, ◌-◌, ◌<◌, ◌^◌}
use mathlib.Core.Path.{◌≡◌, ap, ◌∙◌}
use mathlib.Core.List.{[], ◌∷◌}
use native.Mathlib.Omega.{arith}
use borrow.Author.Rules.{sfits_of}
use lib.ListN.{length}
use mir.Syntax.{w32, w64}
use mir.Val.{of_z, to_z}
use mir.Facts.{to_z_pos}
use Rattle.rule.proofs.Signed.{read, widened, widens}
use Rattle.output.specs.Output.{filled}
use Rattle.drawing.specs.Picture.{scale, scale_text}
use Rattle.sheet.proofs.Pieces.{scale_none, scale_some}
use Rattle.sheet.proofs.put_scale.Goals.{After-struct_known-4-1}
use Rattle.sheet.proofs.put_scale.Goals as goal

text : (c : After-struct_known-4-1) → let a = c.args in let v = a.v in
    let x = to_z w64 (of_z w64 c.down-top.result) in
    let y = to_z w64 (of_z w64 c.down-low.result) in
    scale a.used v ≡ filled scale_text (x ∷ y ∷ x ∷ to_z w64 (of_z w64 (to_z w32 (of_z w32 v.top))) ∷ y ∷ to_z w64 (of_z w64 (to_z w32 (of_z w32 v.low))) ∷ to_z w64 v.first ∷ to_z w64 (v.first + v.span - 1) ∷ [])
text c =
    let v = c.args.v in
    let down = c.down-top in
    let down2 = c.down-low in
    let top = read w32 v.top c.struct_told-1.given.1.1.0.1 in
    let low = read w32 v.low c.struct_told-2-1.given.1.1.1.0.1 in
    let first : v.first < 2 ^ 63 = omega (arith, c.requires.0) in
    let last : v.first + v.span - 1 < 2 ^ 63 = omega (arith, c.requires.0, c.requires.1.1.0) in
    scale_some c.args.used v c.if-used-eq0.false _ _ _ _ _ _
    (read w64 down.result down.type_inv ∙ (rw top at down.ensures))
    (read w64 down2.result down2.type_inv ∙ (rw low at down2.ensures))
    (widened {w = w32} w64 {z = v.top} tt (sfits_of c.struct_told-1.given.1.1.0.1))
    (widened {w = w32} w64 {z = v.low} tt (sfits_of c.struct_told-2-1.given.1.1.1.0.1))
    (to_z_pos w64 first)
    (to_z_pos w64 last)

pub put_text-requires : goal.put_text-requires
put_text-requires c = omega (arith, ap length (scale_none c.args.used c.args.v c.if-used-eq0.true), c.requires.1.1.1)

pub returns-then-used-eq0 : goal.returns-then-used-eq0
returns-then-used-eq0 c = rw (scale_none c.args.used c.args.v c.if-used-eq0.true) c.put_text.ensures

pub overflow_cast-numbers : goal.overflow_cast-numbers
overflow_cast-numbers c = widens {w = w32} w64 {z = c.args.v.top} tt (sfits_of c.struct_told-3-1.given.1.1.0.1)

pub overflow_cast-numbers-2 : goal.overflow_cast-numbers-2
overflow_cast-numbers-2 c = widens {w = w32} w64 {z = c.args.v.low} tt (sfits_of c.struct_told-4-1.given.1.1.1.0.1)

pub overflow_cast-numbers-3 : goal.overflow_cast-numbers-3
overflow_cast-numbers-3 c = omega (arith, c.requires.0)

pub overflow_add-numbers : goal.overflow_add-numbers
overflow_add-numbers c = omega (arith, c.requires.0, c.requires.1.1.0)

pub overflow_sub-numbers : goal.overflow_sub-numbers
overflow_sub-numbers c = omega (arith, c.requires.1.0)

pub overflow_cast-numbers-4 : goal.overflow_cast-numbers-4
overflow_cast-numbers-4 c = omega (arith, c.requires.0, c.requires.1.1.0)

pub put_text-requires-2 : goal.put_text-requires-2
put_text-requires-2 c = omega (arith, ap length (text (goal.at.put_text-requires-2 c).After-struct_known-4-1), c.requires.1.1.1)

pub returns : goal.returns
returns c = rw (text (goal.at.returns c).After-struct_known-4-1) c.put_text-2.ensures
