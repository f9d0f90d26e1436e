-- `wording::put_text` meets its contract: what is left of the text, printed from here on, gives what the whole gives from the start.
use Prim.Native.Nat.{ℕ, ◌+◌, ◌<◌}
use mathlib.Core.Path.{◌≡◌}
use mathlib.Core.List.{List, [], ◌∷◌}
use lib.IntN.{ℤ, pos}
use lib.ListN.{drop, get_or, length}
use mir.Facts.{to_z-of_z}
use mir.Syntax.{w64}
use mir.Val.{SFits}
use Rattle.std.proofs.Common.{rules}
use Rattle.std.specs.Slice.Iter.{iter_rest}
use Rattle.notation.specs.Printing.{whole}
use Rattle.output.specs.Output.{filled, mark}
use Rattle.output.proofs.Left.{Left, left_empty, left_none, left_room, left_split, left_then}
use Rattle.wording.proofs.Filling.{byte_next, filled_done, mark_next, number_next}
use Rattle.wording.proofs.put_text.Goals.{then-b-eq37, else-b-eq37}
use Rattle.wording.proofs.put_text.Goals as goal

-- the piece of the next byte apart from the rest
module _ {o p all : List ℕ} {at n : ℕ} (t : List ℕ) (ns : List ℤ) (i : ℕ) (h : i < length t) (x : Left o at all n p (filled (drop i t) ns ∷ [])) where
  a_number : get_or t i 0 ≡ mark → Left o at all n p (whole (get_or ns 0 (pos 0)) ∷ filled (drop (i + 1) t) (drop 1 ns) ∷ [])
  a_number e = left_split _ _ x (mark_next t ns i h e)

  a_byte : (get_or t i 0 ≡ mark → ⊥) → Left o at all n p ((get_or t i 0 ∷ []) ∷ filled (drop (i + 1) t) ns ∷ [])
  a_byte e = left_split _ _ x (byte_next t ns i h e)

pub put_whole-next-requires : goal.put_whole-next-requires
put_whole-next-requires c =
    let loop = c.loop-b in
    let fits : SFits w64 c.unwrap_or.result = search rules in
    let number = number_next loop.left c.next.new.self c.next.result c.next.ensures.steps in
    rw (to_z-of_z fits, c.unwrap_or.ensures, c.copied.ensures, number.0)
    (left_room (a_number c.args.text.now (iter_rest loop.left) loop.b-index c.loop-b-test.true loop.invariant c.if-b-eq37.true) c.requires)

pub put_byte-next-requires : goal.put_byte-next-requires
put_byte-next-requires c =
    let loop = c.loop-b in
    left_room (a_byte c.args.text.now (iter_rest loop.left) loop.b-index c.loop-b-test.true loop.invariant c.if-b-eq37.false) c.requires

pub loop-b-preserved : goal.loop-b-preserved
loop-b-preserved c =
    let loop = c.loop-b in
    elim c.if-b-eq37.branch [
      | then-b-eq37 w ↦
          (let fits : SFits w64 w.unwrap_or.result = search rules in
          let number = number_next loop.left w.next.new.self w.next.result w.next.ensures.steps in
          let put = rw (to_z-of_z fits, w.unwrap_or.ensures, w.copied.ensures, number.0) at w.put_whole-next.ensures in
          rw (w.left-is, w.out-is, w.next-is, number.1)
          (left_then (a_number c.args.text.now (iter_rest loop.left) loop.b-index c.loop-b-test.true loop.invariant w.if-b-eq37.true) put))
      | else-b-eq37 w ↦
          rw (w.left-is, w.out-is, w.next-is)
          (left_then (a_byte c.args.text.now (iter_rest loop.left) loop.b-index c.loop-b-test.true loop.invariant w.if-b-eq37.false) w.put_byte-next.ensures)
    ]

pub returns : goal.returns
returns c =
    let loop = c.loop-b in
    left_none (left_empty loop.invariant (filled_done c.args.text.now (iter_rest loop.left) loop.b-index c.loop-b-test.false))
