-- `svg::draw` is safe and ends: what it has read so far is an input of which the picture can be drawn, and with each piece that ends nothing it gets on.
use Rattle.std.proofs.Common.{◌≤◌, sym, ◌∙◌, arith, rules, length, take, length-take}
use Rattle.sketching.proofs.Passing.{kept_wide, part_less, part_reached, reached_drawable, reached_start, taken_inside}
use Rattle.svg.proofs.draw.Goals as goal

pub pieces-init : goal.pieces-init
pieces-init c = record { room = search rules; line = search rules; caption = search rules; piece = search rules; reached = reached_start c.begin-state.ensures }

pub slice_bounds-piece-count : goal.slice_bounds-piece-count
slice_bounds-piece-count c =
    let taken = simp length-take at (taken_inside _ c.pieces.invariant.reached c.head-heading.ensures) in
    omega (arith, taken)

pub slice_bounds-piece-start : goal.slice_bounds-piece-start
slice_bounds-piece-start c =
    let taken = simp length-take at (taken_inside _ c.pieces.invariant.reached c.head-heading.ensures) in
    omega (arith, taken)

pub pieces-smaller : goal.pieces-smaller
pieces-smaller c =
    let some : 1 ≤ length (take c.in_ok-n.n c.read.new.buf) = simp length-take (omega (arith, c.if-n-eq0.false)) in
    part_less _ _ c.pieces.invariant.reached c.head-heading.ensures c.piece-state.ensures some
    (rw (← c.caption_good.ensures, ← c.ended.ensures) (sym c.goes_on.ensures ∙ c.pieces-test.true))

pub pieces-preserved : goal.pieces-preserved
pieces-preserved c =
    let x = c.pieces.invariant.reached in
    let head = c.head-heading.ensures in
    record {
      room = search rules;
      line = search rules;
      caption = kept_wide _ x head;
      piece = search rules;
      reached = part_reached _ _ x head c.piece-state.ensures;
    }

pub sketch-n-requires : goal.sketch-n-requires
sketch-n-requires c = (reached_drawable c.pieces.invariant.reached c.rest-state.ensures, search rules)
