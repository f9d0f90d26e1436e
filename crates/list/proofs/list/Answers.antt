-- `list::list` is safe and ends: what it has read so far is an input of which the listing can be shown, and with each piece that ends nothing it gets on.
use Rattle.std.proofs.Common.{◌≡◌, ℕ, suc, ◌-◌, ◌≤◌, ◌<◌, Bool, true, false, cond, refl, sym, ◌∙◌, arith, rules, length, take, length-take}
use Rattle.listing.specs.Feeding.{has_ended}
use Rattle.listing.proofs.Listed.{reached_piece, reached_showable, reached_start}
use Rattle.listing.proofs.Passing.{most_passed, passed, reached_passes}
use Rattle.list.proofs.list.Goals as goal

-- what is left to get on to
less_left : (ended : Bool) (m g h : ℕ) → (ended ≡ false → (g < h) × (h ≤ m)) → cond ended 0 (suc (m - h)) < suc (m - g)
less_left true m g h on = omega arith
less_left false m g h on = let p = on refl in omega (arith, p.0, p.1)

pub pieces-init : goal.pieces-init
pieces-init c = record { room = search rules; line = search rules; piece = search rules; reached = reached_start c.begin-state.ensures }

pub pieces-preserved : goal.pieces-preserved
pieces-preserved c =
    let x = c.pieces.invariant in
    record { room = search rules; line = search rules; piece = search rules; reached = reached_piece _ x.reached c.piece-state.ensures }

pub pieces-smaller : goal.pieces-smaller
pieces-smaller c =
    let step = c.piece-state in
    let some : 1 ≤ length (take c.in_ok-n.n c.read.new.buf) = simp length-take (omega (arith, c.if-n-eq0.false)) in
    rw (sym c.ended.ensures ∙ c.pieces-test.true)
    (less_left (has_ended step.result.last) most_passed (passed c.pieces.state) (passed step.result) (reached_passes _ c.pieces.invariant.reached step.ensures some))

pub show-n-requires : goal.show-n-requires
show-n-requires c = reached_showable _ c.pieces.invariant.reached c.rest-state.ensures (omega arith)
