-- `captioning::put_caption` meets its contract: what is printed and what is left to print are the whole.
use Prim.Native.Nat.{ℕ, ◌+◌, ◌<◌}
use mathlib.Core.List.{List, [], ◌∷◌}
use lib.ListN.{drop, get_or, length}
use Rattle.output.proofs.Left.{Left, left_empty, left_none, left_room, left_split, left_then}
use Rattle.captions.specs.Caption.{escaped, leaving, signs}
use Rattle.captions.proofs.Escaping.{escaped_done, escaped_next}
use Rattle.captioning.proofs.put_caption.Goals as goal

-- what the next byte leaves as, apart from the rest
next_left : {o p all : List ℕ} {at n : ℕ} (c : List ℕ) (i : ℕ) → i < length c → Left o at all n p (escaped (drop i c) ∷ []) → Left o at all n p (leaving signs (get_or c i 0) ∷ escaped (drop (i + 1) c) ∷ [])
next_left c i h x = left_split _ _ x (escaped_next c i h)

pub put_leaving-next-requires : goal.put_leaving-next-requires
put_leaving-next-requires c =
    let loop = c.loop-b in left_room (next_left c.args.caption.now loop.b-index c.loop-b-test.true loop.invariant) c.requires

pub loop-b-preserved : goal.loop-b-preserved
loop-b-preserved c =
    let loop = c.loop-b in left_then (next_left c.args.caption.now loop.b-index c.loop-b-test.true loop.invariant) c.put_leaving-next.ensures

pub returns : goal.returns
returns c = left_none (left_empty c.loop-b.invariant (escaped_done c.args.caption.now c.loop-b.b-index c.loop-b-test.false))
