-- `admission::admit` meets its contract: each return is its case of the verdict.
use borrow.Author.Tests.{le-leb, lt-leb}
use native.Mathlib.Omega.{arith}
use Prim.Native.Nat.{◌≤◌, ◌*◌}
use mathlib.Core.Path.{◌≡◌, ◌∙◌, sym}
use mathlib.Core.Bool.{Bool, true, not}
use lib.ListN.{length}
use Rattle.rule.specs.Calls.{admitted, checked, kept, size_good}
use Rattle.rule.specs.Numbers.{slot_width}
use Rattle.rule.specs.Room.{edition_good, gaps_good, roomy}
use Rattle.rule.specs.Table.{needed}
use Rattle.rooms.proofs.Bounds.{most_needed, needed_small, size_base}
use Rattle.rule.proofs.Ruling.{flipped}
use Rattle.admission.specs.Admission.{admission}
use Rattle.admission.proofs.admit.Goals.{After-gaps_good, After-needed-slots, Else-not-edition_good, Else-not-gaps_good, Else-not-size_good}
use Rattle.admission.proofs.admit.Goals as goal

edition_here : (c : Else-not-edition_good) → edition_good c.args.named.edition ≡ true
edition_here c = flipped c.edition_good.ensures c.if-not-edition_good.false-raw

size_here : (c : Else-not-size_good) → size_good c.args.named.size ≡ true
size_here c = flipped c.size_good.ensures c.if-not-size_good.false-raw

size_here_else_not_gaps_good : (c : Else-not-gaps_good) → size_good c.args.named.size ≡ true
size_here_else_not_gaps_good c = flipped c.size_good.ensures c.if-not-size_good.false-raw

gaps_here : (c : After-gaps_good) {v : Bool} → not c.gaps_good.result ≡ v → let s = kept c.args.named in gaps_good s.kind s.gaps ≡ not v
gaps_here c e = rw c.kept-s.ensures at (flipped c.gaps_good.ensures e)

gaps_here_else_not_gaps_good : (c : Else-not-gaps_good) {v : Bool} → not c.gaps_good.result ≡ v → let s = kept c.args.named in gaps_good s.kind s.gaps ≡ not v
gaps_here_else_not_gaps_good c e = rw c.kept-s.ensures at (flipped c.gaps_good.ensures e)

needed_here : (c : After-needed-slots) → c.needed-slots.result ≡ needed (kept c.args.named)
needed_here c = rw c.kept-s.ensures at c.needed-slots.ensures

small : (c : Else-not-gaps_good) → needed (kept c.args.named) ≤ most_needed
small c =
    let o = c.args.named in
    needed_small (kept o) (sym (size_base o.size) ∙ size_here_else_not_gaps_good c) (gaps_here_else_not_gaps_good c c.if-not-gaps_good.false-raw)

pub returns-then-not-edition_good : goal.returns-then-not-edition_good
unfolding admitted admission checked
returns-then-not-edition_good c = rw (flipped c.edition_good.ensures c.if-not-edition_good.true-raw)

pub returns-then-not-size_good : goal.returns-then-not-size_good
unfolding admitted admission checked
returns-then-not-size_good c = rw (edition_here (goal.at.returns-then-not-size_good c).Else-not-edition_good, flipped c.size_good.ensures c.if-not-size_good.true-raw)

pub returns-then-not-gaps_good : goal.returns-then-not-gaps_good
unfolding admitted admission checked
returns-then-not-gaps_good c = rw (edition_here (goal.at.returns-then-not-gaps_good c).Else-not-edition_good, size_here (goal.at.returns-then-not-gaps_good c).Else-not-size_good, gaps_here (goal.at.returns-then-not-gaps_good c).After-gaps_good c.if-not-gaps_good.true-raw)

pub returns-then-room-slots : goal.returns-then-room-slots
unfolding admitted admission checked roomy
returns-then-room-slots c =
    let a = c.args in
    rw (
      edition_here (goal.at.returns-then-room-slots c).Else-not-edition_good,
      size_here (goal.at.returns-then-room-slots c).Else-not-size_good,
      gaps_here (goal.at.returns-then-room-slots c).After-gaps_good c.if-not-gaps_good.false-raw,
      lt-leb (slot_width * needed (kept a.named)) (length a.room.now) (omega (arith, needed_here (goal.at.returns-then-room-slots c).After-needed-slots, c.if-room-slots.true)),
    )

pub returns : goal.returns
unfolding admitted admission checked roomy
returns c =
    let a = c.args in
    rw (
      edition_here (goal.at.returns c).Else-not-edition_good,
      size_here (goal.at.returns c).Else-not-size_good,
      gaps_here (goal.at.returns c).After-gaps_good c.if-not-gaps_good.false-raw,
      le-leb (slot_width * needed (kept a.named)) (length a.room.now) (omega (arith, needed_here (goal.at.returns c).After-needed-slots, c.if-room-slots.false)),
      needed_here (goal.at.returns c).After-needed-slots,
      c.kept-s.ensures,
    )

pub kept-s-requires : goal.kept-s-requires
kept-s-requires c = size_here c

pub needed-slots-requires : goal.needed-slots-requires
needed-slots-requires c = rw c.kept-s.ensures (omega (arith, small c))

pub overflow_mul-slots : goal.overflow_mul-slots
overflow_mul-slots c = omega (arith, small (goal.at.overflow_mul-slots c).Else-not-gaps_good, needed_here c)
