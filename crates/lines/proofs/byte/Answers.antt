-- `lines::byte` meets its contract.
use Rattle.std.proofs.Common.{length, sym, ap, ◌∙◌, le-ltb, lt-ltb, eq-eqb, ne_eqb}
use Rattle.notation.specs.Signs.{line_feed}
use Rattle.listing.specs.Feeding.{Reader, byte_fed}
use Rattle.lines.proofs.byte.Goals as goal

pub returns-in_default : goal.returns-in_default
unfolding byte_fed
returns-in_default c = rw c.in_default.is

pub returns-then-b-eq10 : goal.returns-then-b-eq10
unfolding byte_fed
returns-then-b-eq10 c =
    let a = c.args in
    rw (eq-eqb a.b line_feed c.if-b-eq10.true) (ap {B = Reader} (λ o. (o.0, (o.1, a.line.now))) c.line_ended.ensures)
    ∙ sym (ap (λ x. byte_fed x a.f a.room.now a.line.now a.b) c.in-Ok.is)

pub returns-then-filled-line : goal.returns-then-filled-line
unfolding byte_fed
returns-then-filled-line c =
    let a = c.args in
    rw (c.in-Ok.is, ne_eqb a.b line_feed c.if-b-eq10.false, lt-ltb a.f.filled (length a.line.now) c.if-filled-line.true)

pub returns : goal.returns
unfolding byte_fed
returns c =
    let a = c.args in
    rw (c.in-Ok.is, ne_eqb a.b line_feed c.if-b-eq10.false, le-ltb a.f.filled (length a.line.now) c.if-filled-line.false, c.too_long.ensures)
