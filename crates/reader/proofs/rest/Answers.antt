-- `reader::rest` meets its contract.
use borrow.Author.Tests.{ne_eqb}
use mathlib.Core.Path.{◌∙◌, ap, sym}
use Rattle.listing.specs.Feeding.{rest_fed}
use Rattle.reader.proofs.rest.Goals as goal

pub returns-in_default : goal.returns-in_default
unfolding rest_fed
returns-in_default c = rw c.in_default.is

pub returns-then-f-eq0 : goal.returns-then-f-eq0
unfolding rest_fed
returns-then-f-eq0 c = rw (c.in-Ok.is, c.if-f-eq0.true)

pub returns : goal.returns
unfolding rest_fed
returns c =
    let a = c.args in
    rw (ne_eqb a.f.filled 0 c.if-f-eq0.false) c.line_ended.ensures ∙ sym (ap (λ x. rest_fed x a.f a.room.now a.line.now) c.in-Ok.is)
