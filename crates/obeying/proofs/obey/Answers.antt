-- `obeying::obey` meets its contract: each line is its case of what it does.
use mathlib.Core.Path.{◌≡◌, ◌∙◌, sym}
use mir.Syntax.{w32}
use mir.Facts.{to_z-of_z}
use mir.Val.{SFits}
use Rattle.std.proofs.Common.{Some, rules}
use Rattle.notation.specs.declared.Line.{Line}
use Rattle.listing.specs.Listing.{obeyed}
use Rattle.obeying.proofs.obey.Goals as goal

pub returns-in-Some-Steps : goal.returns-in-Some-Steps
unfolding obeyed
returns-in-Some-Steps c =
    let e : c.args.l ≡ Some (Line.Steps c.in-Some-Steps.b) = search rules in
    rw (e, ← c.steps_may.ensures) (rw c.in_order.ensures at c.header.ensures)

pub returns-in-Some-Late : goal.returns-in-Some-Late
unfolding obeyed
returns-in-Some-Late c =
    let e : c.args.l ≡ Some (Line.Late c.in-Some-Late.k) = search rules in
    rw (e, ← c.late_may.ensures) (rw c.late.ensures at c.header-in-Some-Late.ensures)

pub returns-then-late : goal.returns-then-late
unfolding obeyed
returns-then-late c =
    let e : c.args.l ≡ Some (Line.Alone c.in-Some-Alone.v) = search rules in
    rw (e, sym c.is_late-late.ensures ∙ c.if-late.true)

pub returns-else-late : goal.returns-else-late
unfolding obeyed
returns-else-late c =
    let e : c.args.l ≡ Some (Line.Alone c.in-Some-Alone.v) = search rules in
    let fits : SFits w32 c.in-Some-Alone.v = search rules in
    rw (e, sym c.is_late-late.ensures ∙ c.if-late.false) (rw (to_z-of_z fits) at c.next.ensures)

pub returns-then-late-2 : goal.returns-then-late-2
unfolding obeyed
returns-then-late-2 c =
    let e : c.args.l ≡ Some (Line.Pair c.in-Some-Pair.tick c.in-Some-Pair.v) = search rules in
    let fits : SFits w32 c.in-Some-Pair.v = search rules in
    rw (e, sym c.is_late-late.ensures ∙ c.if-late-2.true) (rw (to_z-of_z fits) at c.late-then-late-2.ensures)

pub returns-else-late-2 : goal.returns-else-late-2
unfolding obeyed
returns-else-late-2 c =
    let e : c.args.l ≡ Some (Line.Pair c.in-Some-Pair.tick c.in-Some-Pair.v) = search rules in
    rw (e, sym c.is_late-late.ensures ∙ c.if-late-2.false)

pub returns-in-None : goal.returns-in-None
unfolding obeyed
returns-in-None c = rw c.in-None.is
