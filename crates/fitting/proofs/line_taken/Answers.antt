-- `fitting::line_taken` meets its contract.
use Rattle.std.proofs.Common.{◌≡◌, true, sym, ap, ◌∙◌, w32, Some, rules}
use mir.Facts.{to_z-of_z}
use mir.Val.{SFits}
use Rattle.notation.specs.declared.Line.{Line}
use Rattle.rule.specs.Calls.{late}
use Rattle.rule.proofs.Ruling.{flipped}
use Rattle.trace.proofs.Taking.{late_arrives, late_taken}
use Rattle.fitting.specs.Fitting.{line_by}
use Rattle.fitting.proofs.Fitted.{pair_taken}
use Rattle.fitting.proofs.line_taken.Goals.{Else-not-is_late}
use Rattle.fitting.proofs.line_taken.Goals as goal

pub returns-in_default : goal.returns-in_default
unfolding line_by
returns-in_default c = rw c.in_default.is

pub returns-then-not-is_late : goal.returns-then-not-is_late
unfolding line_by
returns-then-not-is_late c = let a = c.args in c.line_ended.ensures ∙ sym (ap (λ x. line_by x a.f a.room.now a.line.now) c.in-Ok.is)

pub returns-in_default-l : goal.returns-in_default-l
unfolding line_by
returns-in_default-l c = let a = c.args in c.line_ended-in_default-l.ensures ∙ sym (ap (λ x. line_by x a.f a.room.now a.line.now) c.in-Ok.is)

-- a late trace
kind : (c : Else-not-is_late) → late c.in-Ok.t.state.settings.kind ≡ true
kind c = flipped c.is_late.ensures c.if-not-is_late.false-raw

pub placed-arrival-requires : goal.placed-arrival-requires
placed-arrival-requires c =
    (c.requires _ c.in-Ok.is, kind (goal.at.placed-arrival-requires c).Else-not-is_late)

pub take-answer-requires : goal.take-answer-requires
take-answer-requires c =
    let v = c.in-Some-Pair.v in
    let fits : SFits w32 v = search rules in
    rw (to_z-of_z fits, c.placed-arrival.ensures v) (late_arrives c.in-Ok.t.state c.args.room.now v c.in-Some-Pair.tick)

pub returns : goal.returns
unfolding line_by
returns c =
    let a = c.args in
    let s = c.in-Ok.t.state in
    let v = c.in-Some-Pair.v in
    let fits : SFits w32 v = search rules in
    let is : c.begun-l.result ≡ Some (Line.Pair c.in-Some-Pair.tick v) = search rules in
    pair_taken a.f s a.room.now a.line.now (sym c.begun-l.ensures ∙ is) (kind (goal.at.returns c).Else-not-is_late)
    (rw (to_z-of_z fits, c.placed-arrival.ensures v, late_taken s a.room.now v c.in-Some-Pair.tick) at c.take-answer.ensures)
    ∙ sym (ap (λ x. line_by x a.f a.room.now a.line.now) c.in-Ok.is)
