-- `shown::showing` meets its contract: its arms are those of the definition.
use mir.Syntax.{w32}
use Rattle.rule.proofs.Signed.{read}
use Rattle.plain.specs.Plain.{showing}
use Rattle.shown.proofs.showing.Goals as goal

pub returns-in-Ok : goal.returns-in-Ok
unfolding showing
returns-in-Ok c =
    let f = c.in-Ok.field-0 in
    rw (c.in-Ok.is, read w32 f.level c.in-Ok.level-1-own.given, read w32 f.least c.in-Ok.least-1-own.given, read w32 f.largest c.in-Ok.largest-1-own.given)

pub returns-in-Err : goal.returns-in-Err
unfolding showing
returns-in-Err c = rw (c.in-Err.is, c.number.ensures, c.place.ensures)
