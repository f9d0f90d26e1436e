-- `words::reading` meets its contract: the reading is the machine's.
use mathlib.Core.Path.{sym, ◌∙◌}
use mir.Syntax.{w32}
use Rattle.rule.proofs.Signed.{read}
use Rattle.storage.proofs.Words.{reading_is}
use Rattle.words.proofs.reading.Goals as goal

pub returns : goal.returns
returns c =
    let d = c.cast_signed in read w32 d.result d.type_inv ∙ d.ensures ∙ sym (reading_is c.args.x)
