-- `words::bits` meets its contract: the 32 bits are the machine's.
use mathlib.Core.Path.{sym, ap, ◌∙◌}
use mir.Syntax.{w32}
use mir.Val.{of_z}
use mir.Facts.{to_z-of_z}
use Rattle.storage.proofs.Words.{bits_is}
use Rattle.words.proofs.bits.Goals as goal

pub returns : goal.returns
returns c = c.cast_unsigned.ensures ∙ ap (of_z w32) (to_z-of_z c.ranges.v) ∙ sym (bits_is c.args.v)
