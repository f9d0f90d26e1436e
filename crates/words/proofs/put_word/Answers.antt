-- `words::put_word` meets its contract: four bytes laid over four.
use Prim.Native.Nat.{◌+◌}
use mathlib.Core.Path.{sym, ◌∙◌}
use lib.ListN.{take, drop}
use Rattle.std.proofs.Common.{append_assoc}
use native.Mathlib.Omega.{arith}
use borrow.Rule.Slice.PartMut.{Post-is}
use Rattle.std.proofs.lemmas.List.Edits.{sets-eq}
use Rattle.rule.specs.Bytes.{bytes}
use Rattle.words.proofs.put_word.Goals as goal

pub returns : goal.returns
unfolding bytes
returns c =
    let a = c.args in
    let l = a.out.now in
    rw (c.copy_from_slice.ensures.after, c.to_le_bytes.ensures, Post-is a.at (a.at + 4) l (omega arith))
    (sym (sets-eq (bytes a.x) l a.at c.requires ∙ append_assoc (take a.at l) (bytes a.x) (drop (a.at + 4) l)))
