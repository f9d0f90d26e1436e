use mathlib.Core.List.{[], ◌∷◌}
use lib.ListN.{drop}
use Rattle.std.specs.Slice.Iter.{iter_rest}
use Rattle.output.specs.Output.{filled}
use Rattle.output.proofs.Left.{Left}
use Rattle.wording.proofs.put_text.Given as goal

abbrev pub invariant-loop-b : goal.invariant-loop-b
invariant-loop-b l = Left l.initial.out l.at (filled l.text l.numbers) l.next l.out (filled (drop l.b-index l.text) (iter_rest l.left) ∷ [])
