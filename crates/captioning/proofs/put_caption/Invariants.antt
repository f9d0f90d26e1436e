use mathlib.Core.List.{[], ◌∷◌}
use lib.ListN.{drop}
use Rattle.output.proofs.Left.{Left}
use Rattle.captions.specs.Caption.{escaped}
use Rattle.captioning.proofs.put_caption.Given as goal

abbrev pub invariant-loop-b : goal.invariant-loop-b
invariant-loop-b l = Left l.initial.out l.at (escaped l.caption) l.next l.out (escaped (drop l.b-index l.caption) ∷ [])
