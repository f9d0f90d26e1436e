use mathlib.Core.Path.{◌≡◌}
use Rattle.storage.proofs.Filing.{saved_up_to}
use Rattle.saved.proofs.save_slots.Given as goal

abbrev pub invariant-loop-i : goal.invariant-loop-i
invariant-loop-i l = l.out ≡ saved_up_to l.room l.initial.out l.i
