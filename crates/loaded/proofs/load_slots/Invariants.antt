use mathlib.Core.Path.{◌≡◌}
use Rattle.storage.proofs.Filing.{loaded_up_to}
use Rattle.loaded.proofs.load_slots.Given as goal

abbrev pub invariant-loop-i : goal.invariant-loop-i
invariant-loop-i l = l.room ≡ loaded_up_to l.file l.initial.room l.i
