-- `trace::Trace::accept` meets its contract.
use native.Mathlib.Omega.{arith}
use mathlib.Core.Path.{sym}
use mir.Facts.{to_z-of_z}
use Rattle.rooms.proofs.Sounding.{sound_facts, sound_readings}
use Rattle.rooms.proofs.Taking.{taken_state}
use Rattle.trace.proofs.Trace.accept.Goals as goal

pub accept-used-requires : goal.accept-used-requires
accept-used-requires c = rw (to_z-of_z c.ranges.value) c.requires

pub overflow_add-state : goal.overflow_add-state
overflow_add-state c =
    let f = sound_facts c.args.self.state c.args.room.now c.requires.fit in
    omega (arith, f.true_readings, sound_readings c.args.self.state c.args.room.now f)

pub returns : goal.returns
returns c =
    let g = c.args in
    let w = rw (to_z-of_z c.ranges.value) at c.accept-used.ensures in
    (rw w.0 (sym (taken_state g.self.state g.room.now g.at g.runs g.tick g.value c.requires c.ranges.value c.ranges.tick.fits)), w.1)
