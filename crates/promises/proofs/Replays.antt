-- What a replay leaves is reached by an open and by late readings, those of its accepted records.
use Prim.Native.Nat.{ℕ}
use mathlib.Core.Path.{◌≡◌}
use mathlib.Core.List.{List}
use lib.IntN.{ℤ, nat_abs}
use Rattle.rule.specs.declared.Size.{Size}
use Rattle.logger.specs.Replay.{Course, late_opening, replay_outcome}
use Rattle.logger.proofs.Along.{replay_keeps}
use Rattle.promises.specs.Reached.{Reached, lates, opens, readings_of}
use Rattle.std.specs.Prelude.{Ok}

pub replay_reached : (size : Size) (gaps edition : ℕ) (recording : List ℕ) (l : List ℤ) {c : Course} {m : List ℤ} → replay_outcome size gaps edition recording l ≡ (Ok c, m)
    → Reached (late_opening size gaps edition) (readings_of c.landed) c.state m
unfolding readings_of
replay_reached size gaps edition recording l e =
    replay_keeps (λ s n ws. Reached (late_opening size gaps edition) (readings_of ws) s n) (λ s t m n ws w range f r. lates (nat_abs w.tick) w.value range r f) size gaps edition recording l (λ s n. opens l) e
