-- `scan::over` meets its contract. The loop's invariant: the best so far, and what is left to look at, make the whole.
use native.Mathlib.Omega.{arith}
use Rattle.rooms.proofs.Reading.{filled}
use Rattle.scan.proofs.Scanning.{passed_end, passed_start, passed_step}
use Rattle.scan.proofs.over.Goals as goal

pub loop-i-init : goal.loop-i-init
loop-i-init g c = passed_start _ _ _ _ _ _ c.requires.1.0

pub loop-i-preserved : goal.loop-i-preserved
loop-i-preserved g c = rw (c.better-best.ensures, c.read-in-loop-i.ensures, c.read.ensures) (passed_step c.loop-i.invariant c.loop-i-test.true)

pub read-requires : goal.read-requires
read-requires g c = filled c.requires.0 _ (omega arith)

pub read-requires-in-loop-i : goal.read-requires-in-loop-i
read-requires-in-loop-i g c = filled c.requires.0 _ (omega arith)

pub returns : goal.returns
returns g c = passed_end c.loop-i.invariant (omega arith)
