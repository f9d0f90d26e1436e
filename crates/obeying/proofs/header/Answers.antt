-- `obeying::header` meets its contract.
use Rattle.obeying.proofs.header.Goals as goal

pub returns-then-may : goal.returns-then-may
returns-then-may c = rw c.if-may.true c.«open».ensures

pub returns-else-may : goal.returns-else-may
returns-else-may c = rw c.if-may.false
