-- `trace::Trace::take` meets its contract: what comes of a reading follows its arrival.
use mir.Facts.{to_z-of_z}
use Rattle.rule.specs.Calls.{traced}
use Rattle.trace.specs.Answers.{answer}
use Rattle.trace.specs.Taken.{Arrives, taken}
use Rattle.trace.proofs.Trace.take.Goals as goal
use Rattle.std.specs.Prelude.{Ok}
use Rattle.std.proofs.lemmas.Result.{err_from_is_err_and}

pub accept-requires : goal.accept-requires
unfolding Arrives
accept-requires c =
    rw (to_z-of_z c.ranges.value) (rw (c.in_ok-at.was) at c.requires)

pub returns-in_err-at : goal.returns-in_err-at
unfolding traced taken answer
returns-in_err-at c =
    let p = err_from_is_err_and c.from_residual.result c.from_residual.ensures.1 in
    rw (c.in_err-at.was, p.1, p.2)

pub returns : goal.returns
unfolding traced taken answer
returns c =
    let w = rw (to_z-of_z c.ranges.value) at c.accept.ensures in
    rw (c.in_ok-at.was) (λ i. (Ok (record { state = w.0 i }), w.1 i))
