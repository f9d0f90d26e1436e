-- `fitting::fits` meets its contract.
use Rattle.std.proofs.Common.{eq-eqb, ne_eqb}
use Rattle.notation.specs.Signs.{line_feed}
use Rattle.fitting.specs.Fitting.{fit_now}
use Rattle.fitting.proofs.fits.Goals as goal

pub returns-then-b-ne10 : goal.returns-then-b-ne10
returns-then-b-ne10 c = rw (ne_eqb c.args.b line_feed c.if-b-ne10.true)

pub returns-then-known : goal.returns-then-known
returns-then-known c = rw (eq-eqb c.args.b line_feed c.if-b-ne10.false, c.if-known.true)

pub returns-in_default : goal.returns-in_default
unfolding fit_now
returns-in_default c = rw (eq-eqb c.args.b line_feed c.if-b-ne10.false, c.if-known.false, c.in_default.is)

pub returns : goal.returns
unfolding fit_now
returns c =
    rw (eq-eqb c.args.b line_feed c.if-b-ne10.false, c.if-known.false, c.in-Ok.is)
    c.sound.ensures
