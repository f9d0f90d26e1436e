-- `text::parse_line` meets its contract.
use mathlib.Core.Path.{sym, ◌∙◌}
use native.Mathlib.Numerals.{add-one}
use native.Mathlib.Omega.{arith}
use borrow.Author.Tests.{eq-eqb, le-ltb, lt-ltb, ne_eqb}
use lib.ListN.{length}
use Rattle.std.proofs.Common.{◌+◌, rules}
use Rattle.notation.specs.Reading.{first_space, line_most, line_of}
use Rattle.notation.proofs.Lines.{rest, space_found, spaceless}
use Rattle.text.proofs.parse_line.Goals as goal

pub returns-then-line-gt64 : goal.returns-then-line-gt64
unfolding line_of
returns-then-line-gt64 c = rw (lt-ltb line_most (length c.args.line.now) c.if-line-gt64.true)

pub returns-in-Some : goal.returns-in-Some
unfolding line_of
returns-in-Some c =
    let l = c.args.line.now in
    let at = space_found l c.in-Some.at (sym c.first_space.ensures ∙ c.in-Some.is) in
    rw (
      c.spaced.ensures,
      rest l (c.in-Some.at + 1),
      add-one c.in-Some.at,
      le-ltb line_most (length l) c.if-line-gt64.false,
      at.0,
      ne_eqb c.in-Some.at (length l) (λ f. omega (arith, at.1)),
    )

pub returns-in-None : goal.returns-in-None
unfolding line_of
returns-in-None c =
    let l = c.args.line.now in
    rw (le-ltb line_most (length l) c.if-line-gt64.false, eq-eqb (first_space l) (length l) (spaceless l (sym c.first_space.ensures ∙ c.in-None.is))) (search rules)
