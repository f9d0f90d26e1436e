-- `lookup::found_in` meets its contract.
use mir.Syntax.{w32}
use Rattle.rule.specs.Calls.{found}
use Rattle.rule.proofs.Signed.{read}
use Rattle.lookup.proofs.found_in.Goals as goal

pub returns : goal.returns
unfolding found
returns c =
    let level = c.level in
    let b = c.args.b in
    let told = c.struct_told-1.given.1.1 in
    rw (read w32 level.result level.type_inv, level.ensures, c.error.ensures) (simp (read w32 b.least told.0.1, read w32 b.largest told.1.0.1))
