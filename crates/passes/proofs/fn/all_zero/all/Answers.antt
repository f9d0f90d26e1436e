-- The test of one number in `passes::all_zero`, told by its bits, is the definition's.
use mir.Syntax.{w64}
use Rattle.std.proofs.Common.{rules}
use Rattle.rule.proofs.Signed.{equal_bits}
use Rattle.passes.proofs.fn.all_zero.all.Goals as goal

pub returns : goal.returns
returns c = equal_bits w64 (search rules) (search rules)
