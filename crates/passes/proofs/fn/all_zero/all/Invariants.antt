use Rattle.std.proofs.Common.{◌≡◌, pos}
use Rattle.rule.specs.Rules.{equal}
use Rattle.passes.proofs.fn.all_zero.all.Given as goal

abbrev pub ensures : goal.ensures
ensures l r = r ≡ equal l.z.entry.now (pos 0)
