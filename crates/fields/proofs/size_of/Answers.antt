-- `fields::size_of` meets its contract.
use Prim.Native.Nat.{ℕ, zero, suc, ◌≤◌}
use mathlib.Core.Path.{◌≡◌, refl}
use native.Mathlib.Omega.{arith}
use Rattle.rule.specs.declared.Size.{Size}
use Rattle.fields.specs.States.{size_of}
use Rattle.fields.proofs.size_of.Goals as goal

pub returns-then-by-eq0 : goal.returns-then-by-eq0
unfolding size_of
returns-then-by-eq0 c = rw c.if-by-eq0.true

pub returns-else-by-eq0 : goal.returns-else-by-eq0
unfolding size_of
returns-else-by-eq0 c = other c.args.by (omega arith)
  where
    other : (n : ℕ) → 1 ≤ n → Size.Base c.args.size ≡ size_of n c.args.size
    other zero h = absurd (omega arith)
    other (suc n) h = refl
