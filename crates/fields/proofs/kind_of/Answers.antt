-- `fields::kind_of` meets its contract.
use Prim.Native.Nat.{ℕ, zero, suc, ◌≤◌}
use mathlib.Core.Path.{◌≡◌, refl}
use native.Mathlib.Omega.{arith}
use Rattle.rule.specs.declared.Kind.{Kind}
use Rattle.fields.specs.States.{kind_of}
use Rattle.fields.proofs.kind_of.Goals as goal

pub returns-then-number-eq0 : goal.returns-then-number-eq0
unfolding kind_of
returns-then-number-eq0 c = rw c.if-number-eq0.true

pub returns-else-number-eq0 : goal.returns-else-number-eq0
unfolding kind_of
returns-else-number-eq0 c = other c.args.number (omega arith)
  where
    other : (n : ℕ) → 1 ≤ n → Kind.Late ≡ kind_of n
    other zero h = absurd (omega arith)
    other (suc n) h = refl
