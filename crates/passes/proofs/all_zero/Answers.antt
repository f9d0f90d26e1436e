-- `passes::all_zero` meets its contract.
use Prim.Native.Nat.{◌-◌}
use mathlib.Core.Path.{◌≡◌, ◌∙◌, refl}
use mathlib.Core.Bool.{Bool, ◌&&◌}
use mathlib.Core.List.{List}
use lib.IntN.{ℤ, pos}
use lib.ListN.{take, drop}
use Rattle.std.proofs.Common.{rules}
use borrow.Author.Tests.{tests}
use Rattle.std.proofs.lemmas.Iterator.{YieldsList-from_slice}
use Rattle.std.proofs.lemmas.Iterator.Search.{all_from_yields_List}
use Rattle.std.proofs.lemmas.List.Recursion.{same_from_clauses}
use Rattle.std.specs.List.{list_all}
use Rattle.rule.specs.Room.{all_zero}
use Rattle.rule.specs.Rules.{equal}
use Rattle.passes.proofs.all_zero.Goals as goal

each_zero : (l : List ℤ) → list_all (λ (z : ℤ). equal z (pos 0)) l ≡ all_zero l
unfolding all_zero
each_zero = same_from_clauses _ _ (λ z b. equal z (pos 0) && b) refl (λ _ _. refl) (λ _ _. refl)

pub returns : goal.returns
returns c =
    let zero : ℤ → Bool = λ z. equal z (pos 0) in
    all_from_yields_List zero _ _ _ c.all.ensures.ran (YieldsList-from_slice (take (c.args.to - c.args.from) (drop c.args.from c.args.room.now)) cc) (λ x b q k. search (rules, tests)) ∙ each_zero _
