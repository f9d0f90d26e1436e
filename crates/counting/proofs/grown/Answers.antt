-- `counting::grown` meets its contract: what the count grows by is cut to what it holds, and so is the sum.
use Rattle.std.proofs.Common.{◌≡◌, ℕ, ◌<◌, ◌^◌, Result, Ok, Err, arith}
use Prim.Native.Nat.{min}
use Rattle.std.specs.Result.{OkIff, result_unwrap_or}
use Rattle.rule.specs.Calls.{grown}
use Rattle.counting.proofs.grown.Goals as goal

cut : {E : Type 0} (r : Result ℕ E) (n : ℕ) → OkIff r (n < 2 ^ 32) n → result_unwrap_or r 4294967295 ≡ min n 4294967295
cut (Ok x) n h = omega arith
cut (Err e) n h = omega arith

pub returns : goal.returns
unfolding grown
returns c = omega (arith, cut c.try_from.result c.args.by c.try_from.ensures)
