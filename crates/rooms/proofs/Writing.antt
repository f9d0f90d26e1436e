-- What row and save write: a refusal, or the buckets of a sound trace that have place.
use Prim.Native.Nat.{ℕ, ◌≤◌}
use mathlib.Core.Path.{◌≡◌}
use mathlib.Core.Bool.{true}
use mathlib.Core.List.{List}
use borrow.Author.Tests.{ltb-false, not-false}
use lib.IntN.{ℤ}
use Rattle.rule.specs.declared.Refusal.{Refusal}
use Rattle.rule.specs.declared.State.{State}
use Rattle.rule.specs.Calls.{Verdict, write_verdict}
use Rattle.rule.specs.Room.{sound, table_of}
use Rattle.rule.specs.Table.{Table}
use Rattle.rule.proofs.Checks.{Unrefused, past_checks}
use Rattle.std.specs.Prelude.{Ok, Err}

module _ (s : State) (l : List ℤ) where
  -- what holds of every refusal, and of the buckets of a sound trace that have place, holds of what is to be written
  pub write_either : (taken places : ℕ) (P : Verdict Table → Type 0) → ((r : Refusal) → P (Err r)) → (sound s l ≡ true → taken ≤ places → P (Ok (table_of s l))) → P (write_verdict s l taken places)
  unfolding write_verdict Unrefused
  write_either taken places P refuses writes =
      past_checks P refuses _ _ (λ p. writes (not-false _ p.0) (ltb-false places taken p.1.0))
