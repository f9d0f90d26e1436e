-- Where a reading goes is where the outcome has it, and it is ready to be taken there.
use Prim.Native.Nat.{ℕ}
use mathlib.Core.Path.{◌≡◌, refl}
use mathlib.Core.Bool.{true, false}
use mathlib.Core.List.{List, [], ◌∷◌}
use lib.IntN.{ℤ}
use Rattle.rule.specs.declared.State.{State}
use Rattle.rule.specs.Calls.{Check, checked, late_checks, late_verdict, next_checks, next_verdict}
use Rattle.rule.specs.Room.{table_of}
use Rattle.rule.specs.Table.{accept}
use Rattle.arrival.specs.Arrivals.{late_arrival, next_arrival}
use Rattle.rooms.proofs.Passing.{late_passed, next_passed}
use Rattle.trace.specs.Taken.{Arrives, taken}
use Rattle.std.specs.Prelude.{Ok}

module _ (s : State) (l : List ℤ) (v : ℤ) where
  -- by the same tests
  taken_checked : (at k tick : ℕ) (cs : List Check) → taken s l v (checked cs (Ok (record { at = at; runs = k; tick = tick }))) ≡ checked cs (Ok (accept s.settings (table_of s l) tick v))
  unfolding checked taken
  taken_checked at k tick [] = refl
  taken_checked at k tick ((true, r) ∷ cs) = refl
  taken_checked at k tick ((false, r) ∷ cs) = taken_checked at k tick cs

  pub next_taken : taken s l v (next_arrival s l) ≡ next_verdict s l v
  unfolding next_verdict
  next_taken = taken_checked _ _ _ (next_checks s l)

  pub late_taken : (tick : ℕ) → taken s l v (late_arrival s l tick v) ≡ late_verdict s l tick v
  unfolding late_verdict
  late_taken tick = taken_checked _ _ _ (late_checks s l tick v)

  pub next_arrives : Arrives s l v (next_arrival s l)
  unfolding Arrives
  next_arrives = next_passed s l v (λ w. Arrives s l v w) (λ r. tt) _ (λ _ r _. r)

  pub late_arrives : (tick : ℕ) → Arrives s l v (late_arrival s l tick v)
  unfolding Arrives
  late_arrives tick = late_passed s l v (λ w. Arrives s l v w) (λ r. tt) _ tick (λ _ _ r _. r)
