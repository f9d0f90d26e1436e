-- What holds of every refusal, and of what is accepted where the reading is ready to be taken, holds of both.
use Prim.Native.Nat.{ℕ, ◌<◌}
use mathlib.Core.Path.{◌≡◌, refl}
use mathlib.Core.Bool.{false}
use mathlib.Core.List.{List}
use native.Mathlib.Omega.{arith}
use borrow.Author.Tests.{leb-false, ltb-false, not-false}
use lib.IntN.{ℤ}
use Rattle.rule.specs.declared.Refusal.{Refusal}
use Rattle.rule.specs.declared.State.{State}
use Rattle.rule.specs.Calls.{Verdict, checked, is_held, late, late_checks, next_checks}
use Rattle.rule.specs.Numbers.{ticks, word}
use Rattle.rule.specs.Room.{table_of}
use Rattle.rule.specs.Table.{holding, next_tick, runs}
use Rattle.rule.proofs.Checks.{Unrefused, past_checks}
use Rattle.rooms.specs.Steps.{Ready, position, with}
use Rattle.rooms.proofs.Arriving.{Passed, late_ready}
use Rattle.rooms.proofs.Following.{next_ready}
use Rattle.std.specs.Prelude.{Ok, Err}

module _ {A : Type 0} (s : State) (l : List ℤ) (v : ℤ) (P : Verdict A → Type 0) (no : (r : Refusal) → P (Err r)) (a : A) where
  pub next_passed : (late s.settings.kind ≡ false → Ready s l s.used 1 (next_tick (table_of s l)) v → next_tick (table_of s l) < word → P (Ok a))
      → P (checked (next_checks s l) (Ok a))
  unfolding Unrefused
  next_passed takes =
      past_checks P no _ _ (λ p.
      let inside : next_tick (table_of s l) < ticks = leb-false ticks (next_tick (table_of s l)) p.1.1.0 in
      takes p.1.0 (next_ready s l v (not-false _ p.0) p.1.0 inside) (omega arith))

  pub late_passed : (tick : ℕ)
      → (Passed s l tick → is_held (holding tick (table_of s l)) ≡ false → Ready s l (position tick (table_of s l)) (runs (with s l tick v)) tick v → tick < word → P (Ok a))
      → P (checked (late_checks s l tick v) (Ok a))
  unfolding Unrefused
  late_passed tick takes =
      past_checks P no _ _ (λ p.
      let free = p.1.1.1.0 in
      let inside : tick < ticks = leb-false ticks tick p.1.1.0 in
      let fit : Passed s l tick = record { fit = not-false _ p.0; kind = not-false _ p.1.0; small = inside } in
      takes fit free (late_ready fit free refl refl (ltb-false s.settings.gaps (runs (with s l tick v)) p.1.1.1.1.0)) (omega arith))
