-- The accepted readings tick by tick, and their runs beside the runs of a table that covers them.
use Prim.Native.Nat.{ℕ, zero, suc, ◌+◌, ◌≤◌}
use mathlib.Core.Path.{◌≡◌, refl, sym, ap, ◌∙◌}
use mathlib.Core.Bool.{Bool, true, false, not}
use mathlib.Core.List.{List, [], ◌∷◌, Memᴰ}
use native.Mathlib.Omega.{arith}
use borrow.Author.Tests.{eqb-true}
use lib.Dec.{eqb}
use Rattle.rule.specs.Table.{Table, holders}
use Rattle.rule.proofs.Whole.{by_test}
use Rattle.rule.proofs.Tables.{eqb_counts, held_before, one}
use Rattle.demands.specs.History.{Reading, arrived, beginning, begins, runs_of}

-- how many of the readings have the tick
unfoldable pub times : ℕ → List Reading → ℕ
times tick [] = 0
times tick (r ∷ rs) = one (eqb r.tick tick) + times tick rs

pub times_arrived : (tick : ℕ) (rs : List Reading) → times tick rs ≤ 1 → times tick rs ≡ one (arrived tick rs)
unfolding times arrived
times_arrived tick [] h = refl
times_arrived tick (r ∷ rs) h =
    by_test (eqb r.tick tick)
    (λ g. let k : times tick rs ≡ 0 = omega (arith, ap one g) in rw g (omega arith))
    (λ g. let k : times tick rs ≤ 1 = omega arith in rw g (omega (arith, times_arrived tick rs k)))

pub times_member : {r : Reading} {rs : List Reading} → Memᴰ r rs → 1 ≤ times r.tick rs
unfolding times
times_member {r} (Memᴰ.head {x = x} e) = omega (arith, ap (λ (q : Reading). q.tick) e, eqb_counts x.tick r.tick)
times_member (Memᴰ.tail m) = omega (arith, times_member m)

opposite : (c : Bool) → one (not c) + one c ≡ 1
opposite true = refl
opposite false = refl

-- ---- a reading more at a tick that had not arrived

module _ (r : Reading) (rs : List Reading) (new : times r.tick rs ≡ 0) where
  -- the only tick that no longer begins a run is the one after it
  begins_with : (tick : ℕ) → one (begins (r ∷ rs) tick) + one (eqb tick (suc r.tick)) ≡ one (begins rs tick)
  unfolding begins arrived
  begins_with zero = omega (arith, eqb_counts 0 (suc r.tick))
  begins_with (suc tick) =
      let next = eqb_counts (suc tick) (suc r.tick) in
      by_test (eqb r.tick tick)
      (λ g.
      let same : r.tick ≡ tick = eqb-true r.tick tick g in
      let none : times tick rs ≡ 0 = ap (λ (n : ℕ). times n rs) (sym same) ∙ new in
      rw g (omega (arith, times_arrived tick rs (omega arith), opposite (arrived tick rs))))
      (λ g. rw g (omega (arith, eqb_counts r.tick tick, ap one g)))

  beginning_with : (some : List Reading) → beginning (r ∷ rs) some + times (suc r.tick) some ≡ beginning rs some
  unfolding beginning times
  beginning_with [] = omega arith
  beginning_with (q ∷ some) = omega (arith, beginning_with some, begins_with q.tick)

  -- the true runs grow as the runs of a table do
  pub runs_with : (t : Table) → ((tick : ℕ) → holders tick t ≡ times tick rs) → ((tick : ℕ) → holders tick t ≤ 1)
      → runs_of (r ∷ rs) + (held_before r.tick t + holders (suc r.tick) t) ≡ suc (runs_of rs)
  unfolding beginning begins held_before
  runs_with t covers once =
      omega (arith, begins_with r.tick, eqb_counts r.tick (suc r.tick), beginning_with rs, covers (suc r.tick), before r.tick)
    where
      before : (tick : ℕ) → one (begins rs tick) + held_before tick t ≡ 1
      before zero = refl
      before (suc tick) = omega (arith, covers tick, once tick, times_arrived tick rs (omega (arith, covers tick, once tick)), opposite (arrived tick rs))
