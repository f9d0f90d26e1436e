-- The worst error looked for slot by slot.
use Prim.Native.Nat.{ℕ, suc, ◌+◌, ◌-◌, ◌≤◌, ◌<◌, max}
use mathlib.Core.Path.{◌≡◌, ◌∙◌}
use mathlib.Core.List.{List}
use native.Mathlib.Numerals.{add-one}
use native.Mathlib.Omega.{arith}
use lib.IntN.{ℤ}
use Rattle.rule.specs.Bucket.{error}
use Rattle.rule.specs.Room.{slot, slots}
use Rattle.rule.specs.Table.{worst}
use Rattle.rooms.proofs.Scoring.{slots_next}

grouped : (a b c : ℕ) → max (max a b) c ≡ max a (max b c)
grouped a b c = omega arith

-- most, found in the slots before i, and the worst of those from there on make the worst of the first n
pub record Found (l : List ℤ) (n most i : ℕ) : Type 0 where
  pub reached : i ≤ n
  pub left : max most (worst (slots l i (n - i))) ≡ worst (slots l 0 n)

module _ (l : List ℤ) (n : ℕ) where
  pub found_start : Found l n 0 0
  found_start = let e : n - 0 ≡ n = omega arith in record { reached = omega arith; left = rw e (omega arith) }

  pub found_next : {most i : ℕ} → Found l n most i → i < n → Found l n (max most (error (slot l i))) (i + 1)
  unfolding worst
  found_next {most} {i} f h =
      record { reached = omega arith; left = rw add-one (grouped most (error (slot l i)) (worst (slots l (suc i) (n - suc i))) ∙ (rw (slots_next l n i h) at f.left)) }

  pub found_end : {most i : ℕ} → Found l n most i → n ≤ i → most ≡ worst (slots l 0 n)
  unfolding worst slots
  found_end {most} {i} f h = let e : n - i ≡ 0 = omega arith in omega (arith, rw e at f.left)
