-- The search slot by slot: while none that was passed is over, what is found from here on is what is found in all.
use Prim.Native.Nat.{ℕ, ◌+◌, ◌-◌, ◌≤◌, ◌<◌}
use mathlib.Core.Path.{◌≡◌, sym}
use mathlib.Core.Bool.{true, false}
use mathlib.Core.List.{List}
use mathlib.Core.Option.{some, none}
use native.Mathlib.Numerals.{add-one}
use native.Mathlib.Omega.{arith}
use borrow.Author.Count.{below_more}
use lib.IntN.{ℤ}
use Rattle.over.specs.Search.{first_over, over}
use Rattle.rule.specs.Room.{slot, slots}
use Rattle.rooms.proofs.Scoring.{slots_next}

module _ (first last : ℕ) (bar : ℤ) (l : List ℤ) (n : ℕ) where
  pub record Passed (i : ℕ) : Type 0 where
    pub reached : i ≤ n
    pub none_yet : (j : ℕ) → j < i → over first last bar (slot l j) ≡ false
    pub left : first_over first last bar i (slots l i (n - i)) ≡ first_over first last bar 0 (slots l 0 n)

  pub passed_start : Passed 0
  passed_start = let e : n - 0 ≡ n = omega arith in record { reached = omega arith; none_yet = λ j h. absurd (omega arith); left = rw e }

  pub passed_stop : {i : ℕ} → Passed i → i < n → over first last bar (slot l i) ≡ true → first_over first last bar 0 (slots l 0 n) ≡ some (i, (slot l i).start)
  unfolding first_over
  passed_stop {i} p h e = sym (rw (slots_next l n i h, e) at p.left)

  pub passed_next : {i : ℕ} → Passed i → i < n → over first last bar (slot l i) ≡ false → Passed (i + 1)
  unfolding first_over
  passed_next {i} p h e = record { reached = omega arith; none_yet = below_more _ _ p.none_yet e; left = rw add-one (rw (slots_next l n i h, e) at p.left) }

  pub passed_end : {i : ℕ} → Passed i → n ≤ i → first_over first last bar 0 (slots l 0 n) ≡ none
  unfolding first_over slots
  passed_end {i} p h = let e : n - i ≡ 0 = omega arith in sym (rw e at p.left)
