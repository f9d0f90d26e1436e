-- What a picture shows of buckets that lie in slots, slot by slot.
use Prim.Native.Nat.{ℕ, ◌+◌, ◌*◌, ◌-◌, ◌≤◌, ◌<◌, ◌^◌}
use mathlib.Core.Path.{◌≡◌}
use mathlib.Core.List.{List, [], ◌∷◌}
use native.Mathlib.Nat.{div-le_self}
use native.Mathlib.Numerals.{add-one}
use native.Mathlib.Omega.{arith}
use lib.IntN.{ℤ, pos}
use Rattle.rule.specs.declared.Bucket.{Bucket}
use Rattle.rule.specs.Bucket.{end, larger, lesser, level}
use Rattle.rule.specs.Room.{slot, slots}
use Rattle.rule.specs.Table.{Ordered, Table, last_end}
use Rattle.rooms.proofs.Following.{last_slot}
use Rattle.rooms.proofs.Scoring.{slots_next}
use Rattle.drawing.specs.declared.View.{View}
use Rattle.drawing.specs.Picture.{across, highest, lowest, view_of}
use Rattle.drawing.proofs.Standing.{shown}

-- top and low, found in the slots before i, and the levels from there on make those of the first n
pub record Seen (l : List ℤ) (n : ℕ) (top low : ℤ) (i : ℕ) : Type 0 where
  pub reached : i ≤ n
  pub highs : highest top (slots l i (n - i)) ≡ highest (level (slot l 0)) (slots l 1 (n - 1))
  pub lows : lowest low (slots l i (n - i)) ≡ lowest (level (slot l 0)) (slots l 1 (n - 1))

module _ (l : List ℤ) (n : ℕ) where
  pub slots_first : (n ≡ 0 → ⊥) → slots l 0 n ≡ slot l 0 ∷ slots l 1 (n - 1)
  slots_first h = let e : n - 0 ≡ n = omega arith in rw e at (slots_next l n 0 (omega (arith, h)))

  pub seen_start : (n ≡ 0 → ⊥) → (z : ℤ) → z ≡ level (slot l 0) → Seen l n z z 1
  seen_start h z e = record { reached = omega (arith, h); highs = rw e; lows = rw e }

  pub seen_next : {top low : ℤ} {i : ℕ} → Seen l n top low i → i < n → (z : ℤ) → z ≡ level (slot l i) → Seen l n (larger top z) (lesser low z) (i + 1)
  unfolding highest lowest
  seen_next {top} {low} {i} s h z e =
      record {
        reached = omega arith;
        highs = rw (add-one, e) (rw (slots_next l n i h) at s.highs);
        lows = rw (add-one, e) (rw (slots_next l n i h) at s.lows);
      }

  pub view_some : {top low : ℤ} {i : ℕ} → Seen l n top low i → n ≤ i → (n ≡ 0 → ⊥) → view_of (slots l 0 n) ≡ record { first = (slot l 0).start; span = end (slot l (n - 1)) - (slot l 0).start; top = top; low = low }
  unfolding view_of highest lowest slots
  view_some {top} {low} {i} s h k =
      let none : n - i ≡ 0 = omega arith in
      let highs : top ≡ highest (level (slot l 0)) (slots l 1 (n - 1)) = rw none at s.highs in
      let lows : low ≡ lowest (level (slot l 0)) (slots l 1 (n - 1)) = rw none at s.lows in
      let last : last_end 0 (slot l 0 ∷ slots l 1 (n - 1)) ≡ end (slot l (n - 1)) = rw (slots_first k) at (last_slot l n k) in
      rw (slots_first k, highs, lows, ← last)

  pub view_none : n ≡ 0 → view_of (slots l 0 n) ≡ record { first = 0; span = 1; top = pos 0; low = pos 0 }
  unfolding view_of slots
  view_none e = rw e

last_behind : (b : Bucket) (t : Table) → Ordered 0 (b ∷ t) → b.start < last_end 0 (b ∷ t)
unfolding view_of
last_behind b t o = omega (arith, (shown b t o).0, (shown b t o).1)

pub first_before : (l : List ℤ) (n : ℕ) → (n ≡ 0 → ⊥) → Ordered 0 (slots l 0 n) → (slot l 0).start ≤ end (slot l (n - 1))
first_before l n k o =
    let behind = last_behind (slot l 0) (slots l 1 (n - 1)) (rw (slots_first l n k) at o) in
    let last : last_end 0 (slot l 0 ∷ slots l 1 (n - 1)) ≡ end (slot l (n - 1)) = rw (slots_first l n k) at (last_slot l n k) in
    omega (arith, behind, last)

-- a table in tick order shows one tick or more
pub some_span : (t : Table) → Ordered 0 t → 0 < (view_of t).span
unfolding view_of
some_span [] o = omega arith
some_span (b ∷ t) o = (shown b t o).0

-- a tick of 40 bits stands where 62 bits hold it
pub across_small : (v : View) (tick : ℕ) → tick < 2 ^ 40 → across v tick < 2 ^ 62
unfolding across
across_small v tick h = omega (arith, div-le_self ((tick - v.first) * 9800) v.span)
