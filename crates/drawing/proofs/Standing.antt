-- Where the ticks and levels of a table stand: they fill the width and the height, in their order.
use Prim.Native.Nat.{ℕ, zero, suc, ◌+◌, ◌*◌, ◌-◌, ◌/◌, ◌≤◌, ◌<◌}
use mathlib.Core.Path.{◌≡◌, refl, sym}
use mathlib.Core.Logic.{◌≢◌, ⊎_elim}
use mathlib.Core.Bool.{true}
use mathlib.Core.List.Memᴰ
use mathlib.Core.List.{[], ◌∷◌, map, Memᴰ}
use native.Mathlib.Nat.{div-le_of_le-mul, div-lt_iff_lt-mul, div-mul-le_self, div-zero, le-div_iff_mul-le, mul-div_cancel_left, zero-div}
use native.Mathlib.Omega.{arith}
use borrow.Author.Tests.{eq-eqb, eqb-false, eqb-true, ne_eqb}
use lib.Dec.{eqb}
use lib.IntN.{ℤ}
use lib.Signed.{le_z}
use Rattle.rule.specs.declared.Bucket.{Bucket}
use Rattle.rule.specs.Bucket.{distance, end, larger, lesser, level}
use Rattle.rule.specs.Table.{Ordered, Table, last_end, next_tick}
use Rattle.rule.proofs.Errors.{larger_left, larger_right, lesser_left, lesser_right}
use Rattle.rule.proofs.Ruling.{ordered_readings}
use Rattle.rule.proofs.Whole.{by_test, distance_is, whole}
use Rattle.drawing.specs.declared.View.{View}
use Rattle.drawing.specs.Picture.{across, down, end_of, highest, lowest, start_of, view_of}

quotient_grows : (k x y : ℕ) → x ≤ y → x / k ≤ y / k
quotient_grows zero x y h = rw (div-zero x, div-zero y) (omega arith)
quotient_grows (suc k) x y h = (le-div_iff_mul-le {k = suc k} {x = x / suc k} {y = y} (omega arith)).1 (omega (arith, div-mul-le_self x (suc k)))

-- ---- ticks

module _ (v : View) where
  pub later : (tick next : ℕ) → tick ≤ next → across v tick ≤ across v next
  unfolding across
  later tick next h = omega (arith, quotient_grows v.span ((tick - v.first) * 9800) ((next - v.first) * 9800) (omega arith))

  pub from_left : (tick : ℕ) → 100 ≤ across v tick
  unfolding across
  from_left tick = omega arith

  pub at_first : across v v.first ≡ 100
  unfolding across
  at_first =
      let none : (v.first - v.first) * 9800 ≡ 0 = omega arith in
      rw (none, zero-div v.span)

  -- the tick behind the last, and a tick before it
  pub at_last : (tick : ℕ) → tick ≡ v.first + v.span → 0 < v.span → across v tick ≡ 9900
  unfolding across
  at_last tick e h =
      let all : (tick - v.first) * 9800 ≡ v.span * 9800 = omega arith in
      rw (all, mul-div_cancel_left 9800 h)

  pub at_earlier : (tick : ℕ) → tick < v.first + v.span → 0 < v.span → across v tick < 9900
  unfolding across
  at_earlier tick h g =
      let low : (tick - v.first) * 9800 / v.span < 9800 = (div-lt_iff_lt-mul {k = v.span} {x = (tick - v.first) * 9800} {y = 9800} g).1 (omega arith) in
      omega arith

  pub wide : (b : Bucket) → start_of v b < end_of v b
  wide b = omega arith

-- ---- levels

apart : (a b : ℤ) → a ≢ b → distance a b ≡ 0 → ⊥
apart a b h e = h (omega (whole, distance_is a b))

module _ (v : View) where
  pub level_flat : (z : ℤ) → distance v.top v.low ≡ 0 → down v z ≡ 2160
  unfolding down
  level_flat z e = rw (eq-eqb (distance v.top v.low) 0 e)

  pub flat : (z : ℤ) → v.top ≡ v.low → down v z ≡ 2160
  flat z e = level_flat z (omega (whole, distance_is v.top v.low))

  pub level_steep : (z : ℤ) → (distance v.top v.low ≡ 0 → ⊥) → down v z ≡ 260 + distance v.top z * 3800 / distance v.top v.low
  unfolding down
  level_steep z h = rw (ne_eqb (distance v.top v.low) 0 h)

  pub steep : (z : ℤ) → v.top ≢ v.low → down v z ≡ 260 + distance v.top z * 3800 / distance v.top v.low
  steep z h = level_steep z (apart v.top v.low h)

  -- flat or steep
  by_height : {P : Type 0} → (v.top ≡ v.low → P) → ((distance v.top v.low ≡ 0 → ⊥) → P) → P
  by_height f g =
      by_test (eqb (distance v.top v.low) 0)
      (λ e. f (omega (whole, distance_is v.top v.low, eqb-true (distance v.top v.low) 0 e)))
      (λ e. g (eqb-false (distance v.top v.low) 0 e))

  pub top_edge : v.top ≢ v.low → down v v.top ≡ 260
  top_edge h =
      let none : distance v.top v.top * 3800 ≡ 0 = omega (whole, distance_is v.top v.top) in
      rw (level_steep v.top (apart v.top v.low h), none, zero-div (distance v.top v.low))

  pub low_edge : v.top ≢ v.low → down v v.low ≡ 4060
  low_edge h =
      let n = distance v.top v.low in
      let some : 0 < n = omega (arith, apart v.top v.low h) in
      rw (level_steep v.low (apart v.top v.low h), mul-div_cancel_left 3800 some)

  pub higher : (y z : ℤ) → le_z y z ≡ true → le_z z v.top ≡ true → down v z ≤ down v y
  higher y z h g =
      by_height
      (λ e. rw (flat z e, flat y e) (omega arith))
      (λ e.
      let near : distance v.top z ≤ distance v.top y = omega (whole, distance_is v.top z, distance_is v.top y) in
      rw (level_steep z e, level_steep y e) (omega (arith, quotient_grows (distance v.top v.low) (distance v.top z * 3800) (distance v.top y * 3800) (omega arith))))

  -- every level between the two stands between them
  pub between : (z : ℤ) → le_z v.low z ≡ true → le_z z v.top ≡ true → (260 ≤ down v z) × (down v z ≤ 4060)
  between z h g =
      by_height
      (λ e. rw (flat z e) (omega arith, omega arith))
      (λ e.
      let near : distance v.top z ≤ distance v.top v.low = omega (whole, distance_is v.top z, distance_is v.top v.low) in
      let far : distance v.top z * 3800 / distance v.top v.low ≤ 3800 = div-le_of_le-mul (distance v.top v.low) (omega arith) in
      rw (level_steep z e) (omega arith, omega arith))

-- ---- of a table

above : (z : ℤ) (t : Table) → le_z z (highest z t) ≡ true
unfolding highest
above z [] = omega whole
above z (b ∷ t) = omega (whole, larger_left z (level b), above (larger z (level b)) t)

below : (z : ℤ) (t : Table) → le_z (lowest z t) z ≡ true
unfolding lowest
below z [] = omega whole
below z (b ∷ t) = omega (whole, lesser_left z (level b), below (lesser z (level b)) t)

above_each : (z : ℤ) (t : Table) (b : Bucket) → Memᴰ b t → le_z (level b) (highest z t) ≡ true
unfolding highest
above_each z [] b m = absurd (Memᴰ.not-nil m)
above_each z (a ∷ t) b m =
    ⊎_elim (λ e. rw e (omega (whole, larger_right z (level a), above (larger z (level a)) t))) (above_each (larger z (level a)) t b) (Memᴰ.cases_cons m)

below_each : (z : ℤ) (t : Table) (b : Bucket) → Memᴰ b t → le_z (lowest z t) (level b) ≡ true
unfolding lowest
below_each z [] b m = absurd (Memᴰ.not-nil m)
below_each z (a ∷ t) b m =
    ⊎_elim (λ e. rw e (omega (whole, lesser_right z (level a), below (lesser z (level a)) t))) (below_each (lesser z (level a)) t b) (Memᴰ.cases_cons m)

-- they are levels of the table
highest_among : (z : ℤ) (t : Table) → Memᴰ (highest z t) (z ∷ map level t)
unfolding highest larger
highest_among z [] = Memᴰ.head refl
highest_among z (b ∷ t) =
    by_test (le_z z (level b))
    (λ e. rw e (Memᴰ.tail (highest_among (level b) t)))
    (λ e. rw e (⊎_elim (λ f. Memᴰ.head f) (λ m. Memᴰ.tail (Memᴰ.tail m)) (Memᴰ.cases_cons (highest_among z t))))

lowest_among : (z : ℤ) (t : Table) → Memᴰ (lowest z t) (z ∷ map level t)
unfolding lowest lesser
lowest_among z [] = Memᴰ.head refl
lowest_among z (b ∷ t) =
    by_test (le_z z (level b))
    (λ e. rw e (⊎_elim (λ f. Memᴰ.head f) (λ m. Memᴰ.tail (Memᴰ.tail m)) (Memᴰ.cases_cons (lowest_among z t))))
    (λ e. rw e (Memᴰ.tail (lowest_among (level b) t)))

pub among_highest : (b : Bucket) (t : Table) → Memᴰ (view_of (b ∷ t)).top (map level (b ∷ t))
unfolding view_of
among_highest b t = highest_among (level b) t

pub among_lowest : (b : Bucket) (t : Table) → Memᴰ (view_of (b ∷ t)).low (map level (b ∷ t))
unfolding view_of
among_lowest b t = lowest_among (level b) t

pub under_top : (t : Table) (b : Bucket) → Memᴰ b t → le_z (level b) (view_of t).top ≡ true
unfolding view_of
under_top [] b m = absurd (Memᴰ.not-nil m)
under_top (a ∷ t) b m = ⊎_elim (λ e. rw e (above (level a) t)) (above_each (level a) t b) (Memᴰ.cases_cons m)

pub over_low : (t : Table) (b : Bucket) → Memᴰ b t → le_z (view_of t).low (level b) ≡ true
unfolding view_of
over_low [] b m = absurd (Memᴰ.not-nil m)
over_low (a ∷ t) b m = ⊎_elim (λ e. rw e (below (level a) t)) (below_each (level a) t b) (Memᴰ.cases_cons m)

-- a bucket of an ordered table
record Lies (from to : ℕ) (b : Bucket) : Type 0 where
  starts : from ≤ b.start
  holds : 1 ≤ b.count
  ends : end b ≤ to

lies : (e : ℕ) (t : Table) → Ordered e t → (b : Bucket) → Memᴰ b t → Lies e (last_end e t) b
unfolding Ordered last_end
lies e [] o b m = absurd (Memᴰ.not-nil m)
lies e (a ∷ t) o b m =
    ⊎_elim
    (λ q. rw q (record { starts = o.0; holds = o.1.0; ends = omega (arith, ordered_readings (end a) t o.1.1) }))
    (λ n. let w = lies (end a) t o.1.1 b n in record { starts = omega (arith, w.starts); holds = w.holds; ends = w.ends })
    (Memᴰ.cases_cons m)

-- the ticks that its picture shows: some, and up to the next one
pub shown : (b : Bucket) (t : Table) → Ordered 0 (b ∷ t) → let v = view_of (b ∷ t) in (0 < v.span) × (v.first + v.span ≡ next_tick (b ∷ t))
unfolding view_of Ordered last_end
shown b t o = (omega (arith, ordered_readings (end b) t o.1.1), omega (arith, ordered_readings (end b) t o.1.1))

pub left_edge : (b : Bucket) (t : Table) → across (view_of (b ∷ t)) b.start ≡ 100
unfolding view_of
left_edge b t = at_first (view_of (b ∷ t))

pub right_edge : (b : Bucket) (t : Table) → Ordered 0 (b ∷ t) → across (view_of (b ∷ t)) (next_tick (b ∷ t)) ≡ 9900
right_edge b t o = let s = shown b t o in at_last (view_of (b ∷ t)) (next_tick (b ∷ t)) (sym s.1) s.0

-- a bucket ends no further right than the last
pub to_right : (t : Table) → Ordered 0 t → (b : Bucket) → Memᴰ b t → end_of (view_of t) b ≤ 9900
to_right [] o b m = absurd (Memᴰ.not-nil m)
to_right (a ∷ t) o b m =
    let v = view_of (a ∷ t) in
    let s = shown a t o in
    let w = lies 0 (a ∷ t) o b m in
    omega (arith, later v (end b) (next_tick (a ∷ t)) w.ends, right_edge a t o, at_earlier v b.start (omega (arith, s.1, w.holds, w.ends)) s.0)

-- every point lies in the picture
pub in_frame : (t : Table) (b : Bucket) → Ordered 0 t → Memᴰ b t → let v = view_of t in
    (100 ≤ start_of v b) × (end_of v b ≤ 9900) × (260 ≤ down v (level b)) × (down v (level b) ≤ 4060)
in_frame t b o m =
    let v = view_of t in
    let h = between v (level b) (over_low t b m) (under_top t b m) in
    (from_left v b.start, to_right t o b m, h.0, h.1)
