-- What a slot whose numbers lie in their ranges gives the casts that read it, and what the four stores into a slot leave.
use Prim.Native.Nat.{ℕ, zero, suc, ◌+◌, ◌*◌, ◌≤◌, ◌<◌}
use mathlib.Core.Path.{◌≡◌, refl, ◌∙◌}
use mathlib.Core.Bool.{true, ◌&&◌}
use mathlib.Core.List.{List, append_assoc}
use native.Mathlib.Omega.{arith}
use native.Mathlib.Nat.{add-zero, zero-add}
use lib.Dec.{T}
use lib.IntN.{ℤ, pos, nat_abs}
use lib.ListN.{length, get_or, set}
use lib.Seq.{sets-eq}
use lib.Signed.{le_z, lt_z, non_neg, pos-nat_abs}
use mir.Syntax.{w32, w64}
use mir.Val.{Fits, SFits, to_z, of_z}
use mir.Facts.{to_z-of_z}
use Rattle.rule.specs.declared.Bucket.{Bucket}
use Rattle.rule.specs.Numbers.{slot_width, word}
use Rattle.rule.specs.Room.{field, numbers, ranged, signed, slot_ranged, unsigned, within}
use Rattle.rule.proofs.Signed.{unsigned_fits}
use Rattle.rule.proofs.Whole.{whole, one_side}
use Rattle.rooms.specs.Slots.{Filled, put}
use Rattle.rule.proofs.Ruling.{and_left, and_right}

-- the ranges of a slot's four numbers
pub record Ranges (l : List ℤ) (i : ℕ) : Type 0 where
  pub start : unsigned (get_or l (slot_width * i) (pos 0)) ≡ true
  pub count : unsigned (field l i 1) ≡ true
  pub least : signed (field l i 2) ≡ true
  pub largest : signed (field l i 3) ≡ true

field_first : (l : List ℤ) (i : ℕ) → field l i 0 ≡ get_or l (slot_width * i) (pos 0)
field_first l i = rw add-zero

pub ranges : (l : List ℤ) (i : ℕ) → slot_ranged l i ≡ true → Ranges l i
unfolding slot_ranged
ranges l i e =
    let a = unsigned (field l i 0) in
    let b = unsigned (field l i 1) in
    let c = signed (field l i 2) in
    let d = signed (field l i 3) in
    let three : a && b && c ≡ true = and_left (a && b && c) d e in
    let two : a && b ≡ true = and_left (a && b) c three in
    record { start = rw (field_first l i) at (and_left a b two); count = and_right a b two; least = and_right (a && b) c three; largest = and_right (a && b && c) d e }

slot_in : (l : List ℤ) (i n k : ℕ) → k < n → ranged l i n ≡ true → slot_ranged l (i + k) ≡ true
unfolding ranged
slot_in l i zero k h e = absurd (omega arith)
slot_in l i (suc n) zero h e = rw add-zero (and_left (slot_ranged l i) (ranged l (suc i) n) e)
slot_in l i (suc n) (suc k) h e =
    let next : i + suc k ≡ suc i + k = omega arith in
    rw next (slot_in l (suc i) n k (omega arith) (and_right (slot_ranged l i) (ranged l (suc i) n) e))

-- what reading one of the filled slots asks
pub filled : {l : List ℤ} {n : ℕ} → Filled l n → (i : ℕ) → i < n → (slot_width * suc i ≤ length l) × (slot_ranged l i ≡ true)
filled {l} {n} f i h = (omega (arith, f.there), rw zero-add at (slot_in l 0 n i h f.ranges))

ranged_front : (l : List ℤ) (i m n : ℕ) → m ≤ n → ranged l i n ≡ true → ranged l i m ≡ true
unfolding ranged
ranged_front l i zero n h e = refl
ranged_front l i (suc m) zero h e = absurd (omega arith)
ranged_front l i (suc m) (suc n) h e =
    rw (and_left (slot_ranged l i) (ranged l (suc i) n) e) (ranged_front l (suc i) m n (omega arith) (and_right (slot_ranged l i) (ranged l (suc i) n) e))

-- fewer slots
pub filled_front : {l : List ℤ} {m n : ℕ} → Filled l n → m ≤ n → Filled l m
filled_front {l} {m} {n} f h = record { there = omega (arith, f.there); ranges = ranged_front l 0 m n h f.ranges }

-- an unsigned number read from 64 bits is itself, and may be cast to 32
pub unsigned_held : (z : ℤ) → unsigned z ≡ true → to_z w64 (of_z w64 z) ≡ z
unfolding within
unsigned_held z e =
    let low : le_z (pos 0) z ≡ true = and_left (le_z (pos 0) z) (lt_z z (pos word)) e in
    let high : lt_z z (pos word) ≡ true = and_right (le_z (pos 0) z) (lt_z z (pos word)) e in
    let fits : SFits w64 z = omega (whole, one_side z) in
    to_z-of_z fits

pub unsigned_pos : (z : ℤ) → unsigned z ≡ true → pos (nat_abs z) ≡ z
unsigned_pos z e = pos-nat_abs z (unsigned_fits z e).0

pub unsigned_casts : (z : ℤ) → unsigned z ≡ true → T (non_neg (to_z w64 (of_z w64 z))) × Fits w32 (nat_abs (to_z w64 (of_z w64 z)))
unsigned_casts z e = rw (unsigned_held z e) (unsigned_fits z e)

pub stored : (l : List ℤ) (i : ℕ) (b : Bucket) → slot_width * suc i ≤ length l
    → set (set (set (set l (slot_width * i) (pos b.start)) (slot_width * i + 1) (pos b.count)) (slot_width * i + 2) b.least) (slot_width * i + 3) b.largest ≡ put l i b
unfolding put
stored l i b h =
    let one : slot_width * i + 1 ≡ suc (slot_width * i) = omega arith in
    let two : slot_width * i + 2 ≡ suc (suc (slot_width * i)) = omega arith in
    let three : slot_width * i + 3 ≡ suc (suc (suc (slot_width * i))) = omega arith in
    let four : slot_width * i + 4 ≡ slot_width * suc i = omega arith in
    rw (one, two, three) (sets-eq (numbers b) l (slot_width * i) (omega arith) ∙ rw (append_assoc, four))
