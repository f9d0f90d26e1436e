-- The buckets that ranged slots hold have their numbers in their fields' ranges; slots laid of such buckets are filled.
use Prim.Native.Nat.{ℕ, zero, suc, ◌*◌, ◌-◌, ◌≤◌}
use mathlib.Core.Path.{◌≡◌, refl, ◌∙◌}
use mathlib.Core.Bool.{true}
use mathlib.Core.List.{List, [], ◌∷◌, ◌++◌}
use native.Mathlib.Omega.{arith}
use native.Mathlib.Nat.{add-zero}
use lib.IntN.{ℤ}
use lib.ListN.{length, drop}
use Rattle.rule.specs.Numbers.{slot_width}
use Rattle.rule.specs.Room.{flat, laid, numbers, ranged, slot, slot_ranged, slots, zeros}
use Rattle.rule.specs.Table.{Table}
use Rattle.rule.proofs.Fitting.{Fitted, Fitting}
use Rattle.rule.proofs.Signed.{fits_signed, fits_unsigned, signed_fits, unsigned_fits}
use Rattle.rooms.specs.Slots.{Filled}
use Rattle.rule.proofs.Ruling.{and_both, and_left, and_right}
use Rattle.rooms.proofs.Laying.{length_laid, ranged_behind}
use Rattle.rooms.proofs.Reading.{ranges}

-- ---- read from ranged slots

pub fitting_slot : (l : List ℤ) (i : ℕ) → slot_ranged l i ≡ true → Fitting (slot l i)
unfolding slot
fitting_slot l i e =
    let r = ranges l i e in
    record { start = rw add-zero (unsigned_fits _ r.start).1.fits; count = (unsigned_fits _ r.count).1.fits; least = signed_fits _ r.least; largest = signed_fits _ r.largest }

pub fitted_slots : (l : List ℤ) (i n : ℕ) → ranged l i n ≡ true → Fitted (slots l i n)
unfolding Fitted ranged slots
fitted_slots l i zero e = tt
fitted_slots l i (suc n) e = (fitting_slot l i (and_left (slot_ranged l i) (ranged l (suc i) n) e), fitted_slots l (suc i) n (and_right (slot_ranged l i) (ranged l (suc i) n) e))

-- ---- laid

pub ranged_flat : (t : Table) (r : List ℤ) → Fitted t → ranged (flat t ++ r) 0 (length t) ≡ true
unfolding Fitted flat ranged slot_ranged
ranged_flat [] r f = refl
ranged_flat (b ∷ t) r f =
    let g = f.0 in
    and_both
    (and_both (and_both (and_both (fits_unsigned b.start g.start) (fits_unsigned b.count g.count)) (fits_signed b.least g.least)) (fits_signed b.largest g.largest))
    (ranged_behind (numbers b) (flat t ++ r) refl 0 (length t) ∙ ranged_flat t r f.1)

pub filled_laid : (n : ℕ) (t : Table) (l : List ℤ) → length t ≤ n → slot_width * n ≤ length l → Fitted t → Filled (laid n t l) (length t)
unfolding laid
filled_laid n t l h k f =
    record { there = omega (arith, length_laid n t l h k); ranges = ranged_flat t (zeros (slot_width * (n - length t)) ++ drop (slot_width * n) l) f }
