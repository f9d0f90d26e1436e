-- The pass over slots, and the table with a bucket more in the parts that are passed over.
use Prim.Native.Nat.{ℕ, suc, ◌+◌, ◌-◌, ◌≤◌, ◌<◌}
use mathlib.Core.Path.{◌≡◌, refl, sym, ap, ◌∙◌}
use mathlib.Core.List.{List, [], ◌∷◌, ◌++◌, append_assoc}
use native.Mathlib.Omega.{arith}
use native.Mathlib.Numerals.{add-one}
use lib.IntN.{ℤ}
use Rattle.rule.specs.declared.Bucket.{Bucket}
use Rattle.rule.specs.Room.{numbers, slot, slots}
use Rattle.rule.specs.Table.{Table, cheaper, cheapest, choice}
use Rattle.rule.proofs.Fitting.{Fitted, fitted_place}
use Rattle.rooms.specs.Slots.{Filled, cost_of, place_of, put_at}
use Rattle.rooms.proofs.Fitting.{fitted_slots}
use Rattle.rooms.proofs.Laying.{length_slots, slots_last, slots_with}
use Rattle.rooms.proofs.Scoring.{cheaper_assoc, cheaper_nothing, cheapest_below, cheapest_last, cheapest_next, cheapest_split, slots_next}
use Rattle.scan.specs.declared.Best.{Best}
use Rattle.scan.specs.Best.{better, unmet}
use Rattle.scan.proofs.Keeping.{better_both, better_cost, better_place}

-- slot i comes next: the best so far, and what is left to look at from the slot before it on, make the whole
pub record Passed (d : ℕ) (l : List ℤ) (from to shift : ℕ) (met best : Best) (i : ℕ) : Type 0 where
  pub last : ℕ
  pub next : last + 1 ≡ i
  pub reached : last ≤ to
  pub left : better best (cheapest d (last + shift) (slots l last (to - last))) ≡ better met (cheapest d (from + shift) (slots l from (to - from)))

pub passed_start : (d : ℕ) (l : List ℤ) (from to shift : ℕ) (met : Best) → from ≤ to → Passed d l from to shift met met (from + 1)
passed_start d l from to shift met h = record { last = from; next = refl; reached = h; left = refl }

module _ {d : ℕ} {l : List ℤ} {from to shift : ℕ} {met best : Best} {i : ℕ} (p : Passed d l from to shift met best i) where
  pub passed_step : i < to → Passed d l from to shift met (better best (choice d (i - 1 + shift) (slot l (i - 1)) (slot l i))) (i + 1)
  passed_step h =
      let j = p.last in
      let before : i - 1 ≡ j = omega (arith, p.next) in
      let after : j + 1 + shift ≡ suc (j + shift) = omega arith in
      let more : j + 1 < to = omega (arith, p.next) in
      let q = choice d (j + shift) (slot l j) (slot l (j + 1)) in
      record {
        last = i;
        next = refl;
        reached = omega arith;
        left = rw (before, ← p.next, after) (better_both best q (cheapest d (suc (j + shift)) (slots l (j + 1) (to - (j + 1))))) ∙ ap (better best) (sym (cheapest_next l to d j (j + shift) more)) ∙ p.left;
      }

  pub passed_end : to ≤ i → best ≡ better met (cheapest d (from + shift) (slots l from (to - from)))
  unfolding better
  passed_end h = ap (better best) (sym (cheapest_last l to d p.last (p.last + shift) (omega (arith, p.next)))) ∙ p.left

-- ---- with the bucket behind the first slots

module _ (d : ℕ) (l : List ℤ) (b : Bucket) where
  pub ended : (h i : ℕ) → suc h ≡ i → cheaper (cheapest d 0 (slots l 0 i)) (choice d h (slot l h) b) ≡ cheapest d 0 (slots l 0 i ++ (b ∷ []))
  unfolding cheapest
  ended h i e =
      let x = slots l 0 h in
      let c = slot l h in
      rw (slots_last l h i e, append_assoc x (c ∷ []) (b ∷ [])) (sym (cheapest_split d 0 h x c (b ∷ []) (omega (arith, length_slots l 0 h)) ∙ ap (cheaper (cheapest d 0 (x ++ (c ∷ [])))) (cheaper_nothing (choice d h c b))))

  -- ---- with the bucket at a place among the slots

  -- those up to it, it and the slot behind it, and those from there on
  pub among : (n at : ℕ) → at < n → cheaper (cheaper (cheapest d 0 (slots l 0 at ++ (b ∷ []))) (choice d at b (slot l at))) (cheapest d (at + 1) (slots l at (n - at))) ≡ cheapest d 0 (put_at at b (slots l 0 n))
  unfolding cheapest
  among n at h =
      let x = slots l 0 at in
      let y = slots l (suc at) (n - suc at) in
      rw (slots_with l n at b (omega arith), slots_next l n at h, add-one at)
      (cheaper_assoc (cheapest d 0 (x ++ (b ∷ []))) (choice d at b (slot l at)) (cheapest d (suc at) (slot l at ∷ y)) ∙ sym (cheapest_split d 0 at x b (slot l at ∷ y) (omega (arith, length_slots l 0 at))))

-- ---- the place and the cost that a pass over everything ends with

pub its_place : (d : ℕ) (t : Table) → Fitted t → (better unmet (cheapest d 0 t)).place ≡ place_of (cheapest d 0 t)
its_place d t f = better_place (cheapest d 0 t) (cheapest_below d 0 t f)

pub its_cost : (d : ℕ) (t : Table) → Fitted t → (better unmet (cheapest d 0 t)).cost ≡ cost_of (cheapest d 0 t)
its_cost d t f = better_cost (cheapest d 0 t) (cheapest_below d 0 t f)

pub fitted_with : (l : List ℤ) (n at : ℕ) (b : Bucket) → Filled l n → Filled (numbers b) 1 → Fitted (put_at at b (slots l 0 n))
unfolding Fitted slots slot
fitted_with l n at b f g = fitted_place b (fitted_slots (numbers b) 0 1 g.ranges).0 at (slots l 0 n) (fitted_slots l 0 n f.ranges)

pub place_among : (d : ℕ) (l : List ℤ) (n at : ℕ) (b : Bucket) → Filled l n → Filled (numbers b) 1 → at < n
    → (better (better (better unmet (cheapest d 0 (slots l 0 at ++ (b ∷ [])))) (choice d at b (slot l at))) (cheapest d (at + 1) (slots l at (n - at)))).place ≡ place_of (cheapest d 0 (put_at at b (slots l 0 n)))
place_among d l n at b f g h =
    let x = cheapest d 0 (slots l 0 at ++ (b ∷ [])) in
    let q = choice d at b (slot l at) in
    rw (better_both unmet x q, better_both unmet (cheaper x q) (cheapest d (at + 1) (slots l at (n - at))), among d l b n at h) (its_place d (put_at at b (slots l 0 n)) (fitted_with l n at b f g))
