-- Merges in the lent numbers: at each turn of `settle` the room holds a table that settles to the same table.
use Prim.Native.Nat.{ℕ, ◌+◌, ◌*◌, ◌-◌, ◌≤◌, ◌<◌}
use mathlib.Core.Path.{◌≡◌, refl, sym, ap, ◌∙◌}
use mathlib.Core.List.{List, ◌∷◌}
use native.Mathlib.Omega.{arith}
use lib.IntN.{ℤ}
use lib.ListN.{length, length-append}
use Rattle.rule.specs.declared.Settings.{Settings}
use Rattle.rule.specs.Numbers.{slot_width, word}
use Rattle.rule.specs.Room.{laid, slots}
use Rattle.rule.specs.Table.{Choice, Table, nothing, pair, cheapest, limit, merge, merge_at, merge_of, readings, runs, settle}
use Rattle.rule.proofs.Merging.{Answers, no_pair, a_pair, answers, lone_runs, merge_length, merge_readings, merge_runs, settle_merges, settle_rests}
use Rattle.rooms.specs.Slots.{Filled, place_of}
use Rattle.rooms.specs.Steps.{Settling}
use Rattle.rule.proofs.Fitting.{Fitted, fitted_merge}
use Rattle.rooms.proofs.Fitting.{filled_laid, fitted_slots}
use Rattle.rooms.proofs.Laying.{flat_slots, laid_over, laid_within, length_laid, length_slots, slots_laid}

-- with fewer runs than buckets, the place of the cheapest neighbours is that of two buckets, and a merge is one at that place
pub cheapest_place : (e : ℕ) (t : Table) → runs t < length t → (place_of (cheapest e 0 t) + 1 < length t) × (merge_at (place_of (cheapest e 0 t)) t ≡ merge e t)
unfolding merge merge_of place_of
cheapest_place e t h = go (cheapest e 0 t) (answers e 0 t)
  where
    go : (q : Choice) → Answers e 0 t q → (place_of q + 1 < length t) × (merge_at (place_of q) t ≡ merge_of q t)
    go nothing (no_pair f) = absurd (omega (arith, lone_runs t f))
    go (pair j s x) (a_pair w) =
        let n = w.these in
        (omega (arith, w.place, ap length n.stands, length-append n.left (n.first ∷ n.second ∷ n.right)), refl)

-- the numbers l with n buckets have become m with `left`; the settings are told by the edition e and the limit, which is `most` at k runs
pub record Merged (e k most : ℕ) (l : List ℤ) (n : ℕ) (m : List ℤ) (left : ℕ) : Type 0 where
  pub filled : Filled m left
  pub count : readings (slots m 0 left) < word
  pub truth : k ≡ runs (slots m 0 left)
  pub enough : k ≤ most
  pub fewer : left ≤ n
  pub stands : m ≡ laid n (slots m 0 left) l
  pub same : (s : Settings) → s.edition ≡ e → limit s k ≡ most → settle s (slots m 0 left) ≡ settle s (slots l 0 n)

pub merged_start : {s : Settings} {k n : ℕ} {l : List ℤ} → Settling s k l n → Merged s.edition k (limit s k) l n l n
merged_start {n = n} {l = l} p =
    record {
      filled = p.filled;
      count = p.count;
      truth = p.truth;
      enough = p.enough;
      fewer = omega arith;
      stands = sym (laid_over n (slots l 0 n) l (length_slots l 0 n) ∙ flat_slots n l p.filled.there p.filled.ranges);
      same = λ s d e. refl;
    }

module _ {e k most : ℕ} {l : List ℤ} {n : ℕ} {m : List ℤ} {left : ℕ} (p : Merged e k most l n m left) where
  pub merged_same_length : slot_width * n ≤ length l → length m ≡ length l
  merged_same_length h = ap length p.stands ∙ length_laid n (slots m 0 left) l (omega (arith, length_slots m 0 left)) h

  pub merged_end : (s : Settings) → s.edition ≡ e → most ≡ limit s k → left ≤ most
      → (left ≡ length (settle s (slots l 0 n))) × (m ≡ laid n (settle s (slots l 0 n)) l)
  merged_end s d g h =
      let u = slots m 0 left in
      let rests : settle s (slots l 0 n) ≡ u = sym (p.same s d (sym g)) ∙ settle_rests s u (rw (length_slots m 0 left, ← p.truth, ← g) h) in
      rw rests (sym (length_slots m 0 left), p.stands)

  module _ (h : most < left) where
    more : runs (slots m 0 left) < length (slots m 0 left)
    more = omega (arith, length_slots m 0 left, p.truth, p.enough)

    pub merged_place : place_of (cheapest e 0 (slots m 0 left)) + 1 < left
    merged_place = omega (arith, (cheapest_place e (slots m 0 left) more).0, length_slots m 0 left)

    pub merged_step : (m' : List ℤ) → m' ≡ laid left (merge_at (place_of (cheapest e 0 (slots m 0 left))) (slots m 0 left)) m → Merged e k most l n m' (left - 1)
    merged_step m' wrote =
        let u = slots m 0 left in
        let v = merge e u in
        let long : length u ≡ left = length_slots m 0 left in
        let there = (cheapest_place e u more).1 in
        let shorter : length v ≡ left - 1 = omega (arith, merge_length e u more) in
        let written : m' ≡ laid left v m = wrote ∙ ap (λ (t : Table). laid left t m) there in
        let reads : slots m' 0 (left - 1) ≡ v = rw (written, ← shorter) (slots_laid left v m) in
        let fitted : Fitted v = rw there at (fitted_merge (place_of (cheapest e 0 u)) u (fitted_slots m 0 left p.filled.ranges) p.count) in
        record {
          filled = rw (written, ← shorter) (filled_laid left v m (omega arith) p.filled.there fitted);
          count = rw (reads, merge_readings e u more) p.count;
          truth = rw (reads, merge_runs e u more) p.truth;
          enough = p.enough;
          fewer = omega arith;
          stands = rw reads (written ∙ ap (laid left v) p.stands ∙ laid_within left n v u l (omega arith) long p.fewer);
          same = λ s d g. rw (reads, ← d) (sym (settle_merges s u (rw (← p.truth, g) p.enough) (rw (← p.truth, g, long) h)) ∙ p.same s d g);
        }
