-- What `sound` asks is what document 01 asks, and no more.
use Prim.Native.Nat.{ℕ, zero, suc, ◌+◌, ◌*◌, ◌-◌, ◌≤◌, ◌<◌}
use mathlib.Core.Path.{◌≡◌, refl, sym, ap, ◌∙◌, subst}
use mathlib.Core.Bool.{Bool, true, false, ◌&&◌, true≢false, false≢true}
use mathlib.Core.List.{List, [], ◌∷◌}
use native.Mathlib.Nat.{add-zero}
use native.Mathlib.Omega.{arith}
use borrow.Author.Tests.{eq-eqb, eqb-true, le-leb, leb-true}
use lib.IntN.{ℤ, pos, negsuc, nat_abs}
use lib.ListN.{drop, get_or, length, length-drop, take}
use lib.Signed.{le_z}
use mir.Syntax.{w32}
use mir.Val.{SFits}
use Rattle.rule.specs.declared.Bucket.{Bucket}
use Rattle.rule.specs.declared.Kind.{Kind}
use Rattle.rule.specs.declared.Kind.TheVariants.{InOrder, Late}
use Rattle.rule.specs.declared.State.{State}
use Rattle.rule.specs.Bucket.{end}
use Rattle.rule.specs.Calls.{late}
use Rattle.rule.specs.Numbers.{most, most_base, slot_width}
use Rattle.rule.specs.Room.{all_zero, field, gaps_good, ranged, rest_zero, runs_allowed, signed, slot, slot_ranged, slots, sound, table_of, unsigned}
use Rattle.rule.specs.Rules.{equal}
use Rattle.rule.specs.Table.{Table, needed, readings, runs}
use Rattle.rule.proofs.Ruling.{Ruled, and_both, and_left, and_right}
use Rattle.rule.proofs.Signed.{equal_same, fits_signed, fits_unsigned, signed_fits, unsigned_fits}
use Rattle.rule.proofs.Whole as wholes
use Rattle.rooms.proofs.Sounding.{facts_sound, sound_facts}
use Rattle.rooms.proofs.Bounds.{bounds, in_bounds}
use Rattle.rooms.proofs.Laying.{length_slots}
use Rattle.answered.specs.Answered.{slots_needed}
use Rattle.answered.specs.Sound.{Follow, Lie, Soundness, Stands, Whole}
use Rattle.answered.proofs.Answering.{either_edition, law_meets, lawful, limit_is, one_of_two}

-- ---- numbers in their ranges

unsigned_is : (z : ℤ) → unsigned z ≡ true → (z ≡ pos (nat_abs z)) × (nat_abs z < 4294967296)
unsigned_is (pos n) h = (refl, omega (arith, (unsigned_fits (pos n) h).1))
unsigned_is (negsuc n) h = absurd (unsigned_fits (negsuc n) h).0

signed_is : (z : ℤ) → signed z ≡ true → (le_z (negsuc 2147483647) z ≡ true) × (le_z z (pos 2147483647) ≡ true)
signed_is z h = let f : SFits w32 z = signed_fits z h in (omega wholes.whole, omega wholes.whole)

is_signed : (z : ℤ) → le_z (negsuc 2147483647) z ≡ true → le_z z (pos 2147483647) ≡ true → signed z ≡ true
is_signed z h k = fits_signed z (omega wholes.whole)

-- ---- slots

four : (a b c d : Bool) → a && b && c && d ≡ true → (a ≡ true) × (b ≡ true) × (c ≡ true) × (d ≡ true)
four a b c d h =
    let i = and_left (a && b && c) d h in
    let j = and_left (a && b) c i in
    (and_left a b j, and_right a b j, and_right (a && b) c i, and_right (a && b && c) d h)

module _ (l : List ℤ) (i : ℕ) where
  stands : slot_ranged l i ≡ true → Stands l (4 * i) (slot l i)
  unfolding slot_ranged slot
  stands h =
      let x = four (unsigned (field l i 0)) (unsigned (field l i 1)) (signed (field l i 2)) (signed (field l i 3)) h in
      let a = unsigned_is (field l i 0) x.0 in
      let b = unsigned_is (field l i 1) x.1 in
      let c = signed_is (field l i 2) x.2 in
      let d = signed_is (field l i 3) x.3 in
      record {
        start = ap (λ (p : ℕ). get_or l p (pos 0)) (sym (add-zero (4 * i))) ∙ a.0;
        count = b.0;
        least = refl;
        largest = refl;
        start_range = a.1;
        count_range = b.1;
        least_range = c;
        largest_range = d;
      }

  slot_is : (b : Bucket) → Stands l (4 * i) b → slot l i ≡ b
  unfolding slot
  slot_is b x =
      let start : nat_abs (field l i 0) ≡ b.start = ap nat_abs (ap (λ (p : ℕ). get_or l p (pos 0)) (add-zero (4 * i)) ∙ x.start) in
      let count : nat_abs (field l i 1) ≡ b.count = ap nat_abs x.count in
      λ j. record { start = start j; count = count j; least = x.least j; largest = x.largest j }

  ranged_slot : (b : Bucket) → Stands l (4 * i) b → slot_ranged l i ≡ true
  unfolding slot_ranged
  ranged_slot b x =
      let start : field l i 0 ≡ pos b.start = ap (λ (p : ℕ). get_or l p (pos 0)) (add-zero (4 * i)) ∙ x.start in
      rw (start, x.count, x.least, x.largest)
      (and_both
      (and_both (and_both (fits_unsigned b.start x.start_range) (fits_unsigned b.count x.count_range)) (is_signed b.least x.least_range.0 x.least_range.1))
      (is_signed b.largest x.largest_range.0 x.largest_range.1))

four_on : (i : ℕ) → 4 * suc i ≡ 4 * i + 4
four_on i = omega arith

lies : (l : List ℤ) (i n : ℕ) → ranged l i n ≡ true → Lie l (4 * i) (slots l i n)
unfolding ranged slots Lie
lies l i zero h = tt
lies l i (suc n) h =
    (stands l i (and_left (slot_ranged l i) (ranged l (suc i) n) h), subst (λ (p : ℕ). Lie l p (slots l (suc i) n)) (four_on i) (lies l (suc i) n (and_right (slot_ranged l i) (ranged l (suc i) n) h)))

lies_slots : (l : List ℤ) (i : ℕ) (t : Table) → Lie l (4 * i) t → slots l i (length t) ≡ t
unfolding slots Lie
lies_slots l i [] x = refl
lies_slots l i (b ∷ t) x =
    let rest = lies_slots l (suc i) t (subst (λ (p : ℕ). Lie l p t) (sym (four_on i)) x.1) in
    λ j. slot_is l i b x.0 j ∷ rest j

lies_ranged : (l : List ℤ) (i : ℕ) (t : Table) → Lie l (4 * i) t → ranged l i (length t) ≡ true
unfolding ranged Lie
lies_ranged l i [] x = refl
lies_ranged l i (b ∷ t) x = and_both (ranged_slot l i b x.0) (lies_ranged l (suc i) t (subst (λ (p : ℕ). Lie l p t) (sym (four_on i)) x.1))

-- ---- rules

follow : (k : Kind) (e : ℕ) (t : Table) → Ruled k e t → Follow k e t
unfolding Ruled Follow
follow k e [] r = tt
follow k e (b ∷ t) r = (lawful k e b r.0, follow k (end b) t r.1)

followed : (k : Kind) (e : ℕ) (t : Table) → Follow k e t → Ruled k e t
unfolding Ruled Follow
followed k e [] r = tt
followed k e (b ∷ t) r = (law_meets k e b r.0, followed k (end b) t r.1)

-- ---- zeros

zero_at : (l : List ℤ) (n j : ℕ) → all_zero (take n l) ≡ true → j < n → n ≤ length l → get_or l j (pos 1) ≡ pos 0
unfolding all_zero equal
zero_at l zero j h k m = absurd (omega arith)
zero_at [] (suc n) j h k m = absurd (omega arith)
zero_at (z ∷ l) (suc n) zero h k m =
    let e = and_left (le_z z (pos 0) && le_z (pos 0) z) (all_zero (take n l)) h in
    omega (wholes.whole, and_left (le_z z (pos 0)) (le_z (pos 0) z) e, and_right (le_z z (pos 0)) (le_z (pos 0) z) e)
zero_at (z ∷ l) (suc n) (suc j) h k m = zero_at l n j (and_right (equal z (pos 0)) (all_zero (take n l)) h) (omega arith) (omega arith)

zeros_all : (l : List ℤ) (n : ℕ) → ((j : ℕ) → j < n → get_or l j (pos 1) ≡ pos 0) → all_zero (take n l) ≡ true
unfolding all_zero
zeros_all l zero h = refl
zeros_all [] (suc n) h = refl
zeros_all (z ∷ l) (suc n) h = and_both (equal_same z (pos 0) (h 0 (omega arith))) (zeros_all l n (λ j k. h (suc j) (omega arith)))

past : (l : List ℤ) (m j : ℕ) (d : ℤ) → get_or (drop m l) j d ≡ get_or l (m + j) d
past l zero j d = let e : 0 + j ≡ j = omega arith in rw e
past [] (suc m) j d = refl
past (z ∷ l) (suc m) j d = let e : suc m + j ≡ suc (m + j) = omega arith in rw e (past l m j d)

-- ---- settings

gaps_late : (k : Kind) (n : ℕ) → gaps_good k n ≡ true → late k ≡ true → (1 ≤ n) × (n ≤ 256)
unfolding gaps_good late
gaps_late InOrder n h e = absurd (false≢true e)
gaps_late Late n h e = bounds most n h

gaps_none : (k : Kind) (n : ℕ) → gaps_good k n ≡ true → late k ≡ false → n ≡ 0
unfolding gaps_good late
gaps_none InOrder n h e = eqb-true n 0 h
gaps_none Late n h e = absurd (true≢false e)

good_gaps : (k : Kind) (n : ℕ) → (late k ≡ true → (1 ≤ n) × (n ≤ 256)) → (late k ≡ false → n ≡ 0) → gaps_good k n ≡ true
unfolding gaps_good late
good_gaps InOrder n h e = eq-eqb n 0 (e refl)
good_gaps Late n h e = in_bounds most n (h refl)

allowed_late : (k : Kind) (gaps runs : ℕ) → runs_allowed k gaps runs ≡ true → late k ≡ true → runs ≤ gaps
unfolding runs_allowed late
allowed_late InOrder gaps runs h e = absurd (false≢true e)
allowed_late Late gaps runs h e = leb-true runs gaps h

late_allowed : (k : Kind) (gaps runs : ℕ) → (late k ≡ true → runs ≤ gaps) → runs_allowed k gaps runs ≡ true
unfolding runs_allowed late
late_allowed InOrder gaps runs h = refl
late_allowed Late gaps runs h = le-leb runs gaps (h refl)

-- ---- the statement

module _ (s : State) (l : List ℤ) where
  many : needed s.settings ≡ slots_needed s.settings
  many = ap (λ (n : ℕ). n + 1) (limit_is s.settings.kind s.settings.base s.settings.gaps)

  whole : sound s l ≡ true → Whole s l
  unfolding rest_zero
  whole h =
      let f = sound_facts s l h in
      let k = s.settings.kind in
      record {
        edition = either_edition s.settings.edition f.good_edition;
        base = bounds most_base s.settings.base f.good_base;
        gaps_late = gaps_late k s.settings.gaps f.good_gaps;
        gaps_in_order = gaps_none k s.settings.gaps f.good_gaps;
        room = omega (arith, many, f.long);
        buckets = table_of s l;
        used = sym (length_slots l 0 s.used);
        lie = lies l 0 s.used f.ranges;
        rules = follow k 0 (table_of s l) f.rules;
        few = omega (arith, f.few, limit_is k s.settings.base s.runs);
        allowed = allowed_late k s.settings.gaps s.runs f.allowed;
        runs = f.true_runs;
        readings = f.true_readings;
        zeros = λ j from to.
            let at : 4 * s.used + (j - 4 * s.used) ≡ j = omega arith in
            ap (λ (p : ℕ). get_or l p (pos 1)) (sym at) ∙ sym (past l (4 * s.used) (j - 4 * s.used) (pos 1))
            ∙ zero_at (drop (4 * s.used) l) (slot_width * (needed s.settings - s.used)) (j - 4 * s.used) f.rest (omega (arith, many)) (omega (arith, f.long, length-drop (4 * s.used) l));
      }

  whole_sound : Whole s l → sound s l ≡ true
  unfolding rest_zero
  whole_sound w =
      let k = s.settings.kind in
      let same : table_of s l ≡ w.buckets = ap (slots l 0) w.used ∙ lies_slots l 0 w.buckets w.lie in
      facts_sound s l (record {
        good_edition = one_of_two s.settings.edition w.edition;
        good_base = in_bounds most_base s.settings.base w.base;
        good_gaps = good_gaps k s.settings.gaps w.gaps_late w.gaps_in_order;
        allowed = late_allowed k s.settings.gaps s.runs w.allowed;
        long = omega (arith, many, w.room);
        few = omega (arith, w.few, limit_is k s.settings.base s.runs);
        ranges = ap (ranged l 0) w.used ∙ lies_ranged l 0 w.buckets w.lie;
        rules = subst (Ruled k 0) (sym same) (followed k 0 w.buckets w.rules);
        true_runs = w.runs ∙ ap runs (sym same);
        true_readings = w.readings ∙ ap readings (sym same);
        rest = zeros_all (drop (4 * s.used) l) (slot_width * (needed s.settings - s.used)) (λ j h. past l (4 * s.used) j (pos 1) ∙ w.zeros (4 * s.used + j) (omega arith) (omega (arith, many)));
      })

pub soundness : Soundness
soundness = record { enough = whole; no_more = whole_sound }
