-- The place of a tick among buckets in order of ticks: the bucket before it is the only one that can hold the tick, and a reading of a tick that is not held touches that bucket, the one at the place, or none.
use Prim.Native.Nat.{ℕ, zero, suc, ◌+◌, ◌*◌, ◌-◌, ◌≤◌, ◌<◌}
use mathlib.Core.Path.{◌≡◌, refl, sym, ap, ◌∙◌}
use mathlib.Core.Bool.{Bool, true, false, cond, ◌&&◌}
use mathlib.Core.List.{List, [], ◌∷◌, ◌++◌}
use mathlib.Core.Option.{Option, some, none}
use native.Mathlib.Nat.{add-zero}
use native.Mathlib.Numerals.{add-one}
use native.Mathlib.Omega.{arith}
use borrow.Author.Tests.{le-leb, lt-ltb, ltb-true, ltb-false}
use lib.Dec.{eqb, ltb, leb-suc-suc}
use lib.IntN.{ℤ, pos, nat_abs}
use lib.ListN.{length, get_or, take, drop}
use lib.Signed.{lt_z}
use mir.Syntax.{w64}
use mir.Val.{SFits, bool_byte, of_z, to_z}
use mir.Facts.{to_z-of_z}
use Rattle.rule.specs.declared.Bucket.{Bucket}
use Rattle.rule.specs.Bucket.{end}
use Rattle.rule.specs.Calls.{is_held}
use Rattle.rule.specs.Numbers.{slot_width, word}
use Rattle.rule.specs.Room.{slot, slot_ranged, slots}
use Rattle.rule.specs.Table.{Ordered, Table, holders, holding, holds, insert, runs, single}
use Rattle.rule.proofs.Whole.{whole, by_test, cond_ind}
use Rattle.rule.proofs.Tables.{before_none, ends_before, eqb_counts, held_none, held_within, held_before, holds_counts, insert_runs, leb_counts, one}
use Rattle.rooms.specs.Slots.{Filled}
use Rattle.rooms.specs.Steps.{Placed, position}
use Rattle.rooms.proofs.Laying.{length_slots}
use Rattle.rooms.proofs.Reading.{filled, filled_front, ranges, unsigned_held, unsigned_pos}
use Rattle.rooms.proofs.Scoring.{slots_next}

-- ---- who holds a tick

none_held : (n : ℕ) (t : Table) → holders n t ≡ 0 → holding n t ≡ none
unfolding holders holding
none_held n [] h = refl
none_held n (a ∷ t) h = by_test (holds n a) (λ g. absurd (omega (arith, ap one g))) (λ g. rw g (none_held n t (omega arith)))

-- in order of ticks one bucket holds a tick, or none
pub held_counts : (e n : ℕ) (t : Table) → Ordered e t → holders n t ≡ one (is_held (holding n t))
unfolding holders holding is_held Ordered
held_counts e n [] o = refl
held_counts e n (a ∷ t) o =
    by_test (holds n a)
    (λ g. rw g (omega (arith, held_none (end a) n t o.1.1 (held_within n a g).1)))
    (λ g. rw g (omega (arith, held_counts (end a) n t o.1.1)))

-- ---- the place of a tick

module _ (tick : ℕ) where
  -- it is 0 where the first bucket starts later
  place_cases {ℓ} : (a : Bucket) (t : Table) (P : ℕ → Type ℓ) → (tick < a.start → P 0) → (a.start ≤ tick → P (suc (position tick t))) → P (position tick (a ∷ t))
  unfolding position
  place_cases a t P first next =
      cond_ind (ltb tick a.start) 0 (suc (position tick t)) P (λ h. first (ltb-true tick a.start h)) (λ h. next (ltb-false tick a.start h))

  pub place_within : (t : Table) → position tick t ≤ length t
  unfolding position
  place_within [] = omega arith
  place_within (a ∷ t) = place_cases a t (λ n. n ≤ suc (length t)) (λ _. omega arith) (λ _. omega (arith, place_within t))

  later : (e : ℕ) (t : Table) → Ordered e t → position tick t ≡ 0 → Ordered (suc tick) t
  unfolding Ordered
  later e [] o = λ _. tt
  later e (a ∷ t) o = place_cases a t (λ n. n ≡ 0 → Ordered (suc tick) (a ∷ t)) (λ h _. (h, o.1)) (λ _ z. absurd (omega arith))

-- a bucket is put at its start's place
pub insert_at : (b : Bucket) (t : Table) → insert b t ≡ take (position b.start t) t ++ (b ∷ drop (position b.start t) t)
unfolding insert position
insert_at b [] = refl
insert_at b (a ∷ t) = by_test (ltb b.start a.start) (λ h. rw h) (λ h. rw h (ap (λ (u : Table). a ∷ u) (insert_at b t)))

-- ---- the bucket before the place: of the ticks from its start up to this one, it holds those that it reaches, and no other bucket holds one

pub record Before (e tick : ℕ) (t : Table) (b : Bucket) : Type 0 where
  pub behind : e ≤ b.start
  pub started : b.start ≤ tick
  pub positive : 1 ≤ b.count
  pub alone : (n : ℕ) → b.start ≤ n → n ≤ tick → holding n t ≡ cond (ltb n (end b)) (some b) none

module _ (tick : ℕ) where
  first_before : (e : ℕ) (a : Bucket) (t : Table) → Ordered e (a ∷ t) → a.start ≤ tick → Ordered (suc tick) t → Before e tick (a ∷ t) a
  unfolding Ordered holding holds
  first_before e a t o h l =
      record {
        behind = o.0;
        started = h;
        positive = o.1.0;
        alone = λ n low high. rw (le-leb a.start n low, none_held n t (held_none (suc tick) n t l (omega arith)));
      }

  further_before : (e : ℕ) (a b : Bucket) (t : Table) → Ordered e (a ∷ t) → Before (end a) tick t b → Before e tick (a ∷ t) b
  unfolding Ordered holding
  further_before e a b t o w =
      record {
        behind = omega (arith, w.behind);
        started = w.started;
        positive = w.positive;
        alone = λ n low high. by_test (holds n a) (λ g. absurd (omega (arith, w.behind, (held_within n a g).1))) (λ g. rw g (w.alone n low high));
      }

  pub stands_before : (d : Bucket) (e q : ℕ) (t : Table) → Ordered e t → position tick t ≡ suc q → Before e tick t (get_or t q d)
  unfolding position Ordered
  stands_before d e q [] o = λ h. absurd (omega arith)
  stands_before d e zero (a ∷ t) o = place_cases tick a t (λ n. n ≡ 1 → Before e tick (a ∷ t) a) (λ _ h. absurd (omega arith)) (λ g h. first_before e a t o g (later tick (end a) t o.1.1 (omega arith)))
  stands_before d e (suc q) (a ∷ t) o =
      place_cases tick a t (λ n. n ≡ suc (suc q) → Before e tick (a ∷ t) (get_or t q d)) (λ _ h. absurd (omega arith))
      (λ g h. further_before e a (get_or t q d) t o (stands_before d (end a) q t o.1.1 (omega arith)))

-- ---- what the place tells, of a table whose first bucket follows one that ends at e

chosen : (c : Bool) (b : Bucket) → is_held (cond c (some b) none) ≡ c
unfolding is_held
chosen true b = refl
chosen false b = refl

module _ (e tick : ℕ) (t : Table) (o : Ordered e t) where
  -- no bucket before the place
  module _ (first : position tick t ≡ 0) where
    pub first_holders : holders tick t ≡ 0
    first_holders = held_none (suc tick) tick t (later tick e t o first) (omega arith)

    pub first_holding : holding tick t ≡ none
    first_holding = none_held tick t first_holders

    pub first_joins : held_before tick t ≡ 0
    first_joins = before_none (suc tick) tick t (later tick e t o first) (omega arith)

  -- the bucket at q before it
  module _ (d : Bucket) (q : ℕ) (behind : position tick t ≡ suc q) where
    pub behind_holding : holding tick t ≡ cond (ltb tick (end (get_or t q d))) (some (get_or t q d)) none
    behind_holding = let w = stands_before tick d e q t o behind in w.alone tick w.started (omega arith)

    behind_counts : (n : ℕ) → (get_or t q d).start ≤ n → n ≤ tick → holders n t ≡ one (ltb n (end (get_or t q d)))
    behind_counts n low high = held_counts e n t o ∙ ap (λ (h : Option Bucket). one (is_held h)) ((stands_before tick d e q t o behind).alone n low high) ∙ ap one (chosen (ltb n (end (get_or t q d))) (get_or t q d))

    pub behind_holders : holders tick t ≡ one (ltb tick (end (get_or t q d)))
    behind_holders = behind_counts tick (stands_before tick d e q t o behind).started (omega arith)

pub behind_joins : (e tick : ℕ) (t : Table) → Ordered e t → (d : Bucket) (q : ℕ) → position tick t ≡ suc q → holders tick t ≡ 0 → held_before tick t ≡ one (eqb (end (get_or t q d)) tick)
unfolding held_before
behind_joins e zero t o d q behind free = let w = stands_before 0 d e q t o behind in omega (arith, w.positive, eqb_counts (end (get_or t q d)) 0)
behind_joins e (suc n) t o d q behind free =
    let w = stands_before (suc n) d e q t o behind in
    let b = get_or t q d in
    let past : end b ≤ suc n = omega (arith, behind_holders e (suc n) t o d q behind, leb_counts (suc (suc n)) (end b)) in
    omega (arith, behind_counts e (suc n) t o d q behind n (omega (arith, w.positive)) (omega arith), leb_counts (suc n) (end b), eqb_counts (end b) (suc n))

-- the bucket at the place is touched where it starts at the next tick
pub joins_after : (e tick : ℕ) (t : Table) (d : Bucket) → Ordered e t → holders tick t ≡ 0
    → holders (suc tick) t ≡ one (ltb (position tick t) (length t) && eqb (get_or t (position tick t) d).start (suc tick))
unfolding holders Ordered position
joins_after e tick [] d o free = refl
joins_after e tick (a ∷ t) d o free =
    place_cases tick a t (λ n. holders (suc tick) (a ∷ t) ≡ one (ltb n (length (a ∷ t)) && eqb (get_or (a ∷ t) n d).start (suc tick)))
    (λ h.
    rw (lt-ltb 0 (suc (length t)) (omega arith)) (omega (arith, held_none (end a) (suc tick) t o.1.1 (omega arith), holds_counts (suc tick) a, leb_counts (end a) (suc tick), leb_counts a.start (suc tick), eqb_counts a.start (suc tick))))
    (λ h.
    let past : end a ≤ tick = ends_before tick a (omega arith) h in
    rw (leb-suc-suc (suc (position tick t)) (length t)) (omega (arith, joins_after (end a) tick t d o.1.1 (omega arith), holds_counts (suc tick) a, leb_counts (end a) (suc tick), leb_counts a.start (suc tick))))

-- and the one before it where that ends at this tick
pub joins_before : (e tick p : ℕ) (t : Table) (d : Bucket) → Ordered e t → p ≡ position tick t → holders tick t ≡ 0
    → held_before tick t ≡ one (ltb 0 p && eqb (end (get_or t (p - 1) d)) tick)
joins_before e tick zero t d o h free = first_joins e tick t o (sym h)
joins_before e tick (suc q) t d o h free =
    let last : suc q - 1 ≡ q = omega arith in rw (lt-ltb 0 (suc q) (omega arith), last) (behind_joins e tick t o d q (sym h) free)

pub insert_joins : (tick : ℕ) (v : ℤ) (t : Table) (d f : Bucket) → Ordered 0 t → holders tick t ≡ 0
    → one (ltb 0 (position tick t) && eqb (end (get_or t (position tick t - 1) d)) tick)
    + one (ltb (position tick t) (length t) && eqb (get_or t (position tick t) f).start (suc tick))
    + runs (insert (single tick v) t) ≡ suc (runs t)
insert_joins tick v t d f o free = omega (arith, insert_runs tick v t o free, joins_before 0 tick (position tick t) t d o refl free, joins_after 0 tick t f o free)

-- ---- the same of slots

pub get_d_slots : (l : List ℤ) (i n q j : ℕ) → i + q ≡ j → get_or (slots l i n) q (slot l j) ≡ slot l j
unfolding slots
get_d_slots l i zero q j h = refl
get_d_slots l i (suc n) zero j h = ap (slot l) (omega arith)
get_d_slots l i (suc n) (suc q) j h = get_d_slots l (suc i) n q j (omega arith)

-- a test as a number
byte_one : (c : Bool) → bool_byte c ≡ one c
byte_one true = refl
byte_one false = refl

pub byte_small : (c : Bool) → bool_byte c ≤ 1
byte_small true = omega arith
byte_small false = omega arith

module _ {l : List ℤ} {n at tick : ℕ} (w : Placed l n at tick) where
  pub slot_first : at ≡ 0 → holding tick (slots l 0 n) ≡ none
  slot_first h = first_holding 0 tick (slots l 0 n) w.ordered (omega (arith, w.place))

  pub slot_holding : 0 < at → holding tick (slots l 0 n) ≡ cond (ltb tick (end (slot l (at - 1)))) (some (slot l (at - 1))) none
  slot_holding h = rw (get_d_slots l 0 n (at - 1) (at - 1) (omega arith)) at (behind_holding 0 tick (slots l 0 n) w.ordered (slot l (at - 1)) (at - 1) (omega (arith, w.place)))

  pub slot_held : 0 < at → is_held (holding tick (slots l 0 n)) ≡ ltb tick (end (slot l (at - 1)))
  slot_held h = ap is_held (slot_holding h) ∙ chosen (ltb tick (end (slot l (at - 1)))) (slot l (at - 1))

  pub slot_joins : holders tick (slots l 0 n) ≡ 0 → (v : ℤ)
      → bool_byte (ltb 0 at && eqb (end (slot l (at - 1))) tick) + bool_byte (ltb at n && eqb (slot l at).start (suc tick)) + runs (insert (single tick v) (slots l 0 n)) ≡ suc (runs (slots l 0 n))
  slot_joins free v = simp byte_one (rw (← w.place, get_d_slots l 0 n (at - 1) (at - 1) (omega arith), get_d_slots l 0 n at at (omega arith), length_slots l 0 n) at (insert_joins tick v (slots l 0 n) (slot l (at - 1)) (slot l at) w.ordered free))

-- the slots before the place
pub filled_before : {l : List ℤ} {n at tick : ℕ} → Placed l n at tick → Filled l at
filled_before {l} {n} {at} {tick} w =
    filled_front w.filled (omega (arith, w.place, place_within tick (slots l 0 n), length_slots l 0 n))

-- ---- the pass that finds the place

-- the bucket in slot i starts after the tick, as the machine compares the two
abbrev pub starts_later : List ℤ → ℕ → ℕ → Bool
starts_later l i tick = lt_z (to_z w64 (of_z w64 (pos tick))) (to_z w64 (of_z w64 (get_or l (slot_width * i) (pos 0))))

start_test : (l : List ℤ) (i tick : ℕ) → slot_ranged l i ≡ true → tick < word → starts_later l i tick ≡ ltb tick (slot l i).start
unfolding slot
start_test l i tick e h =
    let start = (ranges l i e).start in
    let fits : SFits w64 (pos tick) = omega whole in
    let same : pos (nat_abs (get_or l (slot_width * i) (pos 0))) ≡ get_or l (slot_width * i) (pos 0) = unsigned_pos _ start in
    rw (unsigned_held _ start, to_z-of_z fits, add-zero, ← same)

-- at slot i: so many buckets passed, and those behind that start no later, are all
pub record Sought (l : List ℤ) (n tick i : ℕ) : Type 0 where
  pub reached : i ≤ n
  pub all : i + position tick (slots l i (n - i)) ≡ position tick (slots l 0 n)

pub sought_start : (l : List ℤ) (n tick : ℕ) → Sought l n tick 0
sought_start l n tick = let m : n - 0 ≡ n = omega arith in record { reached = omega arith; all = rw m (omega arith) }

module _ {l : List ℤ} {n tick i : ℕ} (s : Sought l n tick i) where
  pub sought_end : n ≤ i → i ≡ position tick (slots l 0 n)
  unfolding position slots
  sought_end h =
      let m : n - i ≡ 0 = omega arith in
      let all : i + 0 ≡ position tick (slots l 0 n) = rw m at s.all in
      omega arith

  module _ (f : Filled l n) (h : i < n) (k : tick < word) where
    passed : (c : Bool) → starts_later l i tick ≡ c → i + cond c 0 (suc (position tick (slots l (suc i) (n - suc i)))) ≡ position tick (slots l 0 n)
    unfolding position
    passed c e = rw (slots_next l n i h, sym (start_test l i tick (filled f i h).1 k) ∙ e) at s.all

    pub sought_stop : starts_later l i tick ≡ true → i ≡ position tick (slots l 0 n)
    sought_stop e = omega (arith, passed true e)

    pub sought_next : starts_later l i tick ≡ false → Sought l n tick (i + 1)
    sought_next e = record { reached = omega arith; all = rw (add-one i) (omega (arith, passed false e)) }
