-- The one pass over the slots as a recursion: what is left to check from a slot on, and that from the first slot on it is all.
use Prim.Native.Nat.{ℕ, zero, suc, ◌+◌, ◌*◌, ◌-◌, ◌<◌, ◌≤◌}
use mathlib.Core.Path.{◌≡◌, refl, ◌∙◌}
use mathlib.Core.Bool.{Bool, true, false, cond, ◌&&◌, and_assoc, and-false}
use mathlib.Core.List.{List, ◌∷◌}
use native.Mathlib.Numerals.{add-one}
use native.Mathlib.Omega.{arith}
use borrow.Author.Tests.{lt-ltb, ne_eqb}
use lib.Dec.{eqb, ltb}
use mir.Val.{bool_byte}
use lib.IntN.{ℤ}
use Rattle.rule.specs.declared.Bucket.{Bucket}
use Rattle.rule.specs.declared.Kind.{Kind}
use Rattle.rule.specs.Bucket.{end}
use Rattle.rule.specs.Numbers.{word}
use Rattle.rule.specs.Room.{ranged, slot, slot_ranged, slots}
use Rattle.rule.specs.Rules.{Fault, broken, fault_at, first_fault, is_whole, ruled}
use Rattle.rule.specs.Table.{Table, readings, runs, runs_after}
use Rattle.rules.proofs.Numbered.{at_most_one}

-- 1 where a bucket begins a run, the one before it ending at e
abbrev pub begins : ℕ → Bucket → ℕ
begins e b = cond (eqb e b.start) 0 1

-- the first bucket begins a run in any case
runs_first : (b : Bucket) (t : Table) → runs (b ∷ t) ≡ bool_byte (eqb 0 b.start) + runs_after 0 (b ∷ t)
unfolding runs runs_after
runs_first b t = either (eqb 0 b.start) (runs_after (end b) t)
  where
    either : (c : Bool) (n : ℕ) → suc n ≡ bool_byte c + (cond c 0 1 + n)
    either true n = omega arith
    either false n = omega arith

pub runs_counted : (l : List ℤ) (n : ℕ) (r : Bool) → r ≡ (ltb 0 n && eqb 0 (slot l 0).start) → runs (slots l 0 n) ≡ bool_byte r + runs_after 0 (slots l 0 n)
unfolding slots runs runs_after
runs_counted l zero r e = rw e
runs_counted l (suc n) r e = rw (e, lt-ltb 0 (suc n) (omega arith)) (runs_first (slot l 0) (slots l 1 n))

-- a rule broken is a fault, and no rule broken is none
whole_at : (i r : ℕ) (f : Fault) → is_whole (fault_at i r f) ≡ eqb r 0 && is_whole f
unfolding fault_at is_whole
whole_at i zero f = refl
whole_at i (suc r) f = rw (ne_eqb (suc r) 0 (λ h. omega arith))

module _ (k : Kind) (toldRuns toldReadings : ℕ) (l : List ℤ) where
  -- what the pass over the first n slots answers
  abbrev pub scanned : ℕ → Bool
  scanned n =
      ranged l 0 n
      && (ruled k (slots l 0 n) && (eqb toldRuns (runs (slots l 0 n)) && eqb toldReadings (readings (slots l 0 n))))

  -- n slots from slot i are left, behind a bucket that ends at e, and so many runs and readings are counted
  unfoldable pub left : ℕ → ℕ → ℕ → ℕ → ℕ → Bool
  left counted read e i n =
      ranged l i n
      && (is_whole (first_fault k e i (slots l i n))
      && (eqb toldRuns (counted + runs_after e (slots l i n)) && eqb toldReadings (read + readings (slots l i n))))

  left_all : (r n : ℕ) → runs (slots l 0 n) ≡ r + runs_after 0 (slots l 0 n) → scanned n ≡ left r 0 0 0 n
  unfolding left ruled
  left_all r n e = let z : 0 + readings (slots l 0 n) ≡ readings (slots l 0 n) = omega arith in rw (e, z)

  left_none : (counted read e i : ℕ) → left counted read e i 0 ≡ eqb toldRuns counted && eqb toldReadings read
  unfolding left ranged slots first_fault is_whole runs_after readings
  left_none counted read e i =
      let z : counted + 0 ≡ counted = omega arith in let y : read + 0 ≡ read = omega arith in rw (z, y)

  left_step : (counted read e i n : ℕ)
      → left counted read e i (suc n) ≡ slot_ranged l i && (eqb (broken k e (slot l i)) 0 && left (counted + begins e (slot l i)) (read + (slot l i).count) (end (slot l i)) (suc i) n)
  unfolding left ranged slots first_fault runs_after readings
  left_step counted read e i n =
      let b = slot l i in
      let t = slots l (suc i) n in
      let more : counted + (begins e b + runs_after (end b) t) ≡ counted + begins e b + runs_after (end b) t = omega arith in
      let further : read + (b.count + readings t) ≡ read + b.count + readings t = omega arith in
      rw (whole_at i (broken k e b) (first_fault k (end b) (suc i) t), more, further)
      (order (slot_ranged l i) (ranged l (suc i) n) (eqb (broken k e b) 0) (is_whole (first_fault k (end b) (suc i) t)) _)
    where
      order : (a b c d r : Bool) → (a && b) && ((c && d) && r) ≡ a && (c && (b && (d && r)))
      order true true c d r = and_assoc c d r
      order true false true d r = refl
      order true false false d r = refl
      order false b c d r = refl

  -- the pass at slot i: so many runs and readings are counted, the bucket before ends at e, and what is left decides
  pub record Scan (n counted read e i : ℕ) : Type 0 where
    pub inside : i ≤ n
    pub few : counted ≤ i + 1
    pub bounded : read ≤ word * i
    pub rest : scanned n ≡ left counted read e i (n - i)

  pub scan_starts : (n r : ℕ) → runs (slots l 0 n) ≡ r + runs_after 0 (slots l 0 n) → r ≤ 1 → Scan n r 0 0 0
  scan_starts n r e h =
      let all : n - 0 ≡ n = omega arith in
      record { inside = omega arith; few = omega arith; bounded = omega arith; rest = rw all (left_all r n e) }

module _ {k : Kind} {toldRuns toldReadings : ℕ} {l : List ℤ} {n counted read e i : ℕ} (s : Scan k toldRuns toldReadings l n counted read e i) where
  pub scan_ends : n ≤ i → scanned k toldRuns toldReadings l n ≡ eqb toldRuns counted && eqb toldReadings read
  scan_ends h = let none : n - i ≡ 0 = omega arith in s.rest ∙ rw none (left_none k toldRuns toldReadings l counted read e i)

  module _ (h : i < n) where
    scan_step : scanned k toldRuns toldReadings l n
        ≡ slot_ranged l i && (eqb (broken k e (slot l i)) 0 && left k toldRuns toldReadings l (counted + begins e (slot l i)) (read + (slot l i).count) (end (slot l i)) (i + 1) (n - (i + 1)))
    scan_step =
        let one_more : n - i ≡ suc (n - (i + 1)) = omega arith in
        s.rest ∙ rw (one_more, add-one i) (left_step k toldRuns toldReadings l counted read e i (n - suc i))

    pub scan_fails : slot_ranged l i ≡ false → scanned k toldRuns toldReadings l n ≡ false
    scan_fails f = scan_step ∙ rw f

    module _ (b : Bucket) (q : b ≡ slot l i) where
      pub scan_breaks : eqb (broken k e b) 0 ≡ false → scanned k toldRuns toldReadings l n ≡ false
      scan_breaks f = scan_step ∙ rw (← q, f) (and-false (slot_ranged l i))

      pub scan_goes_on : slot_ranged l i ≡ true → eqb (broken k e b) 0 ≡ true → b.count < word
          → Scan k toldRuns toldReadings l n (counted + begins e b) (read + b.count) (end b) (i + 1)
      scan_goes_on f g small =
          record { inside = omega arith; few = omega (arith, at_most_one e b.start); bounded = omega arith; rest = scan_step ∙ rw (← q, f, g) }
