-- The pass over a file's records: what is left of it from a record on gives the whole's first fault.
use Prim.Native.Nat.{ℕ, zero, suc, ◌+◌, ◌-◌, ◌/◌, ◌≤◌, ◌<◌}
use mathlib.Core.Path.{◌≡◌, refl, sym, ◌∙◌}
use mathlib.Core.Bool.{true, false, cond, false≢true}
use mathlib.Core.List.{List, [], ◌∷◌}
use native.Mathlib.Omega.{arith}
use native.Mathlib.Nat.{sub-zero}
use native.Mathlib.Numerals.{add-one}
use borrow.Author.Tests.{ne_eqb}
use lib.Dec.{eqb}
use lib.ListN.{length}
use Rattle.rule.specs.declared.Bucket.{Bucket}
use Rattle.rule.specs.declared.Kind.{Kind}
use Rattle.rule.specs.Numbers.{record_width, word, ticks}
use Rattle.rule.specs.Bucket.{end}
use Rattle.rule.specs.Table.{Table, readings, runs, runs_after}
use Rattle.rule.specs.Bytes.{record_at, records, records_of}
use Rattle.rule.specs.Rules.{Fault, whole, fault, broken, fault_at, first_fault, is_whole, place_or, ruled}
use Rattle.rule.proofs.Fitting.{Fitted}
use Rattle.rules.specs.Numbered.{meets}
use Rattle.rules.proofs.Numbered.{met}
use Rattle.rule.proofs.Ruling.{ordered_readings, ruled_end, ruled_facts, ruled_ordered}
use Rattle.storage.proofs.Records.{length_file}

-- ---- the pass

-- the first fault of n records of l, from record i on, which comes after one that ends at e
abbrev pub scan : Kind → List ℕ → ℕ → ℕ → ℕ → ℕ
scan k l n e i = place_or n (first_fault k e i (records l i (n - i)))

pub records_next : (l : List ℕ) (n i : ℕ) → i < n → records l i (n - i) ≡ record_at l i ∷ records l (i + 1) (n - (i + 1))
unfolding records
records_next l n i h =
    let m : n - i ≡ suc (n - suc i) = omega arith in rw (m, add-one)

pub records_done : (l : List ℕ) (n i : ℕ) → n ≤ i → records l i (n - i) ≡ []
unfolding records
records_done l n i h = let m : n - i ≡ 0 = omega arith in rw m

broken_at : (n i r : ℕ) (f : Fault) → (r ≡ 0 → ⊥) → place_or n (fault_at i r f) ≡ i
unfolding place_or fault_at
broken_at n i zero f h = absurd (h refl)
broken_at n i (suc r) f h = refl

pub scan_all : (k : Kind) (l : List ℕ) → scan k l (length l / record_width) 0 0 ≡ place_or (length l / record_width) (first_fault k 0 0 (records_of l))
unfolding records_of
scan_all k l = rw sub-zero

module _ (k : Kind) (l : List ℕ) (n e i : ℕ) where
  pub scan_done : n ≤ i → scan k l n e i ≡ n
  unfolding place_or first_fault
  scan_done h = rw (records_done l n i h)

  module _ (b : Bucket) (is : b ≡ record_at l i) (more : i < n) where
    pub scan_fault : (rule : ℕ) → meets rule k e b ≡ false → scan k l n e i ≡ i
    unfolding first_fault
    scan_fault rule bad =
        rw (records_next l n i more, ← is) (broken_at n i (broken k e b) _ (λ z. false≢true (sym bad ∙ met k e b z rule)))

    pub scan_next : broken k e b ≡ 0 → scan k l n e i ≡ scan k l n (end b) (i + 1)
    unfolding first_fault fault_at
    scan_next good = rw (records_next l n i more, ← is, good, add-one)

-- ---- where no record is at fault

passed : (i r n : ℕ) (f : Fault) → i < n → (n ≤ place_or n f → f ≡ whole) → n ≤ place_or n (fault_at i r f) → fault_at i r f ≡ whole
unfolding place_or fault_at
passed i zero n f more rest p = rest p
passed i (suc r) n f more rest p = absurd (omega arith)

past_all : (k : Kind) (e i : ℕ) (t : Table) (n : ℕ) → n ≡ i + length t → n ≤ place_or n (first_fault k e i t) → first_fault k e i t ≡ whole
unfolding first_fault
past_all k e i [] n h p = refl
past_all k e i (b ∷ t) n h p =
    passed i (broken k e b) n (first_fault k (end b) (suc i) t) (omega arith) (past_all k (end b) (suc i) t n (omega arith)) p

-- the pass comes to the number of records only where none is at fault
pub file_whole : (k : Kind) (l : List ℕ) → length l / record_width ≤ place_or (length l / record_width) (first_fault k 0 0 (records_of l)) → first_fault k 0 0 (records_of l) ≡ whole
file_whole k l p = past_all k 0 0 (records_of l) (length l / record_width) (omega (arith, length_file l)) p

-- and else the place of the refusal
pub file_refused : (n : ℕ) (f : Fault) → place_or n f < n → (is_whole f ≡ false) × (place_or 0 f ≡ place_or n f)
unfolding place_or is_whole
file_refused n whole h = absurd (omega arith)
file_refused n (fault i r) h = (refl, refl)

-- ---- runs and readings

-- of n records of l, from record i on, which comes after one that ends at e
abbrev pub runs_left : List ℕ → ℕ → ℕ → ℕ → ℕ
runs_left l n e i = runs_after e (records l i (n - i))

abbrev pub readings_left : List ℕ → ℕ → ℕ → ℕ
readings_left l n i = readings (records l i (n - i))

module _ (l : List ℕ) (n e i : ℕ) (b : Bucket) (is : b ≡ record_at l i) (more : i < n) where
  pub runs_next : runs_left l n e i ≡ cond (eqb e b.start) 0 1 + runs_left l n (end b) (i + 1)
  unfolding runs_after
  runs_next = rw (records_next l n i more, ← is)

  pub readings_next : readings_left l n i ≡ b.count + readings_left l n (i + 1)
  unfolding readings
  readings_next = rw (records_next l n i more, ← is)

pub runs_done : (l : List ℕ) (n e i : ℕ) → n ≤ i → runs_left l n e i ≡ 0
unfolding runs_after
runs_done l n e i h = rw (records_done l n i h)

pub readings_done : (l : List ℕ) (n i : ℕ) → n ≤ i → readings_left l n i ≡ 0
unfolding readings
readings_done l n i h = rw (records_done l n i h)

runs_first : (t : Table) → Fitted t → runs_after word t ≡ runs t
unfolding Fitted runs_after runs
runs_first [] h = refl
runs_first (b ∷ t) h =
    let apart : eqb word b.start ≡ false = ne_eqb word b.start (λ e. omega (arith, h.0.start)) in rw apart (omega arith)

pub runs_whole : (l : List ℕ) → Fitted (records_of l) → runs_left l (length l / record_width) word 0 ≡ runs (records_of l)
unfolding records_of
runs_whole l h = rw sub-zero (runs_first (records_of l) h)

pub readings_whole : (l : List ℕ) → readings_left l (length l / record_width) 0 ≡ readings (records_of l)
unfolding records_of
readings_whole l = rw sub-zero

-- the readings of a table within the rules are no more than there are ticks
pub whole_readings : (k : Kind) (t : Table) → ruled k t ≡ true → readings t ≤ ticks
unfolding ruled
whole_readings k t e =
    let r = ruled_facts k 0 0 t e in
    omega (arith, ordered_readings 0 t (ruled_ordered k 0 t r), ruled_end k 0 t (omega arith) r)
