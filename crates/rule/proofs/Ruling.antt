-- The record rules as facts, and that merging and inserting keep them.
use Prim.Native.Nat.{ℕ, zero, suc, ◌+◌, ◌/◌, ◌≤◌, ◌<◌}
use mathlib.Core.Path.{◌≡◌, refl, sym, ap, ◌∙◌, subst}
use mathlib.Core.Bool.{Bool, true, false, not, ◌&&◌, ◌||◌, false≢true, not-not}
use mathlib.Core.List.{List, [], ◌∷◌, ◌++◌}
use native.Mathlib.Omega.{arith}
use borrow.Author.Tests.{leb-true, le-leb, eqb-false, eqb-true, eq-eqb, le-ltb}
use lib.Dec.{leb, eqb}
use lib.IntN.{ℤ}
use lib.ListN.{length}
use lib.Signed.{le_z}
use Rattle.rule.specs.declared.Bucket.{Bucket}
use Rattle.rule.specs.declared.Kind.{Kind}
use Rattle.rule.specs.declared.Kind.TheVariants.{InOrder, Late}
use Rattle.rule.specs.declared.Settings.{Settings}
use Rattle.rule.specs.Numbers.{record_width, ticks}
use Rattle.rule.specs.Bucket.{end, neighbours, union}
use Rattle.rule.specs.Table.{Table, Ordered, holders, insert, last_end, merge, readings, runs, runs_after, settle, single}
use Rattle.rule.specs.Bytes.{record_at, records, records_of}
use Rattle.rule.specs.Files.{Finds, end_before, meets}
use Rattle.rule.specs.Rules.{Fault, fault, whole, broken, equal, fault_at, first_false, first_fault, follows, is_whole, rules}
use Rattle.rule.specs.Room.{all_of}
use Rattle.rule.proofs.Whole.{by_test}
use Rattle.rule.proofs.Whole as wholes
use Rattle.rule.proofs.Errors.{larger_left, le_z_refl, lesser_left}
use Rattle.rule.proofs.Tables.{holds_counts, insert_cases, leb_counts, union_end}
use Rattle.rule.proofs.Merging.{Enough, merges, settle_keeps}

-- ---- tests

pub and_left : (a b : Bool) → a && b ≡ true → a ≡ true
and_left true b e = refl
and_left false b e = e

pub and_right : (a b : Bool) → a && b ≡ true → b ≡ true
and_right true b e = e
and_right false b e = absurd (false≢true e)

pub and_both : {a b : Bool} → a ≡ true → b ≡ true → a && b ≡ true
and_both e f = rw (e, f)

-- a test as the code branches on it, negated
pub flipped : {r a v : Bool} → r ≡ a → not r ≡ v → a ≡ not v
flipped {r} p h = rw (← h, ← p) (sym (not-not r))

-- a rule of the list that fails is a fault, and no other
whole_at : (i j : ℕ) (l : List Bool) (f : Fault) → is_whole (fault_at i (first_false (suc j) l) f) ≡ all_of l && is_whole f
unfolding all_of fault_at first_false is_whole
whole_at i j [] f = refl
whole_at i j (true ∷ l) f = whole_at i (suc j) l f
whole_at i j (false ∷ l) f = refl

whole_step : (k : Kind) (e i : ℕ) (b : Bucket) (t : Table) → is_whole (first_fault k e i (b ∷ t)) ≡ all_of (rules k e b) && is_whole (first_fault k (end b) (suc i) t)
unfolding broken first_fault
whole_step k e i b t = whole_at i 0 (rules k e b) (first_fault k (end b) (suc i) t)

-- ---- one record

pub record Meets (k : Kind) (e : ℕ) (b : Bucket) : Type 0 where
  pub positive : 1 ≤ b.count
  pub inside : end b ≤ ticks
  pub ordered : le_z b.least b.largest ≡ true
  pub single_level : b.count ≡ 1 → b.least ≡ b.largest
  pub follow : follows k e b ≡ true

five : (a b c d f : Bool) → a && (b && (c && (d && (f && true)))) ≡ true → (a ≡ true) × (b ≡ true) × (c ≡ true) × (d ≡ true) × (f ≡ true)
five a b c d f h =
    let i = and_right a (b && (c && (d && (f && true)))) h in
    let j = and_right b (c && (d && (f && true))) i in
    let k = and_right c (d && (f && true)) j in
    (and_left a (b && (c && (d && (f && true)))) h, and_left b (c && (d && (f && true))) i, and_left c (d && (f && true)) j, and_left d (f && true) k, and_left f true (and_right d (f && true) k))

-- a rule that speaks of counts of 1 alone
level_rule : (b : Bucket) → not (eqb b.count 1) || equal b.least b.largest ≡ true → b.count ≡ 1 → b.least ≡ b.largest
unfolding equal
level_rule b h one =
    let e : le_z b.least b.largest && le_z b.largest b.least ≡ true = rw (eq-eqb b.count 1 one) at h in
    omega (wholes.whole, and_left (le_z b.least b.largest) (le_z b.largest b.least) e, and_right (le_z b.least b.largest) (le_z b.largest b.least) e)

rule_level : (b : Bucket) → (b.count ≡ 1 → b.least ≡ b.largest) → not (eqb b.count 1) || equal b.least b.largest ≡ true
unfolding equal
rule_level b h =
    by_test (eqb b.count 1)
    (λ e. let same : b.least ≡ b.largest = h (eqb-true b.count 1 e) in rw (e, same) (and_both (le_z_refl b.largest) (le_z_refl b.largest)))
    (λ e. rw e)

pub meets_facts : (k : Kind) (e : ℕ) (b : Bucket) → all_of (rules k e b) ≡ true → Meets k e b
unfolding all_of rules
meets_facts k e b h =
    let f = five (leb 1 b.count) (leb (end b) ticks) (le_z b.least b.largest) (not (eqb b.count 1) || equal b.least b.largest) (follows k e b) h in
    record { positive = leb-true 1 b.count f.0; inside = leb-true (end b) ticks f.1; ordered = f.2; single_level = level_rule b f.3; follow = f.4 }

pub facts_meets : (k : Kind) (e : ℕ) (b : Bucket) → Meets k e b → all_of (rules k e b) ≡ true
unfolding all_of rules
facts_meets k e b m =
    rw (le-leb 1 b.count m.positive, le-leb (end b) ticks m.inside, m.ordered, rule_level b m.single_level, m.follow)

-- ---- a table whose first record follows a bucket that ends at e

unfoldable pub Ruled : Kind → ℕ → Table → Type 0
Ruled k e [] = Unit {0}
Ruled k e (b ∷ t) = Meets k e b × Ruled k (end b) t

pub ruled_facts : (k : Kind) (e i : ℕ) (t : Table) → is_whole (first_fault k e i t) ≡ true → Ruled k e t
unfolding Ruled
ruled_facts k e i [] h = tt
ruled_facts k e i (b ∷ t) h =
    let p = sym (whole_step k e i b t) ∙ h in
    (meets_facts k e b (and_left (all_of (rules k e b)) (is_whole (first_fault k (end b) (suc i) t)) p), ruled_facts k (end b) (suc i) t (and_right (all_of (rules k e b)) (is_whole (first_fault k (end b) (suc i) t)) p))

pub facts_ruled : (k : Kind) (e i : ℕ) (t : Table) → Ruled k e t → is_whole (first_fault k e i t) ≡ true
unfolding Ruled first_fault is_whole
facts_ruled k e i [] r = refl
facts_ruled k e i (b ∷ t) r = whole_step k e i b t ∙ and_both (facts_meets k e b r.0) (facts_ruled k (end b) (suc i) t r.1)

follows_at : (k : Kind) (e : ℕ) (b : Bucket) → follows k e b ≡ true → e ≤ b.start
unfolding follows
follows_at InOrder e b h = omega (arith, eqb-true b.start e h)
follows_at Late e b h = leb-true e b.start h

pub ruled_ordered : (k : Kind) (e : ℕ) (t : Table) → Ruled k e t → Ordered e t
unfolding Ruled Ordered
ruled_ordered k e [] r = tt
ruled_ordered k e (b ∷ t) r = (follows_at k e b r.0.follow, (r.0.positive, ruled_ordered k (end b) t r.1))

pub ruled_end : (k : Kind) (e : ℕ) (t : Table) → e ≤ ticks → Ruled k e t → last_end e t ≤ ticks
unfolding Ruled last_end
ruled_end k e [] h r = h
ruled_end k e (b ∷ t) h r = ruled_end k (end b) t r.0.inside r.1

pub ordered_readings : (e : ℕ) (t : Table) → Ordered e t → e + readings t ≤ last_end e t
unfolding Ordered last_end readings
ordered_readings e [] o = omega arith
ordered_readings e (b ∷ t) o = omega (arith, ordered_readings (end b) t o.1.1)

-- ---- a merge

union_meets : (k : Kind) (e : ℕ) (a b : Bucket) → neighbours a b ≡ true → Meets k e a → Meets k (end a) b → Meets k e (union a b)
unfolding follows
union_meets k e a b touching m n =
    record {
      positive = omega (arith, m.positive);
      inside = rw (union_end a b touching) n.inside;
      ordered = omega (wholes.whole, lesser_left a.least b.least, m.ordered, larger_left a.largest b.largest);
      single_level = λ h. absurd (omega (arith, m.positive, n.positive));
      follow = same_start k m.follow;
    }
  where
    same_start : (k : Kind) → follows k e a ≡ true → follows k e (union a b) ≡ true
    same_start InOrder h = h
    same_start Late h = h

pub merged_ruled : (k : Kind) (a b : Bucket) → neighbours a b ≡ true → (e : ℕ) (l r : Table) → Ruled k e (l ++ (a ∷ b ∷ r)) → Ruled k e (l ++ (union a b ∷ r))
unfolding Ruled
merged_ruled k a b touching e [] r h = (union_meets k e a b touching h.0 h.1.0, subst (λ (x : ℕ). Ruled k x r) (sym (union_end a b touching)) h.1.1)
merged_ruled k a b touching e (x ∷ l) r h = (h.0, merged_ruled k a b touching (end x) l r h.1)

pub merge_ruled : (d : ℕ) (k : Kind) (e : ℕ) (t : Table) → runs t < length t → Ruled k e t → Ruled k e (merge d t)
merge_ruled d k e t h r =
    let w = merges d t h in
    subst (Ruled k e) (sym w.leaves) (merged_ruled k w.these.first w.these.second w.these.touching e w.these.left w.these.right (subst (Ruled k e) w.these.stands r))

pub settle_ruled : (s : Settings) (k : Kind) (e : ℕ) (t : Table) → Enough s t → Ruled k e t → Ruled k e (settle s t)
settle_ruled s k e t enough r = settle_keeps s (Ruled k e) (λ u h p. merge_ruled s.edition k e u h p) (length t) t (omega arith) enough r

-- ---- a reading

single_meets : (k : Kind) (e tick : ℕ) (v : ℤ) → tick < ticks → follows k e (single tick v) ≡ true → Meets k e (single tick v)
single_meets k e tick v h f = record { positive = omega arith; inside = omega arith; ordered = le_z_refl v; single_level = λ _. refl; follow = f }

-- at the end of a table in order of ticks
pub insert_last : (e : ℕ) (b : Bucket) (t : Table) → Ordered e t → last_end e t ≤ b.start → insert b t ≡ t ++ (b ∷ [])
unfolding Ordered last_end insert
insert_last e b [] o h = refl
insert_last e b (a ∷ t) o h =
    let later : end a + readings t ≤ last_end (end a) t = ordered_readings (end a) t o.1.1 in
    rw (le-ltb b.start a.start (omega arith)) (ap (λ (u : Table). a ∷ u) (insert_last (end a) b t o.1.1 h))

pub next_ruled : (e : ℕ) (v : ℤ) (t : Table) → Ruled InOrder e t → last_end e t < ticks → Ruled InOrder e (t ++ (single (last_end e t) v ∷ []))
unfolding Ruled last_end follows
next_ruled e v [] r h = (single_meets InOrder e e v h (eq-eqb e e refl), tt)
next_ruled e v (b ∷ t) r h = (r.0, next_ruled (end b) v t r.1 h)

-- in order there is one run, or none
pub in_order_runs : (e : ℕ) (t : Table) → Ruled InOrder e t → runs_after e t ≡ 0
unfolding Ruled runs_after follows
in_order_runs e [] r = refl
in_order_runs e (b ∷ t) r = rw (eq-eqb e b.start (sym (eqb-true b.start e r.0.follow)), in_order_runs (end b) t r.1)

follows_late : (e : ℕ) (b : Bucket) → e ≤ b.start → follows Late e b ≡ true
unfolding follows
follows_late e b h = le-leb e b.start h

pub late_ruled : (e tick : ℕ) (v : ℤ) (t : Table) → Ruled Late e t → e ≤ tick → tick < ticks → holders tick t ≡ 0 → Ruled Late e (insert (single tick v) t)
unfolding Ruled insert holders
late_ruled e tick v [] r h k free = (single_meets Late e tick v k (follows_late e (single tick v) h), tt)
late_ruled e tick v (a ∷ t) r h k free =
    insert_cases (single tick v) a t (Ruled Late e)
    (λ before.
    let m = r.0 in
    (single_meets Late e tick v k (follows_late e (single tick v) h), (record { positive = m.positive; inside = m.inside; ordered = m.ordered; single_level = m.single_level; follow = follows_late (tick + 1) a (omega arith) }, r.1)))
    (λ behind.
    let past : end a ≤ tick = omega (arith, holds_counts tick a, leb_counts (end a) tick, leb_counts a.start tick) in
    (r.0, late_ruled (end a) tick v t r.1 past k (omega arith)))

-- ---- the first fault of a file is the first

-- of n records from record i, what the pass over them may find
FindsFrom : Kind → List ℕ → ℕ → ℕ → Fault → Type 0
FindsFrom k file i n whole = (j : ℕ) → i ≤ j → j < i + n → meets k file j ≡ true
FindsFrom k file i n (fault j r) = (i ≤ j) × (j < i + n) × (meets k file j ≡ false) × ((m : ℕ) → i ≤ m → m < j → meets k file m ≡ true)

-- the number of the first rule that fails tells whether all hold
no_rule : (i : ℕ) (l : List Bool) → first_false (suc i) l ≡ 0 → all_of l ≡ true
unfolding first_false all_of
no_rule i [] e = refl
no_rule i (true ∷ l) e = no_rule (suc i) l e
no_rule i (false ∷ l) e = absurd (omega arith)

some_rule : (i q : ℕ) (l : List Bool) → first_false i l ≡ suc q → all_of l ≡ false
unfolding first_false all_of
some_rule i q [] e = absurd (omega arith)
some_rule i q (true ∷ l) e = some_rule (suc i) q l e
some_rule i q (false ∷ l) e = refl

module _ (k : Kind) (file : List ℕ) where
  -- a record at least i meets the rules where record i does and those behind it do
  or_here : (i j : ℕ) → i ≤ j → meets k file i ≡ true → (i < j → meets k file j ≡ true) → meets k file j ≡ true
  or_here i j low met behind =
      by_test (eqb i j) (λ same. subst (λ (m : ℕ). meets k file m ≡ true) (eqb-true i j same) met) (λ other. behind (omega (arith, eqb-false i j other)))

  finds_step : (i n q : ℕ) → broken k (end_before file i) (record_at file i) ≡ q → (f : Fault) → FindsFrom k file (suc i) n f → FindsFrom k file i (suc n) (fault_at i q f)
  unfolding fault_at FindsFrom meets broken
  finds_step i n zero e whole h =
      let met = no_rule 0 (rules k (end_before file i) (record_at file i)) e in
      λ j low high. or_here i j low met (λ behind. h j behind (omega arith))
  finds_step i n zero e (fault j r) h =
      let met = no_rule 0 (rules k (end_before file i) (record_at file i)) e in
      (omega (arith, h.0), omega (arith, h.1), h.2, λ m low high. or_here i m low met (λ behind. h.3 m behind high))
  finds_step i n (suc q) e f h =
      (omega arith, omega arith, some_rule 1 q (rules k (end_before file i) (record_at file i)) e, λ m low high. absurd (omega arith))

  finds_from : (i n : ℕ) → FindsFrom k file i n (first_fault k (end_before file i) i (records file i n))
  unfolding FindsFrom first_fault records end_before
  finds_from i zero = λ j low high. absurd (omega arith)
  finds_from i (suc n) = finds_step i n (broken k (end_before file i) (record_at file i)) refl (first_fault k (end_before file (suc i)) (suc i) (records file (suc i) n)) (finds_from (suc i) n)

  found_from : (f : Fault) → FindsFrom k file 0 (length file / record_width) f → Finds k file f
  unfolding FindsFrom Finds
  found_from whole h = λ i high. h i (omega arith) (omega arith)
  found_from (fault i r) h = record { inside = omega (arith, h.1); breaks = h.2; before = λ j high. h.3 j (omega arith) high }

  -- what refusal 8 says: its place is that of the first record of the file that breaks a rule, and where it is not due all meet them
  pub first_is_first : Finds k file (first_fault k 0 0 (records_of file))
  unfolding records_of end_before
  first_is_first = found_from (first_fault k 0 0 (records_of file)) (finds_from 0 (length file / record_width))
