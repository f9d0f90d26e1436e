-- One number added to every reading: each bucket moves by it, and nothing else of the rule changes.
use Prim.Native.Nat.{ℕ, zero, suc}
use mathlib.Core.Path.{◌≡◌, refl, ap, ◌∙◌}
use mathlib.Core.Bool.{cond}
use mathlib.Core.List.{List, [], ◌∷◌, map}
use mathlib.Core.Option.{Option, some, none}
use lib.Dec.{leb, ltb}
use lib.IntN.{ℤ, ◌+ℤ◌}
use lib.ListN.{length}
use lib.Signed.{le_z, lt_z}
use Rattle.rule.specs.declared.Bucket.{Bucket}
use Rattle.rule.specs.declared.Kind.{Kind}
use Rattle.rule.specs.declared.Kind.TheVariants.{InOrder, Late}
use Rattle.rule.specs.declared.Settings.{Settings}
use Rattle.rule.specs.Bucket.{distance, end, error, larger, lesser, level, middle, neighbours, spread, union}
use Rattle.rule.specs.Rules.{broken, equal, first_fault, follows, rules}
use Rattle.rule.specs.Table.{Table, Choice, nothing, pair, accept, cheapest, choice, holding, holds, insert, last_end, limit, merge, merge_at, merge_of, readings, runs, runs_after, settle, settle_in, single, worst, weight}
use Rattle.over.specs.Search.{first_over, over, touches}
use Rattle.logger.specs.Replay.{Landed, higher, newest, tick_after, tick_from}
use Rattle.offset.specs.Offset.{moved, moved_all, moved_landed}
use Rattle.rule.proofs.Whole.{whole, by_test, distance_is, middle_down, middle_up, one_side, sum}

module _ (d : ℤ) where
  order_moved : (a b : ℤ) → le_z (a +ℤ d) (b +ℤ d) ≡ le_z a b
  order_moved a b =
      by_test (le_z a b)
      (λ h. rw h (let s = sum a d in let t = sum b d in omega whole))
      (λ h. rw h (let s = sum a d in let t = sum b d in omega whole))

  pub distance_moved : (a b : ℤ) → distance (a +ℤ d) (b +ℤ d) ≡ distance a b
  distance_moved a b = omega (whole, distance_is (a +ℤ d) (b +ℤ d), distance_is a b, sum a d, sum b d)

  pub lesser_moved : (a b : ℤ) → lesser (a +ℤ d) (b +ℤ d) ≡ lesser a b +ℤ d
  unfolding lesser
  lesser_moved a b = rw (order_moved a b) (by_test (le_z a b) (λ h. rw h) (λ h. rw h))

  pub larger_moved : (a b : ℤ) → larger (a +ℤ d) (b +ℤ d) ≡ larger a b +ℤ d
  unfolding larger
  larger_moved a b = rw (order_moved a b) (by_test (le_z a b) (λ h. rw h) (λ h. rw h))

  middle_moved : (a b : ℤ) → middle (a +ℤ d) (b +ℤ d) ≡ middle a b +ℤ d
  middle_moved a b =
      omega (whole, middle_up a b, middle_down a b, middle_up (a +ℤ d) (b +ℤ d), middle_down (a +ℤ d) (b +ℤ d), sum a b, sum a d, sum b d, sum (a +ℤ d) (b +ℤ d), sum (middle a b) d, one_side (a +ℤ b), one_side ((a +ℤ d) +ℤ (b +ℤ d)))

  pub level_moved : (b : Bucket) → level (moved d b) ≡ level b +ℤ d
  level_moved b = middle_moved b.least b.largest

  union_moved : (a b : Bucket) → union (moved d a) (moved d b) ≡ moved d (union a b)
  union_moved a b = rw (lesser_moved a.least b.least, larger_moved a.largest b.largest)

  spread_moved : (b : Bucket) → spread (moved d b) ≡ spread b
  spread_moved b = distance_moved b.largest b.least

  pub error_moved : (b : Bucket) → error (moved d b) ≡ error b
  error_moved b = rw (level_moved b, distance_moved b.largest (level b), distance_moved (level b) b.least)

  choice_moved : (e i : ℕ) (a b : Bucket) → choice e i (moved d a) (moved d b) ≡ choice e i a b
  unfolding choice weight
  choice_moved e i a b = ap (λ (s : ℕ). cond (neighbours a b) (pair i s (weight e (union a b))) nothing) (ap spread (union_moved a b) ∙ spread_moved (union a b))

  cheapest_moved : (e i : ℕ) (t : Table) → cheapest e i (moved_all d t) ≡ cheapest e i t
  unfolding cheapest
  cheapest_moved e i [] = refl
  cheapest_moved e i (a ∷ []) = refl
  cheapest_moved e i (a ∷ b ∷ t) = rw (choice_moved e i a b, cheapest_moved e (suc i) (b ∷ t))

  merge_at_moved : (i : ℕ) (t : Table) → merge_at i (moved_all d t) ≡ moved_all d (merge_at i t)
  unfolding merge_at
  merge_at_moved i [] = refl
  merge_at_moved i (a ∷ []) = refl
  merge_at_moved zero (a ∷ b ∷ t) = rw (union_moved a b)
  merge_at_moved (suc i) (a ∷ b ∷ t) = rw (merge_at_moved i (b ∷ t))

  merge_of_moved : (q : Choice) (t : Table) → merge_of q (moved_all d t) ≡ moved_all d (merge_of q t)
  unfolding merge_of
  merge_of_moved nothing t = refl
  merge_of_moved (pair i s w) t = merge_at_moved i t

  merge_moved : (e : ℕ) (t : Table) → merge e (moved_all d t) ≡ moved_all d (merge e t)
  unfolding merge
  merge_moved e t = rw (cheapest_moved e 0 t) (merge_of_moved (cheapest e 0 t) t)

  pub length_moved : (t : Table) → length (moved_all d t) ≡ length t
  length_moved [] = refl
  length_moved (b ∷ t) = ap suc (length_moved t)

  runs_after_moved : (e : ℕ) (t : Table) → runs_after e (moved_all d t) ≡ runs_after e t
  unfolding runs_after
  runs_after_moved e [] = refl
  runs_after_moved e (b ∷ t) = rw (runs_after_moved (end b) t)

  pub runs_moved : (t : Table) → runs (moved_all d t) ≡ runs t
  unfolding runs
  runs_moved [] = refl
  runs_moved (b ∷ t) = rw (runs_after_moved (end b) t)

  pub readings_moved : (t : Table) → readings (moved_all d t) ≡ readings t
  unfolding readings
  readings_moved [] = refl
  readings_moved (b ∷ t) = rw (readings_moved t)

  pub last_end_moved : (e : ℕ) (t : Table) → last_end e (moved_all d t) ≡ last_end e t
  unfolding last_end
  last_end_moved e [] = refl
  last_end_moved e (b ∷ t) = last_end_moved (end b) t

  settle_in_moved : (n : ℕ) (s : Settings) (t : Table) → settle_in n s (moved_all d t) ≡ moved_all d (settle_in n s t)
  unfolding settle_in
  settle_in_moved zero s t = refl
  settle_in_moved (suc n) s t =
      rw (length_moved t, runs_moved t, merge_moved s.edition t, settle_in_moved n s (merge s.edition t))
      (by_test (leb (length t) (limit s (runs t))) (λ h. rw h) (λ h. rw h))

  pub settle_moved : (s : Settings) (t : Table) → settle s (moved_all d t) ≡ moved_all d (settle s t)
  unfolding settle
  settle_moved s t = rw (length_moved t) (settle_in_moved (length t) s t)

  pub insert_moved : (b : Bucket) (t : Table) → insert (moved d b) (moved_all d t) ≡ moved_all d (insert b t)
  unfolding insert
  insert_moved b [] = refl
  insert_moved b (a ∷ t) = rw (insert_moved b t) (by_test (ltb b.start a.start) (λ h. rw h) (λ h. rw h))

  pub accept_moved : (s : Settings) (t : Table) (tick : ℕ) (v : ℤ) → accept s (moved_all d t) tick (v +ℤ d) ≡ moved_all d (accept s t tick v)
  unfolding accept
  accept_moved s t tick v = rw (insert_moved (single tick v) t) (settle_moved s (insert (single tick v) t))

  -- the bucket that holds a tick, moved
  unfoldable pub moved_held : Option Bucket → Option Bucket
  moved_held none = none
  moved_held (some b) = some (moved d b)

  pub holding_moved : (tick : ℕ) (t : Table) → holding tick (moved_all d t) ≡ moved_held (holding tick t)
  unfolding holding holds moved_held
  holding_moved tick [] = refl
  holding_moved tick (b ∷ t) = rw (holding_moved tick t) (by_test (holds tick b) (λ h. rw h) (λ h. rw h))

  -- the first bucket over a bar, the bar moved too
  pub first_over_moved : (first last : ℕ) (bar : ℤ) (i : ℕ) (t : Table) → first_over first last (bar +ℤ d) i (moved_all d t) ≡ first_over first last bar i t
  unfolding first_over over touches
  first_over_moved first last bar i [] = refl
  first_over_moved first last bar i (b ∷ t) = rw (order_moved bar b.largest, first_over_moved first last bar (suc i) t)

  pub worst_moved : (t : Table) → worst (moved_all d t) ≡ worst t
  unfolding worst
  worst_moved [] = refl
  worst_moved (b ∷ t) = rw (error_moved b, worst_moved t)

  -- ---- the record rules

  equal_moved : (a b : ℤ) → equal (a +ℤ d) (b +ℤ d) ≡ equal a b
  unfolding equal
  equal_moved a b = rw (order_moved a b, order_moved b a)

  follows_moved : (k : Kind) (e : ℕ) (b : Bucket) → follows k e (moved d b) ≡ follows k e b
  unfolding follows
  follows_moved InOrder e b = refl
  follows_moved Late e b = refl

  broken_moved : (k : Kind) (e : ℕ) (b : Bucket) → broken k e (moved d b) ≡ broken k e b
  unfolding broken rules
  broken_moved k e b = rw (order_moved b.least b.largest, equal_moved b.least b.largest, follows_moved k e b)

  pub first_fault_moved : (k : Kind) (e i : ℕ) (t : Table) → first_fault k e i (moved_all d t) ≡ first_fault k e i t
  unfolding first_fault
  first_fault_moved k e i [] = refl
  first_fault_moved k e i (b ∷ t) = rw (broken_moved k e b, first_fault_moved k (end b) (suc i) t)

  -- ---- the tick of a record

  unfoldable moved_newest : Option Landed → Option Landed
  moved_newest none = none
  moved_newest (some w) = some (moved_landed d w)

  higher_moved : (a : Landed) (o : Option Landed) → higher (moved_landed d a) (moved_newest o) ≡ moved_landed d (higher a o)
  unfolding higher moved_newest
  higher_moved a none = refl
  higher_moved a (some b) = by_test (lt_z b.tick a.tick) (λ h. rw h) (λ h. rw h)

  newest_moved : (ws : List Landed) → newest (map (moved_landed d) ws) ≡ moved_newest (newest ws)
  unfolding newest moved_newest
  newest_moved [] = refl
  newest_moved (a ∷ ws) = rw (newest_moved ws, higher_moved a (newest ws))

  tick_from_moved : (o : Option Landed) (n : ℕ) → tick_from (moved_newest o) n ≡ tick_from o n
  unfolding tick_from moved_newest
  tick_from_moved none n = refl
  tick_from_moved (some w) n = refl

  pub tick_moved : (ws : List Landed) (n : ℕ) → tick_after (map (moved_landed d) ws) n ≡ tick_after ws n
  tick_moved ws n = rw (newest_moved ws) (tick_from_moved (newest ws) n)
