-- The table, its buckets in tick order, and the merge rule of document 01.
-- Source 003 merges where its Algorithm 1 tests "at least" the limit, changes k only while the table is full and has no tie rule; here, as 01 decides:
-- "more than" the limit, k always the number of runs, and among equals the lowest start; in edition 2 the fewest ticks, and then the lowest start.
use Rattle.std.specs.Prelude.{ℕ, zero, suc, ◌+◌, ◌≤◌, max, Bool, cond, ◌&&◌, ◌||◌, List, [], ◌∷◌, eqb, leb, ltb, ℤ, length}
use Rattle.std.proofs.Math.Option.{Option, some, none}
use Rattle.rule.specs.declared.Bucket.{Bucket}
use Rattle.rule.specs.declared.Kind.{Kind}
use Rattle.rule.specs.declared.Kind.TheVariants.{InOrder, Late}
use Rattle.rule.specs.declared.Settings.{Settings}
use Rattle.rule.specs.Bucket.{end, error, neighbours, spread, union}

abbrev pub Table : Type 0
Table = List Bucket

-- the greatest bucket error, 0 for an empty trace
unfoldable pub worst : Table → ℕ
worst [] = 0
worst (b ∷ t) = max (error b) (worst t)

-- how many readings: the sum of the counts
unfoldable pub readings : Table → ℕ
readings [] = 0
readings (b ∷ t) = b.count + readings t

-- the runs that begin in t, where the bucket before it ends at e
unfoldable pub runs_after : ℕ → Table → ℕ
runs_after e [] = 0
runs_after e (b ∷ t) = cond (eqb e b.start) 0 1 + runs_after (end b) t

-- k, the number of runs
unfoldable pub runs : Table → ℕ
runs [] = 0
runs (b ∷ t) = suc (runs_after (end b) t)

-- the end of the last bucket, e where there is none
unfoldable pub last_end : ℕ → Table → ℕ
last_end e [] = e
last_end e (b ∷ t) = last_end (end b) t

-- in order the next reading takes this tick
abbrev pub next_tick : Table → ℕ
next_tick t = last_end 0 t

unfoldable pub holds : ℕ → Bucket → Bool
holds tick b = leb b.start tick && ltb tick (end b)

-- the bucket that holds a tick
unfoldable pub holding : ℕ → Table → Option Bucket
holding tick [] = none
holding tick (b ∷ t) = cond (holds tick b) (some b) (holding tick t)

-- how many buckets hold a tick
unfoldable pub holders : ℕ → Table → ℕ
holders tick [] = 0
holders tick (b ∷ t) = cond (holds tick b) 1 0 + holders tick t

-- in tick order, each bucket of one tick or more; e is the end of the bucket before
unfoldable pub Ordered : ℕ → Table → Type 0
Ordered e [] = Unit {0}
Ordered e (b ∷ t) = (e ≤ b.start) × ((1 ≤ b.count) × Ordered (end b) t)

-- ---- the limit

-- over a base limit: the base limit in order, and the runs more late
unfoldable pub limit_over : Kind → ℕ → ℕ → ℕ
limit_over InOrder base k = base
limit_over Late base k = base + k

-- C in order, C + k late
abbrev pub limit : Settings → ℕ → ℕ
limit s k = limit_over s.kind s.base k

-- the slots that a trace needs: C + 1 in order, where K is kept as 0, and C + K + 1 late
abbrev pub needed : Settings → ℕ
needed s = limit s s.gaps + 1

-- ---- the merge rule

-- what decides among equal spreads, before the lowest start: in edition 2 the ticks of the union, in edition 1 nothing
unfoldable pub weight : ℕ → Bucket → ℕ
weight e b = cond (eqb e 2) b.count 0

-- two neighbours, by the place of the first, with the spread of their union and its weight; or nothing
pub data Choice : Type 0 where
  nothing : Choice
  pair : ℕ → ℕ → ℕ → Choice

unfoldable pub choice : ℕ → ℕ → Bucket → Bucket → Choice
choice e i a b = cond (neighbours a b) (pair i (spread (union a b)) (weight e (union a b))) nothing

-- a smaller spread, or an equal one and no greater weight
unfoldable pub ahead : ℕ → ℕ → ℕ → ℕ → Bool
ahead s w r x = ltb s r || (eqb s r && leb w x)

-- the tie rule: the first, unless the second has the smaller spread, or an equal one and the smaller weight
unfoldable pub cheaper : Choice → Choice → Choice
cheaper nothing q = q
cheaper (pair i s w) nothing = pair i s w
cheaper (pair i s w) (pair j r x) = cond (ahead s w r x) (pair i s w) (pair j r x)

-- the neighbours whose union has the smallest spread, among equals in edition 2 the fewest ticks, among these the lowest start; i is the place of the table's first bucket
unfoldable pub cheapest : ℕ → ℕ → Table → Choice
cheapest e i [] = nothing
cheapest e i (a ∷ []) = nothing
cheapest e i (a ∷ b ∷ t) = cheaper (choice e i a b) (cheapest e (suc i) (b ∷ t))

-- the bucket at a place and the one after it become their union
unfoldable pub merge_at : ℕ → Table → Table
merge_at i [] = []
merge_at i (a ∷ []) = a ∷ []
merge_at zero (a ∷ b ∷ t) = union a b ∷ t
merge_at (suc i) (a ∷ b ∷ t) = a ∷ merge_at i (b ∷ t)

unfoldable pub merge_of : Choice → Table → Table
merge_of nothing t = t
merge_of (pair i s w) t = merge_at i t

unfoldable pub merge : ℕ → Table → Table
merge e t = merge_of (cheapest e 0 t) t

-- while the buckets are more than the limit, merge; at most n times
unfoldable pub settle_in : ℕ → Settings → Table → Table
settle_in zero s t = t
settle_in (suc n) s t = let u = settle_in n s (merge s.edition t) in cond (leb (length t) (limit s (runs t))) t u

-- the table's length is merges enough
unfoldable pub settle : Settings → Table → Table
settle s t = settle_in (length t) s t

-- a new bucket of count 1
abbrev pub single : ℕ → ℤ → Bucket
single tick v = record { start = tick; count = 1; least = v; largest = v }

-- a bucket put at its tick
unfoldable pub insert : Bucket → Table → Table
insert b [] = b ∷ []
insert b (a ∷ t) = cond (ltb b.start a.start) (b ∷ a ∷ t) (a ∷ insert b t)

-- the table after an accepted reading
unfoldable pub accept : Settings → Table → ℕ → ℤ → Table
accept s t tick v = settle s (insert (single tick v) t)
