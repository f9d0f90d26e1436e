-- The accepted readings, newest first, and the tables that a rule can hold after them: one that merges some cheapest neighbours, and in words that of each edition.
-- Of the first nothing is said of ties, and the base limit is any number: the rule of each edition, with the base limit kept, is one of these.
use Rattle.std.specs.Prelude.{ℕ, zero, suc, ◌+◌, ◌≤◌, ◌<◌, ◌≡◌, Bool, true, false, not, cond, ◌||◌, List, [], ◌∷◌, ◌++◌, eqb, ℤ, length}
use Rattle.rule.specs.declared.Bucket.{Bucket}
use Rattle.rule.specs.declared.Kind.{Kind}
use Rattle.rule.specs.declared.Kind.TheVariants.{InOrder, Late}
use Rattle.rule.specs.declared.Settings.{Settings}
use Rattle.rule.specs.Bucket.{neighbours, spread, union}
use Rattle.rule.specs.Table.{Table, accept, holders, insert, limit_over, next_tick, runs, single}

pub record Reading : Type 0 where
  pub tick : ℕ
  pub value : ℤ

-- some accepted reading has the tick
unfoldable pub arrived : ℕ → List Reading → Bool
arrived tick [] = false
arrived tick (r ∷ rs) = eqb r.tick tick || arrived tick rs

-- a run is a longest stretch of arrived ticks, so it begins at an arrived tick with none arrived right before it
unfoldable pub begins : List Reading → ℕ → Bool
begins rs zero = true
begins rs (suc before) = not (arrived before rs)

-- how many of the readings `some` begin a run among the readings rs
unfoldable pub beginning : List Reading → List Reading → ℕ
beginning rs [] = 0
beginning rs (r ∷ some) = cond (begins rs r.tick) 1 0 + beginning rs some

-- the true number of runs
abbrev pub runs_of : List Reading → ℕ
runs_of rs = beginning rs rs

-- t becomes u: two neighbours, of which no others have a union of smaller spread, are merged
pub record Merge (t u : Table) : Type 0 where
  pub left : Table
  pub first : Bucket
  pub second : Bucket
  pub right : Table
  pub stands : t ≡ left ++ (first ∷ second ∷ right)
  pub leaves : u ≡ left ++ (union first second ∷ right)
  pub touching : neighbours first second ≡ true
  pub cheapest : (l : Table) (a b : Bucket) (r : Table) → t ≡ l ++ (a ∷ b ∷ r) → neighbours a b ≡ true → spread (union first second) ≤ spread (union a b)

-- edition 1: of the cheapest the two with the lowest start
pub record LowestStart (t u : Table) : Type 0 where
  pub merged : Merge t u
  pub lowest : (l : Table) (a b : Bucket) (r : Table) → t ≡ l ++ (a ∷ b ∷ r) → neighbours a b ≡ true → spread (union a b) ≡ spread (union merged.first merged.second) → merged.first.start ≤ a.start

-- edition 2: of the cheapest those with the fewest ticks, and of these the two with the lowest start
pub record FewestTicks (t u : Table) : Type 0 where
  pub merged : Merge t u
  pub fewest : (l : Table) (a b : Bucket) (r : Table) → t ≡ l ++ (a ∷ b ∷ r) → neighbours a b ≡ true → spread (union a b) ≡ spread (union merged.first merged.second)
      → merged.first.count + merged.second.count ≤ a.count + b.count
  pub lowest : (l : Table) (a b : Bucket) (r : Table) → t ≡ l ++ (a ∷ b ∷ r) → neighbours a b ≡ true → spread (union a b) ≡ spread (union merged.first merged.second)
      → a.count + b.count ≡ merged.first.count + merged.second.count → merged.first.start ≤ a.start

-- while the buckets are more than the limit, a merge is made that the rule M allows; the number counts them
pub data Settles (M : Table → Table → Type 0) (kind : Kind) (base : ℕ) : Table → Table → ℕ → Type 0 where
  rests : {t : Table} → length t ≤ limit_over kind base (runs t) → Settles M kind base t t 0
  merges : {t u v : Table} {n : ℕ} → limit_over kind base (runs t) < length t → M t u → Settles M kind base u v n → Settles M kind base t v (suc n)

-- the tick of an accepted reading: in order the next one, late one that is not held
unfoldable pub Takes : Kind → Table → ℕ → Type 0
Takes InOrder t tick = tick ≡ next_tick t
Takes Late t tick = holders tick t ≡ 0

-- after the readings, newest first, the trace has the buckets t, and so many merges were made
pub data Held (M : Table → Table → Type 0) (kind : Kind) (base : ℕ) : List Reading → Table → ℕ → Type 0 where
  opened : Held M kind base [] [] 0
  accepted : {rs : List Reading} {t u : Table} {m n : ℕ} (r : Reading) → Held M kind base rs t m → Takes kind t r.tick
      → Settles M kind base (insert (single r.tick r.value) t) u n → Held M kind base (r ∷ rs) u (n + m)

-- the rule's own table after the readings, by the edition of the settings
unfoldable pub table_after : Settings → List Reading → Table
table_after s [] = []
table_after s (r ∷ rs) = accept s (table_after s rs) r.tick r.value

-- each reading's tick was one that could be accepted when it came
unfoldable pub Accepted : Settings → List Reading → Type 0
Accepted s [] = Unit {0}
Accepted s (r ∷ rs) = Takes s.kind (table_after s rs) r.tick × Accepted s rs
