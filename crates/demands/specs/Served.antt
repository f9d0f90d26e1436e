-- Demand 3, and what it leans on, as one statement about a table and the accepted readings.
use Rattle.std.specs.Prelude.{ℕ, ◌+◌, ◌/◌, ◌≤◌, ◌≡◌, true, cond, ℤ, length}
use mathlib.Core.List.{List, [], Memᴰ}
use Rattle.std.proofs.Math.Option.{some}
use Rattle.std.specs.Int.Signed.{le_z}
use Rattle.rule.specs.declared.Bucket.{Bucket}
use Rattle.rule.specs.declared.Kind.{Kind}
use Rattle.rule.specs.Bucket.{distance, error, level}
use Rattle.rule.specs.Table.{Table, Ordered, holders, holding, holds, limit_over, readings, runs, worst}
use Rattle.demands.specs.Curve.{Curve, steps, value}
use Rattle.demands.specs.History.{Reading, arrived, runs_of}

-- all accepted readings are within E of the curve
abbrev pub Near : ℕ → Curve → List Reading → Type 0
Near E c rs = (r : Reading) → Memᴰ r rs → distance r.value (value c r.tick) ≤ E

-- all accepted readings are within E of the picture, which at a tick is the level of the bucket that holds it
abbrev pub Shown : ℕ → Table → List Reading → Type 0
Shown E t rs = (r : Reading) → Memᴰ r rs → (b : Bucket) × (holding r.tick t ≡ some b) × (distance r.value (level b) ≤ E)

-- w is the error of some bucket of the table, 0 where it has none
pub data Attained (t : Table) (w : ℕ) : Type 0 where
  empty : t ≡ [] → w ≡ 0 → Attained t w
  bucket : (b : Bucket) → Memᴰ b t → error b ≡ w → Attained t w

-- w is the greatest bucket error: a bound on it is a bound on every bucket's error, and asks no more
pub record Greatest (t : Table) (w : ℕ) : Type 0 where
  pub bounds : (b : Bucket) → Memᴰ b t → error b ≤ w
  pub attained : Attained t w

-- v is an accepted reading at a tick inside b
pub record Inside (rs : List Reading) (b : Bucket) (v : ℤ) : Type 0 where
  pub tick : ℕ
  pub arrived : Memᴰ (record { tick = tick; value = v }) rs
  pub held : holds tick b ≡ true

-- a bucket's least and largest are readings at ticks inside it, and bound all readings inside
pub record Extremes (rs : List Reading) (b : Bucket) : Type 0 where
  pub least : Inside rs b b.least
  pub largest : Inside rs b b.largest
  pub bounds : (r : Reading) → Memᴰ r rs → holds r.tick b ≡ true → (le_z b.least r.value ≡ true) × (le_z r.value b.largest ≡ true)

-- of a table with base limit `base`, after the readings rs and `merges` merges
pub record Served (kind : Kind) (base : ℕ) (rs : List Reading) (t : Table) (merges : ℕ) : Type 0 where
  -- against every curve of at most half as many steps, rounded up
  pub picture : (c : Curve) (E : ℕ) → steps c ≤ (base + 1) / 2 → Near E c rs → Shown E t rs × (worst t ≤ E)
  -- exactly the ticks of the accepted readings, each once
  pub covers : (tick : ℕ) → holders tick t ≡ cond (arrived tick rs) 1 0
  -- the counts of the buckets together are the number of accepted readings
  pub each : readings t ≡ length rs
  pub ordered : Ordered 0 t
  pub extremes : (b : Bucket) → Memᴰ b t → Extremes rs b
  pub size : length t ≤ limit_over kind base (runs t)
  -- k, as counted from the table, is the true number of runs
  pub true_runs : runs t ≡ runs_of rs
  -- merges equals accepted minus buckets
  pub merged : merges + length t ≡ length rs
