-- Slots of the lent numbers that hold buckets, one slot written, a bucket put at its place, and the place of the cheapest neighbours.
use Rattle.std.specs.Prelude.{ℕ, suc, ◌+◌, ◌*◌, ◌≤◌, ◌<◌, ◌≡◌, true, List, ◌∷◌, ◌++◌, ℤ, length, take, drop}
use Rattle.rule.specs.declared.Bucket.{Bucket}
use Rattle.rule.specs.Numbers.{slot_width, word}
use Rattle.rule.specs.Room.{numbers, ranged, slots}
use Rattle.rule.specs.Table.{Choice, Table, nothing, pair, readings}

-- the first n slots are there, and every number in them lies in its field's range
pub record Filled (l : List ℤ) (n : ℕ) : Type 0 where
  pub there : slot_width * n ≤ length l
  pub ranges : ranged l 0 n ≡ true

-- slot i holds the bucket b, the rest is as it was
unfoldable pub put : List ℤ → ℕ → Bucket → List ℤ
put l i b = take (slot_width * i) l ++ (numbers b ++ drop (slot_width * suc i) l)

-- the bucket at a place of the table, those from there on behind it
abbrev pub put_at : ℕ → Bucket → Table → Table
put_at at b t = take at t ++ (b ∷ drop at t)

-- what a merge on the way into the first n slots asks: the new bucket's place is among them, and every union's count is a count
pub record Joining (l : List ℤ) (n at : ℕ) (b : Bucket) : Type 0 where
  pub filled : Filled l n
  pub inside : at ≤ n
  pub count : readings (slots l 0 n) + b.count < word

-- the place of the first of two neighbours, 0 where there are none
unfoldable pub place_of : Choice → ℕ
place_of nothing = 0
place_of (pair i s w) = i

-- what two neighbours cost, above every spread where there are none
unfoldable pub cost_of : Choice → ℕ
cost_of nothing = word
cost_of (pair i s w) = s
