-- The bucket of document 01: its end, spread, level and error, the union of two, and when two are neighbours.
use Rattle.std.specs.Prelude.{ℕ, ◌+◌, ◌/◌, max, Bool, cond, eqb, ℤ, pos, negsuc, nat_abs, ◌+ℤ◌, ◌-ℤ◌}
use Rattle.std.specs.Int.Signed.{le_z}
use Rattle.rule.specs.declared.Bucket.{Bucket}

-- how far apart two readings, or a reading and a level, are
unfoldable pub distance : ℤ → ℤ → ℕ
distance a b = nat_abs (a -ℤ b)

-- the tick after the bucket's last
abbrev pub end : Bucket → ℕ
end b = b.start + b.count

-- largest minus least
abbrev pub spread : Bucket → ℕ
spread b = distance b.largest b.least

-- half a whole number, rounded toward minus infinity; `negsuc n` is the number below 0 by n + 1
abbrev pub halved : ℤ → ℤ
halved (pos n) = pos (n / 2)
halved (negsuc n) = negsuc (n / 2)

-- half the sum of two readings, rounded down
unfoldable pub middle : ℤ → ℤ → ℤ
middle a b = halved (a +ℤ b)

abbrev pub level : Bucket → ℤ
level b = middle b.least b.largest

-- the larger of largest minus level and level minus least
abbrev pub error : Bucket → ℕ
error b = max (distance b.largest (level b)) (distance (level b) b.least)

unfoldable pub lesser : ℤ → ℤ → ℤ
lesser a b = cond (le_z a b) a b

unfoldable pub larger : ℤ → ℤ → ℤ
larger a b = cond (le_z a b) b a

-- the bucket of the ticks of two neighbours, the first given first
abbrev pub union : Bucket → Bucket → Bucket
union a b =
    record { start = a.start; count = a.count + b.count; least = lesser a.least b.least; largest = larger a.largest b.largest }

-- the second starts at the tick after the first ends
abbrev pub neighbours : Bucket → Bucket → Bool
neighbours a b = eqb (end a) b.start
