-- Where the pin first goes over: the first bucket that holds a tick of a range and whose largest reading is at or above a bar.
-- The request calls the bar a limit; document 01's limit is the most buckets of a table.
use Rattle.std.specs.Prelude.{ℕ, suc, max, min, Bool, cond, not, ◌&&◌, List, [], ◌∷◌, leb, ltb, ℤ, Ok, Err, None}
use Rattle.std.proofs.Math.Option.{Option, some, none}
use Rattle.std.specs.Int.Signed.{le_z}
use Rattle.rule.specs.declared.Bucket.{Bucket}
use Rattle.rule.specs.declared.Refusal.{Refusal}
use Rattle.rule.specs.declared.State.{State}
use Rattle.rule.specs.Bucket.{end}
use Rattle.rule.specs.Calls.{Verdict, checked}
use Rattle.rule.specs.Numbers.{ticks}
use Rattle.rule.specs.Room.{sound, table_of}
use Rattle.rule.specs.Table.{Table}
use Rattle.over.specs.Hits.{Searched, hit}

-- a tick from `first` to `last` is in the bucket: the later of the two beginnings lies before the earlier of the two ends
unfoldable pub touches : ℕ → ℕ → Bucket → Bool
touches first last b = ltb (max first b.start) (min (suc last) (end b))

-- it touches the range, and its largest reading, at whichever of its ticks, is at or above the bar
unfoldable pub over : ℕ → ℕ → ℤ → Bucket → Bool
over first last bar b = touches first last b && le_z bar b.largest

-- the first bucket that is over, by its index, i being that of the table's first, and its start; those behind it are not asked
unfoldable pub first_over : ℕ → ℕ → ℤ → ℕ → Table → Option (ℕ × ℕ)
first_over first last bar i [] = none
first_over first last bar i (b ∷ t) = cond (over first last bar b) (some (i, b.start)) (first_over first last bar (suc i) t)

-- ---- the call: 4, then 6 for either end

unfoldable pub sought : Option (ℕ × ℕ) → Searched
sought none = Ok None
sought (some h) = hit h.0 h.1

unfoldable pub sought_of : Verdict (Option (ℕ × ℕ)) → Searched
sought_of (Err r) = Err r
sought_of (Ok h) = sought h

unfoldable pub search_outcome : State → List ℤ → ℕ → ℕ → ℤ → Searched
search_outcome s l first last bar =
    sought_of
    (checked
    ((not (sound s l), Refusal.Unsound)
    ∷ (leb ticks first, Refusal.Tick)
    ∷ (leb ticks last, Refusal.Tick)
    ∷ []) (Ok (first_over first last bar 0 (table_of s l))))
