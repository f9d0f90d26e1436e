-- Searches worked by hand, in a late trace of three buckets with a gap of two ticks before the last.
use Rattle.std.specs.Prelude.{ℕ, ◌≡◌, [], ◌∷◌, ◌++◌, ℤ, pos, negsuc, replicate, Ok, Err, None}
use Rattle.rule.specs.declared.Refusal.{Refusal}
use Rattle.rule.specs.ByHand.{bucket, gappy_base}
use Rattle.rule.specs.Room.{flat}
use Rattle.rule.specs.Table.{Table}
use Rattle.over.specs.Search.{search_outcome}
use Rattle.rule.specs.Calls.{Verdict}
use Rattle.over.specs.Hits.{Searched, hit}

-- ticks 0 to 2, 3 and 4, and 7 and 8
abbrev pub buckets : Table
buckets = bucket 0 3 (negsuc 0) (pos 4) ∷ bucket 3 2 (pos 8) (pos 9) ∷ bucket 7 2 (pos 2) (pos 9) ∷ []

-- in a room of five slots, the needed number; so many in use are said to be there
abbrev pub asked : ℕ → ℕ → ℕ → ℤ → Searched
asked used first last bar =
    search_outcome (record { settings = gappy_base 2 2; used = used; runs = 2; readings = 7 }) (flat buckets ++ replicate 8 (pos 0)) first last bar

-- below every reading
abbrev pub low : ℤ
low = negsuc 2147483647

pub record ByHand : Type 0 where
  -- at the bar is over, and one above it is not
  pub at_the_bar : asked 3 0 8 (pos 4) ≡ hit 0 0
  pub above_it : asked 3 0 8 (pos 5) ≡ hit 1 3
  -- the first of two that are over; and the index counts from the trace's first bucket, not from the range's
  pub first_of_two : asked 3 2 8 (pos 9) ≡ hit 1 3
  pub last_bucket : asked 3 5 8 (pos 9) ≡ hit 2 7
  pub nowhere : asked 3 0 8 (pos 10) ≡ (Ok None)
  -- a bucket partly in the range counts whole, at its first and at its last tick
  pub begins_inside : asked 3 4 8 (pos 9) ≡ hit 1 3
  pub ends_inside : asked 3 0 3 (pos 9) ≡ hit 1 3
  pub inside : asked 3 1 1 (pos 4) ≡ hit 0 0
  pub one_before : asked 3 0 2 (pos 9) ≡ (Ok None)
  -- in the gap, from it, and behind the last tick
  pub gap : asked 3 5 6 low ≡ (Ok None)
  pub from_gap : asked 3 6 7 low ≡ hit 2 7
  pub behind : asked 3 9 16777215 low ≡ (Ok None)
  -- empty ranges, one of them between two ticks of a bucket
  pub empty : asked 3 2 1 low ≡ (Ok None)
  pub empty_far : asked 3 16777215 0 low ≡ (Ok None)
  -- 6 for either end, of an empty range too; 4 before it
  pub first_above : asked 3 16777216 0 low ≡ Err Refusal.Tick
  pub last_above : asked 3 0 16777216 low ≡ Err Refusal.Tick
  pub unsound : asked 2 16777216 0 low ≡ Err Refusal.Unsound
