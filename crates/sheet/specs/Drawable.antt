-- What is asked of buckets in the first slots before they are drawn: soundness says it of every trace.
use Rattle.std.specs.Prelude.{ℕ, ◌≤◌, List, ℤ}
use Rattle.rule.specs.Room.{slots}
use Rattle.rule.specs.Table.{Ordered, next_tick}
use Rattle.rooms.specs.Slots.{Filled}

pub record Drawable (l : List ℤ) (n : ℕ) : Type 0 where
  pub filled : Filled l n
  pub ordered : Ordered 0 (slots l 0 n)
  pub ticks : next_tick (slots l 0 n) ≤ 16777216
