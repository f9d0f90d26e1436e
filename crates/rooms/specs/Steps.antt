-- The place of a tick among the buckets, and what the steps of a reading ask of state and room.
use Rattle.std.specs.Prelude.{ℕ, suc, ◌≤◌, ◌<◌, ◌≡◌, true, cond, List, [], ◌∷◌, ◌++◌, ltb, ℤ, take, drop}
use Rattle.rule.specs.declared.Settings.{Settings}
use Rattle.rule.specs.declared.State.{State}
use Rattle.rule.specs.Numbers.{word}
use Rattle.rule.specs.Room.{runs_allowed, slots, sound, table_of}
use Rattle.rule.specs.Rules.{ruled}
use Rattle.rule.specs.Table.{Ordered, Table, insert, limit, readings, runs, single}
use Rattle.rooms.specs.Slots.{Filled}

-- how many buckets of a table in order of ticks start at the tick or before it
unfoldable pub position : ℕ → Table → ℕ
position tick [] = 0
position tick (a ∷ t) = cond (ltb tick a.start) 0 (suc (position tick t))

-- what the merges after a reading ask: k true, and a limit that leaves room for a bucket to each run
pub record Settling (s : Settings) (k : ℕ) (l : List ℤ) (n : ℕ) : Type 0 where
  pub filled : Filled l n
  pub count : readings (slots l 0 n) < word
  pub truth : k ≡ runs (slots l 0 n)
  pub enough : k ≤ limit s k
  pub small : limit s k < word

-- the buckets of the first n slots are in order of ticks, and the tick's place among them is p
pub record Placed (l : List ℤ) (n p tick : ℕ) : Type 0 where
  pub filled : Filled l n
  pub ordered : Ordered 0 (slots l 0 n)
  pub place : p ≡ position tick (slots l 0 n)

-- the buckets with the new one
abbrev pub with : State → List ℤ → ℕ → ℤ → Table
with s l tick v = insert (single tick v) (table_of s l)

-- what an accepted reading asks: a sound trace, the place of its tick, and the runs there are with it
pub record Ready (s : State) (l : List ℤ) (at k tick : ℕ) (v : ℤ) : Type 0 where
  pub fit : sound s l ≡ true
  pub inside : at ≤ s.used
  pub place : with s l tick v ≡ take at (table_of s l) ++ (single tick v ∷ drop at (table_of s l))
  pub truth : k ≡ runs (with s l tick v)
  pub rules : ruled s.settings.kind (with s l tick v) ≡ true
  pub allowed : runs_allowed s.settings.kind s.settings.gaps k ≡ true
