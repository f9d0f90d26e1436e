-- Demands 2 and 3 by edition, in words: the rule's own table after the readings is the one table that the edition's rule allows, and demand 3, proved of every rule that merges some cheapest neighbours, is kept by both.
use Rattle.std.specs.Prelude.{ℕ, ◌≤◌, ◌≡◌, List, [], ◌∷◌}
use Rattle.rule.specs.declared.Kind.{Kind}
use Rattle.rule.specs.declared.Settings.{Settings}
use Rattle.rule.specs.Table.{Table, accept}
use Rattle.demands.specs.History.{Accepted, FewestTicks, Held, LowestStart, Merge, Reading, Takes, table_after}
use Rattle.demands.specs.Served.{Served}

-- after any accepted readings the table is one that M allows, no other is, and M merges some cheapest neighbours
pub record Follows (edition : ℕ) (M : Table → Table → Type 0) : Type 0 where
  pub allowed : (s : Settings) (rs : List Reading) → s.edition ≡ edition → 1 ≤ s.base → Accepted s rs → (m : ℕ) × Held M s.kind s.base rs (table_after s rs) m
  pub alone : {kind : Kind} {base : ℕ} {rs : List Reading} {t u : Table} {m n : ℕ} → Held M kind base rs t m → Held M kind base rs u n → t ≡ u
  pub cheapest : (t u : Table) → M t u → Merge t u
  -- so demand 3 is kept
  pub served : {kind : Kind} {base m : ℕ} {rs : List Reading} {t : Table} → 1 ≤ base → Held M kind base rs t m → Served kind base rs t m

-- a reading, and the edition that takes it
abbrev pub Taken : Type 0
Taken = ℕ × Reading

unfoldable pub readings_of : List Taken → List Reading
readings_of [] = []
readings_of (w ∷ ws) = w.1 ∷ readings_of ws

abbrev pub in_edition : ℕ → Settings → Settings
in_edition e s = record { kind = s.kind; base = s.base; gaps = s.gaps; edition = e }

-- the table after readings that were each taken by an edition of its own
unfoldable pub table_by : Settings → List Taken → Table
table_by s [] = []
table_by s (w ∷ ws) = accept (in_edition w.0 s) (table_by s ws) w.1.tick w.1.value

unfoldable pub AcceptedBy : Settings → List Taken → Type 0
AcceptedBy s [] = Unit {0}
AcceptedBy s (w ∷ ws) = Takes s.kind (table_by s ws) w.1.tick × AcceptedBy s ws

pub record Editions : Type 0 where
  -- demand 3, once, of every rule that merges some cheapest neighbours
  pub once : {kind : Kind} {base m : ℕ} {rs : List Reading} {t : Table} → 1 ≤ base → Held Merge kind base rs t m → Served kind base rs t m
  -- and whatever editions took the readings
  pub changing : (s : Settings) (ws : List Taken) → 1 ≤ s.base → AcceptedBy s ws → (m : ℕ) × Served s.kind s.base (readings_of ws) (table_by s ws) m
  pub first : Follows 1 LowestStart
  pub second : Follows 2 FewestTicks
