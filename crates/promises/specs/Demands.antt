-- Demands 2 and 3: of a state and a room that were reached, and of everything that can be.
use Rattle.std.specs.Prelude.{ℕ, ◌≤◌, ◌+◌, ◌*◌, ◌/◌, min, ◌≡◌, true, false, cond, ◌⊎◌, ℤ, drop, length, take, Ok, Err}
use mathlib.Core.List.{List, [], ◌∷◌, ◌++◌, Memᴰ}
use Rattle.rule.specs.declared.Bucket.{Bucket}
use Rattle.rule.specs.declared.Found.{Found}
use Rattle.rule.specs.declared.Kind.{Kind}
use Rattle.rule.specs.declared.Kind.TheVariants.{Late}
use Rattle.rule.specs.declared.Opening.{Opening}
use Rattle.rule.specs.declared.Settings.{Settings}
use Rattle.rule.specs.declared.Size.{Size}
use Rattle.rule.specs.declared.Size.TheVariants.{Steps, Base}
use Rattle.rule.specs.declared.State.{State}
use Rattle.rule.specs.Bucket.{distance, error, level, spread}
use Rattle.rule.specs.Bytes.{saved}
use Rattle.rule.specs.Calls.{Verdict, kept, late, loaded, lookup_outcome, opened, save_outcome}
use Rattle.rule.specs.Room.{sound, table_of}
use Rattle.rule.specs.Table.{Table, holders, holds, limit, next_tick, worst}
use Rattle.storage.specs.Bytes.{AllBytes}
use Rattle.demands.specs.Curve.{Curve, steps}
use Rattle.demands.specs.History.{FewestTicks, Held, LowestStart, Reading, arrived, runs_of, table_after}
use Rattle.demands.specs.Served.{Extremes, Near}
use Rattle.answered.specs.Answered.{base_named, most_steps, named_by, slots_needed}
use Rattle.logger.specs.Replay.{Course, replay_outcome}
use Rattle.series.specs.Promise.{AllSigned, AllTimed}
use Rattle.series.specs.Series.{late_many, next_many}
use Rattle.promises.specs.Reached.{Reached, SameSettings, at_their_ticks, in_order_from, readings_of}

-- lookup itself answers, at the reading's tick, a level within E of the reading
pub record Seen (E : ℕ) (s : State) (l : List ℤ) (r : Reading) : Type 0 where
  pub bucket : Bucket
  pub answer : lookup_outcome s l r.tick ≡ Ok (record { level = level bucket; error = error bucket; least = bucket.least; largest = bucket.largest })
  pub near : distance r.value (level bucket) ≤ E

-- of a trace opened with what g names
pub record Upheld (g : Opening) (rs : List Reading) (s : State) (l : List ℤ) : Type 0 where
  -- the kind, the base limit, K and the edition named at the opening are those of the state, K in order but for being kept as 0
  pub named : s.settings ≡ kept g
  pub kind_named : s.settings.kind ≡ g.kind
  pub named_base : s.settings.base ≡ base_named g.size
  pub gaps_named : s.settings.gaps ≡ cond (late g.kind) g.gaps 0
  pub edition_named : s.settings.edition ≡ g.edition
  -- refusal 4 is never met
  pub fit : sound s l ≡ true
  -- demand 2: the buckets are those of the rule applied to the accepted readings
  pub buckets : table_of s l ≡ table_after (kept g) rs
  -- demand 3: against every curve of at most half as many flat steps as the base limit, rounded up, by lookup itself
  pub picture : (c : Curve) (E : ℕ) → steps c ≤ (base_named g.size + 1) / 2 → Near E c rs → ((r : Reading) → Memᴰ r rs → Seen E s l r) × (worst (table_of s l) ≤ E)
  -- lookup shows, at each tick, the level, error, least and largest of the bucket that holds it
  pub lookups : (tick : ℕ) (b : Bucket) → Memᴰ b (table_of s l) → holds tick b ≡ true → lookup_outcome s l tick ≡ Ok (record { level = level b; error = error b; least = b.least; largest = b.largest })
  -- at most C steps, late one more for each unbroken run of the arrived ticks
  pub size : s.used ≤ most_steps (named_by g) (runs_of rs)
  -- the state's runs are those of the arrived ticks, and its readings are the accepted ones
  pub runs : s.runs ≡ runs_of rs
  pub readings : s.readings ≡ length rs
  -- in order the next reading takes the tick of that number: the ticks are 0, 1, 2 and so on
  pub next : late g.kind ≡ false → next_tick (table_of s l) ≡ length rs
  -- exactly the ticks of the accepted readings, each once
  pub covers : (tick : ℕ) → holders tick (table_of s l) ≡ cond (arrived tick rs) 1 0
  -- a bucket's least and largest are the least and largest reading among exactly its ticks
  pub extremes : (b : Bucket) → Memᴰ b (table_of s l) → Extremes rs b

-- an opening, and what was answered, with another edition and else the same
abbrev pub in_edition : ℕ → Opening → Opening
in_edition e g = record { kind = g.kind; size = g.size; gaps = g.gaps; edition = e }

unfoldable pub answered_in : ℕ → Verdict State → Verdict State
answered_in e (Err r) = Err r
answered_in e (Ok s) =
    Ok (record { settings = record { kind = s.settings.kind; base = s.settings.base; gaps = s.settings.gaps; edition = e }; used = s.used; runs = s.runs; readings = s.readings })

-- Demand 2: the buckets are those of the min-merge rule (late: its fragment form), and save and load round-trip both ways.
pub record Demand2 : Type 0 where
  -- after any calls they are the rule's, applied to the accepted readings, with the settings named at the opening
  pub buckets : {g : Opening} {rs : List Reading} {s : State} {l : List ℤ} → Reached g rs s l → table_of s l ≡ table_after (kept g) rs
  -- and so they are in words, by edition: while there are more than the limit, two of the cheapest neighbours are merged, in edition 1 those with the lowest start, in edition 2 those with the fewest ticks and of these the lowest start
  pub first_edition : {g : Opening} {rs : List Reading} {s : State} {l : List ℤ} → Reached g rs s l → g.edition ≡ 1 → (m : ℕ) × Held LowestStart g.kind (base_named g.size) rs (table_of s l) m
  pub second_edition : {g : Opening} {rs : List Reading} {s : State} {l : List ℤ} → Reached g rs s l → g.edition ≡ 2 → (m : ℕ) × Held FewestTicks g.kind (base_named g.size) rs (table_of s l) m
  -- no other table is such, and no trace is of another edition
  pub first_alone : {k : Kind} {base m n : ℕ} {rs : List Reading} {t u : Table} → Held LowestStart k base rs t m → Held LowestStart k base rs u n → t ≡ u
  pub second_alone : {k : Kind} {base m n : ℕ} {rs : List Reading} {t u : Table} → Held FewestTicks k base rs t m → Held FewestTicks k base rs u n → t ≡ u
  pub either_edition : {g : Opening} {rs : List Reading} {s : State} {l : List ℤ} → Reached g rs s l → (g.edition ≡ 1) ⊎ (g.edition ≡ 2)
  -- each has the least and the largest reading among exactly its ticks
  pub extremes : {g : Opening} {rs : List Reading} {s : State} {l : List ℤ} → Reached g rs s l → (b : Bucket) → Memᴰ b (table_of s l) → Extremes rs b
  -- none spans a tick that has not arrived
  pub gapless : {g : Opening} {rs : List Reading} {s : State} {l : List ℤ} → Reached g rs s l → (b : Bucket) → Memᴰ b (table_of s l) → (tick : ℕ) → holds tick b ≡ true → arrived tick rs ≡ true
  pub spreads : {g : Opening} {rs : List Reading} {s : State} {l : List ℤ} → Reached g rs s l → (b : Bucket) → Memᴰ b (table_of s l) → spread b ≤ 4294967295
  -- a reading brings one bucket, and merging ends at the limit and not below it: C in order, late C and the true runs of the arrived ticks
  pub settled : {g : Opening} {r : Reading} {rs : List Reading} {s : State} {l : List ℤ} → Reached g (r ∷ rs) s l
      → s.used ≡ min (length (table_after (kept g) rs) + 1) (most_steps (named_by g) (runs_of (r ∷ rs)))
  -- late, readings that happen to arrive in order are one run: the limit is C + 1, which is 2B + 1 where B was named
  pub one_run : (s : Settings) → late s.kind ≡ true → limit s 1 ≡ s.base + 1
  -- save writes the buckets and nothing behind them, and load of these bytes with the same settings is the same trace, the same state and the same slots
  pub saves : {g : Opening} {rs : List Reading} {s : State} {l : List ℤ} → Reached g rs s l → (out : List ℕ) → 16 * s.used ≤ length out
      → save_outcome s l out ≡ (Ok s.used, saved (table_of s l) ++ drop (16 * s.used) out)
  pub saved_loaded : {g h : Opening} {rs : List Reading} {s : State} {l : List ℤ} → Reached g rs s l → SameSettings h g → (room : List ℤ) → 4 * slots_needed (named_by g) ≤ length room
      → let o = loaded h (saved (table_of s l)) room in (o.0 ≡ Ok s) × (take (4 * slots_needed (named_by g)) o.1 ≡ take (4 * slots_needed (named_by g)) l)
  -- the same settings are those of which the same is kept, named by B or by C
  pub same_settings : (h g : Opening) → (SameSettings h g → kept h ≡ kept g) × (kept h ≡ kept g → SameSettings h g)
  -- of bytes from anywhere, load keeps the kind, the base limit, K and the edition that it was given, K in order but for being kept as 0
  pub loaded_named : (g : Opening) (file : List ℕ) (l : List ℤ) (t : State) → (loaded g file l).0 ≡ Ok t
      → (t.settings.kind ≡ g.kind) × (t.settings.base ≡ base_named g.size) × (t.settings.gaps ≡ cond (late g.kind) g.gaps 0) × (t.settings.edition ≡ g.edition)
  -- a file does not say its edition: by the other one, load gives the same refusal, or the same buckets and the same state but for the edition, and leaves the same room
  pub either_loads : (g : Opening) (e : ℕ) → (g.edition ≡ 1) ⊎ (g.edition ≡ 2) → (e ≡ 1) ⊎ (e ≡ 2) → (file : List ℕ) (l : List ℤ) → let o = loaded g file l in loaded (in_edition e g) file l ≡ (answered_in e o.0, o.1)
  -- and bytes from anywhere that load accepts are the bytes that save writes of what it left
  pub loaded_saved : (g : Opening) (file : List ℕ) (l : List ℤ) (t : State) (out : List ℕ) → AllBytes file → (loaded g file l).0 ≡ Ok t → length file ≤ length out
      → save_outcome t (loaded g file l).1 out ≡ (Ok (length file / 16), file ++ drop (length file) out)

-- Demand 3: nobody could have served better with half as many steps.
pub record Demand3 : Type 0 where
  -- it is said of every accepted opening, by B or by C, odd or even, in either edition
  pub begins : (g : Opening) (l : List ℤ) {s : State} {m : List ℤ} → opened g l ≡ (Ok s, m) → Reached g [] s m
  -- and of every accepted replay: what it leaves is reached by the opening of a late trace and its accepted records, each a late reading at its tick
  pub replays : (size : Size) (gaps edition : ℕ) (recording : List ℕ) (l : List ℤ) {c : Course} {m : List ℤ} → replay_outcome size gaps edition recording l ≡ (Ok c, m)
      → Reached (record { kind = Late; size = size; gaps = gaps; edition = edition }) (readings_of c.landed) c.state m
  -- and after many readings at one call, refused or not: what it leaves is reached, with the accepted ones as readings, in order at the ticks that come next, late each at its own
  pub many_next : {g : Opening} {rs : List Reading} {s : State} {l : List ℤ} → Reached g rs s l → (vs : List ℤ) → AllSigned vs → let f = next_many s l vs in
      Reached g (in_order_from (next_tick (table_of s l)) (take f.accepted vs) rs) f.state f.room
  pub many_late : {g : Opening} {rs : List Reading} {s : State} {l : List ℤ} → Reached g rs s l → (ws : List (ℕ × ℤ)) → AllTimed ws → let f = late_many s l ws in
      Reached g (at_their_ticks (take f.accepted ws) rs) f.state f.room
  -- of a trace opened with C, for every curve of at most (C + 1) / 2 flat steps, rounded down: where all readings are within E of it, lookup shows each within E, and the worst error is at most E
  pub picture_of_base : {k : Kind} {base gaps edition : ℕ} {rs : List Reading} {s : State} {l : List ℤ} → Reached (record { kind = k; size = Base base; gaps = gaps; edition = edition }) rs s l
      → (c : Curve) (E : ℕ) → steps c ≤ (base + 1) / 2 → Near E c rs → ((r : Reading) → Memᴰ r rs → Seen E s l r) × (worst (table_of s l) ≤ E)
  -- of a trace opened with B, document 01's own sentence: for every curve of at most B flat steps
  pub picture_of_steps : {k : Kind} {b gaps edition : ℕ} {rs : List Reading} {s : State} {l : List ℤ} → Reached (record { kind = k; size = Steps b; gaps = gaps; edition = edition }) rs s l
      → (c : Curve) (E : ℕ) → steps c ≤ b → Near E c rs → ((r : Reading) → Memᴰ r rs → Seen E s l r) × (worst (table_of s l) ≤ E)
  -- ours has at most C steps, late one more for each unbroken run
  pub size_of_base : {k : Kind} {base gaps edition : ℕ} {rs : List Reading} {s : State} {l : List ℤ} → Reached (record { kind = k; size = Base base; gaps = gaps; edition = edition }) rs s l → s.used ≤ base + cond (late k) (runs_of rs) 0
  -- opened with B, at most 2B, late one more for each unbroken run
  pub size_of_steps : {k : Kind} {b gaps edition : ℕ} {rs : List Reading} {s : State} {l : List ℤ} → Reached (record { kind = k; size = Steps b; gaps = gaps; edition = edition }) rs s l → s.used ≤ 2 * b + cond (late k) (runs_of rs) 0
  -- and covers exactly the ticks of the accepted readings, each once
  pub covers : {g : Opening} {rs : List Reading} {s : State} {l : List ℤ} → Reached g rs s l → (tick : ℕ) → holders tick (table_of s l) ≡ cond (arrived tick rs) 1 0
