-- The demands of the exported functions, for a stranger who calls them from C: what each answers and leaves, and what any sequence of them keeps.
use Rattle.std.specs.Prelude.{ℕ, suc, ◌+◌, ◌-◌, ◌*◌, ◌/◌, ◌≤◌, min, ◌≡◌, ◌≢◌, ◌⊎◌, true, false, cond, eqb, leb, ℤ, pos, drop, length, take}
use mathlib.Core.List.{List, [], ◌∷◌, ◌++◌, Memᴰ}
use Rattle.std.specs.Int.Signed.{le_z}
use Rattle.rule.specs.declared.Bucket.{Bucket}
use Rattle.rule.specs.declared.Kind.TheVariants.{InOrder, Late}
use Rattle.rule.specs.declared.Size.TheVariants.{Steps, Base}
use Rattle.rule.specs.declared.Tally.{Tally}
use Rattle.rule.specs.Bucket.{distance, error, level}
use Rattle.rule.specs.Bytes.{saved}
use Rattle.rule.specs.Calls.{kept, late}
use Rattle.rule.specs.Files.{FirstBroken}
use Rattle.rule.specs.Room.{signed, sound, table_of}
use Rattle.rule.specs.Table.{Table, holds, worst}
use Rattle.storage.specs.Bytes.{AllBytes}
use Rattle.over.specs.Promise.{First, Over, all_over, answer_of}
use Rattle.demands.specs.Curve as curve
use Rattle.demands.specs.Curve.{Curve}
use Rattle.demands.specs.History.{FewestTicks, Held, LowestStart, Reading, arrived, runs_of, table_after}
use Rattle.demands.specs.Served.{Inside, Near}
use Rattle.plain.specs.declared.Counted.{Counted}
use Rattle.fields.specs.declared.Fields.{Fields}
use Rattle.fields.specs.declared.Named.{Named}
use Rattle.plain.specs.declared.Hit.{Hit}
use Rattle.plain.specs.declared.Recount.{Recount}
use Rattle.plain.specs.declared.Reply.{Reply}
use Rattle.plain.specs.declared.Shown.{Shown}
use Rattle.plain.specs.declared.WorstError.{WorstError}
use Rattle.fields.specs.States.{fields_of, kind_of, none, number_of, opening_of, state_from}
use Rattle.plain.specs.Plain.{late_reply, late_tally, load_reply, lookup_reply, next_reply, next_tally, open_reply, pointing, replay_reply, row_reply, save_reply, search_reply, worst_reply}
use Rattle.answered.specs.Answered.{Row, file_rows, late_rows, lookup_rows, named_by, next_rows, open_rows, search_rows, slots_needed, worst_rows, write_rows}
use Rattle.promises.specs.Demands.{Upheld}
use Rattle.promises.specs.Reached.{SameSettings}

-- ---- demand 1, by the rows of the table in Answered.antt

-- refusal and place: those of the first row that is due, zeros where none is
unfoldable pub first_due : List Row → ℕ × ℕ
first_due [] = (0, 0)
first_due (r ∷ rs) = cond r.due (r.number, r.place) (first_due rs)

-- of open, load and the two readings; refused, the state handed back is `back`, and the room is as it was
pub record Replies (rows : List Row) (back : Fields) (before after : List ℤ) (r : Reply) : Type 0 where
  pub exactly : (r.refusal, r.place) ≡ first_due rows
  pub untouched : r.refusal ≢ 0 → (r.state ≡ back) × (after ≡ before)

-- of lookup, which writes nothing; refused, its other numbers are 0
pub record Shows (rows : List Row) (s : Shown) : Type 0 where
  pub exactly : (s.refusal, s.place) ≡ first_due rows
  pub zeros : s.refusal ≢ 0 → s ≡ record { refusal = s.refusal; place = s.place; level = pos 0; error = 0; least = pos 0; largest = pos 0 }

-- of the search, which writes nothing; refused, its other numbers are 0
pub record Points (rows : List Row) (h : Hit) : Type 0 where
  pub exactly : (h.refusal, h.place) ≡ first_due rows
  pub zeros : h.refusal ≢ 0 → h ≡ record { refusal = h.refusal; place = h.place; found = 0; index = 0; start = 0 }

-- of the worst error, which writes nothing; refused, it is 0
pub record Errs (rows : List Row) (w : WorstError) : Type 0 where
  pub exactly : (w.refusal, w.place) ≡ first_due rows
  pub none_told : w.refusal ≢ 0 → w.error ≡ 0

-- of row and save; refused, no bucket is told, and the output is as it was
pub record Counts {A : Type 0} (rows : List Row) (before after : List A) (c : Counted) : Type 0 where
  pub exactly : (c.refusal, c.place) ≡ first_due rows
  pub untouched : c.refusal ≢ 0 → (c.buckets ≡ 0) × (after ≡ before)

-- of a tallied reading on a trace with so many slots in use before: refused, the count of the refused changes and no other; accepted, that of the accepted, and merges by the buckets that are gone. Each stops at 4294967295
pub record Tallies (used : ℕ) (r : Reply) (before after : Tally) : Type 0 where
  pub counts_refused : r.refusal ≢ 0 → after ≡ record { accepted = before.accepted; refused = min (before.refused + 1) 4294967295; merges = before.merges }
  pub counts_accepted : r.refusal ≡ 0 → after ≡ record { accepted = min (before.accepted + 1) 4294967295; refused = before.refused; merges = min (before.merges + (used + 1 - r.state.used)) 4294967295 }

-- of each function, for any numbers and bytes: open and load hand back zeros where they are refused, the two readings the state that was given
pub record ExportedDemand1 : Type 0 where
  pub opens : (named : Named) (l : List ℤ) → let o = open_reply named l in Replies (open_rows (opening_of named) l) none l o.1 o.0
  pub nexts : (f : Fields) (l : List ℤ) (v : ℤ) → let o = next_reply f l v in Replies (next_rows (state_from f) l) f l o.1 o.0
  pub lates : (f : Fields) (l : List ℤ) (tick : ℕ) (v : ℤ) → let o = late_reply f l tick v in Replies (late_rows (state_from f) l tick v) f l o.1 o.0
  -- the tallied readings reply and leave the room as these two do, and leave the tally so
  pub next_tallies : (f : Fields) (l : List ℤ) (v : ℤ) (t : Tally) → Tallies f.used (next_reply f l v).0 t (next_tally f l v t)
  pub late_tallies : (f : Fields) (l : List ℤ) (tick : ℕ) (v : ℤ) (t : Tally) → Tallies f.used (late_reply f l tick v).0 t (late_tally f l tick v t)
  pub lookups : (f : Fields) (l : List ℤ) (tick : ℕ) → Shows (lookup_rows (state_from f) l tick) (lookup_reply f l tick)
  pub searches : (f : Fields) (l : List ℤ) (first last : ℕ) (bar : ℤ) → Points (search_rows (state_from f) l first last) (search_reply f l first last bar)
  pub worsts : (f : Fields) (l : List ℤ) → Errs (worst_rows (state_from f) l) (worst_reply f l)
  -- a record a bucket
  pub rows : (f : Fields) (l : List ℤ) (out : List Bucket) → let o = row_reply f l out in Counts (write_rows (state_from f) l (length out) f.used) out o.1 o.0
  -- sixteen bytes a bucket
  pub saves : (f : Fields) (l : List ℤ) (out : List ℕ) → let o = save_reply f l out in Counts (write_rows (state_from f) l (length out) (16 * f.used)) out o.1 o.0
  pub loads : (named : Named) (file : List ℕ) (l : List ℤ) → let o = load_reply named file l in
      Replies (open_rows (opening_of named) l ++ file_rows (opening_of named) file) none l o.1 o.0
  -- 8: the record at its place is the file's, it breaks a rule, and all before it meet them
  pub places : (named : Named) (file : List ℕ) (l : List ℤ) → let r = (load_reply named file l).0 in r.refusal ≡ 8 → FirstBroken (kind_of named.kind) file r.place
  -- kind 0 is in order, any other late
  pub kinds : (kind_of 0 ≡ InOrder) × ((n : ℕ) → kind_of (suc n) ≡ Late)
  -- by 0 the size is B, by any other number C: that is the opening that the rows above speak of, and its edition the number that is named
  pub openings : (kind size gaps edition n : ℕ) → (opening_of (record { kind = kind; size = size; gaps = gaps; by = 0; edition = edition }) ≡ record { kind = kind_of kind; size = Steps size; gaps = gaps; edition = edition })
      × (opening_of (record { kind = kind; size = size; gaps = gaps; by = suc n; edition = edition }) ≡ record { kind = kind_of kind; size = Base size; gaps = gaps; edition = edition })
  -- B is C = 2B: whoever names either gets the same answer, and the same is left, refused or not
  pub same_open : (kind b gaps edition n : ℕ) (l : List ℤ) → open_reply (record { kind = kind; size = b; gaps = gaps; by = 0; edition = edition }) l ≡ open_reply (record { kind = kind; size = 2 * b; gaps = gaps; by = suc n; edition = edition }) l
  pub same_load : (kind b gaps edition n : ℕ) (file : List ℕ) (l : List ℤ)
      → load_reply (record { kind = kind; size = b; gaps = gaps; by = 0; edition = edition }) file l ≡ load_reply (record { kind = kind; size = 2 * b; gaps = gaps; by = suc n; edition = edition }) file l
  -- the zeros that a refused open, load or replay hands back are sound in no room, so no reading and no look accepts them
  pub unsound : (l : List ℤ) → sound (state_from none) l ≡ false
  pub unusable : (l : List ℤ) (tick last : ℕ) (v : ℤ) (out : List Bucket) (bytes : List ℕ)
      → (next_reply none l v).0.refusal ∷ (late_reply none l tick v).0.refusal ∷ (lookup_reply none l tick).refusal ∷ (search_reply none l tick last v).refusal ∷ (worst_reply none l).refusal ∷ (row_reply none l out).0.refusal ∷ (save_reply none l bytes).0.refusal ∷ []
      ≡ 4 ∷ 4 ∷ 4 ∷ 4 ∷ 4 ∷ 4 ∷ 4 ∷ []

-- ---- where the pin first goes over, in the words of over's Promise.antt

pub record ExportedSearch : Type 0 where
  -- found is 1 or 0; where it is 1, index and start are those of the first bucket that is over
  pub one_or_none : (f : Fields) (l : List ℤ) (first last : ℕ) (bar : ℤ) → let h = search_reply f l first last bar in h.found ≢ 1 → h.found ≡ 0
  pub hits : (f : Fields) (l : List ℤ) (first last : ℕ) (bar : ℤ) → let h = search_reply f l first last bar in h.found ≡ 1 → First first last bar (table_of (state_from f) l) h.index h.start
  -- where it is 0 and the call is not refused, there is none, and the other numbers are 0
  pub misses : (f : Fields) (l : List ℤ) (first last : ℕ) (bar : ℤ) → let h = search_reply f l first last bar in h.refusal ≡ 0 → h.found ≡ 0 → (b : Bucket) → Memᴰ b (table_of (state_from f) l) → Over first last bar b → ⊥
  -- of any trace, loaded from bytes from anywhere too: at no tick of the range does ndz_lookup show a largest reading at or above the bar
  pub none_shown : (f : Fields) (l : List ℤ) (first last : ℕ) (bar : ℤ) → let h = search_reply f l first last bar in h.refusal ≡ 0 → h.found ≡ 0
      → (tick : ℕ) → first ≤ tick → tick ≤ last → let s = lookup_reply f l tick in s.refusal ≡ 0 → le_z bar s.largest ≡ false
  pub zeros : (f : Fields) (l : List ℤ) (first last : ℕ) (bar : ℤ) → let h = search_reply f l first last bar in h.found ≡ 0 → (h.index ≡ 0) × (h.start ≡ 0)

-- ---- demands 2 and 3

-- What a caller can reach from ndz_open with the settings named, each call getting the state and the room as the last one left them:
-- the caller has the state f, and the room holds l, after the accepted readings rs, newest first. Lookup, first_over, worst, row, save and picture write neither, and a tallied reading is the reading, for state and room; what many readings at one call leave is among this too, says Many.antt.
pub data Called (named : Named) : List Reading → Fields → List ℤ → Type 0 where
  -- opened empty, in any room
  opens : {r : Reply} {m : List ℤ} (l : List ℤ) → open_reply named l ≡ (r, m) → r.refusal ≡ 0 → Called named [] r.state m
  -- an accepted reading, any signed 32-bit number: in order they take the ticks 0, 1, 2 and so on
  nexts : {rs : List Reading} {f : Fields} {l m : List ℤ} {r : Reply} (v : ℤ) → signed v ≡ true → Called named rs f l → next_reply f l v ≡ (r, m) → r.refusal ≡ 0
      → Called named (record { tick = length rs; value = v } ∷ rs) r.state m
  lates : {rs : List Reading} {f : Fields} {l m : List ℤ} {r : Reply} (tick : ℕ) (v : ℤ) → signed v ≡ true → Called named rs f l → late_reply f l tick v ≡ (r, m) → r.refusal ≡ 0
      → Called named (record { tick = tick; value = v } ∷ rs) r.state m
  -- a refused reading: the caller goes on with the state that it handed back
  next_refused : {rs : List Reading} {f : Fields} {l m : List ℤ} {r : Reply} (v : ℤ) → Called named rs f l → next_reply f l v ≡ (r, m) → r.refusal ≢ 0 → Called named rs r.state m
  late_refused : {rs : List Reading} {f : Fields} {l m : List ℤ} {r : Reply} (tick : ℕ) (v : ℤ) → Called named rs f l → late_reply f l tick v ≡ (r, m) → r.refusal ≢ 0 → Called named rs r.state m
  -- a refused open, load or replay, by any settings and bytes, lent the room that holds the trace: the caller goes on with the state of before
  open_refused : {rs : List Reading} {f : Fields} {l m : List ℤ} {r : Reply} (other : Named) → Called named rs f l → open_reply other l ≡ (r, m) → r.refusal ≢ 0 → Called named rs f m
  load_refused : {rs : List Reading} {f : Fields} {l m : List ℤ} {r : Reply} (other : Named) (file : List ℕ) → Called named rs f l → load_reply other file l ≡ (r, m) → r.refusal ≢ 0 → Called named rs f m
  replay_refused : {rs : List Reading} {f : Fields} {l m : List ℤ} {r : Recount} (other : Named) (recording : List ℕ) → Called named rs f l → replay_reply other recording l ≡ (r, m) → r.refusal ≢ 0 → Called named rs f m
  -- saved into any output, and the bytes that were written loaded into any room by the same settings: late any kind but 0 is the same, the base limit by B or by C, in order any gaps, and the same edition
  loads : {rs : List Reading} {f : Fields} {l m : List ℤ} {c : Counted} {written : List ℕ} {r : Reply} (out : List ℕ) (room : List ℤ) (other : Named)
      → SameSettings (opening_of other) (opening_of named) → Called named rs f l → save_reply f l out ≡ (c, written) → c.refusal ≡ 0
      → load_reply other (take (16 * c.buckets) written) room ≡ (r, m) → r.refusal ≡ 0 → Called named rs r.state m

-- ndz_lookup at the reading's tick is not refused: its level is within E of the reading, and its error is at most E
pub record Within (E : ℕ) (f : Fields) (l : List ℤ) (r : Reading) : Type 0 where
  pub shown : (lookup_reply f l r.tick).refusal ≡ 0
  pub near : distance r.value (lookup_reply f l r.tick).level ≤ E
  pub error : (lookup_reply f l r.tick).error ≤ E

-- the buckets of the rule applied to the accepted readings
abbrev pub buckets_of : Named → List Reading → Table
buckets_of named rs = table_after (kept (opening_of named)) rs

-- not refused: so many buckets were written
abbrev pub wrote_all : ℕ → Counted
wrote_all n = record { refusal = 0; place = 0; buckets = n }

-- of a trace opened with the settings named
pub record Promised (named : Named) (rs : List Reading) (f : Fields) (l : List ℤ) : Type 0 where
  -- demands 2 and 3, as the calls keep them, of the state with these fields
  pub keeps : Upheld (opening_of named) rs (state_from f) l
  -- the fields are that state's, and say nothing else
  pub plain : fields_of (state_from f) ≡ f
  -- the settings named at the opening: a late kind is 1, and in order K is kept as 0
  pub kind_named : f.kind ≡ number_of (kind_of named.kind)
  pub named_base : f.base ≡ cond (eqb named.by 0) (2 * named.size) named.size
  pub gaps_named : f.gaps ≡ cond (late (kind_of named.kind)) named.gaps 0
  pub edition_named : f.edition ≡ named.edition
  -- demand 2 by edition, in words: the buckets of the rule are those of merges of the cheapest neighbours, in edition 1 with the lowest start, in edition 2 with the fewest ticks and then the lowest start; there is no other edition
  pub either_edition : (named.edition ≡ 1) ⊎ (named.edition ≡ 2)
  pub first_edition : named.edition ≡ 1 → (m : ℕ) × Held LowestStart (kind_of named.kind) f.base rs (buckets_of named rs) m
  pub second_edition : named.edition ≡ 2 → (m : ℕ) × Held FewestTicks (kind_of named.kind) f.base rs (buckets_of named rs) m
  -- at most C steps, late one more for each unbroken run; 2B where B was named
  pub size : f.used ≤ f.base + cond (late (kind_of named.kind)) (runs_of rs) 0
  pub size_of_steps : named.by ≡ 0 → f.used ≤ 2 * named.size + cond (late (kind_of named.kind)) (runs_of rs) 0
  pub runs : f.runs ≡ runs_of rs
  pub readings : f.readings ≡ length rs
  -- demand 2: ndz_row and ndz_save write the buckets of the rule, where the output is long enough, and nothing behind them
  pub row : (out : List Bucket) → f.used ≤ length out → row_reply f l out ≡ (wrote_all f.used, buckets_of named rs ++ drop f.used out)
  pub save : (out : List ℕ) → 16 * f.used ≤ length out → save_reply f l out ≡ (wrote_all f.used, saved (buckets_of named rs) ++ drop (16 * f.used) out)
  -- and ndz_load of these bytes by the same settings, into any room that is long enough, hands back the same state
  pub load : (other : Named) (room : List ℤ) → SameSettings (opening_of other) (opening_of named) → 4 * slots_needed (named_by (opening_of named)) ≤ length room
      → (load_reply other (saved (buckets_of named rs)) room).0 ≡ record { refusal = 0; place = 0; state = f }
  -- demand 3: against every curve of at most (C + 1) / 2 flat steps, rounded down, by ndz_lookup itself
  pub picture : (c : Curve) (E : ℕ) → curve.steps c ≤ (f.base + 1) / 2 → Near E c rs → (r : Reading) → Memᴰ r rs → Within E f l r
  -- where B was named, document 01's own sentence: against every curve of at most B flat steps
  pub picture_of_steps : named.by ≡ 0 → (c : Curve) (E : ℕ) → curve.steps c ≤ named.size → Near E c rs → (r : Reading) → Memᴰ r rs → Within E f l r
  -- and by ndz_worst, which tells the greatest error of the buckets of the rule
  pub worst_told : worst_reply f l ≡ record { refusal = 0; place = 0; error = worst (buckets_of named rs) }
  pub worst_within : (c : Curve) (E : ℕ) → curve.steps c ≤ (f.base + 1) / 2 → Near E c rs → worst (buckets_of named rs) ≤ E
  -- ndz_lookup shows, at each tick, the level, error, least and largest of the bucket that holds it
  pub lookups : (tick : ℕ) (b : Bucket) → Memᴰ b (buckets_of named rs) → holds tick b ≡ true
      → lookup_reply f l tick ≡ record { refusal = 0; place = 0; level = level b; error = error b; least = b.least; largest = b.largest }
  -- ndz_first_over answers as whoever reads all the buckets of the rule
  pub searches : (first last : ℕ) (bar : ℤ) → first ≤ 16777215 → last ≤ 16777215 → search_reply f l first last bar ≡ pointing (answer_of (all_over first last bar 0 (buckets_of named rs)))
  -- what that says of the readings: where it finds none, no accepted reading at a tick of the range is at or above the bar; where it finds one, it is the first such bucket of the rule, and its largest reading was accepted at a tick inside it
  pub none_over : (first last : ℕ) (bar : ℤ) → let h = search_reply f l first last bar in h.refusal ≡ 0 → h.found ≡ 0 → (r : Reading) → Memᴰ r rs → first ≤ r.tick → r.tick ≤ last → le_z bar r.value ≡ false
  pub some_over : (first last : ℕ) (bar : ℤ) → let h = search_reply f l first last bar in h.found ≡ 1 → (w : First first last bar (buckets_of named rs) h.index h.start) × Inside rs w.hit.bucket w.hit.bucket.largest
  -- ndz_lookup shows exactly the ticks of the accepted readings: any other is refused, above the last tick by 6 and else by 12
  pub covers : (tick : ℕ) → (lookup_reply f l tick).refusal ≡ cond (arrived tick rs) 0 (cond (leb 16777216 tick) 6 12)

-- where what is promised begins, and demand 2 of bytes from anywhere
pub record ExportedDemand2 : Type 0 where
  -- what is promised is promised of every accepted opening, by B or by C, odd or even
  pub begins : (named : Named) (l : List ℤ) → let o = open_reply named l in o.0.refusal ≡ 0 → Called named [] o.0.state o.1
  -- ndz_load keeps what was named: a late kind is 1, B is kept as 2B, in order K as 0, and the edition as it is
  pub load_named : (named : Named) (file : List ℕ) (l : List ℤ) → let r = (load_reply named file l).0 in r.refusal ≡ 0
      → (r.state.kind ≡ number_of (kind_of named.kind)) × (r.state.base ≡ cond (eqb named.by 0) (2 * named.size) named.size) × (r.state.gaps ≡ cond (late (kind_of named.kind)) named.gaps 0) × (r.state.edition ≡ named.edition)
  -- and what it accepts, ndz_save writes, and nothing behind it
  pub same_bytes : (named : Named) (file out : List ℕ) (l : List ℤ) → AllBytes file → length file ≤ length out → let o = load_reply named file l in o.0.refusal ≡ 0
      → save_reply o.0.state o.1 out ≡ (wrote_all (length file / 16), file ++ drop (length file) out)
