-- Demand 1: every call ends with its answer, or with one refusal of the table, given exactly when the table says.
use Rattle.std.specs.Prelude.{ℕ, ◌+◌, ◌*◌, ◌/◌, ◌%◌, ◌≤◌, ◌<◌, min, ◌≡◌, Bool, true, false, cond, not, ◌&&◌, ◌||◌, List, [], ◌∷◌, ◌++◌, ◌⊎◌, eqb, leb, ltb, ℤ, drop, length, Ok, Err, None, Some}
use Rattle.std.proofs.Math.Option.{Option, some, none}
use Rattle.std.specs.Int.Signed.{le_z}
use Rattle.rule.specs.declared.Bucket.{Bucket}
use Rattle.rule.specs.declared.Found.{Found}
use Rattle.rule.specs.declared.Kind.{Kind}
use Rattle.rule.specs.declared.Kind.TheVariants.{InOrder, Late}
use Rattle.rule.specs.declared.Opening.{Opening}
use Rattle.rule.specs.declared.Settings.{Settings}
use Rattle.rule.specs.declared.Size.{Size}
use Rattle.rule.specs.declared.Size.TheVariants.{Steps, Base}
use Rattle.rule.specs.declared.State.{State}
use Rattle.rule.specs.declared.Tally.{Tally}
use Rattle.rule.specs.Answers.{number, place}
use Rattle.rule.specs.Bytes.{records_of}
use Rattle.rule.specs.Calls.{Verdict, counted, is_held, late, late_outcome, loaded, lookup_outcome, next_outcome, opened, row_outcome, save_outcome, worst_outcome}
use Rattle.rule.specs.Files.{FirstBroken, meets}
use Rattle.rule.specs.Room.{all_of, signed, sound, table_of}
use Rattle.rule.specs.Rules.{first_fault, place_or, ruled, rules}
use Rattle.rule.specs.Table.{accept, holding, next_tick, runs}
use Rattle.over.specs.Search.{search_outcome}
use Rattle.logger.specs.Replay.{replay_outcome}
use Rattle.series.specs.Promise.{AllSigned, AllTimed}
use Rattle.series.specs.Series.{late_many, next_many}
use Rattle.drawing.specs.Call.{picture_outcome}
use Rattle.drawing.specs.Picture.{picture}
use Rattle.over.specs.Hits.{Searched}

-- ---- the table, call by call, in the orders of document 01, and for the picture in that of docs/PICTURE.md
-- The numbers stand here as these write them and not by the names that the definitions have for them, so that a wrong number there does not pass.

-- a row: a refusal's number and place, and whether it is due
pub record Row : Type 0 where
  pub number : ℕ
  pub place : ℕ
  pub due : Bool

-- the place is 0 except for 8
abbrev pub refusing : ℕ → Bool → Row
refusing n c = record { number = n; place = 0; due = c }

-- the first that is due is the one given
unfoldable pub first_of : List Row → Option (ℕ × ℕ)
first_of [] = none
first_of (r ∷ rs) = cond r.due (some (r.number, r.place)) (first_of rs)

-- 0 or above the top
unfoldable pub outside : ℕ → ℕ → Bool
outside top n = eqb n 0 || ltb top n

-- B is 0 or above 256, or C is 0 or above 512
unfoldable pub size_outside : Size → Bool
size_outside (Steps b) = outside 256 b
size_outside (Base c) = outside 512 c

-- the base limit that is named: 2B, or C itself
unfoldable pub base_named : Size → ℕ
base_named (Steps b) = 2 * b
base_named (Base c) = c

-- what an opening names, C in the place of B
abbrev pub named_by : Opening → Settings
named_by g = record { kind = g.kind; base = base_named g.size; gaps = g.gaps; edition = g.edition }

-- at most C steps, late one more for each of so many runs
abbrev pub most_steps : Settings → ℕ → ℕ
most_steps s runs = s.base + cond (late s.kind) runs 0

-- the slots that a trace needs, by K
abbrev pub slots_needed : Settings → ℕ
slots_needed s = most_steps s s.gaps + 1

abbrev pub open_rows : Opening → List ℤ → List Row
open_rows g l =
    refusing 16 (not (eqb g.edition 1 || eqb g.edition 2))
    ∷ refusing 1 (size_outside g.size)
    ∷ refusing 2 (late g.kind && outside 256 g.gaps)
    ∷ refusing 3 (ltb (length l) (4 * slots_needed (named_by g)))
    ∷ []

abbrev pub file_rows : Opening → List ℕ → List Row
file_rows g file =
    refusing 7 (not (eqb (length file % 16) 0))
    ∷ record { number = 8; place = place_or 0 (first_fault g.kind 0 0 (records_of file)); due = not (ruled g.kind (records_of file)) }
    ∷ refusing 9 (late g.kind && ltb g.gaps (runs (records_of file)))
    ∷ refusing 10 (ltb (most_steps (named_by g) (runs (records_of file))) (length (records_of file)))
    ∷ []

-- of a recording, of six bytes to a record
abbrev pub recording_rows : List ℕ → List Row
recording_rows recording = refusing 7 (not (eqb (length recording % 6) 0)) ∷ []

abbrev pub next_rows : State → List ℤ → List Row
next_rows s l =
    refusing 4 (not (sound s l))
    ∷ refusing 5 (late s.settings.kind)
    ∷ refusing 6 (leb 16777216 (next_tick (table_of s l)))
    ∷ []

abbrev pub late_rows : State → List ℤ → ℕ → ℤ → List Row
late_rows s l tick v =
    refusing 4 (not (sound s l))
    ∷ refusing 5 (not (late s.settings.kind))
    ∷ refusing 6 (leb 16777216 tick)
    ∷ refusing 11 (is_held (holding tick (table_of s l)))
    ∷ refusing 9 (ltb s.settings.gaps (runs (accept s.settings (table_of s l) tick v)))
    ∷ []

abbrev pub lookup_rows : State → List ℤ → ℕ → List Row
lookup_rows s l tick =
    refusing 4 (not (sound s l))
    ∷ refusing 6 (leb 16777216 tick)
    ∷ refusing 12 (not (is_held (holding tick (table_of s l))))
    ∷ []

-- of the search for the first bucket that is over, in a range of ticks: 6 where either end is above the last tick
abbrev pub search_rows : State → List ℤ → ℕ → ℕ → List Row
search_rows s l first last =
    refusing 4 (not (sound s l))
    ∷ refusing 6 (leb 16777216 first || leb 16777216 last)
    ∷ []

-- of the worst error
abbrev pub worst_rows : State → List ℤ → List Row
worst_rows s l = refusing 4 (not (sound s l)) ∷ []

-- of row and save: the output has so many places, and the buckets take so many
abbrev pub write_rows : State → List ℤ → ℕ → ℕ → List Row
write_rows s l places taken =
    refusing 4 (not (sound s l))
    ∷ refusing 13 (ltb places taken)
    ∷ []

-- one of a caption's bytes is below the space or above the tilde
unfoldable pub outside_byte : List ℕ → Bool
outside_byte [] = false
outside_byte (b ∷ c) = (ltb b 0x20 || ltb 0x7E b) || outside_byte c

-- of the picture with a caption: 15 where the caption is longer than 200 bytes or has such a byte; the output has so many places
abbrev pub picture_rows : State → List ℤ → List ℕ → ℕ → List Row
picture_rows s l caption places =
    refusing 4 (not (sound s l))
    ∷ refusing 15 (ltb 200 (length caption) || outside_byte caption)
    ∷ refusing 13 (ltb places (length (picture (table_of s l) caption)))
    ∷ []

-- ---- what a call says: a refusal's number and place, or none

unfoldable pub said : {A : Type 0} → Verdict A → Option (ℕ × ℕ)
said (Err r) = some (number r, place r)
said (Ok a) = none

unfoldable pub said_found : Verdict Found → Option (ℕ × ℕ)
said_found (Err r) = some (number r, place r)
said_found (Ok f) = none

unfoldable pub said_written : Verdict ℕ → Option (ℕ × ℕ)
said_written (Err r) = some (number r, place r)
said_written (Ok n) = none

unfoldable pub said_sought : Searched → Option (ℕ × ℕ)
said_sought (Err r) = some (number r, place r)
said_sought (Ok (Some h)) = none
said_sought (Ok None) = none

unfoldable pub said_measured : Verdict ℕ → Option (ℕ × ℕ)
said_measured (Err r) = some (number r, place r)
said_measured (Ok e) = none

unfoldable pub said_drawn : Verdict ℕ → Option (ℕ × ℕ)
said_drawn (Err r) = some (number r, place r)
said_drawn (Ok n) = none

-- ---- the record rules

-- a record whose bucket is b, behind one that ends at e
pub record Lawful (k : Kind) (e : ℕ) (b : Bucket) : Type 0 where
  pub count : 1 ≤ b.count
  pub inside : b.start + b.count ≤ 16777216
  pub ordered : le_z b.least b.largest ≡ true
  pub alone : b.count ≡ 1 → b.least ≡ b.largest
  pub in_order : late k ≡ false → b.start ≡ e
  pub not_below : late k ≡ true → e ≤ b.start

-- ---- the demand

-- A call is refused where a row is due, with the first that is, and answered where none is. A refusal leaves what was lent as it stood; the state is passed by value.
pub record Answered {A : Type 0} (says : Option (ℕ × ℕ)) (rows : List Row) (before after : A) : Type 0 where
  pub exactly : says ≡ first_of rows
  pub untouched : (r : ℕ × ℕ) → says ≡ some r → after ≡ before

pub record Demand1 : Type 0 where
  pub opens : (g : Opening) (l : List ℤ) → let o = opened g l in Answered (said o.0) (open_rows g l) l o.1
  pub nexts : (s : State) (l : List ℤ) (v : ℤ) → let o = next_outcome s l v in Answered (said o.0) (next_rows s l) l o.1
  pub lates : (s : State) (l : List ℤ) (tick : ℕ) (v : ℤ) → let o = late_outcome s l tick v in Answered (said o.0) (late_rows s l tick v) l o.1
  pub lookups : (s : State) (l : List ℤ) (tick : ℕ) → said_found (lookup_outcome s l tick) ≡ first_of (lookup_rows s l tick)
  pub searches : (s : State) (l : List ℤ) (first last : ℕ) (bar : ℤ) → said_sought (search_outcome s l first last bar) ≡ first_of (search_rows s l first last)
  pub worsts : (s : State) (l : List ℤ) → said_measured (worst_outcome s l) ≡ first_of (worst_rows s l)
  pub rows : (s : State) (l : List ℤ) (out : List Bucket) → let o = row_outcome s l out in Answered (said_written o.0) (write_rows s l (length out) s.used) out o.1
  pub saves : (s : State) (l : List ℤ) (out : List ℕ) → let o = save_outcome s l out in Answered (said_written o.0) (write_rows s l (length out) (16 * s.used)) out o.1
  pub pictures : (s : State) (l : List ℤ) (caption out : List ℕ) → let o = picture_outcome s l caption out in Answered (said_drawn o.0) (picture_rows s l caption (length out)) out o.1
  pub loads : (g : Opening) (file : List ℕ) (l : List ℤ) → let o = loaded g file l in Answered (said o.0) (open_rows g l ++ file_rows g file) l o.1
  -- a replay opens a late trace; its records' own refusals are those of late readings, and only counted: `fed_accepted`, `fed_refused` in logger's Promise.antt
  pub replays : (size : Size) (gaps edition : ℕ) (recording : List ℕ) (l : List ℤ) → let o = replay_outcome size gaps edition recording l in
      Answered (said o.0) (open_rows (record { kind = Late; size = size; gaps = gaps; edition = edition }) l ++ recording_rows recording) l o.1
  -- a trace opens with any C from 1 to 512, in either edition, where K is 1 to 256 late and the room is long enough; so with any B from 1 to 256, by `same_open`
  pub any_base : (k : Kind) (c gaps edition : ℕ) (l : List ℤ) → (edition ≡ 1) ⊎ (edition ≡ 2) → 1 ≤ c → c ≤ 512 → (late k ≡ true → (1 ≤ gaps) × (gaps ≤ 256)) → 4 * (c + cond (late k) gaps 0 + 1) ≤ length l
      → said (opened (record { kind = k; size = Base c; gaps = gaps; edition = edition }) l).0 ≡ none
  pub names : (b c : ℕ) → (base_named (Steps b) ≡ 2 * b) × (base_named (Base c) ≡ c)
  -- B is C = 2B: refusal 1 is one law of the base limit, and open, load and replay answer and leave the same, refused or not; every other call reads the state alone
  pub one_law : (z : Size) → size_outside z ≡ outside 512 (base_named z)
  pub same_open : (k : Kind) (b gaps edition : ℕ) (l : List ℤ) → opened (record { kind = k; size = Steps b; gaps = gaps; edition = edition }) l ≡ opened (record { kind = k; size = Base (2 * b); gaps = gaps; edition = edition }) l
  pub same_load : (k : Kind) (b gaps edition : ℕ) (file : List ℕ) (l : List ℤ)
      → loaded (record { kind = k; size = Steps b; gaps = gaps; edition = edition }) file l ≡ loaded (record { kind = k; size = Base (2 * b); gaps = gaps; edition = edition }) file l
  pub same_replay : (b gaps edition : ℕ) (recording : List ℕ) (l : List ℤ) → replay_outcome (Steps b) gaps edition recording l ≡ replay_outcome (Base (2 * b)) gaps edition recording l
  -- 8: the record at its place is the file's, it breaks a rule, and all before it meet them; and it is due wherever a record breaks one
  pub places : (g : Opening) (file : List ℕ) (l : List ℤ) (i : ℕ) → said (loaded g file l).0 ≡ some (8, i) → FirstBroken g.kind file i
  pub breaks : (k : Kind) (file : List ℕ) (i : ℕ) → i < length file / 16 → meets k file i ≡ false → ruled k (records_of file) ≡ false
  -- the record rules, in 01's words
  pub rules : (k : Kind) (e : ℕ) (b : Bucket) → (all_of (rules k e b) ≡ true → Lawful k e b) × (Lawful k e b → all_of (rules k e b) ≡ true)
  -- slots past the needed number are never written
  pub past_open : (g : Opening) (l : List ℤ) → drop (4 * slots_needed (named_by g)) (opened g l).1 ≡ drop (4 * slots_needed (named_by g)) l
  pub past_next : (s : State) (l : List ℤ) (v : ℤ) → signed v ≡ true → drop (4 * slots_needed s.settings) (next_outcome s l v).1 ≡ drop (4 * slots_needed s.settings) l
  pub past_late : (s : State) (l : List ℤ) (tick : ℕ) (v : ℤ) → signed v ≡ true → drop (4 * slots_needed s.settings) (late_outcome s l tick v).1 ≡ drop (4 * slots_needed s.settings) l
  pub past_load : (g : Opening) (file : List ℕ) (l : List ℤ) → drop (4 * slots_needed (named_by g)) (loaded g file l).1 ≡ drop (4 * slots_needed (named_by g)) l
  pub past_replay : (size : Size) (gaps edition : ℕ) (recording : List ℕ) (l : List ℤ) → let n = 4 * slots_needed (record { kind = Late; base = base_named size; gaps = gaps; edition = edition }) in
      drop n (replay_outcome size gaps edition recording l).1 ≡ drop n l
  pub past_next_many : (s : State) (l vs : List ℤ) → AllSigned vs → drop (4 * slots_needed s.settings) (next_many s l vs).room ≡ drop (4 * slots_needed s.settings) l
  pub past_late_many : (s : State) (l : List ℤ) (ws : List (ℕ × ℤ)) → AllTimed ws → drop (4 * slots_needed s.settings) (late_many s l ws).room ≡ drop (4 * slots_needed s.settings) l
  -- so many slots are needed, and so many steps kept at most, for a base limit C: in order C + 1 and C, whatever K is named, and late C + K + 1 and C + k
  pub sizes_in_order : (c gaps edition k : ℕ) → let s : Settings = record { kind = InOrder; base = c; gaps = gaps; edition = edition } in (slots_needed s ≡ c + 1) × (most_steps s k ≡ c)
  pub sizes_late : (c gaps edition k : ℕ) → let s : Settings = record { kind = Late; base = c; gaps = gaps; edition = edition } in (slots_needed s ≡ c + gaps + 1) × (most_steps s k ≡ c + k)
  -- the one thing that a refused reading changes
  pub tally : (t : Tally) (used : ℕ) (o : Verdict State) (r : ℕ × ℕ) → said o ≡ some r
      → counted t used o ≡ record { accepted = t.accepted; refused = min (t.refused + 1) 4294967295; merges = t.merges }
