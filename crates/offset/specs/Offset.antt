-- A probe offset: one number added to all readings moves every level by that number, where nothing leaves the 32-bit range.
use Rattle.std.specs.Prelude.{ℕ, ◌+◌, ◌*◌, ◌/◌, ◌%◌, ◌≡◌, true, ℤ, pos, ◌+ℤ◌, drop, get_or, length, Ok, Err}
use mathlib.Core.List.{List, [], ◌∷◌, ◌++◌, map, Memᴰ}
use Rattle.std.specs.Int.Signed.{le_z}
use Rattle.rule.specs.declared.Bucket.{Bucket}
use Rattle.rule.specs.declared.Found.{Found}
use Rattle.rule.specs.declared.Opening.{Opening}
use Rattle.rule.specs.declared.Refusal.{Refusal}
use Rattle.rule.specs.declared.Size.{Size}
use Rattle.rule.specs.declared.State.{State}
use Rattle.rule.specs.declared.Tally.{Tally}
use Rattle.rule.specs.Bucket.{error, level, spread}
use Rattle.rule.specs.Bytes.{bits, bytes, records_of}
use Rattle.rule.specs.Calls.{Verdict}
use Rattle.rule.specs.Room.{signed, sound, table_of}
use Rattle.rule.specs.Table.{Table, worst}
use Rattle.storage.specs.Bytes.{AllBytes}
use Rattle.series.specs.Counts.{tallied}
use Rattle.series.specs.Series.{Fed, late_call, late_many, next_call, next_many, timed}
use Rattle.over.specs.Search.{search_outcome}
use Rattle.logger.specs.declared.Frame.{Frame}
use Rattle.logger.specs.Replay.{Course, Landed, frames_of, replay_outcome}
use Rattle.offset.specs.Caller.{Answer, Call, Caller, after, answer, answers, drawn, filed, idle, lates, lates_many, left, loads, lookups, measured, nexts, nexts_many, opens, pointed, reach, reached, recounted, replays, rows, saves, searches, shown, traced, worsts}

-- ---- d higher, d being any whole number

-- a bucket of the same ticks, each reading d more
abbrev pub moved : ℤ → Bucket → Bucket
moved d b = record { start = b.start; count = b.count; least = b.least +ℤ d; largest = b.largest +ℤ d }

abbrev pub moved_all : ℤ → Table → Table
moved_all d t = map (moved d) t

-- readings, each d more
abbrev pub moved_readings : ℤ → List ℤ → List ℤ
moved_readings d vs = map (λ v. v +ℤ d) vs

-- a record of a recording: the same counter, its reading d more
abbrev pub moved_frame : ℤ → Frame → Frame
moved_frame d f = record { counter = f.counter; value = f.value +ℤ d }

-- so it is of one that a replay has accepted, at the same tick
abbrev pub moved_landed : ℤ → Landed → Landed
moved_landed d w = record { tick = w.tick; counter = w.counter; value = w.value +ℤ d }

-- what lookup shows: the level, the least and the largest d higher, the error the same; a refusal the same
unfoldable pub moved_found : ℤ → Verdict Found → Verdict Found
moved_found d (Ok f) = Ok (record { level = f.level +ℤ d; error = f.error; least = f.least +ℤ d; largest = f.largest +ℤ d })
moved_found d (Err r) = Err r

-- states, refusals with number and place, the index and start of a bucket that is over, errors and counts are the same
unfoldable pub moved_answer : ℤ → Answer → Answer
moved_answer d (traced v) = traced v
moved_answer d (reached s n r) = reached s n r
moved_answer d (shown f) = shown (moved_found d f)
moved_answer d (pointed s) = pointed s
moved_answer d (measured e) = measured e
moved_answer d (drawn w t) = drawn w (moved_all d t)
moved_answer d (filed w) = filed w
moved_answer d (recounted v) = recounted v

-- ---- two callers

-- files of bytes, one as long as the other, the records of the second d higher
pub record FileMoved (d : ℤ) (f g : List ℕ) : Type 0 where
  pub bytes : AllBytes f
  pub bytes_too : AllBytes g
  pub long : length g ≡ length f
  pub records : records_of g ≡ moved_all d (records_of f)

-- so are those at each place
abbrev pub FilesMoved : ℤ → List (List ℕ) → List (List ℕ) → Type 0
FilesMoved d fs gs = (i : ℕ) → FileMoved d (get_or fs i []) (get_or gs i [])

-- the readings of a recording
abbrev pub readings_of : List ℕ → List ℤ
readings_of recording = map (λ (f : Frame). f.value) (frames_of recording)

-- each fits 32 bits, and fits them with d
abbrev pub AllFit : ℤ → List ℤ → Type 0
AllFit d vs = (v : ℤ) → Memᴰ v vs → (signed v ≡ true) × (signed (v +ℤ d) ≡ true)

-- recordings, one as long as the other, the records of the second d higher at the same counters, with readings that fit 32 bits as the first one's do
pub record RecordingMoved (d : ℤ) (r q : List ℕ) : Type 0 where
  pub long : length q ≡ length r
  pub records : frames_of q ≡ map (moved_frame d) (frames_of r)
  pub fit : AllFit d (readings_of r)

-- the same call by a second caller, whose reading is d more and fits 32 bits as the first one's does, each of many at one call so and at the same tick, whose bar is d more, and whose recording is so moved; each lends a room or an output of its own, as long as the other's
pub data Higher (d : ℤ) : Call → Call → Type 0 where
  opens_too : (g : Opening) (l m : List ℤ) → length m ≡ length l → Higher d (opens g l) (opens g m)
  nexts_too : (v : ℤ) → signed v ≡ true → signed (v +ℤ d) ≡ true → Higher d (nexts v) (nexts (v +ℤ d))
  lates_too : (tick : ℕ) (v : ℤ) → signed v ≡ true → signed (v +ℤ d) ≡ true → Higher d (lates tick v) (lates tick (v +ℤ d))
  nexts_many_too : (vs : List ℤ) → AllFit d vs → Higher d (nexts_many vs) (nexts_many (moved_readings d vs))
  lates_many_too : (ts : List ℕ) (vs : List ℤ) → AllFit d vs → Higher d (lates_many ts vs) (lates_many ts (moved_readings d vs))
  lookups_too : (tick : ℕ) → Higher d (lookups tick) (lookups tick)
  searches_too : (first last : ℕ) (bar : ℤ) → Higher d (searches first last bar) (searches first last (bar +ℤ d))
  worsts_too : Higher d worsts worsts
  rows_too : (out too : List Bucket) → length too ≡ length out → Higher d (rows out) (rows too)
  saves_too : (out too : List ℕ) → length too ≡ length out → Higher d (saves out) (saves too)
  loads_too : (g : Opening) (i : ℕ) (l m : List ℤ) → length m ≡ length l → Higher d (loads g i l) (loads g i m)
  replays_too : (size : Size) (gaps edition : ℕ) (r q : List ℕ) (l m : List ℤ) → RecordingMoved d r q → length m ≡ length l → Higher d (replays size gaps edition r l) (replays size gaps edition q m)

-- so are calls in turn
pub data AllHigher (d : ℤ) : List Call → List Call → Type 0 where
  none : AllHigher d [] []
  each : {x y : Call} {xs ys : List Call} → Higher d x y → AllHigher d xs ys → AllHigher d (x ∷ xs) (y ∷ ys)

-- the six bytes of a record
abbrev pub six_bytes : Frame → List ℕ
six_bytes f = f.counter % 256 ∷ f.counter / 256 ∷ bytes (bits f.value)

unfoldable pub bytes_of : List Frame → List ℕ
bytes_of [] = []
bytes_of (f ∷ fs) = six_bytes f ++ bytes_of fs

-- the same recording, its readings d more; a rest of fewer than six bytes is kept
abbrev pub raised : ℤ → List ℕ → List ℕ
raised d r = bytes_of (map (moved_frame d) (frames_of r)) ++ drop (6 * (length r / 6)) r

-- the same call, its readings or its bar d more, in the same room or output
unfoldable pub higher : ℤ → Call → Call
higher d (opens g l) = opens g l
higher d (nexts v) = nexts (v +ℤ d)
higher d (lates tick v) = lates tick (v +ℤ d)
higher d (nexts_many vs) = nexts_many (moved_readings d vs)
higher d (lates_many ts vs) = lates_many ts (moved_readings d vs)
higher d (lookups tick) = lookups tick
higher d (searches first last bar) = searches first last (bar +ℤ d)
higher d worsts = worsts
higher d (rows out) = rows out
higher d (saves out) = saves out
higher d (loads g i l) = loads g i l
higher d (replays size gaps edition r l) = replays size gaps edition (raised d r) l

-- the readings that calls are fed with, many at one call and those of a recording too
unfoldable pub readings_in : List Call → List ℤ
readings_in [] = []
readings_in (opens g l ∷ xs) = readings_in xs
readings_in (nexts v ∷ xs) = v ∷ readings_in xs
readings_in (lates tick v ∷ xs) = v ∷ readings_in xs
readings_in (nexts_many vs ∷ xs) = vs ++ readings_in xs
readings_in (lates_many ts vs ∷ xs) = vs ++ readings_in xs
readings_in (lookups tick ∷ xs) = readings_in xs
readings_in (searches first last bar ∷ xs) = readings_in xs
readings_in (worsts ∷ xs) = readings_in xs
readings_in (rows out ∷ xs) = readings_in xs
readings_in (saves out ∷ xs) = readings_in xs
readings_in (loads g i l ∷ xs) = readings_in xs
readings_in (replays size gaps edition r l ∷ xs) = readings_of r ++ readings_in xs

-- what the second caller has is what the first has, d higher: the same state, and every bucket with the same ticks, moved
pub record Alike (d : ℤ) (c e : Caller) : Type 0 where
  pub state : e.state ≡ c.state
  pub fit : sound e.state e.room ≡ sound c.state c.room
  pub buckets : sound c.state c.room ≡ true → table_of e.state e.room ≡ moved_all d (table_of c.state c.room)
  pub tally : e.tally ≡ c.tally
  pub files : FilesMoved d c.files e.files

-- what has come of many readings, with this tally, is what a call answers and leaves; the files stay
abbrev pub Came : Caller → Call → Fed → Tally → Type 0
Came c x f t = (answer c x ≡ reached f.state f.accepted f.refusal) × (left c x ≡ record { state = f.state; room = f.room; tally = t; files = c.files })

-- the records that a replay has accepted, last first
unfoldable pub landed_in : Verdict Course → List Landed
landed_in (Err r) = []
landed_in (Ok k) = k.landed

-- ---- the promise

pub record Offset : Type 0 where
  -- the level is half the sum of least and largest, rounded down: twice it is the sum or one less
  pub rounded : (b : Bucket) → (le_z (level b +ℤ level b) (b.least +ℤ b.largest) ≡ true) × (le_z (b.least +ℤ b.largest) ((level b +ℤ level b) +ℤ pos 1) ≡ true)
  -- the error is half the spread, rounded up
  pub half : (b : Bucket) → le_z b.least b.largest ≡ true → error b ≡ (spread b + 1) / 2
  -- a level moves with its bucket, and errors stay
  pub levels : (d : ℤ) (b : Bucket) → level (moved d b) ≡ level b +ℤ d
  pub errors : (d : ℤ) (b : Bucket) → error (moved d b) ≡ error b
  pub worsts : (d : ℤ) (t : Table) → worst (moved_all d t) ≡ worst t
  -- two callers are alike before the first open, with any state and tally, and any files of which the second's are d higher
  pub before : (d : ℤ) (s : State) (t : Tally) (fs gs : List (List ℕ)) → FilesMoved d fs gs → Alike d (idle s t fs) (idle s t gs)
  -- the answers are those of the calls one by one, each of what the one before it left
  pub answers_each : (c : Caller) (x : Call) (xs : List Call) → answers c (x ∷ xs) ≡ answer c x ∷ answers (left c x) xs
  pub after_each : (c : Caller) (x : Call) (xs : List Call) → after c (x ∷ xs) ≡ after (left c x) xs
  -- of two that are alike, each answer that the second gets is the first one's, moved, whatever they call
  pub answers : (d : ℤ) (c e : Caller) → Alike d c e → (xs ys : List Call) → AllHigher d xs ys → answers e ys ≡ map (moved_answer d) (answers c xs)
  -- they stay alike
  pub leaves : (d : ℤ) (c e : Caller) → Alike d c e → (xs ys : List Call) → AllHigher d xs ys → Alike d (after c xs) (after e ys)
  -- and no calls are left out whose readings fit 32 bits, and fit them with d
  pub any : (d : ℤ) (xs : List Call) → AllFit d (readings_in xs) → AllHigher d xs (map (higher d) xs)
  -- the readings are those that are named at the calls, of a replay those of its recording, and no others
  pub next_feeds : (v : ℤ) (xs : List Call) → readings_in (nexts v ∷ xs) ≡ v ∷ readings_in xs
  pub late_feeds : (tick : ℕ) (v : ℤ) (xs : List Call) → readings_in (lates tick v ∷ xs) ≡ v ∷ readings_in xs
  pub next_many_feeds : (vs : List ℤ) (xs : List Call) → readings_in (nexts_many vs ∷ xs) ≡ vs ++ readings_in xs
  pub late_many_feeds : (ts : List ℕ) (vs : List ℤ) (xs : List Call) → readings_in (lates_many ts vs ∷ xs) ≡ vs ++ readings_in xs
  pub replay_feeds : (size : Size) (gaps edition : ℕ) (r : List ℕ) (l : List ℤ) (xs : List Call) → readings_in (replays size gaps edition r l ∷ xs) ≡ readings_of r ++ readings_in xs
  -- a search, whatever it asks: the call itself answers it of what the caller has, which stays; it feeds no reading, and no search is left out
  pub searched : (c : Caller) (first last : ℕ) (bar : ℤ) → answer c (searches first last bar) ≡ pointed (search_outcome c.state c.room first last bar)
  pub search_leaves : (c : Caller) (first last : ℕ) (bar : ℤ) → left c (searches first last bar) ≡ c
  pub search_feeds : (first last : ℕ) (bar : ℤ) (xs : List Call) → readings_in (searches first last bar ∷ xs) ≡ readings_in xs
  pub search_any : (d : ℤ) (first last : ℕ) (bar : ℤ) → Higher d (searches first last bar) (searches first last (bar +ℤ d))
  -- with the bar d more, the second gets the first one's answer
  pub search_same : (d : ℤ) (c e : Caller) → Alike d c e → (first last : ℕ) (bar : ℤ) → search_outcome e.state e.room first last (bar +ℤ d) ≡ search_outcome c.state c.room first last bar
  -- many readings: the call itself answers and leaves what the single calls in turn do, and the tally counts each as by itself, the refused one too
  pub many_nexts : (c : Caller) (vs : List ℤ) → Came c (nexts_many vs) (next_many c.state c.room vs) (tallied next_call c.tally c.state c.room vs)
  pub many_lates : (c : Caller) (ts : List ℕ) (vs : List ℤ) → let rs = timed ts vs in Came c (lates_many ts vs) (late_many c.state c.room rs) (tallied late_call c.tally c.state c.room rs)
  -- with the readings d more, the second gets the first one's answer: the same ones are accepted, and the same one is refused for the same reason
  pub next_many_same : (d : ℤ) (c e : Caller) → Alike d c e → (vs : List ℤ) → AllFit d vs → reach (next_many e.state e.room (moved_readings d vs)) ≡ reach (next_many c.state c.room vs)
  pub late_many_same : (d : ℤ) (c e : Caller) → Alike d c e → (ts : List ℕ) (vs : List ℤ) → AllFit d vs
      → reach (late_many e.state e.room (timed ts (moved_readings d vs))) ≡ reach (late_many c.state c.room (timed ts vs))
  -- a replay: the call itself answers it, with the state and two counts; accepted, its trace and room take the place of those at hand, refused, all stays; tally and files stay either way
  pub replay_answers : (c : Caller) (size : Size) (gaps edition : ℕ) (r : List ℕ) (l m : List ℤ) (k : Course) → replay_outcome size gaps edition r l ≡ (Ok k, m)
      → (answer c (replays size gaps edition r l) ≡ recounted (Ok (k.state, length k.landed, k.refused))) × (left c (replays size gaps edition r l) ≡ record { state = k.state; room = m; tally = c.tally; files = c.files })
  pub replay_refused : (c : Caller) (size : Size) (gaps edition : ℕ) (r : List ℕ) (l m : List ℤ) (x : Refusal) → replay_outcome size gaps edition r l ≡ (Err x, m)
      → (answer c (replays size gaps edition r l) ≡ recounted (Err x)) × (left c (replays size gaps edition r l) ≡ c)
  -- a replay, whatever the caller has: the same records are accepted, at the same ticks
  pub replay_same : (d : ℤ) (size : Size) (gaps edition : ℕ) (r q : List ℕ) (l m : List ℤ) → RecordingMoved d r q → length m ≡ length l
      → landed_in (replay_outcome size gaps edition q m).0 ≡ map (moved_landed d) (landed_in (replay_outcome size gaps edition r l).0)
  -- and a recording of bytes is one of bytes with its readings d more
  pub raised_bytes : (d : ℤ) (r : List ℕ) → AllBytes r → AllBytes (raised d r)
