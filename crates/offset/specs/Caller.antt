-- A caller who makes any calls in turn, each getting what the last one left: what each answers, and what the caller has then. A picture leaves that as it is: crates/pictures tells of a caller who draws between these calls.
use Rattle.std.specs.Prelude.{ℕ, ◌*◌, List, [], ◌∷◌, ℤ, get_or, length, take, Ok, Err}
use Rattle.std.proofs.Math.Option.{Option}
use Rattle.rule.specs.declared.Bucket.{Bucket}
use Rattle.rule.specs.declared.Found.{Found}
use Rattle.rule.specs.declared.Opening.{Opening}
use Rattle.rule.specs.declared.Refusal.{Refusal}
use Rattle.rule.specs.declared.Size.{Size}
use Rattle.rule.specs.declared.State.{State}
use Rattle.rule.specs.declared.Tally.{Tally}
use Rattle.rule.specs.Calls.{Verdict, counted, late_outcome, loaded, lookup_outcome, next_outcome, onward, opened, row_outcome, save_outcome, worst_outcome}
use Rattle.series.specs.Counts.{tallied}
use Rattle.series.specs.Series.{Fed, late_call, late_many, next_call, next_many, timed}
use Rattle.over.specs.Search.{search_outcome}
use Rattle.logger.specs.Replay.{Course, replay_outcome}
use Rattle.over.specs.Hits.{Searched}

-- what a caller has between calls; a file that is saved is put before the others
pub record Caller : Type 0 where
  pub state : State
  pub room : List ℤ
  pub tally : Tally
  pub files : List (List ℕ)

-- before the first open: a state of any numbers, and no room yet
abbrev pub idle : State → Tally → List (List ℕ) → Caller
idle s t files = record { state = s; room = []; tally = t; files = files }

-- a call, with what is named and lent at it: many readings are a list, those of late beside a list of ticks, a search gets the first and the last tick of a range and a bar, open, load and replay get a room, row and save an output, load the place of a file, and replay a recording
pub data Call : Type 0 where
  opens : Opening → List ℤ → Call
  nexts : ℤ → Call
  lates : ℕ → ℤ → Call
  nexts_many : List ℤ → Call
  lates_many : List ℕ → List ℤ → Call
  lookups : ℕ → Call
  searches : ℕ → ℕ → ℤ → Call
  worsts : Call
  rows : List Bucket → Call
  saves : List ℕ → Call
  loads : Opening → ℕ → List ℤ → Call
  replays : (size : Size) (gaps edition : ℕ) (recording : List ℕ) (room : List ℤ) → Call

-- of open, next, late and load; of many readings, the state to go on with, how many were accepted and the refusal that ended it, if one did; of lookup; of the search; of the worst error; of row, with the buckets that it wrote; of save; of replay, with two counts
pub data Answer : Type 0 where
  traced : Verdict State → Answer
  reached : State → ℕ → Option Refusal → Answer
  shown : Verdict Found → Answer
  pointed : Searched → Answer
  measured : Verdict ℕ → Answer
  drawn : Verdict ℕ → List Bucket → Answer
  filed : Verdict ℕ → Answer
  recounted : Verdict (State × ℕ × ℕ) → Answer

-- what was written, a bucket taking so many places of the output
unfoldable pub part : {A : Type 0} → ℕ → Verdict ℕ → List A → List A
part width (Err r) out = []
part width (Ok n) out = take (width * n) out

-- the file that load is given; a place where there is none stands for the empty file
abbrev pub file_at : Caller → ℕ → List ℕ
file_at c i = get_or c.files i []

-- the state, and how many records were accepted and how many refused
unfoldable pub recount : Verdict Course → Verdict (State × ℕ × ℕ)
recount (Err r) = Err r
recount (Ok k) = Ok (k.state, length k.landed, k.refused)

-- how far many readings came
abbrev pub reach : Fed → Answer
reach f = reached f.state f.accepted f.refusal

unfoldable pub answer : Caller → Call → Answer
answer c (opens g l) = traced (opened g l).0
answer c (nexts v) = traced (next_outcome c.state c.room v).0
answer c (lates tick v) = traced (late_outcome c.state c.room tick v).0
answer c (nexts_many vs) = reach (next_many c.state c.room vs)
answer c (lates_many ts vs) = reach (late_many c.state c.room (timed ts vs))
answer c (lookups tick) = shown (lookup_outcome c.state c.room tick)
answer c (searches first last bar) = pointed (search_outcome c.state c.room first last bar)
answer c worsts = measured (worst_outcome c.state c.room)
answer c (rows out) = let o = row_outcome c.state c.room out in drawn o.0 (part 1 o.0 o.1)
answer c (saves out) = filed (save_outcome c.state c.room out).0
answer c (loads g i l) = traced (loaded g (file_at c i) l).0
answer c (replays size gaps edition recording l) = recounted (recount (replay_outcome size gaps edition recording l).0)

-- after a reading, which the tally counts
abbrev pub fed : Caller → Verdict State × List ℤ → Caller
fed c o =
    record { state = onward c.state o.0; room = o.1; tally = counted c.tally c.state.used o.0; files = c.files }

-- after many readings, with the tally that has counted each as by itself
abbrev pub fed_many : Caller → Fed → Tally → Caller
fed_many c f t = record { state = f.state; room = f.room; tally = t; files = c.files }

-- after an open or a load: the new trace in its room, or after a refusal the trace at hand
unfoldable pub begun : Caller → Verdict State → List ℤ → Caller
begun c (Err r) l = c
begun c (Ok s) l = record { state = s; room = l; tally = c.tally; files = c.files }

-- after a replay: likewise, and the tally does not count its records
unfoldable pub played : Caller → Verdict Course → List ℤ → Caller
played c (Err r) l = c
played c (Ok k) l = record { state = k.state; room = l; tally = c.tally; files = c.files }

-- after a save: what was written is a file
unfoldable pub kept : Caller → Verdict ℕ → List ℕ → Caller
kept c (Err r) out = c
kept c (Ok n) out = record { state = c.state; room = c.room; tally = c.tally; files = part 16 (Ok n) out ∷ c.files }

unfoldable pub left : Caller → Call → Caller
left c (opens g l) = let o = opened g l in begun c o.0 o.1
left c (nexts v) = fed c (next_outcome c.state c.room v)
left c (lates tick v) = fed c (late_outcome c.state c.room tick v)
left c (nexts_many vs) = fed_many c (next_many c.state c.room vs) (tallied next_call c.tally c.state c.room vs)
left c (lates_many ts vs) = fed_many c (late_many c.state c.room (timed ts vs)) (tallied late_call c.tally c.state c.room (timed ts vs))
left c (lookups tick) = c
left c (searches first last bar) = c
left c worsts = c
left c (rows out) = c
left c (saves out) = let o = save_outcome c.state c.room out in kept c o.0 o.1
left c (loads g i l) = let o = loaded g (file_at c i) l in begun c o.0 o.1
left c (replays size gaps edition recording l) = let o = replay_outcome size gaps edition recording l in played c o.0 o.1

-- the answers to calls in turn, the first of the list first
unfoldable pub answers : Caller → List Call → List Answer
answers c [] = []
answers c (x ∷ xs) = answer c x ∷ answers (left c x) xs

-- and what the caller has after them
unfoldable pub after : Caller → List Call → Caller
after c [] = c
after c (x ∷ xs) = after (left c x) xs
