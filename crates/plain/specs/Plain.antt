-- Each answer as a plain record: refusal 0 where the call was accepted, else document 01's number and place.
use Rattle.std.specs.Prelude.{ℕ, List, ℤ, pos, Ok, Err, None, Some}
use Rattle.rule.specs.declared.Bucket.{Bucket}
use Rattle.rule.specs.declared.Found.{Found}
use Rattle.rule.specs.declared.Tally.{Tally}
use Rattle.rule.specs.Answers.{number, place}
use Rattle.rule.specs.Calls.{counted, late_outcome, loaded, lookup_outcome, next_outcome, opened, row_outcome, save_outcome, worst_outcome, Verdict}
use Rattle.over.specs.Search.{search_outcome}
use Rattle.trace.specs.Answers.{answered}
use Rattle.logger.specs.Replay.{replay_outcome}
use Rattle.replay.specs.Answers as replay
use Rattle.fields.specs.declared.Named.{Named}
use Rattle.fields.specs.declared.Fields.{Fields}
use Rattle.fields.specs.States.{fields_of, none, opening_of, state_from}
use Rattle.plain.specs.declared.Reply.{Reply}
use Rattle.plain.specs.declared.Recount.{Recount}
use Rattle.plain.specs.declared.Shown.{Shown}
use Rattle.plain.specs.declared.Hit.{Hit}
use Rattle.plain.specs.declared.Counted.{Counted}
use Rattle.plain.specs.declared.WorstError.{WorstError}
use Rattle.trace.specs.declared.Trace.{Trace}
use Rattle.course.specs.declared.Fed.{Fed}
use Rattle.over.specs.Hits.{Searched}

-- accepted: the next state; refused: the state that was given
unfoldable pub replying : Fields → Verdict Trace → Reply
replying given (Ok t) = record { refusal = 0; place = 0; state = fields_of t.state }
replying given (Err r) = record { refusal = number r; place = place r; state = given }

-- with the room afterwards
abbrev pub replied : Fields → Verdict Trace × List ℤ → Reply × List ℤ
replied given a = (replying given a.0, a.1)

-- accepted: the trace, and how many records were accepted and refused; refused: zeros
unfoldable pub recounting : Verdict Fed → Recount
recounting (Ok f) = record { refusal = 0; place = 0; state = fields_of f.trace.state; accepted = f.accepted; refused = f.refused }
recounting (Err r) = record { refusal = number r; place = place r; state = none; accepted = 0; refused = 0 }

-- refused: zeros
unfoldable pub showing : Verdict Found → Shown
showing (Ok f) = record { refusal = 0; place = 0; level = f.level; error = f.error; least = f.least; largest = f.largest }
showing (Err r) = record { refusal = number r; place = place r; level = pos 0; error = 0; least = pos 0; largest = pos 0 }

-- found is 1 where there is one, and 0 where there is none; zeros then, and refused too
unfoldable pub pointing : Searched → Hit
pointing (Ok (Some h)) = record { refusal = 0; place = 0; found = 1; index = h.index; start = h.start }
pointing (Ok None) = record { refusal = 0; place = 0; found = 0; index = 0; start = 0 }
pointing (Err r) = record { refusal = number r; place = place r; found = 0; index = 0; start = 0 }

-- refused: no bucket
unfoldable pub telling : Verdict ℕ → Counted
telling (Ok n) = record { refusal = 0; place = 0; buckets = n }
telling (Err r) = record { refusal = number r; place = place r; buckets = 0 }

-- with the output afterwards
abbrev pub told : {A : Type 0} → Verdict ℕ × List A → Counted × List A
told w = (telling w.0, w.1)

-- refused: no error
unfoldable pub erring : Verdict ℕ → WorstError
erring (Ok e) = record { refusal = 0; place = 0; error = e }
erring (Err r) = record { refusal = number r; place = place r; error = 0 }

-- ---- what each exported function answers, with the room or the output as it leaves it

abbrev pub open_reply : Named → List ℤ → Reply × List ℤ
open_reply named room = replied none (answered (opened (opening_of named) room))

abbrev pub next_reply : Fields → List ℤ → ℤ → Reply × List ℤ
next_reply state room value = replied state (answered (next_outcome (state_from state) room value))

abbrev pub late_reply : Fields → List ℤ → ℕ → ℤ → Reply × List ℤ
late_reply state room tick value = replied state (answered (late_outcome (state_from state) room tick value))

-- and the tally after a counted reading: of the tally before, the slots in use before and the reading's verdict
abbrev pub next_tally : Fields → List ℤ → ℤ → Tally → Tally
next_tally state room value before = counted before state.used (next_outcome (state_from state) room value).0

abbrev pub late_tally : Fields → List ℤ → ℕ → ℤ → Tally → Tally
late_tally state room tick value before = counted before state.used (late_outcome (state_from state) room tick value).0

abbrev pub lookup_reply : Fields → List ℤ → ℕ → Shown
lookup_reply state room tick = showing (lookup_outcome (state_from state) room tick)

abbrev pub search_reply : Fields → List ℤ → ℕ → ℕ → ℤ → Hit
search_reply state room first last bar = pointing (search_outcome (state_from state) room first last bar)

abbrev pub worst_reply : Fields → List ℤ → WorstError
worst_reply state room = erring (worst_outcome (state_from state) room)

abbrev pub row_reply : Fields → List ℤ → List Bucket → Counted × List Bucket
row_reply state room out = told (row_outcome (state_from state) room out)

abbrev pub save_reply : Fields → List ℤ → List ℕ → Counted × List ℕ
save_reply state room out = told (save_outcome (state_from state) room out)

abbrev pub load_reply : Named → List ℕ → List ℤ → Reply × List ℤ
load_reply named file room = replied none (answered (loaded (opening_of named) file room))

-- the kind is not looked at: a replayed trace is late
abbrev pub replay_reply : Named → List ℕ → List ℤ → Recount × List ℤ
replay_reply named recording room = let o = replay.answered (replay_outcome (opening_of named).size named.gaps named.edition recording room) in (recounting o.0, o.1)
