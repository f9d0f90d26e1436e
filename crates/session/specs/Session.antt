-- A session of document 01: one trace from its opening and one tally, through readings, each call getting what the last one left.
use Rattle.std.specs.Prelude.{ℕ, ◌+◌, ◌-◌, ◌≤◌, min, ◌≡◌, true, List, [], ◌∷◌, ℤ, length, Ok, Err}
use Rattle.rule.specs.declared.Opening.{Opening}
use Rattle.rule.specs.declared.State.{State}
use Rattle.rule.specs.declared.Tally.{Tally}
use Rattle.rule.specs.Calls.{Verdict, counted, late_outcome, next_outcome, onward, opened}
use Rattle.rule.specs.Numbers.{tally_most}
use Rattle.rule.specs.Room.{signed}
use Rattle.trace.specs.Answers.{answered, verdict}
use Rattle.trace.specs.declared.Trace.{Trace}

-- a reading call, of any signed 32-bit number: the next of a trace in order, or one at its tick
pub data Call : Type 0 where
  next : (v : ℤ) → signed v ≡ true → Call
  late : (tick : ℕ) (v : ℤ) → signed v ≡ true → Call

-- what a caller has between calls
pub record Session : Type 0 where
  pub state : State
  pub room : List ℤ
  pub tally : Tally

-- with a fresh tally
abbrev pub begun : State → List ℤ → Session
begun s l = record { state = s; room = l; tally = record { accepted = 0; refused = 0; merges = 0 } }

unfoldable pub outcome : Session → Call → Verdict State × List ℤ
outcome c (next v ranged) = next_outcome c.state c.room v
outcome c (late tick v ranged) = late_outcome c.state c.room tick v

-- what a reading of such an outcome leaves
abbrev pub left : Session → Verdict State × List ℤ → Session
left c o = record { state = onward c.state o.0; room = o.1; tally = counted c.tally c.state.used o.0 }

-- after readings, the first of the list first
unfoldable pub after : Session → List Call → Session
after c [] = c
after c (r ∷ rs) = after (left c (outcome c r)) rs

-- such a session is what a caller has: the answer, the room and the tally that the contracts of `next` and `late` ensure make what `left` says
abbrev pub CallsLeave : Type 0
CallsLeave = (c : Session) (x : Call) (r : Verdict Trace) (l : List ℤ) (t : Tally) → (r, l) ≡ answered (outcome c x) → t ≡ counted c.tally c.state.used (verdict r)
    → record { state = onward c.state (verdict r); room = l; tally = t } ≡ left c (outcome c x)

-- ---- the readings of a session, counted by their verdicts

unfoldable pub accepted_one : Verdict State → ℕ
accepted_one (Err r) = 0
accepted_one (Ok t) = 1

unfoldable pub refused_one : Verdict State → ℕ
refused_one (Err r) = 1
refused_one (Ok t) = 0

-- so many of the readings are accepted, each call getting what the last one left
unfoldable pub accepted_among : Session → List Call → ℕ
accepted_among c [] = 0
accepted_among c (r ∷ rs) = accepted_one (outcome c r).0 + accepted_among (left c (outcome c r)) rs

-- and so many are refused
unfoldable pub refused_among : Session → List Call → ℕ
refused_among c [] = 0
refused_among c (r ∷ rs) = refused_one (outcome c r).0 + refused_among (left c (outcome c r)) rs

-- ---- what the tally says after them

-- of any state and room, and any tally, whose counts have 32 bits: how they grow, and that they stop at the most
pub record GrownTally (c : Session) (rs : List Call) : Type 0 where
  -- no reading is left uncounted
  pub each : accepted_among c rs + refused_among c rs ≡ length rs
  pub accepted_grown : c.tally.accepted ≤ tally_most → (after c rs).tally.accepted ≡ min (c.tally.accepted + accepted_among c rs) tally_most
  pub refused_grown : c.tally.refused ≤ tally_most → (after c rs).tally.refused ≡ min (c.tally.refused + refused_among c rs) tally_most
  -- an accepted reading brings a bucket and a merge takes one away, so merges grow by the buckets that are gone
  pub buckets : (after c rs).state.used ≤ c.state.used + accepted_among c rs
  pub merges_grown : c.tally.merges ≤ tally_most → (after c rs).tally.merges ≡ min (c.tally.merges + (c.state.used + accepted_among c rs - (after c rs).state.used)) tally_most

-- of a tally that was fresh at the opening c: accepted does not stop, because a trace has fewer ticks
pub record TrueTally (c : Session) (rs : List Call) : Type 0 where
  pub accepted_true : (after c rs).tally.accepted ≡ accepted_among c rs
  pub refused_true : (after c rs).tally.refused ≡ min (refused_among c rs) tally_most
  -- merges equals accepted minus buckets
  pub merges_true : (after c rs).tally.merges + (after c rs).state.used ≡ (after c rs).tally.accepted

pub record AlwaysTallied : Type 0 where
  pub any : (c : Session) (rs : List Call) → GrownTally c rs
  -- a fresh tally used with one trace from its opening, each call getting what the last one left, without a load
  pub fresh : (o : Opening) (l : List ℤ) (st : State) (l' : List ℤ) → opened o l ≡ (Ok st, l') → (rs : List Call) → TrueTally (begun st l') rs
