-- The demands of ndz_replay: what it answers and leaves, and what is promised of the trace that it leaves.
use Rattle.std.specs.Prelude.{ℕ, suc, ◌+◌, ◌*◌, ◌%◌, ◌≡◌, ◌≢◌, List, [], ◌++◌, ℤ, length, Ok, Err}
use Rattle.rule.specs.declared.Kind.TheVariants.{Late}
use Rattle.rule.specs.Calls.{Verdict}
use Rattle.demands.specs.History.{Reading}
use Rattle.logger.specs.Replay.{Course, begun, frames_of, replay_outcome}
use Rattle.logger.specs.True.{Event, Near, fed_true, first_of, sent}
use Rattle.fields.specs.declared.Named.{Named}
use Rattle.fields.specs.States.{fields_of, none, opening_of, size_of, state_from}
use Rattle.plain.specs.declared.Recount.{Recount}
use Rattle.plain.specs.Plain.{open_reply, replay_reply}
use Rattle.answered.specs.Answered.{Row, open_rows, recording_rows}
use Rattle.promises.specs.Reached.{readings_of}
use Rattle.exported.specs.Exported.{Called, first_due}

-- refused, the state handed back and both counts are zeros, and the room is as it was
pub record Recounts (rows : List Row) (before after : List ℤ) (r : Recount) : Type 0 where
  pub exactly : (r.refusal, r.place) ≡ first_due rows
  pub untouched : r.refusal ≢ 0 → (r.state ≡ none) × (r.accepted ≡ 0) × (r.refused ≡ 0) × (after ≡ before)

-- the settings that are named, of a late trace
abbrev pub late_named : Named → Named
late_named named = record { kind = 1; size = named.size; gaps = named.gaps; by = named.by; edition = named.edition }

-- the accepted records, last first
unfoldable pub readings_in : Verdict Course → List Reading
readings_in (Err r) = []
readings_in (Ok c) = readings_of c.landed

abbrev pub replay_readings : Named → List ℕ → List ℤ → List Reading
replay_readings named recording l = readings_in (replay_outcome (opening_of named).size named.gaps named.edition recording l).0

pub record ExportedReplay : Type 0 where
  -- demand 1, whatever kind is named
  pub replays : (named : Named) (recording : List ℕ) (l : List ℤ) → let o = replay_reply named recording l in Recounts (open_rows (record { kind = Late; size = size_of named.by named.size; gaps = named.gaps; edition = named.edition }) l ++ recording_rows recording) l o.1 o.0
  pub any_kind : (named : Named) (recording : List ℕ) (l : List ℤ) → replay_reply named recording l ≡ replay_reply (late_named named) recording l
  -- B is C = 2B
  pub same_replay : (kind b gaps edition n : ℕ) (recording : List ℕ) (l : List ℤ)
      → replay_reply (record { kind = kind; size = b; gaps = gaps; by = 0; edition = edition }) recording l ≡ replay_reply (record { kind = kind; size = 2 * b; gaps = gaps; by = suc n; edition = edition }) recording l
  -- every record is accepted or refused: six bytes for each
  pub counted : (named : Named) (recording : List ℕ) (l : List ℤ) → let r = (replay_reply named recording l).0 in r.refusal ≡ 0 → 6 * (r.accepted + r.refused) ≡ length recording
  -- demands 2 and 3: what it leaves is among what calls from ndz_open of a late trace on leave, with its accepted records as the readings, so that all of `Promised` is said of it; and there are as many as it says
  pub called : (named : Named) (recording : List ℕ) (l : List ℤ) → let o = replay_reply named recording l in o.0.refusal ≡ 0
      → Called (late_named named) (replay_readings named recording l) o.0.state o.1
  pub as_many : (named : Named) (recording : List ℕ) (l : List ℤ) → let r = (replay_reply named recording l).0 in length (replay_readings named recording l) ≡ r.accepted
  -- where each true tick differs from the newest accepted by -32,768 to 32,767, it answers and leaves what the feeding of the true ticks does, shifted so that the first is 32,768
  pub as_true : (named : Named) (recording : List ℕ) (l : List ℤ) (k : ℤ) (es : List Event) → length recording % 6 ≡ 0 → frames_of recording ≡ sent k es
      → let o = open_reply (late_named named) l in o.0.refusal ≡ 0 → let start = begun (state_from o.0.state) o.1 in Near k (first_of es) start es
      → let c = fed_true k (first_of es) start es in
      replay_reply named recording l ≡ (record { refusal = 0; place = 0; state = fields_of c.state; accepted = length c.landed; refused = c.refused }, c.room)
