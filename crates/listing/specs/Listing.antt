-- Document 01's listing program as one definition: the bytes of the input in, the bytes of the output out.
use Rattle.std.specs.Prelude.{ℕ, suc, ◌*◌, Bool, true, false, cond, List, [], ◌∷◌, eqb, ℤ, Ok, Err}
use Rattle.rule.specs.declared.Refusal.{Refusal}
use Rattle.rule.specs.declared.Opening.{Opening}
use Rattle.rule.specs.declared.Size.TheVariants.{Steps, Base}
use Rattle.rule.specs.declared.State.{State}
use Rattle.rule.specs.declared.Kind.TheVariants.{InOrder, Late}
use Rattle.rule.specs.Answers.{number}
use Rattle.rule.specs.Calls.{late, late_outcome, next_outcome, opened, Verdict}
use Rattle.rule.specs.Numbers.{most, most_base, slot_width}
use Rattle.rule.specs.Room.{table_of, zeros}
use Rattle.rule.specs.Table.{needed}
use Rattle.trace.specs.Answers.{answered}
use Rattle.notation.specs.Signs.{line_feed}
use Rattle.notation.specs.Printing.{listing, refused}
use Rattle.notation.specs.declared.Line.{Line}
use Rattle.std.specs.Prelude.{Option, Some, None}
use Rattle.notation.specs.Reading.{line_of}
use Rattle.listing.specs.declared.Stage.{Stage}
use Rattle.trace.specs.declared.Trace.{Trace}

-- ---- the lines of an input

-- a byte before the lines that follow it
unfoldable pub begins : ℕ → List (List ℕ) → List (List ℕ)
begins b [] = (b ∷ []) ∷ []
begins b (l ∷ ls) = (b ∷ l) ∷ ls

-- each line ends in a line feed, which the last may lack; nothing after the last line feed is no line
unfoldable pub lines : List ℕ → List (List ℕ)
lines [] = []
lines (b ∷ l) = cond (eqb b line_feed) ([] ∷ lines l) (begins b (lines l))

-- ---- what a line does

-- B where no line names it
abbrev pub default_steps : ℕ
default_steps = 64

-- the edition of published pages
abbrev pub published : ℕ
published = 1

abbrev pub in_order : ℕ → Opening
in_order b = record { kind = InOrder; size = Steps b; gaps = 0; edition = published }

-- with the base limit that the state keeps
abbrev pub late_with : ℕ → ℕ → Opening
late_with c k = record { kind = Late; size = Base c; gaps = k; edition = published }

-- the slots of a room for every C and K, and its numbers
abbrev pub most_slots : ℕ
most_slots = needed (record { kind = Late; base = most_base; gaps = most; edition = published })

abbrev pub room_size : ℕ
room_size = slot_width * most_slots

-- `steps B` may come first
abbrev pub steps_may : Stage → Bool
steps_may Stage.Nothing = true
steps_may Stage.Steps = false
steps_may Stage.Late = false
steps_may Stage.Readings = false

-- `late K` may come first, or behind `steps B`
abbrev pub late_may : Stage → Bool
late_may Stage.Nothing = true
late_may Stage.Steps = true
late_may Stage.Late = false
late_may Stage.Readings = false

abbrev pub stage_after : Option Line → Stage
stage_after (Some (Line.Steps b)) = Stage.Steps
stage_after (Some (Line.Late k)) = Stage.Late
stage_after (Some (Line.Alone v)) = Stage.Readings
stage_after (Some (Line.Pair tick v)) = Stage.Readings
stage_after None = Stage.Readings

-- a line that cannot be read, or not where it stands
abbrev pub unreadable : List ℤ → Verdict Trace × List ℤ
unreadable l = (Err Refusal.Line, l)

-- a header opens the trace anew, a reading goes to it
unfoldable pub obeyed : Stage → State → List ℤ → Option Line → Verdict Trace × List ℤ
obeyed g s l (Some (Line.Steps b)) = cond (steps_may g) (answered (opened (in_order b) l)) (unreadable l)
obeyed g s l (Some (Line.Late k)) = cond (late_may g) (answered (opened (late_with s.settings.base k) l)) (unreadable l)
obeyed g s l (Some (Line.Alone v)) = cond (late s.settings.kind) (unreadable l) (answered (next_outcome s l v))
obeyed g s l (Some (Line.Pair tick v)) = cond (late s.settings.kind) (answered (late_outcome s l tick v)) (unreadable l)
obeyed g s l None = unreadable l

-- ---- what stands after some lines

-- the last answer, the room, which lines came, and how many
pub record Standing : Type 0 where
  pub last : Verdict Trace
  pub room : List ℤ
  pub stage : Stage
  pub count : ℕ

-- before the first line, B being b until a line names it
unfoldable pub begun : ℕ → List ℤ → Standing
begun b l = let o = answered (opened (in_order b) l) in record { last = o.0; room = o.1; stage = Stage.Nothing; count = 0 }

-- one line more; the first refused line ends the run
unfoldable pub read : Standing → Verdict Trace → List ℕ → Standing
read x (Err r) line = x
read x (Ok t) line =
    let o = obeyed x.stage t.state x.room (line_of line) in
    record { last = o.0; room = o.1; stage = stage_after (line_of line); count = suc x.count }

unfoldable pub read_all : Standing → List (List ℕ) → Standing
read_all x [] = x
read_all x (line ∷ ls) = read_all (read x x.last line) ls

-- ---- the output

-- the refused line, from 1, with the refusal's number, and no other output; else the listing of the buckets
unfoldable pub shown : Verdict Trace → ℕ → List ℤ → List ℕ
shown (Err r) count l = refused count (number r)
shown (Ok t) count l = listing (table_of t.state l)

unfoldable pub output : List ℕ → List ℕ
output input = let x = read_all (begun default_steps (zeros room_size)) (lines input) in shown x.last x.count x.room
