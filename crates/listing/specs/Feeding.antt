-- The same byte by byte, as an input arrives: the reader, the room, and the bytes of the line begun.
use Rattle.std.specs.Prelude.{ℕ, ◌+◌, ◌*◌, ◌%◌, ◌^◌, ◌≤◌, ◌≡◌, Bool, true, false, cond, List, [], ◌∷◌, eqb, leb, ltb, ℤ, length, set, take, Ok, Err}
use Rattle.rule.specs.declared.Refusal.{Refusal}
use Rattle.rule.specs.declared.State.{State}
use Rattle.rule.specs.Calls.{opened, Verdict}
use Rattle.rule.specs.Room.{sound}
use Rattle.trace.specs.Answers.{answered}
use Rattle.notation.specs.Printing.{line_room}
use Rattle.notation.specs.Signs.{line_feed}
use Rattle.notation.specs.Reading.{line_of}
use Rattle.listing.specs.declared.Feeding.{Feeding}
use Rattle.listing.specs.declared.Stage.{Stage}
use Rattle.listing.specs.Listing.{default_steps, in_order, most_slots, obeyed, stage_after}
use Rattle.trace.specs.declared.Trace.{Trace}

-- nothing read yet
abbrev pub fresh : List ℤ → Feeding × List ℤ
fresh l =
    let o = answered (opened (in_order default_steps) l) in
    (record { last = o.0; stage = Stage.Nothing; lines = 0; filled = 0 }, o.1)

-- a line was answered so; the lines are counted in a machine word
abbrev pub answered_by : Feeding → Stage → Verdict Trace → Feeding
answered_by f g a = record { last = a; stage = g; lines = (f.lines + 1) % 2 ^ 64; filled = 0 }

unfoldable pub line_fed : Feeding → State → List ℤ → List ℕ → Feeding × List ℤ
line_fed f s l line =
    let o = obeyed f.stage s l (line_of line) in
    (answered_by f (stage_after (line_of line)) o.0, o.1)

-- a line with a byte more than it may have is refused at that byte
abbrev pub too_long : Feeding → Feeding
too_long f = answered_by f Stage.Readings (Err Refusal.Line)

-- the line begun is whole
unfoldable pub line_ended : Feeding → State → List ℤ → List ℕ → Feeding × List ℤ
line_ended f s l line = cond (leb f.filled (length line)) (line_fed f s l (take f.filled line)) (too_long f, l)

abbrev pub lengthened : Feeding → Feeding
lengthened f = record { last = f.last; stage = f.stage; lines = f.lines; filled = f.filled + 1 }

-- the reader, the room and the bytes of the line begun
abbrev pub Reader : Type 0
Reader = Feeding × (List ℤ × List ℕ)

-- a line feed ends the line begun, any other byte lengthens it; behind a refused line nothing is read
unfoldable pub byte_fed : Verdict Trace → Feeding → List ℤ → List ℕ → ℕ → Reader
byte_fed (Err r) f l line b = (f, (l, line))
byte_fed (Ok t) f l line b =
    let o = line_ended f t.state l line in
    cond (eqb b line_feed) (o.0, (o.1, line))
    (cond (ltb f.filled (length line)) (lengthened f, (l, set line f.filled b)) (too_long f, (l, line)))

-- a piece of the input
unfoldable pub fed : Reader → List ℕ → Reader
fed x [] = x
fed x (b ∷ bs) = fed (byte_fed x.0.last x.0 x.1.0 x.1.1 b) bs

-- the input's end: what stands behind the last line feed is a line, unless it is nothing
unfoldable pub rest_fed : Verdict Trace → Feeding → List ℤ → List ℕ → Feeding × List ℤ
rest_fed (Err r) f l line = (f, l)
rest_fed (Ok t) f l line = cond (eqb f.filled 0) (f, l) (line_ended f t.state l line)

-- a refused line ends the run
abbrev pub has_ended : Verdict Trace → Bool
has_ended (Err r) = true
has_ended (Ok t) = false

-- ---- what is shown

-- the trace is sound, and the output has room for a line for each bucket and the total
pub record Listable (s : State) (l : List ℤ) (out : List ℕ) : Type 0 where
  pub whole : sound s l ≡ true
  pub room : line_room * (s.used + 1) ≤ length out

-- the bytes of an output that every listing fits
abbrev pub output_room : ℕ
output_room = line_room * most_slots

-- what was read can be shown there
unfoldable pub Showable : Verdict Trace → List ℤ → List ℕ → Type 0
Showable (Err r) l out = line_room ≤ length out
Showable (Ok t) l out = Listable t.state l out
