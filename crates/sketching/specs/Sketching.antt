-- The picture program as one definition: the bytes of the input in, the bytes of the output out. The first line is the caption, what follows are the lines of a trace as the listing has them.
use Rattle.std.specs.Prelude.{ℕ, cond, List, [], ◌∷◌, eqb, ℤ, Ok, Err}
use Rattle.rule.specs.declared.Refusal.{Refusal}
use Rattle.rule.specs.Answers.{number}
use Rattle.rule.specs.Room.{table_of, zeros}
use Rattle.notation.specs.Signs.{line_feed}
use Rattle.notation.specs.Printing.{refused}
use Rattle.listing.specs.Listing.{begun, default_steps, lines, read_all, room_size}
use Rattle.captions.specs.Caption.{caption_good}
use Rattle.drawing.specs.Picture.{picture}
use Rattle.trace.specs.declared.Trace.{Trace}
use Rattle.rule.specs.Calls.{Verdict}

-- ---- the input

-- the caption: what stands before the first line feed, all where there is none
unfoldable pub caption_in : List ℕ → List ℕ
caption_in [] = []
caption_in (b ∷ l) = cond (eqb b line_feed) [] (b ∷ caption_in l)

-- the trace: what stands behind the first line feed, nothing where there is none
unfoldable pub trace_in : List ℕ → List ℕ
trace_in [] = []
trace_in (b ∷ l) = cond (eqb b line_feed) l (trace_in l)

-- ---- the output

-- the refused line, from 1 behind the caption, with the refusal's number; else the picture of the buckets
unfoldable pub drawn : Verdict Trace → ℕ → List ℤ → List ℕ → List ℕ
drawn (Err r) count l c = refused count (number r)
drawn (Ok t) count l c = picture (table_of t.state l) c

-- a caption that is not good is refused as line 0, whatever the lines are
unfoldable pub sketched : Verdict Trace → ℕ → List ℤ → List ℕ → List ℕ
sketched a count l c = cond (caption_good c) (drawn a count l c) (refused 0 (number Refusal.Caption))

unfoldable pub drawn_of : List ℕ → List ℕ
drawn_of input = let x = read_all (begun default_steps (zeros room_size)) (lines (trace_in input)) in sketched x.last x.count x.room (caption_in input)
