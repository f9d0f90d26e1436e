-- What the program promises of any input, however it is cut.
use Rattle.std.specs.Prelude.{ℕ, ◌≡◌, true, false, Ok, Err}
use mathlib.Core.List.{List, [], ◌∷◌, ◌++◌, Memᴰ}
use Rattle.rule.specs.declared.Refusal.{Refusal}
use Rattle.rule.specs.Room.{table_of, zeros}
use Rattle.trace.specs.declared.Trace.{Trace}
use Rattle.notation.specs.Signs.{line_feed}
use Rattle.notation.specs.Printing.{refused}
use Rattle.listing.specs.Listing.{Standing, begun, default_steps, lines, output, read_all, room_size}
use Rattle.listing.specs.Lists.{at_end, joined}
use Rattle.captions.specs.Caption.{caption_good}
use Rattle.drawing.specs.Picture.{picture}
use Rattle.sketching.specs.Sketching.{drawn_of}
use Rattle.sketching.specs.Heading.{Drawable, nothing, pieces_fed, written_by}

-- what stands after the lines of a trace
abbrev pub after : List ℕ → Standing
after i = read_all (begun default_steps (zeros room_size)) (lines i)

pub record Sketches : Type 0 where
  -- a good caption before the lines i: the picture of the buckets that the listing of i has, or what the listing of i is where it refuses a line
  pub draws : (c i : List ℕ) (t : Trace) → caption_good c ≡ true → (after i).last ≡ Ok t → drawn_of (c ++ (line_feed ∷ i)) ≡ picture (table_of t.state (after i).room) c
  pub refuses_alike : (c i : List ℕ) (r : Refusal) → caption_good c ≡ true → (after i).last ≡ Err r → drawn_of (c ++ (line_feed ∷ i)) ≡ output i
  -- any other caption, whatever follows
  pub no_caption : (c i : List ℕ) → caption_good c ≡ false → (Memᴰ line_feed c → ⊥) → drawn_of (c ++ (line_feed ∷ i)) ≡ refused 0 15
  -- an input without a line feed is a caption with nothing behind it
  pub alone : (c : List ℕ) → (Memᴰ line_feed c → ⊥) → drawn_of c ≡ drawn_of (c ++ (line_feed ∷ []))
  -- what is written is what the definition says of the whole input
  pub written : (pieces : List (List ℕ)) → written_by (pieces_fed nothing pieces) ≡ drawn_of (joined pieces)
  -- and it can be drawn
  pub drawable : (pieces : List (List ℕ)) → let e = at_end (pieces_fed nothing pieces).1 in Drawable e.0.last e.1
