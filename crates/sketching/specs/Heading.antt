-- The same piece by piece, as an input arrives: the caption's bytes go to a lent place, those behind its line feed to the reader of the listing.
use Rattle.std.specs.Prelude.{ℕ, ◌+◌, ◌≡◌, true, false, cond, List, [], ◌∷◌, eqb, ltb, ℤ, drop, length, replicate, set, take, Ok, Err}
use Rattle.rule.specs.Room.{sound}
use Rattle.notation.specs.Signs.{line_feed}
use Rattle.listing.specs.Feeding.{Reader, fed}
use Rattle.listing.specs.Lists.{at_end, start}
use Rattle.sketching.specs.declared.Heading.{Heading}
use Rattle.sketching.specs.Sketching.{sketched}
use Rattle.trace.specs.declared.Trace.{Trace}
use Rattle.rule.specs.Calls.{Verdict}

-- places for one byte more than a good caption has: where all are filled, the caption is too long
abbrev pub caption_room : ℕ
caption_room = 201

-- a byte of the caption is kept where there is a place for it
unfoldable pub kept : ℕ → List ℕ → ℕ → ℕ × List ℕ
kept k c b = cond (ltb k (length c)) (k + 1, set c k b) (k, c)

-- k bytes of the caption are kept in c, and n of the piece were taken
unfoldable pub headed_from : ℕ → ℕ → List ℕ → List ℕ → Heading × List ℕ
headed_from k n c [] = (record { filled = k; taken = n; ended = false }, c)
headed_from k n c (b ∷ bs) =
    let x = kept k c b in
    cond (eqb b line_feed) (record { filled = k; taken = n + 1; ended = true }, c) (headed_from x.0 (n + 1) x.1 bs)

-- of a piece the bytes up to the caption's line feed, and it; none where that came before
unfoldable pub headed : Heading → List ℕ → List ℕ → Heading × List ℕ
headed h c piece = cond h.ended (record { filled = h.filled; taken = 0; ended = true }, c) (headed_from h.filled 0 c piece)

-- the reader of the caption with its place, and the reader of the lines
abbrev pub Sketcher : Type 0
Sketcher = (Heading × List ℕ) × Reader

-- a piece of the input
unfoldable pub piece_fed : Sketcher → List ℕ → Sketcher
piece_fed x piece = let h = headed x.0.0 x.0.1 piece in (h, fed x.1 (drop h.0.taken piece))

-- one piece behind the other
unfoldable pub pieces_fed : Sketcher → List (List ℕ) → Sketcher
pieces_fed x [] = x
pieces_fed x (p ∷ ps) = pieces_fed (piece_fed x p) ps

-- before the first byte, as the program lends the places
abbrev pub unheaded : Heading
unheaded = record { filled = 0; taken = 0; ended = false }

unfoldable pub nothing : Sketcher
nothing = ((unheaded, replicate caption_room 0), start)

-- what is written at the input's end
abbrev pub written_by : Sketcher → List ℕ
written_by x = let e = at_end x.1 in sketched e.0.last e.0.lines e.1 (take x.0.0.filled x.0.1)

-- what was read can be drawn: the trace is sound, unless a line was refused
unfoldable pub Drawable : Verdict Trace → List ℤ → Type 0
Drawable (Err r) l = Unit {0}
Drawable (Ok t) l = sound t.state l ≡ true
