-- What the program promises of any input, however it is cut.
use Rattle.std.specs.Prelude.{ℕ, ◌≡◌, true, List, [], ◌∷◌, ◌++◌, ℤ, length, replicate, Ok}
use Rattle.rule.specs.declared.Kind.TheVariants.{InOrder, Late}
use Rattle.rule.specs.declared.Size.TheVariants.{Steps}
use Rattle.rule.specs.declared.State.{State}
use Rattle.rule.specs.Calls.{opened}
use Rattle.rule.specs.Room.{zeros}
use Rattle.trace.specs.Answers.{answered}
use Rattle.notation.specs.declared.Line.{Line}
use Rattle.std.specs.Prelude.{Option, Some, None}
use Rattle.notation.specs.Reading.{line_most}
use Rattle.listing.specs.declared.Feeding.{Feeding}
use Rattle.listing.specs.declared.Stage.{Stage}
use Rattle.listing.specs.Listing.{begun, late_may, lines, obeyed, output, read_all, room_size, shown}
use Rattle.listing.specs.Feeding.{Reader, Showable, fed, fresh, output_room, rest_fed}

-- before the first byte, as the program lends room and line
unfoldable pub start : Reader
start = let o = fresh (zeros room_size) in (o.0, (o.1, replicate line_most 0))

-- one piece read behind the other
unfoldable pub fed_all : Reader → List (List ℕ) → Reader
fed_all x [] = x
fed_all x (p ∷ ps) = fed_all (fed x p) ps

-- the input that the pieces are of
unfoldable pub joined : List (List ℕ) → List ℕ
joined [] = []
joined (p ∷ ps) = p ++ joined ps

-- the reader and the room at the input's end
abbrev pub at_end : Reader → Feeding × List ℤ
at_end x = rest_fed x.0.last x.0 x.1.0 x.1.1

abbrev pub written : Reader → List ℕ
written x = let e = at_end x in shown e.0.last e.0.lines e.1

pub record Lists : Type 0 where
  -- where no line names it B is 64: a trace in order with that B is open before the first line
  pub default : (i : List ℕ) → let x = read_all (begun 64 (zeros room_size)) (lines i) in output i ≡ shown x.last x.count x.room
  pub opens_first : (b : ℕ) (l : List ℤ) → let o = answered (opened (record { kind = InOrder; size = Steps b; gaps = 0; edition = 1 }) l) in begun b l ≡ record { last = o.0; room = o.1; stage = Stage.Nothing; count = 0 }
  -- `steps B` opens with that B; and `late K` behind it, or first, where it is 64, opens late with the same B
  pub by_steps : (s : State) (l : List ℤ) (b : ℕ) → obeyed Stage.Nothing s l (Some (Line.Steps b)) ≡ answered (opened (record { kind = InOrder; size = Steps b; gaps = 0; edition = 1 }) l)
  pub late_by_steps : (g : Stage) (b k : ℕ) (l m : List ℤ) (s : State) → opened (record { kind = InOrder; size = Steps b; gaps = 0; edition = 1 }) l ≡ (Ok s, m) → late_may g ≡ true
      → obeyed g s m (Some (Line.Late k)) ≡ answered (opened (record { kind = Late; size = Steps b; gaps = k; edition = 1 }) m)
  -- a line has at most 64 bytes
  pub longest : line_most ≡ 64
  -- what is shown is the listing of the input
  pub listed : (pieces : List (List ℕ)) → written (fed_all start pieces) ≡ output (joined pieces)
  -- and it fits the output that the program lends
  pub showable : (pieces : List (List ℕ)) (out : List ℕ) → length out ≡ output_room → let e = at_end (fed_all start pieces) in Showable e.0.last e.1 out
