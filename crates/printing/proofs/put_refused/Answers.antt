-- `printing::put_refused` meets its contract: what is left of the line fits where the whole does.
use Prim.Native.Nat.{ℕ, ◌≤◌}
use mathlib.Core.List.{List, [], ◌∷◌, ◌++◌}
use native.Mathlib.Omega.{arith}
use lib.ListN.{length}
use Rattle.notation.specs.Signs.{ascii}
use Rattle.notation.specs.Printing.{decimal, line_room, refused}
use Rattle.notation.proofs.Texts.{refused_short}
use Rattle.output.specs.Output.{filled}
use Rattle.output.proofs.Left.{Left, left_all, left_none, left_room, left_then}
use Rattle.printing.proofs.Lines.{filled_end, inside_line, refused_pieces}
use Rattle.printing.proofs.put_refused.Goals.{After-put_count-second, Start}
use Rattle.printing.proofs.put_refused.Goals as goal

-- the line
abbrev text : (c : Start) → List ℕ
text c = refused c.args.line c.args.number

-- the line
abbrev text_after_put_count_second : (c : After-put_count-second) → List ℕ
text_after_put_count_second c = refused c.args.line c.args.number

short : (c : Start) → length (text c) ≤ line_room
short c = refused_short c.args.line c.args.number (omega (arith, c.ranges.line)) (omega (arith, c.ranges.number))

-- what is left of it at the start, and behind the line's number
all : (c : Start) → Left c.args.out.now c.args.at (text c) c.args.at c.args.out.now ((filled (ascii "refused ") [] ++ decimal c.args.line) ∷ filled_end c.args.number ∷ [])
all c = left_all c.args.out.now c.args.at (text c) _ (refused_pieces c.args.line c.args.number (omega (arith, c.ranges.number)))

-- what is left of it at the start, and behind the line's number
all_after_put_count_second : (c : After-put_count-second) → Left c.args.out.now c.args.at (text_after_put_count_second c) c.args.at c.args.out.now ((filled (ascii "refused ") [] ++ decimal c.args.line) ∷ filled_end c.args.number ∷ [])
all_after_put_count_second c = left_all c.args.out.now c.args.at (text_after_put_count_second c) _ (refused_pieces c.args.line c.args.number (omega (arith, c.ranges.number)))

after_line : (c : After-put_count-second) → Left c.args.out.now c.args.at (text_after_put_count_second c) c.put_count-second.result c.put_count-second.new.out (filled_end c.args.number ∷ [])
after_line c = left_then (all_after_put_count_second c) c.put_count-second.ensures

pub put_count-second-requires : goal.put_count-second-requires
put_count-second-requires c = left_room (all (goal.at.put_count-second-requires c).Start) (omega (arith, short (goal.at.put_count-second-requires c).Start))

pub put_text-requires : goal.put_text-requires
put_text-requires c = left_room (after_line (goal.at.put_text-requires c).After-put_count-second) (omega (arith, short (goal.at.put_text-requires c).Start))

pub returns : goal.returns
returns c =
    inside_line (short (goal.at.returns c).Start) c.requires (left_none (left_then (after_line (goal.at.returns c).After-put_count-second) c.put_text.ensures))
