-- `printing::put_total` meets its contract: what is left of the line fits where the whole does.
use Prim.Native.Nat.{ℕ, ◌≤◌}
use mathlib.Core.List.{List, [], ◌∷◌, ◌++◌}
use native.Mathlib.Omega.{arith}
use lib.ListN.{length}
use Rattle.notation.specs.Signs.{ascii}
use Rattle.notation.specs.Printing.{decimal, line_room, total}
use Rattle.notation.proofs.Texts.{total_short}
use Rattle.output.specs.Output.{filled}
use Rattle.output.proofs.Left.{Left, left_all, left_none, left_room, left_then}
use Rattle.printing.proofs.Lines.{filled_end, inside_line, total_pieces}
use Rattle.printing.proofs.put_total.Goals.{After-put_count-second, After-put_count-third, Start}
use Rattle.printing.proofs.put_total.Goals as goal

-- the line
abbrev text : (c : Start) → List ℕ
text c = total c.args.readings c.args.buckets c.args.worst

-- the line
abbrev text_after_put_count_third : (c : After-put_count-third) → List ℕ
text_after_put_count_third c = total c.args.readings c.args.buckets c.args.worst

-- the line
abbrev text_after_put_count_second : (c : After-put_count-second) → List ℕ
text_after_put_count_second c = total c.args.readings c.args.buckets c.args.worst

short : (c : Start) → length (text c) ≤ line_room
short c = total_short c.args.readings c.args.buckets c.args.worst (omega (arith, c.ranges.readings)) (omega (arith, c.ranges.buckets)) (omega (arith, c.ranges.worst))

-- what is left of it at the start, behind the readings and behind the buckets
all : (c : Start) → Left c.args.out.now c.args.at (text c) c.args.at c.args.out.now ((filled (ascii "total ") [] ++ decimal c.args.readings) ∷ (filled (ascii " ") [] ++ decimal c.args.buckets) ∷ filled_end c.args.worst ∷ [])
all c = left_all c.args.out.now c.args.at (text c) _ (total_pieces c.args.readings c.args.buckets c.args.worst (omega (arith, c.ranges.worst)))

-- what is left of it at the start, behind the readings and behind the buckets
all_after_put_count_third : (c : After-put_count-third) → Left c.args.out.now c.args.at (text_after_put_count_third c) c.args.at c.args.out.now ((filled (ascii "total ") [] ++ decimal c.args.readings) ∷ (filled (ascii " ") [] ++ decimal c.args.buckets) ∷ filled_end c.args.worst ∷ [])
all_after_put_count_third c = left_all c.args.out.now c.args.at (text_after_put_count_third c) _ (total_pieces c.args.readings c.args.buckets c.args.worst (omega (arith, c.ranges.worst)))

-- what is left of it at the start, behind the readings and behind the buckets
all_after_put_count_second : (c : After-put_count-second) → Left c.args.out.now c.args.at (text_after_put_count_second c) c.args.at c.args.out.now ((filled (ascii "total ") [] ++ decimal c.args.readings) ∷ (filled (ascii " ") [] ++ decimal c.args.buckets) ∷ filled_end c.args.worst ∷ [])
all_after_put_count_second c = left_all c.args.out.now c.args.at (text_after_put_count_second c) _ (total_pieces c.args.readings c.args.buckets c.args.worst (omega (arith, c.ranges.worst)))

after_readings : (c : After-put_count-second) → Left c.args.out.now c.args.at (text_after_put_count_second c) c.put_count-second.result c.put_count-second.new.out ((filled (ascii " ") [] ++ decimal c.args.buckets) ∷ filled_end c.args.worst ∷ [])
after_readings c = left_then (all_after_put_count_second c) c.put_count-second.ensures

after_readings_after_put_count_third : (c : After-put_count-third) → Left c.args.out.now c.args.at (text_after_put_count_third c) c.put_count-second.result c.put_count-second.new.out ((filled (ascii " ") [] ++ decimal c.args.buckets) ∷ filled_end c.args.worst ∷ [])
after_readings_after_put_count_third c = left_then (all_after_put_count_third c) c.put_count-second.ensures

after_buckets : (c : After-put_count-third) → Left c.args.out.now c.args.at (text_after_put_count_third c) c.put_count-third.result c.put_count-third.new.out (filled_end c.args.worst ∷ [])
after_buckets c = left_then (after_readings_after_put_count_third c) c.put_count-third.ensures

pub put_count-second-requires : goal.put_count-second-requires
put_count-second-requires c = left_room (all (goal.at.put_count-second-requires c).Start) (omega (arith, short (goal.at.put_count-second-requires c).Start))

pub put_count-third-requires : goal.put_count-third-requires
put_count-third-requires c = left_room (after_readings (goal.at.put_count-third-requires c).After-put_count-second) (omega (arith, short (goal.at.put_count-third-requires c).Start))

pub put_text-requires : goal.put_text-requires
put_text-requires c = left_room (after_buckets (goal.at.put_text-requires c).After-put_count-third) (omega (arith, short (goal.at.put_text-requires c).Start))

pub returns : goal.returns
returns c =
    inside_line (short (goal.at.returns c).Start) c.requires (left_none (left_then (after_buckets (goal.at.returns c).After-put_count-third) c.put_text.ensures))
