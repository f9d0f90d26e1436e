-- The pictures worked by hand: both sides compute to the same.
use mathlib.Core.Path.{refl}
use Rattle.rule.specs.Bucket.{distance, larger, lesser, middle}
use Rattle.rule.specs.Table.{last_end}
use Rattle.notation.specs.Printing.{decimal, decimal_in, whole}
use Rattle.output.specs.Output.{filled, sign, unused}
use Rattle.captions.specs.Caption.{escaped, leaving, standing, starts_with, unescaped_after, up_to_bracket}
use Rattle.drawing.specs.Picture.{across, before, behind, caption_of, curve, down, front, highest, lowest, picture, points_of, polyline, polylines, printed, runs_of, scale, view_of}
use Rattle.drawing.specs.ByHand.{ByHand}

pub by_hand : ByHand
unfolding distance larger lesser middle last_end decimal decimal_in whole filled sign unused escaped leaving standing starts_with unescaped_after up_to_bracket across before behind caption_of curve down front highest lowest picture points_of polyline polylines printed runs_of scale view_of
by_hand = record { none = refl; example = refl; three_runs = refl; ends = refl; one = refl; typed = refl }
