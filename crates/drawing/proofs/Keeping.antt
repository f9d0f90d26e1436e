-- The promises of the picture hold.
use Prim.Native.Nat.{ℕ, suc}
use mathlib.Core.Path.{◌≡◌, refl}
use mathlib.Core.List.{append_assoc, append-nil}
use native.Mathlib.Omega.{arith}
use borrow.Author.Tests.{ne_eqb}
use Rattle.output.specs.Output.{filled, sign, unused}
use Rattle.notation.specs.Printing.{whole}
use Rattle.drawing.specs.declared.View.{View}
use Rattle.drawing.specs.Picture.{across, curve, points_of, polyline, polylines, printed, scale, scale_numbers, scale_text, view_of}
use Rattle.drawing.specs.Promise.{Pictures}
use Rattle.drawing.proofs.Answering.{of_buckets}
use Rattle.drawing.proofs.Captioning.{around, caption_back, same_brackets}
use Rattle.drawing.proofs.Longest.{longest}
use Rattle.drawing.proofs.Runs.{all_buckets, one_a_run, unbroken}
use Rattle.drawing.proofs.Standing.{among_highest, among_lowest, flat, higher, in_frame, later, left_edge, low_edge, over_low, right_edge, steep, top_edge, under_top, wide}

scales : (n : ℕ) (v : View) → scale (suc n) v ≡ filled scale_text (scale_numbers v)
unfolding scale
scales n v = rw (ne_eqb (suc n) 0 (λ e. omega arith))

pub pictures : Pictures
unfolding across curve filled points_of polyline polylines printed scale sign unused view_of whole
pictures =
    record {
      caption_back = caption_back;
      around = around;
      same_brackets = same_brackets;
      one_a_run = one_a_run;
      unbroken = unbroken;
      all_buckets = all_buckets;
      curves = λ t. simp append-nil;
      lines = λ v r rs. simp (append_assoc, append-nil);
      no_lines = λ v. refl;
      points_printed = λ x y ps. simp (append_assoc, append-nil);
      none_printed = refl;
      points = λ v b r. refl;
      no_points = λ v. refl;
      starts = λ v b. refl;
      ends = λ v b. refl;
      scales = scales;
      no_scale = λ v. refl;
      shows = λ b t. (refl, refl);
      a_level_highest = among_highest;
      a_level_lowest = among_lowest;
      highest = under_top;
      lowest = over_low;
      at_tick = λ v tick. refl;
      left_edge = left_edge;
      right_edge = right_edge;
      later = later;
      at_level = steep;
      top_edge = top_edge;
      low_edge = low_edge;
      flat = flat;
      higher = higher;
      wide = wide;
      in_frame = in_frame;
      of_buckets = of_buckets;
      longest = longest;
    }
