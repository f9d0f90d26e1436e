-- The lines of the listing as texts with numbers in them, and a line printed where there is room for one.
use Prim.Native.Nat.{ℕ, ◌+◌, ◌≤◌, ◌<◌}
use mathlib.Core.Path.{◌≡◌}
use mathlib.Core.List.{List, [], ◌∷◌, ◌++◌, append-nil}
use native.Mathlib.Omega.{arith}
use lib.IntN.{ℤ}
use lib.ListN.{length}
use mir.Syntax.{w32, w64}
use mir.Val.{SFits, of_z, to_z}
use mir.Facts.{to_z_pos}
use Rattle.rule.specs.declared.Bucket.{Bucket}
use Rattle.rule.specs.Numbers.{word}
use Rattle.rule.specs.Bucket.{level}
use Rattle.rule.proofs.Signed.{widened}
use Rattle.notation.specs.Signs.{ascii, line_feed}
use Rattle.notation.specs.Printing.{Printed, decimal, line, line_room, refused, row, total, whole}
use Rattle.output.specs.Output.{Put, filled, joined, sign, unused}

pub inside_line : {o q t : List ℕ} {at r : ℕ} → length t ≤ line_room → at + line_room ≤ length o → Put o at t r q → Printed o at t r q
inside_line short room p = record { next = p.next; bytes = p.bytes; inside = omega (arith, p.next) }

-- a row's numbers as the machine has them, z being the level
abbrev pub filled_row : Bucket → ℤ → List ℕ
filled_row b z =
    filled (ascii "% % % % %\n") (to_z w64 b.start ∷ to_z w64 b.count ∷ to_z w64 (of_z w64 (to_z w32 (of_z w32 b.least))) ∷ to_z w64 (of_z w64 (to_z w32 (of_z w32 b.largest))) ∷ to_z w64 (of_z w64 (to_z w32 (of_z w32 z))) ∷ [])

pub row_filled : (b : Bucket) (z : ℤ) → b.start < word → b.count < word → SFits w32 b.least → SFits w32 b.largest → SFits w32 z → z ≡ level b → filled_row b z ≡ row b
unfolding filled sign unused row line whole
row_filled b z start count least largest fits e =
    rw (to_z_pos w64 {n = b.start} (omega arith), to_z_pos w64 {n = b.count} (omega arith), widened w64 tt least, widened w64 tt largest, widened w64 tt fits, e)

-- the last field and the line feed
abbrev pub filled_end : ℕ → List ℕ
filled_end n = filled (ascii " %\n") (to_z w64 n ∷ [])

pub total_pieces : (readings buckets worst : ℕ) → worst < word → total readings buckets worst ≡ joined ((filled (ascii "total ") [] ++ decimal readings) ∷ (filled (ascii " ") [] ++ decimal buckets) ∷ filled_end worst ∷ [])
unfolding filled sign unused total line whole
total_pieces readings buckets worst h = rw (to_z_pos w64 {n = worst} (omega arith), append-nil (decimal worst ++ (line_feed ∷ [])))

pub refused_pieces : (l n : ℕ) → n < word → refused l n ≡ joined ((filled (ascii "refused ") [] ++ decimal l) ∷ filled_end n ∷ [])
unfolding filled sign unused refused line whole
refused_pieces l n h = rw (to_z_pos w64 {n = n} (omega arith), append-nil (decimal n ++ (line_feed ∷ [])))
