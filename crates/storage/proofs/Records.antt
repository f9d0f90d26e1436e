-- How many records a file has.
use Prim.Native.Nat.{ℕ, zero, suc, ◌/◌}
use mathlib.Core.Path.{◌≡◌, refl, ap}
use mathlib.Core.List.{List}
use lib.ListN.{length}
use Rattle.rule.specs.Numbers.{record_width}
use Rattle.rule.specs.Bytes.{records, records_of}

pub length_records : (l : List ℕ) (i n : ℕ) → length (records l i n) ≡ n
unfolding records
length_records l i zero = refl
length_records l i (suc n) = ap suc (length_records l (suc i) n)

pub length_file : (l : List ℕ) → length (records_of l) ≡ length l / record_width
unfolding records_of
length_file l = length_records l 0 (length l / record_width)
