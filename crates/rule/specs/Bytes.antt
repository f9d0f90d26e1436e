-- The saved form: records of 16 bytes, no header.
use Rattle.std.specs.Prelude.{ℕ, zero, suc, ◌+◌, ◌*◌, ◌-◌, ◌/◌, ◌%◌, cond, List, [], ◌∷◌, ◌++◌, ltb, ℤ, pos, negsuc, length, get_or}
use Rattle.rule.specs.declared.Bucket.{Bucket}
use Rattle.rule.specs.Numbers.{half, word, record_width}
use Rattle.rule.specs.Table.{Table}

-- 32 bits, low byte first
unfoldable pub bytes : ℕ → List ℕ
bytes n = n % 256 ∷ n / 256 % 256 ∷ n / 65536 % 256 ∷ n / 16777216 % 256 ∷ []

-- a reading's 32 bits, two's complement
unfoldable pub bits : ℤ → ℕ
bits (pos n) = n
bits (negsuc n) = word - suc n

unfoldable pub saved_record : Bucket → List ℕ
saved_record b = bytes b.start ++ (bytes b.count ++ (bytes (bits b.least) ++ bytes (bits b.largest)))

-- the buckets in tick order
unfoldable pub saved : Table → List ℕ
saved [] = []
saved (b ∷ t) = saved_record b ++ saved t

-- the number in the four bytes from i
unfoldable pub word_at : List ℕ → ℕ → ℕ
word_at l i = get_or l i 0 + get_or l (i + 1) 0 * 256 + get_or l (i + 2) 0 * 65536 + get_or l (i + 3) 0 * 16777216

-- the reading of 32 bits
unfoldable pub reading : ℕ → ℤ
reading n = cond (ltb n half) (pos n) (negsuc (word - suc n))

-- the bytes of a record's start are its first, and those of the other fields are from here
abbrev pub count_from : ℕ
count_from = 4

abbrev pub least_from : ℕ
least_from = 8

abbrev pub largest_from : ℕ
largest_from = 12

-- the record at index i
unfoldable pub record_at : List ℕ → ℕ → Bucket
record_at l i =
    record {
      start = word_at l (record_width * i);
      count = word_at l (record_width * i + count_from);
      least = reading (word_at l (record_width * i + least_from));
      largest = reading (word_at l (record_width * i + largest_from));
    }

-- n records from index i
unfoldable pub records : List ℕ → ℕ → ℕ → Table
records l i zero = []
records l i (suc n) = record_at l i ∷ records l (suc i) n

-- the whole records of a file
unfoldable pub records_of : List ℕ → Table
records_of l = records l 0 (length l / record_width)
