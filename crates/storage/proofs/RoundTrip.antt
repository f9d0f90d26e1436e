-- A table saved and read again, a file read and saved again, and a table saved record by record.
use Prim.Native.Nat.{ℕ, zero, suc, ◌+◌, ◌*◌, ◌/◌, ◌%◌, ◌≤◌, ◌<◌}
use mathlib.Core.Path.{◌≡◌, refl, sym}
use mathlib.Core.List.{List, [], ◌∷◌, ◌++◌, append_assoc, append-nil}
use native.Mathlib.Omega.{arith}
use native.Mathlib.Nat.{add_assoc, div-add-mod', div-div-eq-div-mul, mod-eq_of_lt}
use native.Mathlib.Numerals.{add-one, add-two, add-three}
use lib.ListN.{length, get_or, take, drop, length-append, length-drop, take-append-drop}
use lib.Seq.{drop-append-add, drop-cons, drop-drop, get_or-drop, sets, sets-eq, take-add, take_at}
use mir.Syntax.{w32}
use mir.Val.{Fits}
use Rattle.rule.specs.declared.Bucket.{Bucket}
use Rattle.rule.specs.Numbers.{record_width, word}
use Rattle.rule.specs.Table.{Table}
use Rattle.rule.specs.Bytes.{bits, bytes, count_from, largest_from, least_from, record_at, records, records_of, saved, saved_record, word_at}
use Rattle.rule.proofs.Fitting.{Fitted, Fitting}
use Rattle.rule.proofs.Stores.{sets_append}
use Rattle.storage.specs.Files.{put}
use Rattle.storage.proofs.Words.{bits_fit, bits_reading, reading_bits, reading_fits}

-- ---- four bytes

word_of_bytes : (n : ℕ) → n < word → n % 256 + n / 256 % 256 * 256 + n / 65536 % 256 * 65536 + n / 16777216 % 256 * 16777216 ≡ n
word_of_bytes n h =
    by_quotients (n / 256) (n / 65536) (n / 16777216) (div-add-mod' n 256)
    (rw (div-div-eq-div-mul n 256 256) at (div-add-mod' (n / 256) 256))
    (rw (div-div-eq-div-mul n 65536 256) at (div-add-mod' (n / 65536) 256))
  where
    by_quotients : (a b c : ℕ) → a * 256 + n % 256 ≡ n → b * 256 + a % 256 ≡ a → c * 256 + b % 256 ≡ b → n % 256 + a % 256 * 256 + b % 256 * 65536 + c % 256 * 16777216 ≡ n
    by_quotients a b c p q r = let small : c % 256 ≡ c = mod-eq_of_lt (omega arith) in omega arith

bytes_of_word : (a b c d : ℕ) → a < 256 → b < 256 → c < 256 → d < 256 → bytes (a + b * 256 + c * 65536 + d * 16777216) ≡ a ∷ b ∷ c ∷ d ∷ []
unfolding bytes
bytes_of_word a b c d ha hb hc hd =
    let n = a + b * 256 + c * 65536 + d * 16777216 in
    let first : n % 256 ≡ a = omega arith in
    let over : n / 256 ≡ b + c * 256 + d * 65536 = omega arith in
    let second : (b + c * 256 + d * 65536) % 256 ≡ b = omega arith in
    let over2 : n / 65536 ≡ c + d * 256 = omega arith in
    let third : (c + d * 256) % 256 ≡ c = omega arith in
    let over3 : n / 16777216 ≡ d = omega arith in
    let fourth : d % 256 ≡ d = mod-eq_of_lt hd in
    rw (first, over, second, over2, third, over3, fourth)

-- ---- a file without its first record

word_later : (l : List ℕ) (k i j : ℕ) → j ≡ k + i → word_at l j ≡ word_at (drop k l) i
unfolding word_at
word_later l k i j h = rw h (simp (get_or-drop, add_assoc))

record_later : (l : List ℕ) (i : ℕ) → record_at l (suc i) ≡ record_at (drop record_width l) i
unfolding record_at
record_later l i =
    let at = record_width * i in
    rw (
      word_later l record_width at (record_width * suc i) (omega arith),
      word_later l record_width (at + count_from) (record_width * suc i + count_from) (omega arith),
      word_later l record_width (at + least_from) (record_width * suc i + least_from) (omega arith),
      word_later l record_width (at + largest_from) (record_width * suc i + largest_from) (omega arith),
    )

records_later : (l : List ℕ) (i n : ℕ) → records l (suc i) n ≡ records (drop record_width l) i n
unfolding records
records_later l i zero = refl
records_later l i (suc n) = rw (record_later l i, records_later l (suc i) n)

-- ---- a table saved and read again

length_record : (b : Bucket) → length (saved_record b) ≡ record_width
unfolding saved_record bytes
length_record b = refl

pub length_saved : (t : Table) → length (saved t) ≡ record_width * length t
unfolding saved
length_saved [] = refl
length_saved (b ∷ t) = omega (arith, length-append (saved_record b) (saved t), length_record b, length_saved t)

record_saved : (b : Bucket) (l : List ℕ) → Fitting b → record_at (saved_record b ++ l) 0 ≡ b
unfolding record_at saved_record bytes word_at
record_saved b l h =
    rw (
      word_of_bytes b.start h.start,
      word_of_bytes b.count h.count,
      word_of_bytes (bits b.least) (bits_fit h.least).fits,
      word_of_bytes (bits b.largest) (bits_fit h.largest).fits,
      reading_bits h.least,
      reading_bits h.largest,
    )

saved_again : (t : Table) → Fitted t → records (saved t) 0 (length t) ≡ t
unfolding records saved saved_record bytes Fitted
saved_again [] h = refl
saved_again (b ∷ t) h =
    rw (record_saved b (saved t) h.0, records_later (saved (b ∷ t)) 0 (length t), saved_again t h.1)

pub records_saved : (t : Table) → Fitted t → records_of (saved t) ≡ t
unfolding records_of
records_saved t h =
    let n : length (saved t) / record_width ≡ length t = omega (arith, length_saved t) in rw n (saved_again t h)

-- ---- a file read and saved again

module _ (l : List ℕ) (known : (i : ℕ) → get_or l i 0 < 256) where
  word_fits : (i : ℕ) → Fits w32 (word_at l i)
  unfolding word_at
  word_fits i = omega (arith, known i, known (i + 1), known (i + 2), known (i + 3))

  record_fitting : (i : ℕ) → Fitting (record_at l i)
  unfolding record_at
  record_fitting i =
      record {
        start = (word_fits (record_width * i)).fits;
        count = (word_fits (record_width * i + count_from)).fits;
        least = reading_fits (word_fits (record_width * i + least_from));
        largest = reading_fits (word_fits (record_width * i + largest_from));
      }

  records_fitted : (i n : ℕ) → Fitted (records l i n)
  unfolding records Fitted
  records_fitted i zero = tt
  records_fitted i (suc n) = (record_fitting i, records_fitted (suc i) n)

  pub file_fitted : Fitted (records_of l)
  unfolding records_of
  file_fitted = records_fitted 0 (length l / record_width)

  bytes_again : (i : ℕ) → i + 4 ≤ length l → bytes (word_at l i) ≡ take 4 (drop i l)
  unfolding word_at
  bytes_again i h =
      let h0 : i < length l = omega arith in
      let h1 : suc i < length l = omega arith in
      let h2 : suc (suc i) < length l = omega arith in
      let h3 : suc (suc (suc i)) < length l = omega arith in
      rw (
        bytes_of_word _ _ _ _ (known i) (known (i + 1)) (known (i + 2)) (known (i + 3)),
        drop-cons l i 0 h0,
        drop-cons l (suc i) 0 h1,
        drop-cons l (suc (suc i)) 0 h2,
        drop-cons l (suc (suc (suc i))) 0 h3,
        add-one,
        add-two,
        add-three,
      )

  record_again : record_width ≤ length l → saved_record (record_at l 0) ≡ take record_width l
  unfolding saved_record record_at
  record_again h =
      rw (
        bits_reading (word_fits least_from),
        bits_reading (word_fits largest_from),
        bytes_again 0 (omega arith),
        bytes_again count_from (omega arith),
        bytes_again least_from (omega arith),
        bytes_again largest_from (omega arith),
        take-add 4 12 l,
        take-add 4 8 (drop 4 l),
        drop-drop 4 4 l,
        take-add 4 4 (drop 8 l),
        drop-drop 4 8 l,
      )

file_again : (n : ℕ) (l : List ℕ) → length l ≡ record_width * n → ((i : ℕ) → get_or l i 0 < 256) → saved (records l 0 n) ≡ l
unfolding saved records
file_again zero [] h known = refl
file_again zero (x ∷ l) h known = absurd (omega arith)
file_again (suc n) l h known =
    rw (
      record_again l known (omega arith),
      records_later l 0 n,
      file_again n (drop record_width l) (omega (arith, length-drop record_width l)) (λ i. rw get_or-drop (known (record_width + i))),
    )
    (take-append-drop record_width l)

pub saved_records : (l : List ℕ) → length l % record_width ≡ 0 → ((i : ℕ) → get_or l i 0 < 256) → saved (records_of l) ≡ l
unfolding records_of
saved_records l h known = file_again (length l / record_width) l (omega arith) known

-- ---- record by record

saved_append : (t u : Table) → saved (t ++ u) ≡ saved t ++ saved u
unfolding saved
saved_append [] u = refl
saved_append (b ∷ t) u = rw (saved_append t u, append_assoc)

put_at : (p rest : List ℕ) (i : ℕ) (b : Bucket) → length p ≡ record_width * i → put (p ++ rest) i b ≡ p ++ (saved_record b ++ drop record_width rest)
unfolding put
put_at p rest i b h =
    let e : record_width * suc i ≡ length p + record_width = omega arith in
    rw (take_at p rest (record_width * i) h, e, drop-append-add p rest record_width)

-- the next record, behind those of the buckets t
pub put_saved : (t : Table) (b : Bucket) (rest : List ℕ) (i : ℕ) → length t ≡ i → put (saved t ++ rest) i b ≡ saved (t ++ (b ∷ [])) ++ drop record_width rest
unfolding saved
put_saved t b rest i h = rw (put_at (saved t) rest i b (omega (arith, length_saved t)), saved_append) (simp (append_assoc, append-nil))

-- ---- word by word

-- the four bytes of n from k on, and ys from j on, four further
four_more : (n k j : ℕ) (ys l : List ℕ) → j ≡ k + 4 → sets l k (bytes n ++ ys) ≡ sets (sets l k (bytes n)) j ys
unfolding bytes
four_more n k j ys l h = rw h (sym (sets_append l k (bytes n) ys))

pub put_words : (l : List ℕ) (i : ℕ) (b : Bucket) → record_width * suc i ≤ length l
    → sets (sets (sets (sets l (record_width * i) (bytes b.start)) (record_width * i + count_from) (bytes b.count)) (record_width * i + least_from) (bytes (bits b.least))) (record_width * i + largest_from) (bytes (bits b.largest))
    ≡ put l i b
unfolding put saved_record
put_words l i b h =
    let k = record_width * i in
    let e : record_width * suc i ≡ k + length (saved_record b) = omega (arith, length_record b) in
    rw (
      e,
      ← append_assoc (take k l) (saved_record b) (drop (k + length (saved_record b)) l),
      ← sets-eq (saved_record b) l k (omega arith),
      four_more b.start k (k + count_from) _ l (omega arith),
      four_more b.count (k + count_from) (k + least_from) _ _ (omega arith),
      four_more (bits b.least) (k + least_from) (k + largest_from) _ _ (omega arith),
    )
