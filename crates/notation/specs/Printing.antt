-- The listing: numbers in decimal, fields one space apart, and a line feed at the end of each line.
use Rattle.std.specs.Prelude.{ℕ, zero, suc, ◌+◌, ◌/◌, ◌%◌, ◌≤◌, ◌≡◌, cond, List, [], ◌∷◌, ◌++◌, ltb, ℤ, pos, negsuc, length}
use Rattle.std.proofs.lemmas.List.Edits.{sets}
use Rattle.rule.specs.declared.Bucket.{Bucket}
use Rattle.rule.specs.Bucket.{level}
use Rattle.rule.specs.Table.{Table, readings, worst}
use Rattle.notation.specs.Signs.{line_feed, space, minus, nought, total_word, refused_word}

-- the digit of a number below ten
abbrev pub digit : ℕ → ℕ
digit n = nought + n

-- at most k digits: the last digit of n stands behind the digits of n / 10
unfoldable pub decimal_in : ℕ → ℕ → List ℕ
decimal_in zero n = []
decimal_in (suc k) n = let before = decimal_in k (n / 10) in cond (ltb n 10) (digit n ∷ []) (before ++ (digit (n % 10) ∷ []))

-- n + 1 digits are enough for n
unfoldable pub decimal : ℕ → List ℕ
decimal n = decimal_in (suc n) n

unfoldable pub whole : ℤ → List ℕ
whole (pos n) = decimal n
whole (negsuc n) = minus ∷ decimal (suc n)

-- the first field, and the others
unfoldable pub line : List ℕ → List (List ℕ) → List ℕ
line f [] = f ++ (line_feed ∷ [])
line f (g ∷ l) = f ++ (space ∷ line g l)

unfoldable pub row : Bucket → List ℕ
row b =
    line (decimal b.start) (decimal b.count ∷ whole b.least ∷ whole b.largest ∷ whole (level b) ∷ [])

-- readings, buckets and worst error
unfoldable pub total : ℕ → ℕ → ℕ → List ℕ
total readings buckets worst = line total_word (decimal readings ∷ decimal buckets ∷ decimal worst ∷ [])

-- the line, from 1, and the refusal's number
unfoldable pub refused : ℕ → ℕ → List ℕ
refused l n = line refused_word (decimal l ∷ decimal n ∷ [])

unfoldable pub rows : Table → List ℕ
rows [] = []
rows (b ∷ t) = row b ++ rows t

unfoldable pub listing : Table → List ℕ
listing t = rows t ++ total (readings t) (length t) (worst t)

-- a text is printed from a place on: the next place, which is no further than the end, and all the bytes afterwards, those of the text stored one after the other
pub record Printed (before : List ℕ) (at : ℕ) (text : List ℕ) (end : ℕ) (after : List ℕ) : Type 0 where
  pub next : end ≡ at + length text
  pub bytes : after ≡ sets before at text
  pub inside : end ≤ length before

-- room that is enough for a line of the listing
abbrev pub line_room : ℕ
line_room = 64
