-- What a line means, its bytes given without the line feed.
use Rattle.std.specs.Prelude.{ℕ, ℤ, Option, Some, None, option_map, suc, ◌+◌, ◌*◌, ◌-◌, Bool, true, false, cond, ◌&&◌, List, [], ◌∷◌, eqb, leb, ltb, pos, neg_ℤ, nat_abs, length, take, drop}
use Rattle.rule.specs.Room.{signed, unsigned}
use Rattle.notation.specs.Signs.{ascii, space, minus, nought, nine}
use Rattle.notation.specs.declared.Line.{Line}

-- a line has at most so many bytes
abbrev pub line_most : ℕ
line_most = 64

-- a number has at most so many digits
abbrev pub digits_most : ℕ
digits_most = 10

-- the words that name B and K
abbrev pub steps_word : List ℕ
steps_word = ascii "steps"

abbrev pub late_word : List ℕ
late_word = ascii "late"

-- ---- numbers

unfoldable pub is_digit : ℕ → Bool
is_digit b = leb nought b && leb b nine

-- what digits stand for, n being what those before them do
unfoldable pub digits_after : ℕ → List ℕ → Option ℤ
digits_after n [] = Some (pos n)
digits_after n (b ∷ l) = let r = digits_after (n * 10 + (b - nought)) l in cond (is_digit b) r None

-- 1 to 10 digits
unfoldable pub digits : List ℕ → Option ℤ
digits l = cond (leb 1 (length l) && leb (length l) digits_most) (digits_after 0 l) None

unfoldable pub negated : Option ℤ → Option ℤ
negated (Some z) = Some (neg_ℤ z)
negated None = None

-- an optional minus sign and 1 to 10 digits
unfoldable pub number : List ℕ → Option ℤ
number [] = None
number (b ∷ l) = cond (eqb b minus) (negated (digits l)) (digits (b ∷ l))

-- ---- fields: unsigned 32 bits for a tick, B and K, signed 32 bits for a reading

unfoldable pub unsigned_field : Option ℤ → Option ℕ
unsigned_field (Some z) = cond (unsigned z) (Some (nat_abs z)) None
unsigned_field None = None

unfoldable pub signed_field : Option ℤ → Option ℤ
signed_field (Some z) = cond (signed z) (Some z) None
signed_field None = None

-- ---- lines: each number in the range of its field; none where it cannot be read

abbrev pub steps : Option ℕ → Option Line
steps n = option_map Line.Steps n

abbrev pub late : Option ℕ → Option Line
late n = option_map Line.Late n

abbrev pub alone : Option ℤ → Option Line
alone z = option_map Line.Alone z

abbrev pub pair : Option ℕ → Option ℤ → Option Line
pair (Some t) (Some z) = Some (Line.Pair t z)
pair (Some t) None = None
pair None z = None

unfoldable pub same : List ℕ → List ℕ → Bool
same [] [] = true
same [] (y ∷ m) = false
same (x ∷ l) [] = false
same (x ∷ l) (y ∷ m) = eqb x y && same l m

-- the place of the first space, the length where there is none
unfoldable pub first_space : List ℕ → ℕ
first_space [] = 0
first_space (b ∷ l) = cond (eqb b space) 0 (suc (first_space l))

-- the bytes before the first space and those after it
unfoldable pub spaced : List ℕ → List ℕ → Option Line
spaced before after =
    cond (same before steps_word) (steps (unsigned_field (number after)))
    (cond (same before late_word) (late (unsigned_field (number after))) (pair (unsigned_field (number before)) (signed_field (number after))))

unfoldable pub line_of : List ℕ → Option Line
line_of l =
    cond (ltb line_most (length l)) None
    (cond (eqb (first_space l) (length l)) (alone (signed_field (number l)))
    (spaced (take (first_space l) l) (drop (suc (first_space l)) l)))
