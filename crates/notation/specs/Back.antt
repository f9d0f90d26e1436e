-- A number printed and read back is the number, and so is a line of them.
use Rattle.std.specs.Prelude.{ℕ, Some, ◌<◌, ◌^◌, ◌≡◌, true, ◌∷◌, ◌++◌, ℤ, nat_abs}
use Rattle.rule.specs.Room.{signed}
use Rattle.notation.specs.Printing.{decimal, whole}
use Rattle.notation.specs.Signs.{ascii, space}
use Rattle.notation.specs.declared.Line.{Line}
use Rattle.notation.specs.Reading.{line_of, number}

pub record Back : Type 0 where
  pub numbers : (z : ℤ) → nat_abs z < 10 ^ 10 → number (whole z) ≡ Some z
  pub steps : (n : ℕ) → n < 4294967296 → line_of (ascii "steps" ++ (space ∷ decimal n)) ≡ Some (Line.Steps n)
  pub late : (n : ℕ) → n < 4294967296 → line_of (ascii "late" ++ (space ∷ decimal n)) ≡ Some (Line.Late n)
  pub alone : (z : ℤ) → signed z ≡ true → line_of (whole z) ≡ Some (Line.Alone z)
  pub pair : (t : ℕ) (z : ℤ) → t < 4294967296 → signed z ≡ true → line_of (decimal t ++ (space ∷ whole z)) ≡ Some (Line.Pair t z)
