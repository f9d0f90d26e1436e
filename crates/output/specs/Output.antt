-- A text with numbers in it, and a text printed from a place on. What has no place is counted and not stored, so that a text printed into one byte tells its length.
use Rattle.std.specs.Prelude.{ℕ, ◌+◌, ◌≡◌, cond, List, [], ◌∷◌, ◌++◌, eqb, ℤ, pos, length, get_or, drop}
use Prim.Native.Char.{code}
use Rattle.std.proofs.lemmas.List.Edits.{sets}
use Rattle.notation.specs.Printing.{whole}

-- the byte of a text in whose place a number comes
abbrev pub mark : ℕ
mark = code "%"

-- what a byte becomes, and which numbers are left; where there are none, a mark is 0
unfoldable pub sign : ℕ → List ℤ → List ℕ
sign b ns = cond (eqb b mark) (whole (get_or ns 0 (pos 0))) (b ∷ [])

unfoldable pub unused : ℕ → List ℤ → List ℤ
unused b ns = cond (eqb b mark) (drop 1 ns) ns

-- a text, its marks filled with these numbers in turn
unfoldable pub filled : List ℕ → List ℤ → List ℕ
filled [] ns = []
filled (b ∷ t) ns = sign b ns ++ filled t (unused b ns)

-- pieces one behind the other
abbrev pub joined : List (List ℕ) → List ℕ
joined [] = []
joined (a ∷ r) = a ++ joined r

-- a text is printed from a place on: the next place, and all the bytes afterwards, those of the text that have a place stored there
pub record Put (before : List ℕ) (at : ℕ) (text : List ℕ) (end : ℕ) (after : List ℕ) : Type 0 where
  pub next : end ≡ at + length text
  pub bytes : after ≡ sets before at text
