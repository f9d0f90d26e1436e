-- The bytes that lines are made of, and the words that stand in them.
use Rattle.std.specs.Prelude.{ℕ, List, [] as []ᴸ, ◌∷◌ as ◌∷ᴸ◌}
use Prim.Native.Char.{code}
use Prim.Native.String.{String, [], ◌∷◌}

-- the bytes of a text of ASCII
abbrev pub ascii : String → List ℕ
ascii [] = []ᴸ
ascii (c ∷ s) = code c ∷ᴸ ascii s

abbrev pub line_feed : ℕ
line_feed = code "\n"

abbrev pub space : ℕ
space = code " "

abbrev pub minus : ℕ
minus = code "-"

-- the digits are the bytes from this one
abbrev pub nought : ℕ
nought = code "0"

-- to this one
abbrev pub nine : ℕ
nine = code "9"

abbrev pub total_word : List ℕ
total_word = ascii "total"

abbrev pub refused_word : List ℕ
refused_word = ascii "refused"
