-- A file as a machine has it.
use Rattle.std.specs.Prelude.{ℕ, ◌<◌, List, get_or}

-- every number of it is a byte
abbrev pub AllBytes : List ℕ → Type 0
AllBytes file = (i : ℕ) → get_or file i 0 < 256
