-- The numbers of document 01, each written once.
use Rattle.std.specs.Prelude.{ℕ, ◌^◌}

-- a trace holds at most so many readings; its ticks are 0 to one less
abbrev pub ticks : ℕ
ticks = 16777216

-- B, and K of a late trace, are 1 to this
abbrev pub most : ℕ
most = 256

-- the base limit C is 1 to this
abbrev pub most_base : ℕ
most_base = 512

-- numbers of the room to a slot
abbrev pub slot_width : ℕ
slot_width = 4

-- bytes to a saved record
abbrev pub record_width : ℕ
record_width = 16

-- a signed 32-bit number is at least minus this, and below it
abbrev pub half : ℕ
half = 2 ^ 31

-- an unsigned 32-bit number is below this
abbrev pub word : ℕ
word = 2 ^ 32

-- where a count of the tally stops
abbrev pub tally_most : ℕ
tally_most = 4294967295
