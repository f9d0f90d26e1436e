-- How a table lies in the lent numbers, four to a slot, and when state and room are sound.
use Rattle.std.specs.Prelude.{ℕ, zero, suc, ◌+◌, ◌*◌, ◌-◌, Bool, true, ◌&&◌, ◌||◌, List, [], ◌∷◌, ◌++◌, eqb, leb, ℤ, pos, nat_abs, neg_ℤ, length, get_or, take, drop, replicate}
use Rattle.std.specs.Int.Signed.{le_z, lt_z}
use Rattle.rule.specs.declared.Bucket.{Bucket}
use Rattle.rule.specs.declared.Kind.{Kind}
use Rattle.rule.specs.declared.Kind.TheVariants.{InOrder, Late}
use Rattle.rule.specs.declared.Settings.{Settings}
use Rattle.rule.specs.declared.State.{State}
use Rattle.rule.specs.Numbers.{most, most_base, half, word, slot_width}
use Rattle.rule.specs.Rules.{equal, ruled}
use Rattle.rule.specs.Table.{Table, limit, needed, readings, runs}

-- ---- the layout

-- the numbers of a bucket: start, count, least, largest
abbrev pub numbers : Bucket → List ℤ
numbers b = pos b.start ∷ pos b.count ∷ b.least ∷ b.largest ∷ []

unfoldable pub flat : Table → List ℤ
flat [] = []
flat (b ∷ t) = numbers b ++ flat t

unfoldable pub zeros : ℕ → List ℤ
zeros n = replicate n (pos 0)

-- a table in a room of which n slots are needed: the buckets, zeros to the needed number, the rest as it was
unfoldable pub laid : ℕ → Table → List ℤ → List ℤ
laid n t l = flat t ++ (zeros (slot_width * (n - length t)) ++ drop (slot_width * n) l)

-- number j of slot i
abbrev pub field : List ℤ → ℕ → ℕ → ℤ
field l i j = get_or l (slot_width * i + j) (pos 0)

-- the bucket in slot i
unfoldable pub slot : List ℤ → ℕ → Bucket
slot l i = record { start = nat_abs (field l i 0); count = nat_abs (field l i 1); least = field l i 2; largest = field l i 3 }

-- the buckets of n slots from slot i
unfoldable pub slots : List ℤ → ℕ → ℕ → Table
slots l i zero = []
slots l i (suc n) = slot l i ∷ slots l (suc i) n

-- the buckets of state and room
abbrev pub table_of : State → List ℤ → Table
table_of s l = slots l 0 s.used

-- ---- soundness, clause by clause

-- the edition is 1 or 2
unfoldable pub edition_good : ℕ → Bool
edition_good e = eqb e 1 || eqb e 2

-- 1 to the top
unfoldable pub bounded : ℕ → ℕ → Bool
bounded top n = leb 1 n && leb n top

-- C is 1 to 512
abbrev pub base_good : ℕ → Bool
base_good c = bounded most_base c

-- K is 0 in order, and 1 to 256 late
unfoldable pub gaps_good : Kind → ℕ → Bool
gaps_good InOrder k = eqb k 0
gaps_good Late k = bounded most k

-- the room has four numbers for each slot needed
unfoldable pub roomy : Settings → List ℤ → Bool
roomy s l = leb (slot_width * needed s) (length l)

unfoldable pub within : ℤ → ℤ → ℤ → Bool
within low high z = le_z low z && lt_z z high

abbrev pub unsigned : ℤ → Bool
unsigned z = within (pos 0) (pos word) z

abbrev pub signed : ℤ → Bool
signed z = within (neg_ℤ (pos half)) (pos half) z

-- every number of slot i lies in its field's range
unfoldable pub slot_ranged : List ℤ → ℕ → Bool
slot_ranged l i = unsigned (field l i 0) && unsigned (field l i 1) && signed (field l i 2) && signed (field l i 3)

-- so it is in n slots from slot i
unfoldable pub ranged : List ℤ → ℕ → ℕ → Bool
ranged l i zero = true
ranged l i (suc n) = slot_ranged l i && ranged l (suc i) n

-- late, the runs are at most K
unfoldable pub runs_allowed : Kind → ℕ → ℕ → Bool
runs_allowed InOrder gaps k = true
runs_allowed Late gaps k = leb k gaps

unfoldable pub all_zero : List ℤ → Bool
all_zero [] = true
all_zero (z ∷ l) = equal z (pos 0) && all_zero l

-- the unused slots up to the needed number are zeros
unfoldable pub rest_zero : State → List ℤ → Bool
rest_zero s l = all_zero (take (slot_width * (needed s.settings - s.used)) (drop (slot_width * s.used) l))

unfoldable pub all_of : List Bool → Bool
all_of [] = true
all_of (c ∷ l) = c && all_of l

-- that the slots in use are as many as the state says is that each of them meets the rules and those behind are zeros
unfoldable pub clauses : State → List ℤ → List Bool
clauses s l =
    edition_good s.settings.edition
    ∷ base_good s.settings.base
    ∷ gaps_good s.settings.kind s.settings.gaps
    ∷ runs_allowed s.settings.kind s.settings.gaps s.runs
    ∷ roomy s.settings l
    ∷ leb s.used (limit s.settings s.runs)
    ∷ ranged l 0 s.used
    ∷ ruled s.settings.kind (table_of s l)
    ∷ eqb s.runs (runs (table_of s l))
    ∷ eqb s.readings (readings (table_of s l))
    ∷ rest_zero s l
    ∷ []

unfoldable pub sound : State → List ℤ → Bool
sound s l = all_of (clauses s l)
