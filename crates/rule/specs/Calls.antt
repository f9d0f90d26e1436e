-- What each call answers and leaves: the refusals first, in document 01's order, the first that holds being the one given.
use Rattle.std.specs.Prelude.{ℕ, ◌+◌, ◌*◌, ◌-◌, ◌%◌, min, Bool, true, false, cond, not, List, [], ◌∷◌, ◌++◌, eqb, leb, ltb, ℤ, length, drop, Result, Ok, Err}
use Rattle.std.proofs.Math.Option.{Option, some, none}
use Rattle.rule.specs.declared.Bucket.{Bucket}
use Rattle.rule.specs.declared.Kind.{Kind}
use Rattle.rule.specs.declared.Kind.TheVariants.{InOrder, Late}
use Rattle.rule.specs.declared.Opening.{Opening}
use Rattle.rule.specs.declared.Settings.{Settings}
use Rattle.rule.specs.declared.Size.{Size}
use Rattle.rule.specs.declared.Size.TheVariants.{Steps, Base}
use Rattle.rule.specs.declared.State.{State}
use Rattle.rule.specs.declared.Refusal.{Refusal}
use Rattle.rule.specs.declared.Found.{Found}
use Rattle.rule.specs.declared.Tally.{Tally}
use Rattle.rule.specs.Numbers.{most, ticks, record_width, tally_most}
use Rattle.rule.specs.Bucket.{level, error}
use Rattle.rule.specs.Table.{Table, accept, holding, insert, limit, needed, next_tick, readings, runs, single, worst}
use Rattle.rule.specs.Rules.{first_fault, place_or, ruled}
use Rattle.rule.specs.Room.{base_good, bounded, edition_good, gaps_good, laid, roomy, runs_allowed, sound, table_of}
use Rattle.rule.specs.Bytes.{records_of, saved}

-- ---- a refusal, or what was asked

abbrev pub Verdict : Type 0 → Type 0
Verdict A = Result A Refusal

-- a test, and the refusal that is given where it holds
abbrev pub Check : Type 0
Check = Bool × Refusal

-- the first refusal whose test holds is the one given; where none does, go on
unfoldable pub checked : {A : Type 0} → List Check → Verdict A → Verdict A
checked [] v = v
checked (c ∷ l) v = cond c.0 (Err c.1) (checked l v)

-- the state of a trace whose buckets are t
abbrev pub state_of : Settings → Table → State
state_of s t = record { settings = s; used = length t; runs = runs t; readings = readings t }

-- the state to go on with: after a refusal the one there was
unfoldable pub onward : State → Verdict State → State
onward s (Err r) = s
onward s (Ok t) = t

-- the answer and the room afterwards, of a call that leaves the trace with the buckets t; a refusal leaves the room as it stood
unfoldable pub traced : Settings → List ℤ → Verdict Table → Verdict State × List ℤ
traced s l (Err r) = (Err r, l)
traced s l (Ok t) = (Ok (state_of s t), laid (needed s) t l)

-- the answer and the output afterwards, of a call that writes what `form` makes of the buckets t; what lies past it is as it was
unfoldable pub wrote : {A : Type 0} → (Table → List A) → List A → Verdict Table → Verdict ℕ × List A
wrote form out (Err r) = (Err r, out)
wrote form out (Ok t) = (Ok (length t), form t ++ drop (length (form t)) out)

unfoldable pub late : Kind → Bool
late InOrder = false
late Late = true

-- in order a given K is ignored and kept as 0
unfoldable pub gaps_kept : Kind → ℕ → ℕ
gaps_kept InOrder k = 0
gaps_kept Late k = k

-- the base limit that is named: B stands for 2B
unfoldable pub base_of : Size → ℕ
base_of (Steps b) = 2 * b
base_of (Base c) = c

-- what the state keeps of an opening
abbrev pub kept : Opening → Settings
kept o = record { kind = o.kind; base = base_of o.size; gaps = gaps_kept o.kind o.gaps; edition = o.edition }

-- ---- open: 16, 1, 2, 3

-- B is 1 to 256, C is 1 to 512
unfoldable pub size_good : Size → Bool
size_good (Steps b) = bounded most b
size_good (Base c) = base_good c

-- what open, load and replay ask of what is named and of the room, before they go on
unfoldable pub admitted : Opening → List ℤ → Verdict Table → Verdict Table
admitted o l v =
    checked
    ((not (edition_good o.edition), Refusal.Edition)
    ∷ (not (size_good o.size), Refusal.Steps)
    ∷ (not (gaps_good (kept o).kind (kept o).gaps), Refusal.Gaps)
    ∷ (not (roomy (kept o) l), Refusal.Room)
    ∷ []) v

abbrev pub opened : Opening → List ℤ → Verdict State × List ℤ
opened o l = traced (kept o) l (admitted o l (Ok []))

-- ---- readings: 4, 5, 6, 11, 9

-- what the next reading of a trace in order is refused for
abbrev pub next_checks : State → List ℤ → List Check
next_checks s l =
    (not (sound s l), Refusal.Unsound)
    ∷ (late s.settings.kind, Refusal.Kind)
    ∷ (leb ticks (next_tick (table_of s l)), Refusal.Tick)
    ∷ []

unfoldable pub next_verdict : State → List ℤ → ℤ → Verdict Table
next_verdict s l v = checked (next_checks s l) (Ok (accept s.settings (table_of s l) (next_tick (table_of s l)) v))

abbrev pub next_outcome : State → List ℤ → ℤ → Verdict State × List ℤ
next_outcome s l v = traced s.settings l (next_verdict s l v)

unfoldable pub is_held : Option Bucket → Bool
is_held none = false
is_held (some b) = true

-- what a reading of a late trace is refused for
abbrev pub late_checks : State → List ℤ → ℕ → ℤ → List Check
late_checks s l tick v =
    (not (sound s l), Refusal.Unsound)
    ∷ (not (late s.settings.kind), Refusal.Kind)
    ∷ (leb ticks tick, Refusal.Tick)
    ∷ (is_held (holding tick (table_of s l)), Refusal.Taken)
    ∷ (ltb s.settings.gaps (runs (insert (single tick v) (table_of s l))), Refusal.Runs)
    ∷ []

unfoldable pub late_verdict : State → List ℤ → ℕ → ℤ → Verdict Table
late_verdict s l tick v = checked (late_checks s l tick v) (Ok (accept s.settings (table_of s l) tick v))

abbrev pub late_outcome : State → List ℤ → ℕ → ℤ → Verdict State × List ℤ
late_outcome s l tick v = traced s.settings l (late_verdict s l tick v)

-- ---- lookup: 4, 6, 12

unfoldable pub found : Option Bucket → Verdict Found
found none = Err Refusal.Absent
found (some b) = Ok (record { level = level b; error = error b; least = b.least; largest = b.largest })

unfoldable pub found_of : Verdict (Option Bucket) → Verdict Found
found_of (Err r) = Err r
found_of (Ok b) = found b

unfoldable pub lookup_outcome : State → List ℤ → ℕ → Verdict Found
lookup_outcome s l tick =
    found_of
    (checked
    ((not (sound s l), Refusal.Unsound)
    ∷ (leb ticks tick, Refusal.Tick)
    ∷ []) (Ok (holding tick (table_of s l))))

-- ---- the worst error: 4

unfoldable pub worst_outcome : State → List ℤ → Verdict ℕ
worst_outcome s l = checked ((not (sound s l), Refusal.Unsound) ∷ []) (Ok (worst (table_of s l)))

-- ---- row and save: 4, 13

-- the output has `room` places, and the buckets take `taken`
unfoldable pub write_verdict : State → List ℤ → ℕ → ℕ → Verdict Table
write_verdict s l taken room =
    checked
    ((not (sound s l), Refusal.Unsound)
    ∷ (ltb room taken, Refusal.Short)
    ∷ []) (Ok (table_of s l))

abbrev pub row_outcome : State → List ℤ → List Bucket → Verdict ℕ × List Bucket
row_outcome s l out = wrote (λ t. t) out (write_verdict s l s.used (length out))

abbrev pub save_outcome : State → List ℤ → List ℕ → Verdict ℕ × List ℕ
save_outcome s l out = wrote saved out (write_verdict s l (record_width * s.used) (length out))

-- ---- load: 16, 1, 2, 3, 7, 8, 9, 10

-- what load asks of a file, once settings and room are admitted
unfoldable pub file_verdict : Settings → List ℕ → Verdict Table
file_verdict s file =
    checked
    ((not (eqb (length file % record_width) 0), Refusal.Length)
    ∷ (not (ruled s.kind (records_of file)), Refusal.Record (place_or 0 (first_fault s.kind 0 0 (records_of file))))
    ∷ (not (runs_allowed s.kind s.gaps (runs (records_of file))), Refusal.Runs)
    ∷ (ltb (limit s (runs (records_of file))) (length (records_of file)), Refusal.Overfull)
    ∷ []) (Ok (records_of file))

abbrev pub load_verdict : Opening → List ℕ → List ℤ → Verdict Table
load_verdict o file l = admitted o l (file_verdict (kept o) file)

abbrev pub loaded : Opening → List ℕ → List ℤ → Verdict State × List ℤ
loaded o file l = traced (kept o) l (load_verdict o file l)

-- ---- the tally

-- a count that has grown by n stops at the tally's most
unfoldable pub grown : ℕ → ℕ → ℕ
grown n by = min (n + by) tally_most

-- after a reading on a trace with so many slots in use before: its merges are those and the new bucket, less the slots in use after it
unfoldable pub counted : Tally → ℕ → Verdict State → Tally
counted t before (Err r) = record { accepted = t.accepted; refused = grown t.refused 1; merges = t.merges }
counted t before (Ok s) =
    record { accepted = grown t.accepted 1; refused = t.refused; merges = grown t.merges (before + 1 - s.used) }
