-- Callers worked by hand: a pin near ground with the readings of H6, a late trace, many readings at one call, files from elsewhere, and recordings of the logger; each without an offset and with one of 1,001.
use Rattle.std.specs.Prelude.{ℕ, ◌≡◌, List, [], ◌∷◌, ◌++◌, ℤ, pos, negsuc, replicate, Ok, Err, None}
use Rattle.std.proofs.Math.Option.{some, none}
use Rattle.rule.specs.declared.Found.{Found}
use Rattle.rule.specs.Calls.{Verdict}
use Rattle.rule.specs.declared.Refusal.{Refusal}
use Rattle.rule.specs.declared.Settings.{Settings}
use Rattle.rule.specs.declared.Size.TheVariants.{Steps, Base}
use Rattle.rule.specs.declared.State.{State}
use Rattle.rule.specs.ByHand.{bucket, edited, gappy, gappy_base, in_order, of_base, second}
use Rattle.offset.specs.Offset.{AllHigher, FilesMoved, raised}
use Rattle.offset.specs.Caller.{Answer, Call, Caller, after, answers, drawn, filed, idle, lates, lates_many, loads, lookups, measured, nexts, nexts_many, opens, pointed, reached, recounted, replays, rows, saves, searches, shown, traced, worsts}
use Rattle.over.specs.Hits.{hit}

abbrev pub now : Settings → ℕ → ℕ → ℕ → State
now g used runs readings = record { settings = g; used = used; runs = runs; readings = readings }

abbrev pub fresh : List (List ℕ) → Caller
fresh files = idle (now (of_base 2) 0 0 0) (record { accepted = 0; refused = 0; merges = 0 }) files

-- ---- in order

-- with B = 1: the first two of three readings become one bucket; every other call, what was saved is loaded by C, and again after an open by B; what is lent holds n
abbrev pub calls : ℕ → ℤ → ℤ → ℤ → List Call
calls n x y z =
    opens (in_order (Steps 1)) (replicate 12 (pos n))
    ∷ nexts x
    ∷ nexts y
    ∷ nexts z
    ∷ lookups 1
    ∷ searches 1 9 y
    ∷ searches 0 9 z
    ∷ searches 0 1 z
    ∷ worsts
    ∷ rows (replicate 3 (bucket n n (pos n) (pos n)))
    ∷ saves (replicate 40 n)
    ∷ loads (in_order (Base 2)) 0 (replicate 13 (pos n))
    ∷ lookups 0
    ∷ lookups 3
    ∷ nexts z
    ∷ worsts
    ∷ rows (replicate 2 (bucket n n (pos n) (pos n)))
    ∷ opens (in_order (Steps 1)) (replicate 12 (pos n))
    ∷ loads (in_order (Steps 1)) 0 (replicate 13 (pos n))
    ∷ []

-- what a lookup finds: level, error, least and largest
abbrev at_level : ℤ → ℕ → ℤ → ℤ → Verdict Found
at_level level error least largest = Ok (record { level = level; error = error; least = least; largest = largest })

-- by level, least and largest of the first bucket and the reading of the second
abbrev pub told : ℤ → ℤ → ℤ → ℤ → List Answer
told level least largest last =
    traced (Ok (now (of_base 2) 0 0 0))
    ∷ traced (Ok (now (of_base 2) 1 1 1))
    ∷ traced (Ok (now (of_base 2) 2 1 2))
    ∷ traced (Ok (now (of_base 2) 2 1 3))
    ∷ shown (at_level level 2 least largest)
    ∷ pointed (hit 0 0)
    ∷ pointed (hit 1 2)
    ∷ pointed (Ok None)
    ∷ measured (Ok 2)
    ∷ drawn (Ok 2) (bucket 0 2 least largest ∷ bucket 2 1 last last ∷ [])
    ∷ filed (Ok 2)
    ∷ traced (Ok (now (of_base 2) 2 1 3))
    ∷ shown (at_level level 2 least largest)
    ∷ shown (Err Refusal.Absent)
    ∷ traced (Ok (now (of_base 2) 2 1 4))
    ∷ measured (Ok 2)
    ∷ drawn (Ok 2) (bucket 0 2 least largest ∷ bucket 2 2 last last ∷ [])
    ∷ traced (Ok (now (of_base 2) 0 0 0))
    ∷ traced (Ok (now (of_base 2) 2 1 3))
    ∷ []

-- ---- late

-- a refusal of each call among them; what was saved first is loaded with other settings, goes on to a merge, and is loaded again behind two files
abbrev pub late_calls : ℕ → ℤ → ℤ → List Call
late_calls n x y =
    worsts
    ∷ searches 0 9 x
    ∷ opens (gappy (Steps 2) 3) (replicate 32 (pos n))
    ∷ lates 5 x
    ∷ lates 5 y
    ∷ nexts y
    ∷ saves (replicate 16 n)
    ∷ lates 3 y
    ∷ opens (in_order (Steps 1)) []
    ∷ saves []
    ∷ rows []
    ∷ searches 3 5 y
    ∷ searches 4 5 x
    ∷ searches 4 4 x
    ∷ searches 9 16777216 x
    ∷ saves (replicate 40 n)
    ∷ loads (gappy (Steps 1) 2) 0 []
    ∷ lookups 5
    ∷ loads (gappy (Steps 1) 2) 1 (replicate 20 (pos n))
    ∷ lookups 3
    ∷ lookups 5
    ∷ lates 6 y
    ∷ lates 7 x
    ∷ lates 8 x
    ∷ saves (replicate 48 n)
    ∷ loads (gappy (Steps 1) 2) 2 (replicate 20 (pos n))
    ∷ []

-- by the first reading
abbrev pub told_late : ℤ → List Answer
told_late x =
    measured (Err Refusal.Unsound)
    ∷ pointed (Err Refusal.Unsound)
    ∷ traced (Ok (now (gappy_base 4 3) 0 0 0))
    ∷ traced (Ok (now (gappy_base 4 3) 1 1 1))
    ∷ traced (Err Refusal.Taken)
    ∷ traced (Err Refusal.Kind)
    ∷ filed (Ok 1)
    ∷ traced (Ok (now (gappy_base 4 3) 2 2 2))
    ∷ traced (Err Refusal.Room)
    ∷ filed (Err Refusal.Short)
    ∷ drawn (Err Refusal.Short) []
    ∷ pointed (hit 0 3)
    ∷ pointed (hit 1 5)
    ∷ pointed (Ok None)
    ∷ pointed (Err Refusal.Tick)
    ∷ filed (Ok 2)
    ∷ traced (Err Refusal.Room)
    ∷ shown (at_level x 0 x x)
    ∷ traced (Ok (now (gappy_base 2 2) 1 1 1))
    ∷ shown (Err Refusal.Absent)
    ∷ shown (at_level x 0 x x)
    ∷ traced (Ok (now (gappy_base 2 2) 2 1 2))
    ∷ traced (Ok (now (gappy_base 2 2) 3 1 3))
    ∷ traced (Ok (now (gappy_base 2 2) 3 1 4))
    ∷ filed (Ok 3)
    ∷ traced (Ok (now (gappy_base 2 2) 1 1 1))
    ∷ []

-- ---- many readings at one call

-- refused before the first open; then the readings of above at one call, none at all, and one for the other kind; then a late trace: the third of four is at a tick that is held, and the fourth, which would be taken, is not looked at; behind that two ticks with three readings, the third of which has no tick and is not looked at
abbrev pub many_calls : ℕ → ℤ → ℤ → ℤ → List Call
many_calls n x y z =
    nexts_many (x ∷ [])
    ∷ opens (in_order (Steps 1)) (replicate 12 (pos n))
    ∷ nexts_many (x ∷ y ∷ z ∷ [])
    ∷ lookups 1
    ∷ nexts_many []
    ∷ lates_many (7 ∷ []) (z ∷ [])
    ∷ opens (gappy (Steps 1) 2) (replicate 20 (pos n))
    ∷ lates_many (5 ∷ 4 ∷ 5 ∷ 3 ∷ []) (y ∷ x ∷ z ∷ z ∷ [])
    ∷ lates_many (6 ∷ 7 ∷ []) (z ∷ z ∷ x ∷ [])
    ∷ rows (replicate 3 (bucket n n (pos n) (pos n)))
    ∷ nexts_many (x ∷ y ∷ [])
    ∷ []

-- by level, least and largest of the first two readings, and the last
abbrev pub told_many : ℤ → ℤ → ℤ → ℤ → List Answer
told_many level least largest last =
    reached (now (of_base 2) 0 0 0) 0 (some Refusal.Unsound)
    ∷ traced (Ok (now (of_base 2) 0 0 0))
    ∷ reached (now (of_base 2) 2 1 3) 3 none
    ∷ shown (at_level level 2 least largest)
    ∷ reached (now (of_base 2) 2 1 3) 0 none
    ∷ reached (now (of_base 2) 2 1 3) 0 (some Refusal.Kind)
    ∷ traced (Ok (now (gappy_base 2 2) 0 0 0))
    ∷ reached (now (gappy_base 2 2) 2 1 2) 2 (some Refusal.Taken)
    ∷ reached (now (gappy_base 2 2) 3 1 4) 2 none
    ∷ drawn (Ok 3) (bucket 4 1 least least ∷ bucket 5 1 largest largest ∷ bucket 6 2 last last ∷ [])
    ∷ reached (now (gappy_base 2 2) 3 1 4) 0 (some Refusal.Kind)
    ∷ []

-- ---- files from elsewhere

-- tick 0 with a reading of these bytes, and a record that breaks a rule, of others; then a byte that is no record
abbrev pub given : List ℕ → List ℕ → List (List ℕ)
given v w = (replicate 4 0 ++ (1 ∷ 0 ∷ 0 ∷ 0 ∷ []) ++ v ++ v ++ replicate 8 0 ++ w ++ w) ∷ (1 ∷ []) ∷ []

-- -3 and 0, 998 and 1,001
abbrev pub files : List (List ℕ)
files = given (253 ∷ 255 ∷ 255 ∷ 255 ∷ []) (0 ∷ 0 ∷ 0 ∷ 0 ∷ [])

abbrev pub files_moved : List (List ℕ)
files_moved = given (230 ∷ 3 ∷ 0 ∷ 0 ∷ []) (233 ∷ 3 ∷ 0 ∷ 0 ∷ [])

abbrev pub file_calls : List Call
file_calls = loads (in_order (Steps 1)) 0 (replicate 12 (pos 7)) ∷ loads (in_order (Steps 1)) 1 (replicate 12 (pos 7)) ∷ []

abbrev pub told_files : List Answer
told_files = traced (Err (Refusal.Record 1)) ∷ traced (Err Refusal.Length) ∷ []

-- ---- recordings

-- records by the bytes of three readings: at 32,768, at 32,769 over the wrap, again at 32,768, which is refused, and at 32,772; then a rest
abbrev pub recording : List ℕ → List ℕ → List ℕ → List ℕ → List ℕ
recording u v w rest = 255 ∷ 255 ∷ u ++ (0 ∷ 0 ∷ v ++ (255 ∷ 255 ∷ w ++ (3 ∷ 0 ∷ w ++ rest)))

-- -3, 0 and 50
abbrev pub recorded : List ℕ → List ℕ
recorded rest = recording (253 ∷ 255 ∷ 255 ∷ 255 ∷ []) (0 ∷ 0 ∷ 0 ∷ 0 ∷ []) (50 ∷ 0 ∷ 0 ∷ 0 ∷ []) rest

-- 998, 1,001 and 1,051
abbrev pub recorded_moved : List ℕ → List ℕ
recorded_moved rest = recording (230 ∷ 3 ∷ 0 ∷ 0 ∷ []) (233 ∷ 3 ∷ 0 ∷ 0 ∷ []) (27 ∷ 4 ∷ 0 ∷ 0 ∷ []) rest

-- with C = 1 and K = 2: three records are accepted; late readings go on from there, and past two replays that are refused; a replay of no records takes the trace's place, and what was saved is loaded
abbrev pub replay_calls : ℕ → (List ℕ → List ℕ) → ℤ → List Call
replay_calls n r z =
    replays (Base 1) 2 1 (r []) (replicate 16 (pos n))
    ∷ lookups 32768
    ∷ lookups 32772
    ∷ lates 32770 z
    ∷ replays (Base 1) 2 1 (r (1 ∷ [])) (replicate 16 (pos n))
    ∷ replays (Base 1) 2 1 (r []) (replicate 15 (pos n))
    ∷ lates 32769 z
    ∷ lookups 32769
    ∷ lates 32771 z
    ∷ rows (replicate 4 (bucket n n (pos n) (pos n)))
    ∷ saves (replicate 64 n)
    ∷ replays (Steps 1) 1 1 [] (replicate 16 (pos n))
    ∷ lookups 32768
    ∷ loads (gappy (Base 1) 2) 0 (replicate 16 (pos n))
    ∷ []

-- by level, least and largest of the first two readings, and the last
abbrev pub told_replay : ℤ → ℤ → ℤ → ℤ → List Answer
told_replay level least largest last =
    recounted (Ok (now (gappy_base 1 2) 3 2 3, 3, 1))
    ∷ shown (at_level least 0 least least)
    ∷ shown (at_level last 0 last last)
    ∷ traced (Ok (now (gappy_base 1 2) 3 2 4))
    ∷ recounted (Err Refusal.Length)
    ∷ recounted (Err Refusal.Room)
    ∷ traced (Err Refusal.Taken)
    ∷ shown (at_level level 2 least largest)
    ∷ traced (Ok (now (gappy_base 1 2) 2 1 5))
    ∷ drawn (Ok 2) (bucket 32768 2 least largest ∷ bucket 32770 3 last last ∷ [])
    ∷ filed (Ok 2)
    ∷ recounted (Ok (now (gappy_base 2 1) 0 0 0, 0, 0))
    ∷ shown (Err Refusal.Absent)
    ∷ traced (Ok (now (gappy_base 1 2) 2 1 5))
    ∷ []

-- ---- editions

-- with B = 1, a reading four times in edition 2; edition 3 is refused, and what was saved goes on in edition 1; edition 0 is refused
abbrev pub edition_calls : ℕ → ℤ → List Call
edition_calls n x =
    opens (edited 2 (in_order (Steps 1))) (replicate 12 (pos n))
    ∷ nexts_many (x ∷ x ∷ x ∷ x ∷ [])
    ∷ rows (replicate 2 (bucket n n (pos n) (pos n)))
    ∷ opens (edited 3 (in_order (Steps 1))) (replicate 12 (pos n))
    ∷ saves (replicate 32 n)
    ∷ loads (in_order (Steps 1)) 0 (replicate 12 (pos n))
    ∷ nexts x
    ∷ rows (replicate 2 (bucket n n (pos n) (pos n)))
    ∷ replays (Base 1) 2 0 [] (replicate 16 (pos n))
    ∷ []

abbrev pub told_edition : ℤ → List Answer
told_edition x =
    traced (Ok (now (second (of_base 2)) 0 0 0))
    ∷ reached (now (second (of_base 2)) 2 1 4) 4 none
    ∷ drawn (Ok 2) (bucket 0 2 x x ∷ bucket 2 2 x x ∷ [])
    ∷ traced (Err Refusal.Edition)
    ∷ filed (Ok 2)
    ∷ traced (Ok (now (of_base 2) 2 1 4))
    ∷ traced (Ok (now (of_base 2) 2 1 5))
    ∷ drawn (Ok 2) (bucket 0 4 x x ∷ bucket 4 1 x x ∷ [])
    ∷ recounted (Err Refusal.Edition)
    ∷ []

-- one reading, by each of the calls that feed one or many
abbrev pub ends : ℤ → List Call
ends v = nexts v ∷ lates 9 v ∷ nexts_many (v ∷ []) ∷ lates_many (9 ∷ []) (v ∷ []) ∷ []

pub record ByHand : Type 0 where
  pub near_ground : answers (fresh []) (calls 7 (negsuc 2) (pos 0) (pos 50)) ≡ told (negsuc 1) (negsuc 2) (pos 0) (pos 50)
  pub with_offset : answers (fresh []) (calls 9 (pos 998) (pos 1001) (pos 1051)) ≡ told (pos 999) (pos 998) (pos 1001) (pos 1051)
  pub late_near_ground : answers (fresh []) (late_calls 7 (negsuc 2) (pos 50)) ≡ told_late (negsuc 2)
  pub late_with_offset : answers (fresh []) (late_calls 9 (pos 998) (pos 1051)) ≡ told_late (pos 998)
  pub many_near_ground : answers (fresh []) (many_calls 7 (negsuc 2) (pos 0) (pos 50)) ≡ told_many (negsuc 1) (negsuc 2) (pos 0) (pos 50)
  pub many_with_offset : answers (fresh []) (many_calls 9 (pos 998) (pos 1001) (pos 1051)) ≡ told_many (pos 999) (pos 998) (pos 1001) (pos 1051)
  pub files_near_ground : answers (fresh files) file_calls ≡ told_files
  pub files_with_offset : answers (fresh files_moved) file_calls ≡ told_files
  pub replay_near_ground : answers (fresh []) (replay_calls 7 recorded (pos 50)) ≡ told_replay (negsuc 1) (negsuc 2) (pos 0) (pos 50)
  pub replay_with_offset : answers (fresh []) (replay_calls 9 recorded_moved (pos 1051)) ≡ told_replay (pos 999) (pos 998) (pos 1001) (pos 1051)
  pub edition_near_ground : answers (fresh []) (edition_calls 7 (negsuc 2)) ≡ told_edition (negsuc 2)
  pub edition_with_offset : answers (fresh []) (edition_calls 9 (pos 998)) ≡ told_edition (pos 998)
  -- the tally counts readings and merges, and neither an open nor a load nor a replay changes it
  pub tallied : (after (fresh []) (calls 7 (negsuc 2) (pos 0) (pos 50))).tally ≡ record { accepted = 4; refused = 0; merges = 2 }
  pub late_tallied : (after (fresh []) (late_calls 7 (negsuc 2) (pos 50))).tally ≡ record { accepted = 5; refused = 2; merges = 1 }
  pub many_tallied : (after (fresh []) (many_calls 7 (negsuc 2) (pos 0) (pos 50))).tally ≡ record { accepted = 7; refused = 4; merges = 2 }
  pub replay_tallied : (after (fresh []) (replay_calls 7 recorded (pos 50))).tally ≡ record { accepted = 2; refused = 1; merges = 3 }
  -- the promise speaks of these callers, who have rooms and outputs of their own
  pub calls_higher : AllHigher (pos 1001) (calls 7 (negsuc 2) (pos 0) (pos 50)) (calls 9 (pos 998) (pos 1001) (pos 1051))
  pub late_higher : AllHigher (pos 1001) (late_calls 7 (negsuc 2) (pos 50)) (late_calls 9 (pos 998) (pos 1051))
  pub many_higher : AllHigher (pos 1001) (many_calls 7 (negsuc 2) (pos 0) (pos 50)) (many_calls 9 (pos 998) (pos 1001) (pos 1051))
  pub replay_higher : AllHigher (pos 1001) (replay_calls 7 recorded (pos 50)) (replay_calls 9 recorded_moved (pos 1051))
  pub edition_higher : AllHigher (pos 1001) (edition_calls 7 (negsuc 2)) (edition_calls 9 (pos 998))
  pub no_files : FilesMoved (pos 1001) [] []
  pub moved_files : FilesMoved (pos 1001) files files_moved
  -- with its readings 1,001 more the first recording is the second, a rest of one byte kept
  pub recording_raised : raised (pos 1001) (recorded (1 ∷ [])) ≡ recorded_moved (1 ∷ [])
  -- and d may be as far as the range is wide, either way
  pub far_up : AllHigher (pos 4294967295) (ends (negsuc 2147483647)) (ends (pos 2147483647))
  pub far_down : AllHigher (negsuc 4294967294) (ends (pos 2147483647)) (ends (negsuc 2147483647))
