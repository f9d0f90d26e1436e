-- The traces worked by hand in document 01, H1 to H12 (H6 and H7 with their levels rounded down), as one table: what the calls answer and leave in a room of one number more than is needed; and beyond them odd tables, the bounds of B and C and the editions in no room, and traces of which each edition leaves other buckets.
use Rattle.std.specs.Prelude.{ℕ, ◌*◌, suc, ◌≡◌, List, [], ◌∷◌, ◌++◌, ℤ, pos, negsuc, replicate, Ok, Err}
use Rattle.rule.specs.declared.Bucket.{Bucket}
use Rattle.rule.specs.declared.Kind.TheVariants.{InOrder, Late}
use Rattle.rule.specs.declared.Opening.{Opening}
use Rattle.rule.specs.declared.Settings.{Settings}
use Rattle.rule.specs.declared.Size.{Size}
use Rattle.rule.specs.declared.Size.TheVariants.{Steps, Base}
use Rattle.rule.specs.declared.State.{State}
use Rattle.rule.specs.declared.Refusal.{Refusal}
use Rattle.rule.specs.Numbers.{slot_width}
use Rattle.rule.specs.Answers.{number}
use Rattle.rule.specs.Bucket.{level, error}
use Rattle.rule.specs.Table.{Table, needed, worst}
use Rattle.rule.specs.Room.{table_of}
use Rattle.rule.specs.Bytes.{record_at, saved_record}
use Rattle.rule.specs.Calls.{Verdict, kept, opened, next_outcome, late_outcome, save_outcome}

-- a trace between two calls: the last answer, and the room
abbrev pub Now : Type 0
Now = Verdict State × List ℤ

-- a reading for a late trace
abbrev pub Named : Type 0
Named = ℕ × ℤ

abbrev pub in_order : Size → Opening
in_order z = record { kind = InOrder; size = z; gaps = 0; edition = 1 }

abbrev pub gappy : Size → ℕ → Opening
gappy z k = record { kind = Late; size = z; gaps = k; edition = 1 }

-- what is kept of them
abbrev pub of_base : ℕ → Settings
of_base c = record { kind = InOrder; base = c; gaps = 0; edition = 1 }

abbrev pub gappy_base : ℕ → ℕ → Settings
gappy_base c k = record { kind = Late; base = c; gaps = k; edition = 1 }

-- the same with another edition
abbrev pub edited : ℕ → Opening → Opening
edited e o = record { kind = o.kind; size = o.size; gaps = o.gaps; edition = e }

abbrev pub second : Settings → Settings
second s = record { kind = s.kind; base = s.base; gaps = s.gaps; edition = 2 }

-- opened in a room of sevens
unfoldable pub start : Opening → Now
start o = opened o (replicate (suc (slot_width * needed (kept o))) (pos 7))

-- the readings fed one by one; a refusal ends it
unfoldable pub feed_to : List ℤ → Verdict State → List ℤ → Now
feed_to [] v l = (v, l)
feed_to (x ∷ xs) (Err r) l = (Err r, l)
feed_to (x ∷ xs) (Ok s) l = feed_to xs (next_outcome s l x).0 (next_outcome s l x).1

unfoldable pub feed : List ℤ → Now → Now
feed xs n = feed_to xs n.0 n.1

unfoldable pub feed_late_to : List Named → Verdict State → List ℤ → Now
feed_late_to [] v l = (v, l)
feed_late_to (x ∷ xs) (Err r) l = (Err r, l)
feed_late_to (x ∷ xs) (Ok s) l = feed_late_to xs (late_outcome s l x.0 x.1).0 (late_outcome s l x.0 x.1).1

unfoldable pub feed_late : List Named → Now → Now
feed_late xs n = feed_late_to xs n.0 n.1

-- accepted, with these buckets first, and so many slots behind them zeros, before the seven
unfoldable pub leaves : Settings → Table → ℕ → ℕ → ℕ → ℕ → Now
leaves s t used runs readings free =
    (Ok (record { settings = s; used = used; runs = runs; readings = readings }), numbers_of t ++ (replicate (slot_width * free) (pos 0) ++ (pos 7 ∷ [])))
  where
    numbers_of : Table → List ℤ
    numbers_of [] = []
    numbers_of (b ∷ t) = pos b.start ∷ pos b.count ∷ b.least ∷ b.largest ∷ numbers_of t

abbrev pub bucket : ℕ → ℕ → ℤ → ℤ → Bucket
bucket start count least largest = record { start = start; count = count; least = least; largest = largest }

-- the greatest error of the buckets that a call left
unfoldable pub worst_to : Verdict State → List ℤ → ℕ
worst_to (Err r) l = 0
worst_to (Ok s) l = worst (table_of s l)

abbrev pub worst_of : Now → ℕ
worst_of n = worst_to n.0 n.1

unfoldable pub saves : Now → List ℕ → Verdict ℕ × List ℕ
saves n out = saves_to n.0
  where
    saves_to : Verdict State → Verdict ℕ × List ℕ
    saves_to (Err r) = (Err r, out)
    saves_to (Ok s) = save_outcome s n.1 out

-- the late trace of the listing, and it with one reading more
abbrev pub listed : Now
listed = leaves (gappy_base 2 2) (bucket 0 3 (pos 1) (pos 4) ∷ bucket 3 2 (pos 8) (pos 9) ∷ bucket 5 2 (pos 2) (pos 3) ∷ []) 3 1 7 2

abbrev pub lengthened : Now
lengthened =
    leaves (gappy_base 2 2)
    (bucket 0 3 (pos 1) (pos 4) ∷ bucket 3 2 (pos 8) (pos 9) ∷ bucket 5 2 (pos 2) (pos 3) ∷ bucket 8 1 (pos 0) (pos 0) ∷ []) 4 2 8 1

-- equal readings, late: four ticks and two behind a gap; and two and two with a tick between them, which comes last
abbrev pub flat_late : List Named
flat_late = (0, pos 5) ∷ (1, pos 5) ∷ (2, pos 5) ∷ (3, pos 5) ∷ (10, pos 5) ∷ (9, pos 5) ∷ []

abbrev pub flat_closed : List Named
flat_closed = (0, pos 5) ∷ (1, pos 5) ∷ (3, pos 5) ∷ (4, pos 5) ∷ (2, pos 5) ∷ []

-- 0x00010203, 0x00040506, minus 0x00010203, 0x01020304
abbrev pub unlike : Bucket
unlike = bucket 66051 263430 (negsuc 66050) (pos 16909060)

abbrev pub unlike_bytes : List ℕ
unlike_bytes = 3 ∷ 2 ∷ 1 ∷ 0 ∷ 6 ∷ 5 ∷ 4 ∷ 0 ∷ 253 ∷ 253 ∷ 254 ∷ 255 ∷ 4 ∷ 3 ∷ 2 ∷ 1 ∷ []

pub record ByHand : Type 0 where
  pub h1 : start (in_order (Steps 1)) ≡ leaves (of_base 2) [] 0 0 0 3
  pub h1_worst : worst_of (start (in_order (Steps 1))) ≡ 0
  pub h2 : feed (pos 1 ∷ pos 4 ∷ pos 2 ∷ pos 9 ∷ []) (start (in_order (Steps 1))) ≡ leaves (of_base 2) (bucket 0 3 (pos 1) (pos 4) ∷ bucket 3 1 (pos 9) (pos 9) ∷ []) 2 1 4 1
  pub h3 : feed (pos 0 ∷ pos 1 ∷ pos 2 ∷ []) (start (in_order (Steps 1))) ≡ leaves (of_base 2) (bucket 0 2 (pos 0) (pos 1) ∷ bucket 2 1 (pos 2) (pos 2) ∷ []) 2 1 3 1
  pub h4 : feed (pos 5 ∷ pos 5 ∷ pos 5 ∷ []) (start (in_order (Steps 1))) ≡ leaves (of_base 2) (bucket 0 2 (pos 5) (pos 5) ∷ bucket 2 1 (pos 5) (pos 5) ∷ []) 2 1 3 1
  pub h5 : feed (pos 0 ∷ pos 5 ∷ pos 9 ∷ pos 14 ∷ pos 18 ∷ []) (start (in_order (Steps 2))) ≡ leaves (of_base 4) (bucket 0 1 (pos 0) (pos 0) ∷ bucket 1 2 (pos 5) (pos 9) ∷ bucket 3 1 (pos 14) (pos 14) ∷ bucket 4 1 (pos 18) (pos 18) ∷ []) 4 1 5 1
  pub h5_worst : worst_of (feed (pos 0 ∷ pos 5 ∷ pos 9 ∷ pos 14 ∷ pos 18 ∷ []) (start (in_order (Steps 2)))) ≡ 2
  pub h6_level : level (bucket 0 2 (negsuc 2) (pos 0)) ≡ negsuc 1
  pub h6_error : error (bucket 0 2 (negsuc 2) (pos 0)) ≡ 2
  pub h7_level : level (bucket 0 2 (negsuc 2147483647) (pos 2147483647)) ≡ negsuc 0
  pub h7_error : error (bucket 0 2 (negsuc 2147483647) (pos 2147483647)) ≡ 2147483648
  pub h8 : feed_late ((0, pos 1) ∷ (1, pos 4) ∷ (2, pos 2) ∷ (3, pos 9) ∷ (6, pos 2) ∷ (5, pos 3) ∷ (4, pos 8) ∷ []) (start (gappy (Steps 1) 2)) ≡ listed
  pub h8_worst : worst_of listed ≡ 2
  pub h9 : feed_late ((0, pos 1) ∷ (2, pos 5) ∷ (1, pos 9) ∷ []) (start (gappy (Steps 1) 2)) ≡ leaves (gappy_base 2 2) (bucket 0 1 (pos 1) (pos 1) ∷ bucket 1 1 (pos 9) (pos 9) ∷ bucket 2 1 (pos 5) (pos 5) ∷ []) 3 1 3 2
  pub h10 : feed_late ((5, pos 7) ∷ []) listed ≡ (Err Refusal.Taken, listed.1)
  pub h10_number : number Refusal.Taken ≡ 11
  pub h11 : feed_late ((8, pos 0) ∷ []) listed ≡ lengthened
  pub h11_refused : feed_late ((10, pos 0) ∷ []) lengthened ≡ (Err Refusal.Runs, lengthened.1)
  pub h11_number : number Refusal.Runs ≡ 9
  pub h12 : saves (feed_late ((3, negsuc 1) ∷ []) (start (gappy (Steps 1) 1))) (replicate 17 7) ≡ (Ok 1, 3 ∷ 0 ∷ 0 ∷ 0 ∷ 1 ∷ 0 ∷ 0 ∷ 0 ∷ 254 ∷ 255 ∷ 255 ∷ 255 ∷ 254 ∷ 255 ∷ 255 ∷ 255 ∷ 7 ∷ [])
  -- beyond document 01's own: a record in which each byte tells its place, so that no two fields or bytes can be exchanged
  pub every_byte : saved_record unlike ≡ unlike_bytes
  pub every_byte_read : record_at unlike_bytes 0 ≡ unlike
  -- odd tables: C is 1 and 3 in order, and 1 late with two runs and then one
  pub one_step : feed (negsuc 1 ∷ negsuc 5 ∷ []) (start (in_order (Base 1))) ≡ leaves (of_base 1) (bucket 0 2 (negsuc 5) (negsuc 1) ∷ []) 1 1 2 1
  pub three_steps : feed (pos 7 ∷ pos 0 ∷ negsuc 6 ∷ pos 0 ∷ pos 3 ∷ pos 9 ∷ []) (start (in_order (Base 3)))
      ≡ leaves (of_base 3) (bucket 0 2 (pos 0) (pos 7) ∷ bucket 2 1 (negsuc 6) (negsuc 6) ∷ bucket 3 3 (pos 0) (pos 9) ∷ []) 3 1 6 1
  pub one_and_the_runs : feed_late ((0, pos 1) ∷ (2, pos 5) ∷ []) (start (gappy (Base 1) 2)) ≡ leaves (gappy_base 1 2) (bucket 0 1 (pos 1) (pos 1) ∷ bucket 2 1 (pos 5) (pos 5) ∷ []) 2 2 2 2
  pub one_and_a_run : feed_late ((0, pos 1) ∷ (2, pos 5) ∷ (1, pos 9) ∷ []) (start (gappy (Base 1) 2)) ≡ leaves (gappy_base 1 2) (bucket 0 1 (pos 1) (pos 1) ∷ bucket 1 2 (pos 5) (pos 9) ∷ []) 2 1 3 2
  -- B and C at their bounds, and a B that is good in 64 bits once it is doubled: in an empty room what is not refused by 1 is refused by 3
  pub no_size : opened (in_order (Steps 0)) [] ∷ opened (in_order (Steps 257)) [] ∷ opened (in_order (Base 0)) [] ∷ opened (in_order (Base 513)) [] ∷ opened (in_order (Steps 9223372036854775809)) [] ∷ []
      ≡ replicate 5 (Err Refusal.Steps, [])
  pub a_size : opened (in_order (Steps 1)) [] ∷ opened (in_order (Steps 256)) [] ∷ opened (in_order (Base 1)) [] ∷ opened (in_order (Base 512)) [] ∷ [] ≡ replicate 4 (Err Refusal.Room, [])
  -- the editions where they differ. Of four equal readings the first swallows the left side; late so do the ticks before a gap, where the second merges the two behind it
  pub flat_first : feed (replicate 4 (pos 5)) (start (in_order (Steps 1))) ≡ leaves (of_base 2) (bucket 0 3 (pos 5) (pos 5) ∷ bucket 3 1 (pos 5) (pos 5) ∷ []) 2 1 4 1
  pub flat_second : feed (replicate 4 (pos 5)) (start (edited 2 (in_order (Steps 1)))) ≡ leaves (second (of_base 2)) (bucket 0 2 (pos 5) (pos 5) ∷ bucket 2 2 (pos 5) (pos 5) ∷ []) 2 1 4 1
  pub late_first : feed_late flat_late (start (gappy (Base 1) 2)) ≡ leaves (gappy_base 1 2) (bucket 0 4 (pos 5) (pos 5) ∷ bucket 9 1 (pos 5) (pos 5) ∷ bucket 10 1 (pos 5) (pos 5) ∷ []) 3 2 6 1
  pub late_second : feed_late flat_late (start (edited 2 (gappy (Base 1) 2))) ≡ leaves (second (gappy_base 1 2)) (bucket 0 2 (pos 5) (pos 5) ∷ bucket 2 2 (pos 5) (pos 5) ∷ bucket 9 2 (pos 5) (pos 5) ∷ []) 3 2 6 1
  -- a run closes, and two merges are made
  pub closed_first : feed_late flat_closed (start (gappy (Base 1) 2)) ≡ leaves (gappy_base 1 2) (bucket 0 4 (pos 5) (pos 5) ∷ bucket 4 1 (pos 5) (pos 5) ∷ []) 2 1 5 2
  pub closed_second : feed_late flat_closed (start (edited 2 (gappy (Base 1) 2))) ≡ leaves (second (gappy_base 1 2)) (bucket 0 2 (pos 5) (pos 5) ∷ bucket 2 3 (pos 5) (pos 5) ∷ []) 2 1 5 2
  -- the smaller spread before the fewest ticks, and of equal ticks the lowest start
  pub spread_before_ticks : feed (pos 5 ∷ pos 5 ∷ pos 5 ∷ pos 9 ∷ []) (start (edited 2 (in_order (Steps 1)))) ≡ leaves (second (of_base 2)) (bucket 0 3 (pos 5) (pos 5) ∷ bucket 3 1 (pos 9) (pos 9) ∷ []) 2 1 4 1
  pub start_among_equal_ticks : feed (replicate 3 (pos 5)) (start (edited 2 (in_order (Steps 1)))) ≡ leaves (second (of_base 2)) (bucket 0 2 (pos 5) (pos 5) ∷ bucket 2 1 (pos 5) (pos 5) ∷ []) 2 1 3 1
  -- other numbers are refused before a bad B: 0, 3, 2 to the 63, and 2 to the 32 and one
  pub no_edition : opened (edited 0 (in_order (Steps 0))) [] ∷ opened (edited 3 (in_order (Steps 0))) [] ∷ opened (edited 9223372036854775808 (in_order (Steps 0))) [] ∷ opened (edited 4294967297 (in_order (Steps 0))) [] ∷ []
      ≡ replicate 4 (Err Refusal.Edition, [])
  pub an_edition : opened (edited 1 (in_order (Steps 0))) [] ∷ opened (edited 2 (in_order (Steps 0))) [] ∷ [] ≡ replicate 2 (Err Refusal.Steps, [])
  pub edition_number : number Refusal.Edition ≡ 16
