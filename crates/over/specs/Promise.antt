-- What is promised of the search, in the request's words and numbers.
use Rattle.std.specs.Prelude.{ℕ, suc, ◌+◌, ◌≤◌, ◌<◌, max, ◌≡◌, true, false, cond, ℤ, length, take, Ok, Err, None}
use mathlib.Core.List.{List, [], ◌∷◌, ◌++◌, Memᴰ}
use Rattle.std.specs.Int.Signed.{le_z}
use Rattle.rule.specs.declared.Bucket.{Bucket}
use Rattle.rule.specs.declared.Refusal.{Refusal}
use Rattle.rule.specs.declared.State.{State}
use Rattle.rule.specs.Room.{sound, table_of}
use Rattle.rule.specs.Table.{Table}
use Rattle.over.specs.Search.{over, search_outcome, touches}
use Rattle.rule.specs.Calls.{Verdict}
use Rattle.over.specs.Hits.{Searched, hit}

-- some tick of the range, from first to last, is in the bucket
pub record Shares (first last : ℕ) (b : Bucket) : Type 0 where
  pub tick : ℕ
  pub from_first : first ≤ tick
  pub to_last : tick ≤ last
  pub from_start : b.start ≤ tick
  pub before_end : tick < b.start + b.count

-- and its whole largest reading is at or above the bar
pub record Over (first last : ℕ) (bar : ℤ) (b : Bucket) : Type 0 where
  pub shares : Shares first last b
  pub reaches : le_z bar b.largest ≡ true

-- such a bucket, with its index from 0 and its start
pub record Hit (first last : ℕ) (bar : ℤ) (t : Table) (index start : ℕ) : Type 0 where
  pub front : Table
  pub bucket : Bucket
  pub back : Table
  pub stands : t ≡ front ++ (bucket ∷ back)
  pub counted : index ≡ length front
  pub begins : start ≡ bucket.start
  pub over : Over first last bar bucket

-- and none before it is one
pub record First (first last : ℕ) (bar : ℤ) (t : Table) (index start : ℕ) : Type 0 where
  pub hit : Hit first last bar t index start
  pub none_before : (b : Bucket) → Memᴰ b hit.front → Over first last bar b → ⊥

-- ---- reading all

-- every hit in turn, by index and start, i being the index of the table's first bucket; no bucket is left unread
unfoldable pub all_over : ℕ → ℕ → ℤ → ℕ → Table → List (ℕ × ℕ)
all_over first last bar i [] = []
all_over first last bar i (b ∷ t) =
    let rest = all_over first last bar (suc i) t in cond (over first last bar b) ((i, b.start) ∷ rest) rest

-- what whoever has read all answers: the first, where there is one
unfoldable pub answer_of : List (ℕ × ℕ) → Searched
answer_of [] = Ok None
answer_of (h ∷ hs) = hit h.0 h.1

-- ---- the promise

pub record Searches : Type 0 where
  -- refused by 4, then by 6 where either end is above the last tick; otherwise answered, as `as_all` says
  pub unsound : (s : State) (l : List ℤ) (first last : ℕ) (bar : ℤ) → sound s l ≡ false → search_outcome s l first last bar ≡ Err Refusal.Unsound
  pub above : (s : State) (l : List ℤ) (first last : ℕ) (bar : ℤ) → sound s l ≡ true → 16777215 < max first last → search_outcome s l first last bar ≡ Err Refusal.Tick
  -- and by nothing else
  pub answered : (s : State) (l : List ℤ) (first last : ℕ) (bar : ℤ) (r : Refusal) → sound s l ≡ true → first ≤ 16777215 → last ≤ 16777215 → search_outcome s l first last bar ≡ Err r → ⊥
  -- a bucket touches the range exactly when some tick of the range is in it
  pub touched : (first last : ℕ) (b : Bucket) → touches first last b ≡ true → Shares first last b
  pub touching : (first last : ℕ) (b : Bucket) → Shares first last b → touches first last b ≡ true
  -- and is over exactly when it does and its largest reading is at or above the bar
  pub over_told : (first last : ℕ) (bar : ℤ) (b : Bucket) → over first last bar b ≡ true → Over first last bar b
  pub over_telling : (first last : ℕ) (bar : ℤ) (b : Bucket) → Over first last bar b → over first last bar b ≡ true
  -- an index and a start are those of the first bucket that is over; and where there is said to be none, there is none
  pub hits : (s : State) (l : List ℤ) (first last : ℕ) (bar : ℤ) (index start : ℕ) → search_outcome s l first last bar ≡ hit index start → First first last bar (table_of s l) index start
  pub misses : (s : State) (l : List ℤ) (first last : ℕ) (bar : ℤ) → search_outcome s l first last bar ≡ (Ok None) → (b : Bucket) → Memᴰ b (table_of s l) → Over first last bar b → ⊥
  -- it answers as reading all would
  pub as_all : (s : State) (l : List ℤ) (first last : ℕ) (bar : ℤ) → sound s l ≡ true → first ≤ 16777215 → last ≤ 16777215
      → search_outcome s l first last bar ≡ answer_of (all_over first last bar 0 (table_of s l))
  -- and reading all leaves no hit out, adds none, and tells each once, those of a lesser index first
  pub every : (t : Table) (first last : ℕ) (bar : ℤ) (index start : ℕ) → Hit first last bar t index start → Memᴰ (index, start) (all_over first last bar 0 t)
  pub only : (t : Table) (first last : ℕ) (bar : ℤ) (index start : ℕ) → Memᴰ (index, start) (all_over first last bar 0 t) → Hit first last bar t index start
  pub in_turn : (t : Table) (first last : ℕ) (bar : ℤ) (front : List (ℕ × ℕ)) (h : ℕ × ℕ) (back : List (ℕ × ℕ)) → all_over first last bar 0 t ≡ front ++ (h ∷ back) → (k : ℕ × ℕ) → Memᴰ k back → h.0 < k.0
  -- the buckets behind the hit play no part: a sound trace with the same buckets up to it, whatever comes then, gets the same answer
  pub behind : (s z : State) (l m : List ℤ) (first last : ℕ) (bar : ℤ) (index start : ℕ) → search_outcome s l first last bar ≡ hit index start
      → sound z m ≡ true → take (suc index) (table_of z m) ≡ take (suc index) (table_of s l) → search_outcome z m first last bar ≡ hit index start
  -- an empty range has no hit
  pub empty : (s : State) (l : List ℤ) (first last : ℕ) (bar : ℤ) → sound s l ≡ true → first ≤ 16777215 → last < first → search_outcome s l first last bar ≡ (Ok None)
