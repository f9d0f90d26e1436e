-- When state and room are sound, in document 01's words and numbers: what refusal 4 is given by.
use Rattle.std.specs.Prelude.{ℕ, ◌+◌, ◌*◌, ◌≤◌, ◌<◌, ◌≡◌, true, false, List, [], ◌∷◌, ◌⊎◌, ℤ, pos, negsuc, get_or, length}
use Rattle.std.specs.Int.Signed.{le_z}
use Rattle.rule.specs.declared.Bucket.{Bucket}
use Rattle.rule.specs.declared.Kind.{Kind}
use Rattle.rule.specs.declared.State.{State}
use Rattle.rule.specs.Calls.{late}
use Rattle.rule.specs.Room.{sound}
use Rattle.rule.specs.Table.{Table, readings, runs}
use Rattle.answered.specs.Answered.{Lawful, most_steps, slots_needed}

-- the four numbers from place p on are the bucket's, each in its field's range
pub record Stands (l : List ℤ) (p : ℕ) (b : Bucket) : Type 0 where
  pub start : get_or l p (pos 0) ≡ pos b.start
  pub count : get_or l (p + 1) (pos 0) ≡ pos b.count
  pub least : get_or l (p + 2) (pos 0) ≡ b.least
  pub largest : get_or l (p + 3) (pos 0) ≡ b.largest
  pub start_range : b.start < 4294967296
  pub count_range : b.count < 4294967296
  pub least_range : (le_z (negsuc 2147483647) b.least ≡ true) × (le_z b.least (pos 2147483647) ≡ true)
  pub largest_range : (le_z (negsuc 2147483647) b.largest ≡ true) × (le_z b.largest (pos 2147483647) ≡ true)

-- so the buckets lie, four numbers to a slot
unfoldable pub Lie : List ℤ → ℕ → Table → Type 0
Lie l p [] = Unit {0}
Lie l p (b ∷ t) = Stands l p b × Lie l (p + 4) t

-- each meets the record rules, e being the end of the one before
unfoldable pub Follow : Kind → ℕ → Table → Type 0
Follow k e [] = Unit {0}
Follow k e (b ∷ t) = Lawful k e b × Follow k (b.start + b.count) t

pub record Whole (s : State) (l : List ℤ) : Type 0 where
  -- the edition is 1 or 2
  pub edition : (s.settings.edition ≡ 1) ⊎ (s.settings.edition ≡ 2)
  -- C and K are in bounds, K is 0 in order
  pub base : (1 ≤ s.settings.base) × (s.settings.base ≤ 512)
  pub gaps_late : late s.settings.kind ≡ true → (1 ≤ s.settings.gaps) × (s.settings.gaps ≤ 256)
  pub gaps_in_order : late s.settings.kind ≡ false → s.settings.gaps ≡ 0
  -- the room is long enough
  pub room : 4 * slots_needed s.settings ≤ length l
  -- the slots in use hold buckets that meet the record rules, at most the limit, with at most K runs, and the three counts are true
  pub buckets : Table
  pub used : s.used ≡ length buckets
  pub lie : Lie l 0 buckets
  pub rules : Follow s.settings.kind 0 buckets
  pub few : s.used ≤ most_steps s.settings s.runs
  pub allowed : late s.settings.kind ≡ true → s.runs ≤ s.settings.gaps
  pub runs : s.runs ≡ runs buckets
  pub readings : s.readings ≡ readings buckets
  -- the unused slots up to the needed number are zeros
  pub zeros : (j : ℕ) → 4 * s.used ≤ j → j < 4 * slots_needed s.settings → get_or l j (pos 1) ≡ pos 0

pub record Soundness : Type 0 where
  pub enough : (s : State) (l : List ℤ) → sound s l ≡ true → Whole s l
  pub no_more : (s : State) (l : List ℤ) → Whole s l → sound s l ≡ true
