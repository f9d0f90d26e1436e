-- The record rules said of a file's bytes: which of its records meet them, and which is the first that breaks one.
use Rattle.std.specs.Prelude.{ℕ, zero, suc, ◌/◌, ◌<◌, ◌≡◌, Bool, true, false, List, length}
use Rattle.rule.specs.declared.Kind.{Kind}
use Rattle.rule.specs.Bucket.{end}
use Rattle.rule.specs.Bytes.{record_at}
use Rattle.rule.specs.Numbers.{record_width}
use Rattle.rule.specs.Room.{all_of}
use Rattle.rule.specs.Rules.{Fault, fault, rules, whole}

-- the end of the record before record i, 0 for the first
unfoldable pub end_before : List ℕ → ℕ → ℕ
end_before file zero = 0
end_before file (suc i) = end (record_at file i)

-- record i of the file meets all rules
unfoldable pub meets : Kind → List ℕ → ℕ → Bool
meets k file i = all_of (rules k (end_before file i) (record_at file i))

-- record i is one of the file's, it breaks a rule, and all before it meet them
pub record FirstBroken (k : Kind) (file : List ℕ) (i : ℕ) : Type 0 where
  pub inside : i < length file / record_width
  pub breaks : meets k file i ≡ false
  pub before : (j : ℕ) → j < i → meets k file j ≡ true

-- what a pass over a file may find
unfoldable pub Finds : Kind → List ℕ → Fault → Type 0
Finds k file whole = (i : ℕ) → i < length file / record_width → meets k file i ≡ true
Finds k file (fault i r) = FirstBroken k file i
