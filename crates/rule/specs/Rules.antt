-- The record rules of document 01 as one numbered list, and the first record that breaks one.
use Rattle.std.specs.Prelude.{ℕ, zero, suc, Bool, true, false, not, ◌&&◌, ◌||◌, List, [], ◌∷◌, eqb, leb, ℤ}
use Rattle.std.specs.Int.Signed.{le_z}
use Rattle.rule.specs.declared.Bucket.{Bucket}
use Rattle.rule.specs.declared.Kind.{Kind}
use Rattle.rule.specs.declared.Kind.TheVariants.{InOrder, Late}
use Rattle.rule.specs.Numbers.{ticks}
use Rattle.rule.specs.Bucket.{end}
use Rattle.rule.specs.Table.{Table}

unfoldable pub equal : ℤ → ℤ → Bool
equal a b = le_z a b && le_z b a

-- where a record may start, e being the end of the one before and 0 for the first: in order there, late not below it
unfoldable pub follows : Kind → ℕ → Bucket → Bool
follows InOrder e b = eqb b.start e
follows Late e b = leb e b.start

-- the rules, from 1
unfoldable pub rules : Kind → ℕ → Bucket → List Bool
rules k e b =
    leb 1 b.count
    ∷ leb (end b) ticks
    ∷ le_z b.least b.largest
    ∷ (not (eqb b.count 1) || equal b.least b.largest)
    ∷ follows k e b
    ∷ []

-- the number of the first that fails, i being that of the list's first; 0 where none does
unfoldable pub first_false : ℕ → List Bool → ℕ
first_false i [] = 0
first_false i (true ∷ l) = first_false (suc i) l
first_false i (false ∷ l) = i

-- the first rule that a record breaks, 0 where it meets all
unfoldable pub broken : Kind → ℕ → Bucket → ℕ
broken k e b = first_false 1 (rules k e b)

-- nothing broken, or the place of the first record that breaks a rule, and which
pub data Fault : Type 0 where
  whole : Fault
  fault : ℕ → ℕ → Fault

unfoldable pub fault_at : ℕ → ℕ → Fault → Fault
fault_at i zero f = f
fault_at i (suc r) f = fault i (suc r)

-- i is the place of the table's first bucket, e the end of the one before it
unfoldable pub first_fault : Kind → ℕ → ℕ → Table → Fault
first_fault k e i [] = whole
first_fault k e i (b ∷ t) = fault_at i (broken k e b) (first_fault k (end b) (suc i) t)

unfoldable pub is_whole : Fault → Bool
is_whole whole = true
is_whole (fault i r) = false

-- the place of the first record that breaks a rule, n where none does
unfoldable pub place_or : ℕ → Fault → ℕ
place_or n whole = n
place_or n (fault i r) = i

-- all records meet the rules
unfoldable pub ruled : Kind → Table → Bool
ruled k t = is_whole (first_fault k 0 0 t)
