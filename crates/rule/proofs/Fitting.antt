-- Buckets whose numbers lie in their fields' ranges, and what a union, an insertion and a merge keep of them.
use Prim.Native.Nat.{ℕ, zero, suc, ◌+◌, ◌<◌}
use mathlib.Core.List.{[], ◌∷◌, ◌++◌}
use native.Mathlib.Omega.{arith}
use lib.Dec.{ltb}
use lib.IntN.{ℤ}
use lib.ListN.{take, drop}
use lib.Signed.{le_z}
use mir.Syntax.{w32}
use mir.Val.{SFits}
use Rattle.rule.specs.declared.Bucket.{Bucket}
use Rattle.rule.specs.Bucket.{larger, lesser, union}
use Rattle.rule.specs.Numbers.{word}
use Rattle.rule.specs.Table.{Table, insert, merge_at, readings}
use Rattle.rule.proofs.Whole.{cond_ind}

pub record Fitting (b : Bucket) : Type 0 where
  pub start : b.start < word
  pub count : b.count < word
  pub least : SFits w32 b.least
  pub largest : SFits w32 b.largest

unfoldable pub Fitted : Table → Type 0
Fitted [] = Unit {0}
Fitted (b ∷ t) = Fitting b × Fitted t

pub lesser_fits : {a b : ℤ} → SFits w32 a → SFits w32 b → SFits w32 (lesser a b)
unfolding lesser
lesser_fits {a} {b} f g = cond_ind (le_z a b) a b (SFits w32) (λ _. f) (λ _. g)

pub larger_fits : {a b : ℤ} → SFits w32 a → SFits w32 b → SFits w32 (larger a b)
unfolding larger
larger_fits {a} {b} f g = cond_ind (le_z a b) b a (SFits w32) (λ _. g) (λ _. f)

pub fitting_union : (a b : Bucket) → Fitting a → Fitting b → a.count + b.count < word → Fitting (union a b)
fitting_union a b f g h =
    record { start = f.start; count = h; least = lesser_fits f.least g.least; largest = larger_fits f.largest g.largest }

pub fitted_merge : (i : ℕ) (t : Table) → Fitted t → readings t < word → Fitted (merge_at i t)
unfolding Fitted merge_at readings
fitted_merge i [] f h = tt
fitted_merge i (a ∷ []) f h = f
fitted_merge zero (a ∷ b ∷ t) f h = (fitting_union a b f.0 f.1.0 (omega arith), f.1.1)
fitted_merge (suc i) (a ∷ b ∷ t) f h = (f.0, fitted_merge i (b ∷ t) f.1 (omega arith))

module _ (b : Bucket) (new : Fitting b) where
  pub fitted_insert : (t : Table) → Fitted t → Fitted (insert b t)
  unfolding Fitted insert
  fitted_insert [] f = (new, tt)
  fitted_insert (a ∷ t) f =
      cond_ind (ltb b.start a.start) (b ∷ a ∷ t) (a ∷ insert b t) Fitted (λ _. (new, f)) (λ _. (f.0, fitted_insert t f.1))

  -- put before the bucket at a place
  pub fitted_place : (i : ℕ) (t : Table) → Fitted t → Fitted (take i t ++ (b ∷ drop i t))
  unfolding Fitted
  fitted_place zero t f = (new, f)
  fitted_place (suc i) [] f = (new, tt)
  fitted_place (suc i) (a ∷ t) f = (f.0, fitted_place i t f.1)
