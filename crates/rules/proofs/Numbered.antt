-- The rules asked one by one; and that a bucket begins one run at most.
use Prim.Native.Nat.{ℕ, zero, suc, ◌+◌, ◌≤◌, ◌<◌}
use mathlib.Core.Path.{◌≡◌, refl}
use mathlib.Core.Bool.{Bool, true, false, cond, false≢true}
use mathlib.Core.List.{List, [], ◌∷◌}
use native.Mathlib.Omega.{arith}
use borrow.Author.Count.{below_more, below_none}
use lib.Dec.{eqb}
use lib.ListN.{get_or, length}
use Rattle.rule.specs.declared.Bucket.{Bucket}
use Rattle.rule.specs.declared.Kind.{Kind}
use Rattle.rule.specs.Rules.{broken, first_false, rules}
use Rattle.rule.proofs.Whole.{cond_ind}
use Rattle.rules.specs.Numbered.{meets}

none_false : (i : ℕ) (l : List Bool) (n : ℕ) → first_false (suc i) l ≡ 0 → get_or l n true ≡ true
unfolding first_false
none_false i [] n h = refl
none_false i (true ∷ l) zero h = refl
none_false i (true ∷ l) (suc n) h = none_false (suc i) l n h
none_false i (false ∷ l) n h = absurd (omega arith)

all_true : (i : ℕ) (l : List Bool) → ((n : ℕ) → n < length l → get_or l n true ≡ true) → first_false i l ≡ 0
unfolding first_false
all_true i [] h = refl
all_true i (true ∷ l) h = all_true (suc i) l (λ n p. h (suc n) (omega arith))
all_true i (false ∷ l) h = absurd (false≢true (h 0 (omega arith)))

module _ (k : Kind) (e : ℕ) (b : Bucket) where
  -- those asked, from 1 to the one before n, are met; there is no rule 0 to break
  abbrev pub MetBelow : ℕ → Type 0
  MetBelow n = (n ≤ 6) × ((m : ℕ) → m < n → meets m k e b ≡ true)

  pub none_asked : MetBelow 1
  unfolding meets
  none_asked = (omega arith, below_more _ 0 (below_none _) refl)

  pub met : broken k e b ≡ 0 → (n : ℕ) → meets n k e b ≡ true
  unfolding meets broken
  met h zero = refl
  met h (suc n) = none_false 0 (rules k e b) n h

  pub all_met : (n : ℕ) → 5 < n → MetBelow n → broken k e b ≡ 0
  unfolding meets broken rules
  all_met n h m = all_true 1 (rules k e b) (λ r p. m.1 (suc r) (omega arith))

-- ---- runs

pub at_most_one : (e s : ℕ) → cond (eqb e s) 0 1 ≤ 1
at_most_one e s = cond_ind (eqb e s) 0 1 (λ n. n ≤ 1) (λ h. omega arith) (λ h. omega arith)
