-- How large the limit and the needed slots of good settings can be.
use Prim.Native.Nat.{ℕ, ◌+◌, ◌*◌, ◌≤◌, ◌<◌}
use mathlib.Core.Path.{◌≡◌, refl}
use mathlib.Core.Bool.{true}
use native.Mathlib.Omega.{arith}
use borrow.Author.Tests.{le-leb, leb-false, leb-true}
use lib.Dec.{leb}
use Rattle.rule.specs.declared.Kind.{Kind}
use Rattle.rule.specs.declared.Kind.TheVariants.{InOrder, Late}
use Rattle.rule.specs.declared.Settings.{Settings}
use Rattle.rule.specs.declared.Size.{Size}
use Rattle.rule.specs.declared.Size.TheVariants.{Steps, Base}
use Rattle.rule.specs.Calls.{base_of, size_good}
use Rattle.rule.specs.Numbers.{most, most_base}
use Rattle.rule.specs.Room.{base_good, bounded, gaps_good, runs_allowed}
use Rattle.rule.specs.Table.{limit_over, needed}
use Rattle.rule.proofs.Ruling.{and_both, and_left, and_right}
use Rattle.rule.proofs.Whole.{by_test}

-- the most buckets that good settings allow, and the most slots that they need
abbrev pub most_allowed : ℕ
most_allowed = most_base + most

abbrev pub most_needed : ℕ
most_needed = most_allowed + 1

-- what is bounded is 1 to the top
pub bounds : (top n : ℕ) → bounded top n ≡ true → (1 ≤ n) × (n ≤ top)
unfolding bounded
bounds top n h = (leb-true 1 n (and_left (leb 1 n) (leb n top) h), leb-true n top (and_right (leb 1 n) (leb n top) h))

pub in_bounds : (top n : ℕ) → (1 ≤ n) × (n ≤ top) → bounded top n ≡ true
unfolding bounded
in_bounds top n h = and_both (le-leb 1 n h.0) (le-leb n top h.1)

-- the limit grows with the runs, which are at most K
pub limit_gaps : (k : Kind) (base gaps runs : ℕ) → runs_allowed k gaps runs ≡ true → limit_over k base runs ≤ limit_over k base gaps
unfolding runs_allowed limit_over
limit_gaps InOrder base gaps runs h = omega arith
limit_gaps Late base gaps runs h = omega (arith, leb-true runs gaps h)

pub gaps_small : (k : Kind) (base gaps : ℕ) → gaps_good k gaps ≡ true → limit_over k base gaps ≤ base + most
unfolding gaps_good limit_over
gaps_small InOrder base gaps h = omega arith
gaps_small Late base gaps h = omega (arith, bounds most gaps h)

-- the limit at the most runs allowed is small
pub needed_small : (s : Settings) → base_good s.base ≡ true → gaps_good s.kind s.gaps ≡ true → needed s ≤ most_needed
needed_small s h k = omega (arith, bounds most_base s.base h, gaps_small s.kind s.base s.gaps k)

-- ---- B and C

same_test : (a b c d : ℕ) → (a ≤ b → c ≤ d) → (c ≤ d → a ≤ b) → leb a b ≡ leb c d
same_test a b c d there back =
    by_test (leb a b) (λ h. rw (h, le-leb c d (there (leb-true a b h)))) (λ h. by_test (leb c d) (λ g. absurd (let u : a ≤ b = back (leb-true c d g) in let o : b < a = leb-false a b h in omega arith)) (λ g. rw (h, g)))

-- a good B is one whose 2B is a good C: refusal 1 is one law of the base limit
pub size_base : (z : Size) → size_good z ≡ base_good (base_of z)
unfolding size_good base_of bounded
size_base (Steps b) = rw (same_test 1 b 1 (2 * b) (λ h. omega arith) (λ h. omega arith), same_test b most (2 * b) most_base (λ h. omega arith) (λ h. omega arith))
size_base (Base c) = refl
