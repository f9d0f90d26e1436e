-- Walking the table from the left, two neighbours at a time: there are pairs enough, and where the borders are fewer, some pair has none inside.
use Prim.Native.Nat.{ℕ, suc, ◌+◌, ◌*◌, ◌≤◌, ◌<◌}
use mathlib.Core.Path.{refl, ap}
use mathlib.Core.Bool.{cond}
use mathlib.Core.List.{List, [], ◌∷◌}
use native.Mathlib.Omega.{arith}
use borrow.Author.Tests.{leb-true, leb-false}
use lib.Dec.{leb}
use lib.ListN.{length}
use Rattle.rule.specs.declared.Bucket.{Bucket}
use Rattle.rule.specs.Bucket.{end, neighbours}
use Rattle.rule.specs.Table.{Table, Ordered, runs, runs_after}
use Rattle.rule.proofs.Whole.{by_test}
use Rattle.rule.proofs.Merging.{Beside}
use Rattle.demands.specs.Curve.{Border}
use Rattle.demands.proofs.Borders.{from, from_fewer}

unfoldable pub pairs : Table → ℕ
pairs [] = 0
pairs (a ∷ []) = 0
pairs (a ∷ b ∷ t) = cond (neighbours a b) (suc (pairs t)) (pairs (b ∷ t))

pairs_after : (a : Bucket) (t : Table) → length t ≤ 2 * pairs (a ∷ t) + runs_after (end a) t
unfolding pairs runs_after
pairs_after a [] = omega arith
pairs_after a (b ∷ []) = by_test (neighbours a b) (λ h. rw h (omega arith)) (λ h. rw h (omega arith))
pairs_after a (b ∷ c ∷ t) =
    by_test (neighbours a b) (λ h. rw h (omega (arith, pairs_after c t))) (λ h. rw h (omega (arith, pairs_after b (c ∷ t))))

pub pairs_enough : (t : Table) → length t ≤ 2 * pairs t + runs t
unfolding runs
pairs_enough [] = omega arith
pairs_enough (a ∷ t) = omega (arith, pairs_after a t)

-- neighbours with no border strictly inside
pub record Flat (bs : List Border) (t : Table) : Type 0 where
  pub these : Beside t
  pub none : from (suc these.first.start) bs ≤ from (end these.second) bs

below : (bs : List Border) (a : Bucket) {t : Table} → Flat bs t → Flat bs (a ∷ t)
below bs a f =
    let n = f.these in
    record {
      these = record { left = a ∷ n.left; first = n.first; second = n.second; right = n.right; stands = ap (λ (l : Table). a ∷ l) n.stands; touching = n.touching };
      none = f.none;
    }

pub flat_pair : (bs : List Border) (e : ℕ) (t : Table) → Ordered e t → from e bs < pairs t → Flat bs t
unfolding pairs Ordered
flat_pair bs e [] o h = absurd (omega arith)
flat_pair bs e (a ∷ []) o h = absurd (omega arith)
flat_pair bs e (a ∷ b ∷ t) o h =
    by_test (neighbours a b)
    (λ g.
    by_test (leb (from (suc a.start) bs) (from (end b) bs))
    (λ k. record { these = record { left = []; first = a; second = b; right = t; stands = refl; touching = g }; none = leb-true (from (suc a.start) bs) (from (end b) bs) k })
    (λ k. below bs a (below bs b (flat_pair bs (end b) t o.1.1.1.1
    (omega (arith, leb-false (from (suc a.start) bs) (from (end b) bs) k, from_fewer e (suc a.start) bs (omega arith), rw g at h))))))
    (λ g. below bs a (flat_pair bs (end a) (b ∷ t) o.1.1 (omega (arith, from_fewer e (end a) bs (omega arith), rw g at h))))
