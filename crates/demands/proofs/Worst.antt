-- The worst error of a table is the greatest of its buckets' errors.
use Prim.Native.Nat.{◌<◌}
use mathlib.Core.Path.{refl, ap}
use mathlib.Core.List.Memᴰ
use mathlib.Core.List.{[], ◌∷◌}
use mathlib.Core.Logic.{⊎_elim}
use native.Mathlib.Omega.{arith}
use borrow.Author.Tests.{leb-true, leb-false}
use lib.Dec.{leb}
use Rattle.rule.specs.declared.Bucket.{Bucket}
use Rattle.rule.specs.Bucket.{error}
use Rattle.rule.specs.Table.{Table, worst}
use Rattle.rule.proofs.Whole.{by_test}
use Rattle.demands.specs.Served.{Attained, Greatest, bucket, empty}

-- behind a bucket of smaller error the greatest stays
attained_behind : (a : Bucket) (t : Table) → error a < worst t → Attained t (worst t) → Attained (a ∷ t) (worst (a ∷ t))
unfolding worst
attained_behind a t h (empty none zero) = absurd (omega arith)
attained_behind a t h (bucket b m e) = bucket b (Memᴰ.tail m) (omega arith)

pub worst_greatest : (t : Table) → Greatest t (worst t)
unfolding worst
worst_greatest [] = record { bounds = λ b m. absurd (Memᴰ.not-nil m); attained = empty refl refl }
worst_greatest (a ∷ t) =
    let rest = worst_greatest t in
    record {
      bounds = λ b m. ⊎_elim (λ e. omega (arith, ap error e)) (λ k. omega (arith, rest.bounds b k)) (Memᴰ.cases_cons m);
      attained = by_test (leb (worst t) (error a))
          (λ h. bucket a (Memᴰ.head refl) (omega (arith, leb-true (worst t) (error a) h)))
          (λ h. attained_behind a t (leb-false (worst t) (error a) h) rest.attained);
    }
