-- The runs of a table: as many as it counts, each unbroken, and one behind the other they are the table.
use Prim.Native.Nat.{suc}
use mathlib.Core.Path.{◌≡◌, refl, ap, ◌∙◌}
use mathlib.Core.Logic.{⊎_elim}
use mathlib.Core.List.Memᴰ
use mathlib.Core.List.{List, [], ◌∷◌, Memᴰ}
use native.Mathlib.Omega.{arith}
use borrow.Author.Tests.{eqb-true}
use lib.Dec.{eqb}
use lib.ListN.{length}
use Rattle.rule.specs.declared.Bucket.{Bucket}
use Rattle.rule.specs.Bucket.{end, neighbours}
use Rattle.rule.specs.Table.{Table, runs, runs_after}
use Rattle.rule.proofs.Whole.{by_test}
use Rattle.drawing.specs.Picture.{before, runs_of}
use Rattle.drawing.specs.Promise.{Unbroken, together}

-- the first run of a table begins with its first bucket
pub first_run : (b : Bucket) (t : Table) → (r : Table) × ((rs : List Table) × (runs_of (b ∷ t) ≡ (b ∷ r) ∷ rs))
unfolding runs_of before
first_run b [] = ([], ([], refl))
first_run b (c ∷ t) =
    let f = first_run c t in
    by_test (neighbours b c) (λ e. (c ∷ f.0, (f.1.0, rw (f.1.1, e)))) (λ e. ([], ((c ∷ f.0) ∷ f.1.0, rw (f.1.1, e))))

-- ---- as many as the trace counts

counted : (b : Bucket) (t : Table) → length (runs_of (b ∷ t)) ≡ suc (runs_after (end b) t)
unfolding runs_of before runs_after
counted b [] = refl
counted b (c ∷ t) =
    let f = first_run c t in
    let n : length (runs_of (c ∷ t)) ≡ suc (runs_after (end c) t) = counted c t in
    let m : suc (length f.1.0) ≡ suc (runs_after (end c) t) = rw f.1.1 at n in
    rw f.1.1 (by_test (eqb (end b) c.start) (λ e. rw e (omega arith)) (λ e. rw e (omega arith)))

pub one_a_run : (t : Table) → length (runs_of t) ≡ runs t
unfolding runs runs_of
one_a_run [] = refl
one_a_run (b ∷ t) = counted b t

-- ---- each unbroken

before_unbroken : (a : Bucket) (rs : List Table) → ((r : Table) → Memᴰ r rs → Unbroken r) → (r : Table) → Memᴰ r (before a rs) → Unbroken r
unfolding before Unbroken
before_unbroken a [] h r m = ⊎_elim (λ e. rw e tt) (λ n. absurd (Memᴰ.not-nil n)) (Memᴰ.cases_cons m)
before_unbroken a ([] ∷ rs) h r m = ⊎_elim (λ e. rw e tt) (λ n. h r (Memᴰ.tail n)) (Memᴰ.cases_cons m)
before_unbroken a ((b ∷ q) ∷ rs) h r m =
    by_test (neighbours a b)
    (λ e. ⊎_elim (λ f. rw f (eqb-true (end a) b.start e, h (b ∷ q) (Memᴰ.head refl))) (λ n. h r (Memᴰ.tail n)) (Memᴰ.cases_cons (rw e at m)))
    (λ e. ⊎_elim (λ f. rw f tt) (h r) (Memᴰ.cases_cons (rw e at m)))

pub unbroken : (t r : Table) → Memᴰ r (runs_of t) → Unbroken r
unfolding runs_of
unbroken [] r m = absurd (Memᴰ.not-nil m)
unbroken (b ∷ t) r m = before_unbroken b (runs_of t) (unbroken t) r m

-- ---- all buckets in their order

before_together : (a : Bucket) (rs : List Table) → together (before a rs) ≡ a ∷ together rs
unfolding before together
before_together a [] = refl
before_together a ([] ∷ rs) = refl
before_together a ((b ∷ q) ∷ rs) = by_test (neighbours a b) (λ e. rw e) (λ e. rw e)

pub all_buckets : (t : Table) → together (runs_of t) ≡ t
unfolding runs_of together
all_buckets [] = refl
all_buckets (b ∷ t) = before_together b (runs_of t) ∙ ap (λ u. b ∷ u) (all_buckets t)
