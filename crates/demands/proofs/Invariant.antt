-- What holds of every table along the way, after each insertion and each merge, whatever the limit.
use Prim.Native.Nat.{ℕ, ◌+◌, ◌≤◌}
use mathlib.Core.Path.{◌≡◌, refl, sym, ap, subst, ◌∙◌}
use mathlib.Core.Bool.{true}
use mathlib.Core.List.Memᴰ
use mathlib.Core.List.{List, [], ◌∷◌, ◌++◌, Memᴰ}
use mathlib.Core.Logic.{⊎_elim}
use native.Mathlib.Omega.{arith}
use borrow.Author.Tests.{eqb-true, eqb-false}
use lib.Dec.{eqb}
use lib.IntN.{ℤ}
use lib.ListN.{length}
use lib.Signed.{le_z}
use Rattle.rule.specs.declared.Bucket.{Bucket}
use Rattle.rule.specs.declared.Kind.{Kind}
use Rattle.rule.specs.declared.Kind.TheVariants.{InOrder, Late}
use Rattle.rule.specs.Bucket.{neighbours, union}
use Rattle.rule.specs.Table.{Table, Ordered, holders, holds, insert, readings, runs, single}
use Rattle.rule.proofs.Whole.{by_test, whole}
use Rattle.rule.proofs.Errors.{larger_is, larger_left, larger_right, le_z_refl, lesser_is, lesser_left, lesser_right}
use Rattle.rule.proofs.Tables.{counted, eqb_counts, held_before, held_member, held_once, holds_counts, insert_holders, insert_member, insert_ordered, insert_readings, insert_runs, leb_counts, merged_holders, merged_member, merged_ordered, merged_readings, merged_runs, next_free, next_touches, one, union_holds}
use Rattle.demands.specs.History.{Merge, Reading, Takes, runs_of}
use Rattle.demands.specs.Served.{Extremes, Inside}
use Rattle.demands.proofs.Coverage.{runs_with, times, times_member}

-- in order there is one run at most
unfoldable pub Joined : Kind → ℕ → Type 0
Joined InOrder runs = runs ≤ 1
Joined Late runs = Unit {0}

pub record Invariant (kind : Kind) (rs : List Reading) (t : Table) : Type 0 where
  pub ordered : Ordered 0 t
  pub covers : (tick : ℕ) → holders tick t ≡ times tick rs
  pub each : readings t ≡ length rs
  pub extremes : (b : Bucket) → Memᴰ b t → Extremes rs b
  pub true_runs : runs t ≡ runs_of rs
  pub joined : Joined kind (runs t)

-- ---- a merge

inside : {rs : List Reading} {a b : Bucket} {v w : ℤ} → ((tick : ℕ) → holds tick a ≡ true → holds tick b ≡ true) → w ≡ v → Inside rs a v → Inside rs b w
inside wider e i =
    record { tick = i.tick; arrived = Memᴰ.cast (λ j. record { tick = i.tick; value = e j }) i.arrived; held = wider i.tick i.held }

module _ (rs : List Reading) (a b : Bucket) (touching : neighbours a b ≡ true) where
  in_first : (tick : ℕ) → holds tick a ≡ true → holds tick (union a b) ≡ true
  in_first tick h = counted (holds tick (union a b)) (omega (arith, union_holds a b touching tick, ap one h))

  in_second : (tick : ℕ) → holds tick b ≡ true → holds tick (union a b) ≡ true
  in_second tick h = counted (holds tick (union a b)) (omega (arith, union_holds a b touching tick, ap one h))

  pub union_extremes : Extremes rs a → Extremes rs b → Extremes rs (union a b)
  union_extremes x y =
      record {
        least = ⊎_elim (λ e. inside in_first e x.least) (λ e. inside in_second e y.least) (lesser_is a.least b.least);
        largest = ⊎_elim (λ e. inside in_first e x.largest) (λ e. inside in_second e y.largest) (larger_is a.largest b.largest);
        bounds = λ r m h.
            let low = lesser_left a.least b.least in
            let lower = lesser_right a.least b.least in
            let high = larger_left a.largest b.largest in
            let higher = larger_right a.largest b.largest in
            by_test (holds r.tick a)
            (λ g. let inner = x.bounds r m g in omega whole)
            (λ g. let inner = y.bounds r m (counted (holds r.tick b) (omega (arith, union_holds a b touching r.tick, ap one g, ap one h))) in omega whole);
      }

pub pair_extremes : {kind : Kind} {rs : List Reading} (l : Table) (a b : Bucket) (r : Table) → neighbours a b ≡ true → Invariant kind rs (l ++ (a ∷ b ∷ r)) → Extremes rs (union a b)
pair_extremes {kind} {rs} l a b r touching k =
    union_extremes rs a b touching (k.extremes a (Memᴰ.append_right l (Memᴰ.head refl))) (k.extremes b (Memᴰ.append_right l (Memᴰ.tail (Memᴰ.head refl))))

merged_invariant : {kind : Kind} {rs : List Reading} (l : Table) (a b : Bucket) (r : Table) → neighbours a b ≡ true → Invariant kind rs (l ++ (a ∷ b ∷ r)) → Invariant kind rs (l ++ (union a b ∷ r))
merged_invariant {kind} {rs} l a b r touching k =
    record {
      ordered = merged_ordered a b touching 0 l r k.ordered;
      covers = λ tick. merged_holders a b touching tick l r ∙ k.covers tick;
      each = merged_readings a b touching l r ∙ k.each;
      extremes = λ x m.
          ⊎_elim (λ e. subst (Extremes rs) (sym e) (pair_extremes l a b r touching k)) (k.extremes x) (merged_member a b touching x l r m);
      true_runs = merged_runs a b touching l r ∙ k.true_runs;
      joined = subst (Joined kind) (sym (merged_runs a b touching l r)) k.joined;
    }

pub merge_invariant : {kind : Kind} {rs : List Reading} {t u : Table} → Merge t u → Invariant kind rs t → Invariant kind rs u
merge_invariant {kind} {rs} m k =
    subst (Invariant kind rs) (sym m.leaves) (merged_invariant m.left m.first m.second m.right m.touching (subst (Invariant kind rs) m.stands k))

-- ---- a reading

takes_free : (kind : Kind) (tick : ℕ) (t : Table) → Ordered 0 t → Takes kind t tick → holders tick t ≡ 0
unfolding Takes
takes_free InOrder tick t o e = next_free 0 tick t o (omega arith)
takes_free Late tick t o e = e

single_holds : (tick k : ℕ) (v : ℤ) → one (holds tick (single k v)) ≡ one (eqb k tick)
single_holds tick k v =
    by_test (eqb k tick)
    (λ h. omega (arith, ap one h, eqb-true k tick h, holds_counts tick (single k v), leb_counts k tick, leb_counts (k + 1) tick))
    (λ h. omega (arith, ap one h, eqb-false k tick h, holds_counts tick (single k v), leb_counts k tick, leb_counts (k + 1) tick))

joined_with : (kind : Kind) (t : Table) (tick : ℕ) (v : ℤ) → Ordered 0 t → Takes kind t tick → Joined kind (runs t) → Joined kind (runs (insert (single tick v) t))
unfolding Joined Takes runs
joined_with Late t tick v o e j = tt
joined_with InOrder [] tick v o e j = omega (arith, insert_runs tick v [] o (takes_free InOrder tick [] o e))
joined_with InOrder (a ∷ t) tick v o e j =
    let touches : 1 ≤ held_before tick (a ∷ t) = subst (λ (n : ℕ). 1 ≤ held_before n (a ∷ t)) (sym e) (next_touches 0 a t o) in
    omega (arith, insert_runs tick v (a ∷ t) o (takes_free InOrder tick (a ∷ t) o e))

module _ (kind : Kind) (rs : List Reading) (t : Table) (invariant : Invariant kind rs t) (r : Reading) (takes : Takes kind t r.tick) where
  free : holders r.tick t ≡ 0
  free = takes_free kind r.tick t invariant.ordered takes

  fresh : times r.tick rs ≡ 0
  fresh = sym (invariant.covers r.tick) ∙ free

  new_inside : Inside (r ∷ rs) (single r.tick r.value) r.value
  new_inside =
      record {
        tick = r.tick;
        arrived = Memᴰ.head refl;
        held = counted (holds r.tick (single r.tick r.value)) (omega (arith, single_holds r.tick r.tick r.value, eqb_counts r.tick r.tick));
      }

  new_extremes : Extremes (r ∷ rs) (single r.tick r.value)
  new_extremes =
      record {
        least = new_inside;
        largest = new_inside;
        bounds = λ q m h.
            ⊎_elim
            (λ e. (
              subst (λ (x : Reading). le_z r.value x.value ≡ true) (sym e) (le_z_refl r.value),
              subst (λ (x : Reading). le_z x.value r.value ≡ true) (sym e) (le_z_refl r.value),
            ))
            (λ n.
            let same : r.tick ≡ q.tick = omega (arith, single_holds q.tick r.tick r.value, ap one h, eqb_counts r.tick q.tick) in
            absurd (omega (arith, times_member n, fresh, ap (λ (tick : ℕ). times tick rs) same)))
            (Memᴰ.cases_cons m);
      }

  older : {b : Bucket} {v : ℤ} → Inside rs b v → Inside (r ∷ rs) b v
  older i = record { tick = i.tick; arrived = Memᴰ.tail i.arrived; held = i.held }

  older_extremes : (b : Bucket) → Memᴰ b t → Extremes (r ∷ rs) b
  older_extremes b m =
      let x = invariant.extremes b m in
      record {
        least = older x.least;
        largest = older x.largest;
        bounds = λ q n h.
            ⊎_elim (λ e. absurd (omega (arith, held_member r.tick m (subst (λ (y : Reading). holds y.tick b ≡ true) e h), free)))
            (λ k. x.bounds q k h) (Memᴰ.cases_cons n);
      }

  pub reading_invariant : Invariant kind (r ∷ rs) (insert (single r.tick r.value) t)
  unfolding times
  reading_invariant =
      record {
        ordered = insert_ordered r.tick r.value 0 t invariant.ordered (omega arith) free;
        covers = λ tick. omega (arith, insert_holders tick (single r.tick r.value) t, single_holds tick r.tick r.value, invariant.covers tick);
        each = omega (arith, insert_readings (single r.tick r.value) t, invariant.each);
        extremes = λ b m. ⊎_elim (λ e. subst (Extremes (r ∷ rs)) (sym e) new_extremes) (older_extremes b) (insert_member b (single r.tick r.value) t m);
        true_runs =
            omega (arith, insert_runs r.tick r.value t invariant.ordered free, runs_with r rs fresh t invariant.covers (λ tick. held_once 0 tick t invariant.ordered), invariant.true_runs);
        joined = joined_with kind t r.tick r.value invariant.ordered takes invariant.joined;
      }
