-- The rule of each edition, with any base limit, is one of the rules of which demand 3 is proved.
use Prim.Native.Nat.{ℕ, zero, suc, ◌+◌, ◌≤◌, ◌<◌, min}
use mathlib.Core.Path.{◌≡◌, sym, subst, ap, ◌∙◌}
use mathlib.Core.List.{List, [], ◌∷◌}
use native.Mathlib.Omega.{arith}
use borrow.Author.Tests.{leb-true, leb-false}
use lib.Dec.{leb}
use lib.ListN.{length}
use Rattle.rule.specs.declared.Kind.{Kind}
use Rattle.rule.specs.declared.Kind.TheVariants.{InOrder, Late}
use Rattle.rule.specs.declared.Settings.{Settings}
use Rattle.rule.specs.Table.{Ordered, Table, accept, insert, limit, limit_over, merge, runs, settle, single}
use Rattle.rule.proofs.Whole.{by_test}
use Rattle.rule.proofs.Merging as merging
use Rattle.rule.proofs.Merging.{Enough, merge_length, merge_runs, settle_length, settle_merges, settle_rests, settle_runs}
use Rattle.rule.proofs.Tables.{insert_length, merged_ordered}
use Rattle.demands.specs.History.{Accepted, Held, Merge, Reading, Settles, accepted, merges, opened, rests, runs_of, table_after}
use Rattle.demands.specs.Served.{Served}
use Rattle.demands.proofs.Demand3.{held_invariant, served}
use Rattle.demands.proofs.Invariant.{Joined, reading_invariant}

unfoldable pub merge_is : (e : ℕ) (t : Table) → runs t < length t → Merge t (merge e t)
merge_is e t h =
    let w = merging.merges e t h in
    record {
      left = w.these.left;
      first = w.these.first;
      second = w.these.second;
      right = w.these.right;
      stands = w.these.stands;
      leaves = w.leaves;
      touching = w.these.touching;
      cheapest = λ l a b r q g. w.smallest (record { left = l; first = a; second = b; right = r; stands = q; touching = g });
    }

-- ---- what one rule allows, a wider one does

settles_by : {M N : Table → Table → Type 0} {kind : Kind} {base : ℕ} → ((t u : Table) → M t u → N t u) → {t v : Table} {n : ℕ} → Settles M kind base t v n → Settles N kind base t v n
settles_by f (rests h) = rests h
settles_by f (merges {t = t} {u = u} h m s) = merges h (f t u m) (settles_by f s)

pub held_by : {M N : Table → Table → Type 0} {kind : Kind} {base : ℕ} → ((t u : Table) → M t u → N t u) → {rs : List Reading} {t : Table} {m : ℕ} → Held M kind base rs t m → Held N kind base rs t m
held_by f opened = opened
held_by f (accepted r h takes s) = accepted r (held_by f h) takes (settles_by f s)

-- ---- merges keep the order of ticks

merge_ordered : (e : ℕ) (t : Table) → Ordered 0 t → runs t < length t → Ordered 0 (merge e t)
merge_ordered e t o h =
    let w = merging.merges e t h in
    subst (Ordered 0) (sym w.leaves) (merged_ordered w.these.first w.these.second w.these.touching 0 w.these.left w.these.right (subst (Ordered 0) w.these.stands o))

-- the limit leaves room for a bucket to each run
pub enough_runs : (kind : Kind) (base runs : ℕ) → 1 ≤ base → Joined kind runs → runs ≤ limit_over kind base runs
unfolding Joined limit_over
enough_runs InOrder base runs h j = omega arith
enough_runs Late base runs h j = omega arith

-- ---- a rule that makes the merges of the edition

module _ (M : Table → Table → Type 0) (s : Settings) (made : (t : Table) → Ordered 0 t → runs t < length t → M t (merge s.edition t)) where
  -- the table after the merges, with how many they were
  abbrev Settled : Table → Type 0
  Settled t = (k : ℕ) × Settles M s.kind s.base t (settle s t) k

  rested : (t : Table) → length t ≤ limit s (runs t) → Settled t
  rested t h = (0, subst (λ (u : Table). Settles M s.kind s.base t u 0) (sym (settle_rests s t h)) (rests h))

  pub settles_in : (n : ℕ) (t : Table) → length t ≤ n → Ordered 0 t → Enough s t → Settled t
  settles_in zero t short o enough = rested t (omega arith)
  settles_in (suc n) t short o enough =
      by_test (leb (length t) (limit s (runs t)))
      (λ h. rested t (leb-true (length t) (limit s (runs t)) h))
      (λ h.
      let over : limit s (runs t) < length t = leb-false (length t) (limit s (runs t)) h in
      let fewer : runs t < length t = omega arith in
      let u : Table = merge s.edition t in
      let rest = settles_in n u (omega (arith, merge_length s.edition t fewer)) (merge_ordered s.edition t o fewer) (rw (merge_runs s.edition t fewer) enough) in (
        suc rest.0,
        subst (λ (v : Table). Settles M s.kind s.base t v (suc rest.0)) (sym (settle_merges s t enough over)) (merges over (made t o fewer) rest.1),
      ))

  pub held_along : ((t u : Table) → M t u → Merge t u) → (rs : List Reading) → 1 ≤ s.base → Accepted s rs → (m : ℕ) × Held M s.kind s.base rs (table_after s rs) m
  unfolding Accepted table_after accept
  held_along cheap [] few a = (0, opened)
  held_along cheap (r ∷ rs) few a =
      let before = held_along cheap rs few a.1 in
      let table : Table = insert (single r.tick r.value) (table_after s rs) in
      let invariant = reading_invariant s.kind rs (table_after s rs) (held_invariant (held_by cheap before.1)) r a.0 in
      let after = settles_in (length table) table (omega arith) invariant.ordered (enough_runs s.kind s.base (runs table) (omega arith) invariant.joined) in
      (after.0 + before.0, accepted r before.1 a.0 after.1)

pub instance_held : (s : Settings) (rs : List Reading) → 1 ≤ s.base → Accepted s rs → (m : ℕ) × Held Merge s.kind s.base rs (table_after s rs) m
instance_held s rs few a = held_along Merge s (λ t o h. merge_is s.edition t h) (λ t u m. m) rs few a

pub demand3 : (s : Settings) (rs : List Reading) → 1 ≤ s.base → Accepted s rs → (m : ℕ) × Served s.kind s.base rs (table_after s rs) m
demand3 s rs few a =
    let held = instance_held s rs few a in
    (held.0, served s.kind s.base rs (table_after s rs) held.0 (omega arith) held.1)

-- a reading brings one bucket, and merging ends at the limit of the true runs
pub instance_length : (s : Settings) (r : Reading) (rs : List Reading) → 1 ≤ s.base → Accepted s (r ∷ rs)
    → length (table_after s (r ∷ rs)) ≡ min (length (table_after s rs) + 1) (limit s (runs_of (r ∷ rs)))
unfolding Accepted table_after accept
instance_length s r rs few a =
    let table : Table = insert (single r.tick r.value) (table_after s rs) in
    let invariant = reading_invariant s.kind rs (table_after s rs) (held_invariant (instance_held s rs few a.1).1) r a.0 in
    let enough : Enough s table = enough_runs s.kind s.base (runs table) (omega arith) invariant.joined in
    let counted : runs (settle s table) ≡ runs_of (r ∷ rs) = (demand3 s (r ∷ rs) few a).1.true_runs in
    omega (arith, settle_length s (length table) table (omega arith) enough, insert_length (single r.tick r.value) (table_after s rs), ap (limit s) (sym (settle_runs s table enough) ∙ counted))
