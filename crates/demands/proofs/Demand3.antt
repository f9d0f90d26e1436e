-- Demand 3: any rule that merges some cheapest neighbours, over any base limit, serves its readings.
use Prim.Native.Nat.{ℕ, suc, ◌+◌, ◌*◌, ◌≤◌, ◌<◌}
use mathlib.Core.Path.{◌≡◌, refl, sym, ap, subst, ◌∙◌}
use mathlib.Core.Bool.{true}
use mathlib.Core.List.Memᴰ
use mathlib.Core.List.{List, [], ◌∷◌, Memᴰ}
use mathlib.Core.Logic.{⊎_elim}
use native.Mathlib.Omega.{arith}
use lib.IntN.{ℤ}
use lib.ListN.{length}
use lib.Signed.{le_z}
use Rattle.rule.specs.declared.Bucket.{Bucket}
use Rattle.rule.specs.declared.Kind.{Kind}
use Rattle.rule.specs.declared.Kind.TheVariants.{InOrder, Late}
use Rattle.rule.specs.Bucket.{distance, end, error, spread, union}
use Rattle.rule.specs.Table.{Table, Ordered, holders, insert, limit_over, readings, runs, single, worst}
use Rattle.rule.proofs.Whole.{distance_is, whole}
use Rattle.rule.proofs.Errors.{error_within, near_both, within_level}
use Rattle.rule.proofs.Tables.{held_by, held_once, held_within, insert_length, insert_member, merged_length, merged_member, union_end}
use Rattle.demands.specs.Curve.{Curve, steps, value}
use Rattle.demands.specs.History.{Held, Merge, Reading, Settles, accepted, beginning, merges, opened, rests}
use Rattle.demands.specs.Served.{Extremes, Inside, Near, Served, Shown}
use Rattle.demands.proofs.Borders.{from, from_all, one_value}
use Rattle.demands.proofs.Coverage.{times, times_arrived, times_member}
use Rattle.demands.proofs.Invariant.{Joined, Invariant, pair_extremes, merge_invariant, reading_invariant}
use Rattle.demands.proofs.Pairs.{Flat, flat_pair, pairs, pairs_enough}

-- ---- a curve and a distance that all readings keep

abbrev Narrow : ℕ → Table → Type 0
Narrow E t = (b : Bucket) → Memᴰ b t → spread b ≤ 2 * E

-- a bucket with no border inside
flat_spread : (c : Curve) (E : ℕ) (rs : List Reading) (b : Bucket) → Near E c rs → Extremes rs b → from (suc b.start) c.borders ≤ from (end b) c.borders → spread b ≤ 2 * E
flat_spread c E rs b near x flat = near_both b.largest b.least (value c b.start) E (at_start x.largest) (at_start x.least)
  where
    at_start : {v : ℤ} → Inside rs b v → distance v (value c b.start) ≤ E
    at_start {v} i =
        let within = held_within i.tick b i.held in
        subst (λ (w : ℤ). distance v w ≤ E) (one_value b.start (end b) i.tick within.0 within.1 c.first c.borders flat)
        (near (record { tick = i.tick; value = v }) i.arrived)

-- above the limit there are more pairs than borders
pairs_many : (kind : Kind) (base steps : ℕ) (t : Table) → Joined kind (runs t) → 2 * steps ≤ base + 1 → limit_over kind base (runs t) < length t → steps ≤ pairs t
unfolding Joined limit_over
pairs_many InOrder base steps t j few over = omega (arith, pairs_enough t)
pairs_many Late base steps t j few over = omega (arith, pairs_enough t)

module _ (kind : Kind) (base : ℕ) (c : Curve) (E : ℕ) (few : 2 * steps c ≤ base + 1) where
  merge_narrow : {rs : List Reading} {t u : Table} → Near E c rs → limit_over kind base (runs t) < length t → Merge t u → Invariant kind rs t → Narrow E t → Narrow E u
  merge_narrow {rs} {t} {u} near over m invariant narrow b member =
      ⊎_elim (λ e. subst (λ (x : Bucket). spread x ≤ 2 * E) (sym e) merged) (λ k. narrow b (subst (Memᴰ b) (sym m.stands) k))
      (merged_member m.first m.second m.touching b m.left m.right (subst (Memᴰ b) m.leaves member))
    where
      flat : Flat c.borders t
      flat =
          flat_pair c.borders 0 t invariant.ordered (omega (arith, from_all 0 c.borders, pairs_many kind base (steps c) t invariant.joined few over))

      first : Bucket
      first = flat.these.first

      second : Bucket
      second = flat.these.second

      cheap : spread (union first second) ≤ 2 * E
      cheap =
          flat_spread c E rs (union first second) near
          (pair_extremes flat.these.left first second flat.these.right flat.these.touching (subst (Invariant kind rs) flat.these.stands invariant))
          (subst (λ (e : ℕ). from (suc first.start) c.borders ≤ from e c.borders) (sym (union_end first second flat.these.touching)) flat.none)

      merged : spread (union m.first m.second) ≤ 2 * E
      merged = omega (arith, cheap, m.cheapest flat.these.left first second flat.these.right flat.these.stands flat.these.touching)

reading_narrow : (E : ℕ) (r : Reading) (t : Table) → Narrow E t → Narrow E (insert (single r.tick r.value) t)
reading_narrow E r t narrow b member =
    ⊎_elim (λ e. subst (λ (x : Bucket). spread x ≤ 2 * E) (sym e) (omega (whole, distance_is r.value r.value))) (narrow b)
    (insert_member b (single r.tick r.value) t member)

-- ---- along the way

-- what each merge keeps, settling keeps
settled : {kind : Kind} {base : ℕ} (P : Table → Type 0) → ((t u : Table) → limit_over kind base (runs t) < length t → Merge t u → P t → P u)
    → {t v : Table} {n : ℕ} → Settles Merge kind base t v n → P t → P v
settled P step (rests h) p = p
settled P step (merges {t = t} {u = u} h m s) p = settled P step s (step t u h m p)

settled_length : {kind : Kind} {base : ℕ} {t v : Table} {n : ℕ} → Settles Merge kind base t v n → n + length v ≡ length t
settled_length (rests h) = omega arith
settled_length (merges h m s) =
    omega (arith, settled_length s, ap length m.stands, ap length m.leaves, merged_length m.first m.second m.touching m.left m.right)

settled_size : {kind : Kind} {base : ℕ} {t v : Table} {n : ℕ} → Settles Merge kind base t v n → length v ≤ limit_over kind base (runs v)
settled_size (rests h) = h
settled_size (merges h m s) = settled_size s

pub held_invariant : {kind : Kind} {base : ℕ} {rs : List Reading} {t : Table} {m : ℕ} → Held Merge kind base rs t m → Invariant kind rs t
unfolding Joined Ordered holders readings times runs beginning
held_invariant {kind} opened =
    record { ordered = tt; covers = λ tick. refl; each = refl; extremes = λ b m. absurd (Memᴰ.not-nil m); true_runs = refl; joined = none kind }
  where
    none : (kind : Kind) → Joined kind 0
    none InOrder = omega arith
    none Late = tt
held_invariant {kind} (accepted {rs = rs} {t = t} r h takes s) =
    settled (Invariant kind (r ∷ rs)) (λ t u over m k. merge_invariant m k) s (reading_invariant kind rs t (held_invariant h) r takes)

held_length : {kind : Kind} {base : ℕ} {rs : List Reading} {t : Table} {m : ℕ} → Held Merge kind base rs t m → m + length t ≡ length rs
held_length opened = omega arith
held_length (accepted {t = t} r h takes s) = omega (arith, held_length h, settled_length s, insert_length (single r.tick r.value) t)

held_size : {kind : Kind} {base : ℕ} {rs : List Reading} {t : Table} {m : ℕ} → Held Merge kind base rs t m → length t ≤ limit_over kind base (runs t)
held_size opened = omega arith
held_size (accepted r h takes s) = settled_size s

held_narrow : {kind : Kind} {base : ℕ} {rs : List Reading} {t : Table} {m : ℕ} (c : Curve) (E : ℕ) → 2 * steps c ≤ base + 1 → Near E c rs → Held Merge kind base rs t m → Narrow E t
held_narrow c E few near opened = λ b m. absurd (Memᴰ.not-nil m)
held_narrow {kind} {base} c E few near (accepted {rs = rs} {t = t} r h takes s) =
    (settled (λ u. Invariant kind (r ∷ rs) u × Narrow E u) (λ t u over m k. (merge_invariant m k.0, merge_narrow kind base c E few near over m k.0 k.1)) s
    (reading_invariant kind rs t (held_invariant h) r takes, reading_narrow E r t (held_narrow c E few (λ q m. near q (Memᴰ.tail m)) h))).1

-- ---- the picture

least_largest : (rs : List Reading) (b : Bucket) → Extremes rs b → le_z b.least b.largest ≡ true
least_largest rs b x = (x.bounds (record { tick = x.largest.tick; value = b.largest }) x.largest.arrived x.largest.held).0

worst_within : (E : ℕ) (t : Table) → ((b : Bucket) → Memᴰ b t → error b ≤ E) → worst t ≤ E
unfolding worst
worst_within E [] all = omega arith
worst_within E (b ∷ t) all = omega (arith, all b (Memᴰ.head refl), worst_within E t (λ x m. all x (Memᴰ.tail m)))

shown : {kind : Kind} {rs : List Reading} {t : Table} (E : ℕ) → Invariant kind rs t → Narrow E t → Shown E t rs
shown {kind} {rs} {t} E invariant narrow r m =
    let held = held_by r.tick t (omega (arith, invariant.covers r.tick, times_member m)) in
    let x = invariant.extremes held.0 held.2 in
    let bounds = x.bounds r m held.3 in
    (held.0, held.1, within_level held.0 (least_largest rs held.0 x) E r.value bounds.0 bounds.1 (narrow held.0 held.2))

pub served : (kind : Kind) (base : ℕ) (rs : List Reading) (t : Table) (m : ℕ) → 1 ≤ base → Held Merge kind base rs t m → Served kind base rs t m
served kind base rs t m positive h =
    let invariant : Invariant kind rs t = held_invariant h in
    record {
      picture = λ c E few near.
          let narrow : Narrow E t = held_narrow c E (omega arith) near h in
          (shown E invariant narrow, worst_within E t (λ b k. error_within b (least_largest rs b (invariant.extremes b k)) E (narrow b k)));
      covers = λ tick.
          invariant.covers tick ∙ times_arrived tick rs (omega (arith, invariant.covers tick, held_once 0 tick t invariant.ordered));
      each = invariant.each;
      ordered = invariant.ordered;
      extremes = invariant.extremes;
      size = held_size h;
      true_runs = invariant.true_runs;
      merged = held_length h;
    }
