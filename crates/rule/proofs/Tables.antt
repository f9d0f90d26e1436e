-- Laws of tables: what a merge of neighbours, and a bucket put at its tick, do to the length, the readings, the order, the holders and the runs.
use Prim.Native.Nat.{ℕ, zero, suc, ◌+◌, ◌-◌, ◌≤◌, ◌<◌}
use mathlib.Core.Path.{◌≡◌, refl, ap, ◌∙◌}
use mathlib.Core.Bool.{Bool, true, false, cond, ◌&&◌}
use mathlib.Core.List.Memᴰ
use mathlib.Core.List.{[], ◌∷◌, ◌++◌, Memᴰ}
use mathlib.Core.Logic.{◌⊎◌, inr, ⊎_elim, ⊎_map}
use mathlib.Core.Option.{some}
use native.Mathlib.Numerals.{add-one}
use native.Mathlib.Omega.{arith}
use borrow.Author.Tests.{ltb-true, ltb-false, leb-true, leb-false, eqb-true, eqb-false}
use lib.Dec.{eqb, leb, ltb}
use lib.IntN.{ℤ}
use lib.ListN.{length}
use Rattle.rule.specs.declared.Bucket.{Bucket}
use Rattle.rule.specs.Bucket.{end, neighbours, union}
use Rattle.rule.specs.Table.{Table, Ordered, holders, holding, holds, insert, last_end, readings, runs, runs_after, single}
use Rattle.rule.proofs.Whole.{by_test, cond_ind}

-- ---- tests, counted

abbrev pub one : Bool → ℕ
one c = cond c 1 0

pub leb_counts : (a b : ℕ) → one (leb a b) ≡ 1 - (a - b)
leb_counts a b =
    cond_ind (leb a b) 1 0 (λ (n : ℕ). n ≡ 1 - (a - b)) (λ h. omega (arith, leb-true a b h)) (λ h. omega (arith, leb-false a b h))

pub eqb_counts : (a b : ℕ) → one (eqb a b) ≡ 1 - ((a - b) + (b - a))
eqb_counts a b =
    cond_ind (eqb a b) 1 0 (λ (n : ℕ). n ≡ 1 - ((a - b) + (b - a))) (λ h. omega (arith, eqb-true a b h)) (λ h. omega (arith, eqb-false a b h))

-- a bucket holds the ticks that its start has passed and its end has not
pub holds_counts : (tick : ℕ) (b : Bucket) → one (holds tick b) + one (leb (end b) tick) ≡ one (leb b.start tick)
unfolding holds
holds_counts tick b =
    let passed : one (leb (end b) tick) ≤ one (leb b.start tick) = omega (arith, leb_counts (end b) tick, leb_counts b.start tick) in
    let unless : one (ltb tick (end b)) + one (leb (end b) tick) ≡ 1 = omega (arith, leb_counts (end b) tick, leb_counts (suc tick) (end b)) in
    omega (arith, both (leb b.start tick) (ltb tick (end b)))
  where
    both : (c d : Bool) → one (c && d) ≡ one c - (1 - one d)
    both true true = refl
    both true false = refl
    both false true = refl
    both false false = refl

pub counted : (c : Bool) → 1 ≤ one c → c ≡ true
counted true h = refl
counted false h = absurd (omega arith)

pub held_within : (tick : ℕ) (b : Bucket) → holds tick b ≡ true → (b.start ≤ tick) × (tick < end b)
held_within tick b h = omega (arith, ap one h, holds_counts tick b, leb_counts (end b) tick, leb_counts b.start tick)

-- ---- a merge of neighbours

module _ (a b : Bucket) (touching : neighbours a b ≡ true) where
  pub union_end : end (union a b) ≡ end b
  union_end = omega (arith, eqb-true (end a) b.start touching)

  pub union_holds : (tick : ℕ) → one (holds tick (union a b)) ≡ one (holds tick a) + one (holds tick b)
  union_holds tick =
      let between : one (leb (end a) tick) ≡ one (leb b.start tick) = ap (λ (n : ℕ). one (leb n tick)) (eqb-true (end a) b.start touching) in
      let last : one (leb (end (union a b)) tick) ≡ one (leb (end b) tick) = ap (λ (n : ℕ). one (leb n tick)) union_end in
      omega (arith, holds_counts tick a, holds_counts tick b, holds_counts tick (union a b))

  pub merged_length : (l r : Table) → length (l ++ (a ∷ b ∷ r)) ≡ suc (length (l ++ (union a b ∷ r)))
  merged_length [] r = refl
  merged_length (c ∷ l) r = ap suc (merged_length l r)

  pub merged_readings : (l r : Table) → readings (l ++ (union a b ∷ r)) ≡ readings (l ++ (a ∷ b ∷ r))
  unfolding readings
  merged_readings [] r = omega arith
  merged_readings (c ∷ l) r = ap (λ (n : ℕ). c.count + n) (merged_readings l r)

  pub merged_holders : (tick : ℕ) (l r : Table) → holders tick (l ++ (union a b ∷ r)) ≡ holders tick (l ++ (a ∷ b ∷ r))
  unfolding holders
  merged_holders tick [] r = omega (arith, union_holds tick)
  merged_holders tick (c ∷ l) r = ap (λ (n : ℕ). one (holds tick c) + n) (merged_holders tick l r)

  pub merged_ordered : (e : ℕ) (l r : Table) → Ordered e (l ++ (a ∷ b ∷ r)) → Ordered e (l ++ (union a b ∷ r))
  unfolding Ordered
  merged_ordered e [] r o = (o.0, (omega arith, rw union_end o.1.1.1.1))
  merged_ordered e (c ∷ l) r o = (o.0, (o.1.0, merged_ordered (end c) l r o.1.1))

  merged_runs_after : (e : ℕ) (l r : Table) → runs_after e (l ++ (union a b ∷ r)) ≡ runs_after e (l ++ (a ∷ b ∷ r))
  unfolding runs_after
  merged_runs_after e [] r = rw (union_end, touching) (omega arith)
  merged_runs_after e (c ∷ l) r = ap (λ (n : ℕ). cond (eqb e c.start) 0 1 + n) (merged_runs_after (end c) l r)

  pub merged_runs : (l r : Table) → runs (l ++ (union a b ∷ r)) ≡ runs (l ++ (a ∷ b ∷ r))
  unfolding runs runs_after
  merged_runs [] r = rw (union_end, touching) (omega arith)
  merged_runs (c ∷ l) r = ap suc (merged_runs_after (end c) l r)

  pub merged_member : (x : Bucket) (l r : Table) → Memᴰ x (l ++ (union a b ∷ r)) → (x ≡ union a b) ⊎ Memᴰ x (l ++ (a ∷ b ∷ r))
  merged_member x l r m =
      ⊎_elim (λ n. inr (Memᴰ.append_left (a ∷ b ∷ r) n))
      (λ n. ⊎_map (λ e. e) (λ k. Memᴰ.append_right l (Memᴰ.tail (Memᴰ.tail k))) (Memᴰ.cases_cons n)) (Memᴰ.append_cases l m)

-- ---- a bucket put at its tick

-- it comes before the first bucket that starts later
pub insert_cases {ℓ} : (b a : Bucket) (t : Table) (P : Table → Type ℓ) → (b.start < a.start → P (b ∷ a ∷ t)) → (a.start ≤ b.start → P (a ∷ insert b t)) → P (insert b (a ∷ t))
unfolding insert
insert_cases b a t P before behind =
    cond_ind (ltb b.start a.start) (b ∷ a ∷ t) (a ∷ insert b t) P (λ h. before (ltb-true b.start a.start h)) (λ h. behind (ltb-false b.start a.start h))

pub insert_length : (b : Bucket) (t : Table) → length (insert b t) ≡ suc (length t)
unfolding insert
insert_length b [] = refl
insert_length b (a ∷ t) = insert_cases b a t (λ u. length u ≡ suc (suc (length t))) (λ h. refl) (λ h. ap suc (insert_length b t))

pub insert_readings : (b : Bucket) (t : Table) → readings (insert b t) ≡ b.count + readings t
unfolding insert readings
insert_readings b [] = refl
insert_readings b (a ∷ t) =
    insert_cases b a t (λ u. readings u ≡ b.count + (a.count + readings t)) (λ h. refl) (λ h. omega (arith, insert_readings b t))

pub insert_holders : (tick : ℕ) (b : Bucket) (t : Table) → holders tick (insert b t) ≡ one (holds tick b) + holders tick t
unfolding insert holders
insert_holders tick b [] = refl
insert_holders tick b (a ∷ t) =
    insert_cases b a t (λ u. holders tick u ≡ one (holds tick b) + (one (holds tick a) + holders tick t)) (λ h. refl)
    (λ h. omega (arith, insert_holders tick b t))

pub insert_member : (x b : Bucket) (t : Table) → Memᴰ x (insert b t) → (x ≡ b) ⊎ Memᴰ x t
unfolding insert
insert_member x b [] = λ m. Memᴰ.cases_cons m
insert_member x b (a ∷ t) =
    insert_cases b a t (λ u. Memᴰ x u → (x ≡ b) ⊎ Memᴰ x (a ∷ t)) (λ h m. Memᴰ.cases_cons m)
    (λ h m. ⊎_elim (λ e. inr (Memᴰ.head e)) (λ n. ⊎_map (λ e. e) (λ k. Memᴰ.tail k) (insert_member x b t n)) (Memᴰ.cases_cons m))

-- ---- one reading more at a tick that is not held

pub held_none : (e tick : ℕ) (t : Table) → Ordered e t → tick < e → holders tick t ≡ 0
unfolding holders Ordered
held_none e tick [] o h = refl
held_none e tick (a ∷ t) o h = omega (arith, held_none (end a) tick t o.1.1 (omega arith), holds_counts tick a, leb_counts a.start tick)

-- how many buckets hold the tick before
unfoldable pub held_before : ℕ → Table → ℕ
held_before zero t = 0
held_before (suc tick) t = holders tick t

pub before_none : (e tick : ℕ) (t : Table) → Ordered e t → tick ≤ e → held_before tick t ≡ 0
unfolding held_before
before_none e zero t o h = refl
before_none e (suc tick) t o h = held_none e tick t o h

before_cons : (tick : ℕ) (a : Bucket) (t : Table) → 1 ≤ a.count → end a ≤ tick → held_before tick (a ∷ t) ≡ one (eqb (end a) tick) + held_before tick t
unfolding held_before holders
before_cons zero a t c h = absurd (omega arith)
before_cons (suc tick) a t c h =
    let last : one (leb a.start tick) ≡ 1 = omega (arith, leb_counts a.start tick) in
    omega (arith, holds_counts tick a, leb_counts (end a) tick, eqb_counts (end a) (suc tick))

unless : (c : Bool) → cond c 0 1 + one c ≡ 1
unless true = refl
unless false = refl

-- a bucket that does not hold a tick ends before it, where it starts before it
pub ends_before : (tick : ℕ) (a : Bucket) → one (holds tick a) ≡ 0 → a.start ≤ tick → end a ≤ tick
ends_before tick a none h = omega (arith, holds_counts tick a, leb_counts (end a) tick, leb_counts a.start tick)

starts_at : (tick : ℕ) (a : Bucket) → 1 ≤ a.count → tick ≤ a.start → one (holds tick a) ≡ one (eqb tick a.start)
starts_at tick a c h =
    let later : one (leb (end a) tick) ≡ 0 = omega (arith, leb_counts (end a) tick) in
    omega (arith, holds_counts tick a, leb_counts a.start tick, eqb_counts tick a.start)

module _ (tick : ℕ) (v : ℤ) where
  pub insert_ordered : (e : ℕ) (t : Table) → Ordered e t → e ≤ tick → holders tick t ≡ 0 → Ordered e (insert (single tick v) t)
  unfolding insert holders Ordered
  insert_ordered e [] o h none = (h, (omega arith, tt))
  insert_ordered e (a ∷ t) o h none =
      insert_cases (single tick v) a t (Ordered e) (λ g. (h, (omega arith, (omega arith, o.1))))
      (λ g. (o.0, (o.1.0, insert_ordered (end a) t o.1.1 (ends_before tick a (omega arith) g) (omega arith))))

  module _ (a : Bucket) (t : Table) (some : 1 ≤ a.count) where
    -- put before the first bucket, it touches that one or none
    before_first : Ordered (end a) t → tick < a.start → cond (eqb (end (single tick v)) a.start) 0 1 + (held_before tick (a ∷ t) + holders (suc tick) (a ∷ t)) ≡ 1
    unfolding holders Ordered
    before_first o h =
        rw add-one
        (omega (
          arith,
          before_none a.start tick (a ∷ t) (omega arith, (some, o)) (omega arith),
          held_none (end a) (suc tick) t o (omega arith),
          starts_at (suc tick) a some h,
          unless (eqb (suc tick) a.start),
        ))

    -- put behind it, it touches that one too where that one ends at its tick
    behind_first : end a ≤ tick → held_before tick (a ∷ t) + holders (suc tick) (a ∷ t) ≡ one (eqb (end a) tick) + (held_before tick t + holders (suc tick) t)
    unfolding holders
    behind_first h = omega (arith, before_cons tick a t some h, holds_counts (suc tick) a, leb_counts (end a) (suc tick), leb_counts a.start (suc tick))

  insert_runs_after : (e : ℕ) (t : Table) → Ordered e t → e ≤ tick → holders tick t ≡ 0
      → runs_after e (insert (single tick v) t) + (one (eqb e tick) + (held_before tick t + holders (suc tick) t)) ≡ suc (runs_after e t)
  unfolding insert holders Ordered runs_after
  insert_runs_after e [] o h none = omega (arith, unless (eqb e tick), before_none tick tick [] tt (omega arith))
  insert_runs_after e (a ∷ t) o h none =
      insert_cases (single tick v) a t
      (λ u. runs_after e u + (one (eqb e tick) + (held_before tick (a ∷ t) + holders (suc tick) (a ∷ t))) ≡ suc (runs_after e (a ∷ t)))
      (λ g. omega (arith, before_first a t o.1.0 o.1.1 g, unless (eqb e tick), unless (eqb e a.start), eqb_counts e a.start))
      (λ g.
      let past : end a ≤ tick = ends_before tick a (omega arith) g in
      omega (arith, insert_runs_after (end a) t o.1.1 past (omega arith), behind_first a t o.1.0 past, eqb_counts e tick))

  -- the runs grow by one, less one where the bucket before is touched, less one where the bucket after is
  pub insert_runs : (t : Table) → Ordered 0 t → holders tick t ≡ 0 → runs (insert (single tick v) t) + (held_before tick t + holders (suc tick) t) ≡ suc (runs t)
  unfolding insert holders Ordered runs runs_after
  insert_runs [] o none = omega (arith, before_none tick tick [] tt (omega arith))
  insert_runs (a ∷ t) o none =
      insert_cases (single tick v) a t (λ u. runs u + (held_before tick (a ∷ t) + holders (suc tick) (a ∷ t)) ≡ suc (runs (a ∷ t)))
      (λ g. omega (arith, before_first a t o.1.0 o.1.1 g))
      (λ g.
      let past : end a ≤ tick = ends_before tick a (omega arith) g in
      omega (arith, insert_runs_after (end a) t o.1.1 past (omega arith), behind_first a t o.1.0 past))

-- ---- which bucket holds a tick

pub held_once : (e tick : ℕ) (t : Table) → Ordered e t → holders tick t ≤ 1
unfolding holders Ordered
held_once e tick [] o = omega arith
held_once e tick (a ∷ t) o =
    by_test (holds tick a)
    (λ h. omega (arith, ap one h, held_none (end a) tick t o.1.1 (held_within tick a h).1))
    (λ h. omega (arith, ap one h, held_once (end a) tick t o.1.1))

pub held_by : (tick : ℕ) (t : Table) → 1 ≤ holders tick t → (b : Bucket) × (holding tick t ≡ some b) × Memᴰ b t × (holds tick b ≡ true)
unfolding holders holding
held_by tick [] h = absurd (omega arith)
held_by tick (a ∷ t) h =
    by_test (holds tick a)
    (λ g. (a, ap (λ (c : Bool). cond c (some a) (holding tick t)) g, Memᴰ.head refl, g))
    (λ g.
    let below = held_by tick t (omega (arith, ap one g)) in
    (below.0, ap (λ (c : Bool). cond c (some a) (holding tick t)) g ∙ below.1, Memᴰ.tail below.2, below.3))

pub held_member : (tick : ℕ) {b : Bucket} {t : Table} → Memᴰ b t → holds tick b ≡ true → 1 ≤ holders tick t
unfolding holders
held_member tick (Memᴰ.head {x = x} e) h = omega (arith, ap (λ (b : Bucket). one (holds tick b)) e, ap one h)
held_member tick (Memᴰ.tail m) h = omega (arith, held_member tick m h)

-- ---- the next tick

last_end_least : (e : ℕ) (t : Table) → Ordered e t → e ≤ last_end e t
unfolding last_end Ordered
last_end_least e [] o = omega arith
last_end_least e (a ∷ t) o = omega (arith, last_end_least (end a) t o.1.1)

pub next_free : (e tick : ℕ) (t : Table) → Ordered e t → last_end e t ≤ tick → holders tick t ≡ 0
unfolding last_end Ordered holders
next_free e tick [] o h = refl
next_free e tick (a ∷ t) o h =
    let past : end a ≤ tick = omega (arith, last_end_least (end a) t o.1.1) in
    omega (arith, next_free (end a) tick t o.1.1 h, holds_counts tick a, leb_counts (end a) tick, leb_counts a.start tick)

pub next_touches : (e : ℕ) (a : Bucket) (t : Table) → Ordered e (a ∷ t) → 1 ≤ held_before (last_end e (a ∷ t)) (a ∷ t)
unfolding last_end Ordered
next_touches e a [] o = omega (arith, before_cons (end a) a [] o.1.0 (omega arith), eqb_counts (end a) (end a))
next_touches e a (b ∷ t) o =
    omega (arith, before_cons (last_end (end a) (b ∷ t)) a (b ∷ t) o.1.0 (last_end_least (end a) (b ∷ t) o.1.1), next_touches (end a) b t o.1.1)
