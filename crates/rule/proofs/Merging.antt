-- What the merge rule's functions do: the cheapest neighbours are neighbours of smallest spread, among equals of least weight, among these the lowest, and exist wherever there are fewer runs than buckets.
use Prim.Native.Nat.{ℕ, zero, suc, ◌+◌, ◌≤◌, ◌<◌, min}
use mathlib.Core.Path.{◌≡◌, refl, sym, ap, ◌∙◌, subst}
use mathlib.Core.Bool.{Bool, true, false, cond, false≢true, true≢false}
use mathlib.Core.List.{[], ◌∷◌, ◌++◌}
use mathlib.Core.Logic.{◌⊎◌, inl, inr, ⊎_elim}
use native.Mathlib.Omega.{arith}
use borrow.Author.Tests.{eq-eqb, eqb-false, eqb-true, le-leb, le-ltb, leb-false, leb-true, lt-leb, lt-ltb, ltb-false, ltb-true}
use lib.Dec.{leb, ltb, eqb}
use lib.IntN.{ℤ}
use lib.ListN.{length, length-append}
use Rattle.rule.specs.declared.Bucket.{Bucket}
use Rattle.rule.specs.Bucket.{end, neighbours, spread, union}
use Rattle.rule.specs.declared.Kind.{Kind}
use Rattle.rule.specs.declared.Kind.TheVariants.{InOrder, Late}
use Rattle.rule.specs.declared.Settings.{Settings}
use Rattle.rule.specs.Table.{Table, Choice, Ordered, ahead, nothing, pair, accept, choice, cheaper, cheapest, holders, insert, limit, limit_over, merge, merge_at, merge_of, readings, runs, runs_after, settle, settle_in, single, weight}
use Rattle.rule.proofs.Whole.{by_test, cond_ind}
use Rattle.rule.proofs.Tables.{held_once, held_before, insert_length, insert_runs, merged_length, merged_readings, merged_runs}

-- two buckets side by side in a table
pub record Beside (t : Table) : Type 0 where
  pub left : Table
  pub first : Bucket
  pub second : Bucket
  pub right : Table
  pub stands : t ≡ left ++ (first ∷ second ∷ right)
  pub touching : neighbours first second ≡ true

abbrev pub cost : {t : Table} → Beside t → ℕ
cost n = spread (union n.first n.second)

abbrev pub ticks_of : ℕ → {t : Table} → Beside t → ℕ
ticks_of e n = weight e (union n.first n.second)

-- the pair that `cheapest e i t` answers with the place j, the spread s and the weight w
pub record Chosen (e i : ℕ) (t : Table) (j s w : ℕ) : Type 0 where
  pub these : Beside t
  pub place : j ≡ i + length these.left
  pub costs : s ≡ cost these
  pub weighs : w ≡ ticks_of e these
  -- no other is ahead of it, and none before it is as good
  pub smallest : (n : Beside t) → ahead s w (cost n) (ticks_of e n) ≡ true
  pub lowest : (n : Beside t) → length n.left < length these.left → ahead (cost n) (ticks_of e n) s w ≡ false

-- ---- the order of spread and weight

pub ahead_true : (s w r x : ℕ) → ahead s w r x ≡ true → (s < r) ⊎ ((s ≡ r) × (w ≤ x))
unfolding ahead
ahead_true s w r x e =
    by_test (ltb s r) (λ h. inl (ltb-true s r h))
    (λ h. by_test (eqb s r) (λ k. inr (eqb-true s r k, leb-true w x (rw (h, k) at e))) (λ k. absurd (false≢true (rw (h, k) at e))))

pub ahead_false : (s w r x : ℕ) → ahead s w r x ≡ false → (r < s) ⊎ ((r ≡ s) × (x < w))
unfolding ahead
ahead_false s w r x e =
    by_test (ltb s r) (λ h. absurd (true≢false (rw h at e)))
    (λ h. by_test (eqb s r) (λ k. inr (sym (eqb-true s r k), leb-false w x (rw (h, k) at e))) (λ k. inl (further (ltb-false s r h) (eqb-false s r k))))
  where
    further : {a b : ℕ} → b ≤ a → (a ≡ b → ⊥) → b < a
    further p n = omega arith

pub is_ahead : (s w r x : ℕ) → (s < r) ⊎ ((s ≡ r) × (w ≤ x)) → ahead s w r x ≡ true
unfolding ahead
is_ahead s w r x (inl h) = rw (lt-ltb s r h)
is_ahead s w r x (inr h) = rw (le-ltb s r (omega arith), eq-eqb s r h.0, le-leb w x h.1)

pub ahead_refl : (s w : ℕ) → ahead s w s w ≡ true
ahead_refl s w = is_ahead s w s w (inr (refl, omega arith))

pub ahead_trans : (s w r x q y : ℕ) → ahead s w r x ≡ true → ahead r x q y ≡ true → ahead s w q y ≡ true
ahead_trans s w r x q y e f =
    is_ahead s w q y
    (⊎_elim (λ h. ⊎_elim (λ k. inl (omega arith)) (λ k. inl (omega arith)) (ahead_true r x q y f))
    (λ h. ⊎_elim (λ k. inl (omega arith)) (λ k. inr (omega arith, omega arith)) (ahead_true r x q y f)) (ahead_true s w r x e))

pub ahead_other : (s w r x : ℕ) → ahead s w r x ≡ false → ahead r x s w ≡ true
ahead_other s w r x e = is_ahead r x s w (⊎_elim (λ h. inl h) (λ h. inr (h.0, omega arith)) (ahead_false s w r x e))

pub ahead_least : (s w r x : ℕ) → ahead s w r x ≡ true → s ≤ r
ahead_least s w r x e = ⊎_elim (λ h. omega arith) (λ h. omega arith) (ahead_true s w r x e)

-- without weights, as in edition 1, the spread alone decides
pub ahead_alone : (s r : ℕ) → ahead s 0 r 0 ≡ leb s r
ahead_alone s r =
    by_test (leb s r)
    (λ e. by_test (ltb s r)
    (λ h. is_ahead s 0 r 0 (inl (ltb-true s r h)) ∙ sym e)
    (λ h. is_ahead s 0 r 0 (inr (omega (arith, leb-true s r e, ltb-false s r h), omega arith)) ∙ sym e))
    (λ e. by_test (ahead s 0 r 0) (λ h. absurd (omega (arith, ahead_least s 0 r 0 h, leb-false s r e))) (λ h. h ∙ sym e))

-- ---- a pair of a ∷ b ∷ t is (a, b), or a pair of b ∷ t

abbrev joint : {t : Table} → Beside t → Bucket
joint n = union n.first n.second

below : (a : Bucket) {t : Table} → Beside t → Beside (a ∷ t)
below a n = record { left = a ∷ n.left; first = n.first; second = n.second; right = n.right; stands = ap (λ (l : Table). a ∷ l) n.stands; touching = n.touching }

data Where (a b : Bucket) (t : Table) (n : Beside (a ∷ b ∷ t)) : Type 0 where
  here : n.left ≡ [] → neighbours a b ≡ true → joint n ≡ union a b → Where a b t n
  there : (m : Beside (b ∷ t)) → n.left ≡ a ∷ m.left → joint n ≡ joint m → Where a b t n

its_place : (a b : Bucket) (t : Table) (n : Beside (a ∷ b ∷ t)) → Where a b t n
its_place a b t n = go n.left refl
  where
    go : (l : Table) → n.left ≡ l → Where a b t n
    go [] e =
        let w : a ∷ b ∷ t ≡ n.first ∷ n.second ∷ n.right = n.stands ∙ ap (λ (l : Table). l ++ (n.first ∷ n.second ∷ n.right)) e in
        let f : a ≡ n.first = cc in
        let g : b ≡ n.second = cc in
        here e (ap (λ (x : Bucket). neighbours x b) f ∙ ap (λ (x : Bucket). neighbours n.first x) g ∙ n.touching) (sym (ap (λ (x : Bucket). union x b) f ∙ ap (λ (x : Bucket). union n.first x) g))
    go (x ∷ l) e =
        let w : a ∷ b ∷ t ≡ x ∷ (l ++ (n.first ∷ n.second ∷ n.right)) = n.stands ∙ ap (λ (l : Table). l ++ (n.first ∷ n.second ∷ n.right)) e in
        let f : a ≡ x = cc in
        let g : b ∷ t ≡ l ++ (n.first ∷ n.second ∷ n.right) = cc in
        there (record { left = l; first = n.first; second = n.second; right = n.right; stands = g; touching = n.touching }) (e ∙ ap (λ (y : Bucket). y ∷ l) (sym f)) refl

none_in_one : (a : Bucket) → Beside (a ∷ []) → ⊥
none_in_one a n = go n.left refl
  where
    go : (l : Table) → n.left ≡ l → ⊥
    go [] e = let w : a ∷ [] ≡ n.first ∷ n.second ∷ n.right = n.stands ∙ ap (λ (l : Table). l ++ (n.first ∷ n.second ∷ n.right)) e in
        let z : ◌≡◌ {A = ℕ} 1 (suc (suc (length n.right))) = ap length w in omega arith
    go (x ∷ l) e = let w : a ∷ [] ≡ x ∷ (l ++ (n.first ∷ n.second ∷ n.right)) = n.stands ∙ ap (λ (l : Table). l ++ (n.first ∷ n.second ∷ n.right)) e in
        let z : ◌≡◌ {A = ℕ} 1 (suc (length (l ++ (n.first ∷ n.second ∷ n.right)))) = ap length w in omega (arith, length-append l (n.first ∷ n.second ∷ n.right))

-- ---- what `cheapest` answers

pub data Answers (e i : ℕ) (t : Table) : Choice → Type 0 where
  no_pair : (Beside t → ⊥) → Answers e i t nothing
  a_pair : {j s w : ℕ} → Chosen e i t j s w → Answers e i t (pair j s w)

front : (a b : Bucket) (t : Table) → neighbours a b ≡ true → Beside (a ∷ b ∷ t)
front a b t h = record { left = []; first = a; second = b; right = t; stands = refl; touching = h }

module _ (e i : ℕ) (a b : Bucket) (t : Table) where
  S : ℕ
  S = spread (union a b)

  W : ℕ
  W = weight e (union a b)

  -- the first two are chosen where no later pair is ahead
  of_front : (h : neighbours a b ≡ true) → ((m : Beside (b ∷ t)) → ahead S W (cost m) (ticks_of e m) ≡ true) → Chosen e i (a ∷ b ∷ t) i S W
  unfolding front S W
  of_front h later =
      record { these = front a b t h; place = omega arith; costs = refl; weighs = refl; smallest = λ n. small n (its_place a b t n); lowest = λ n g. absurd (omega arith) }
    where
      small : (n : Beside (a ∷ b ∷ t)) → Where a b t n → ahead S W (cost n) (ticks_of e n) ≡ true
      small n (here _ _ c) = subst (λ (u : Bucket). ahead S W (spread u) (weight e u) ≡ true) (sym c) (ahead_refl S W)
      small n (there m _ c) = subst (λ (u : Bucket). ahead S W (spread u) (weight e u) ≡ true) (sym c) (later m)

  -- a later pair is chosen where the first two are none, or not ahead
  of_rest : {j s w : ℕ} → Chosen e (suc i) (b ∷ t) j s w → (neighbours a b ≡ true → ahead S W s w ≡ false) → Chosen e i (a ∷ b ∷ t) j s w
  unfolding below S W
  of_rest {j} {s} {w} r dear =
      record { these = below a r.these; place = omega (arith, r.place); costs = r.costs; weighs = r.weighs; smallest = λ n. small n (its_place a b t n); lowest = λ n h. low n h (its_place a b t n) }
    where
      small : (n : Beside (a ∷ b ∷ t)) → Where a b t n → ahead s w (cost n) (ticks_of e n) ≡ true
      small n (here _ h c) = subst (λ (u : Bucket). ahead s w (spread u) (weight e u) ≡ true) (sym c) (ahead_other S W s w (dear h))
      small n (there m _ c) = subst (λ (u : Bucket). ahead s w (spread u) (weight e u) ≡ true) (sym c) (r.smallest m)

      low : (n : Beside (a ∷ b ∷ t)) → length n.left < suc (length r.these.left) → Where a b t n → ahead (cost n) (ticks_of e n) s w ≡ false
      low n h (here _ g c) = subst (λ (u : Bucket). ahead (spread u) (weight e u) s w ≡ false) (sym c) (dear g)
      low n h (there m f c) = subst (λ (u : Bucket). ahead (spread u) (weight e u) s w ≡ false) (sym c) (r.lowest m (omega (arith, ap length f)))

  step : (c : Bool) → neighbours a b ≡ c → (q : Choice) → Answers e (suc i) (b ∷ t) q → Answers e i (a ∷ b ∷ t) (cheaper (cond c (pair i S W) nothing) q)
  unfolding cheaper
  step false h nothing (no_pair f) = no_pair (λ n. none n (its_place a b t n))
    where
      none : (n : Beside (a ∷ b ∷ t)) → Where a b t n → ⊥
      none n (here _ g _) = false≢true (sym h ∙ g)
      none n (there m _ _) = f m
  step false h (pair j s w) (a_pair r) = a_pair (of_rest r (λ g. absurd (false≢true (sym h ∙ g))))
  step true h nothing (no_pair f) = a_pair (of_front h (λ m. absurd (f m)))
  step true h (pair j s w) (a_pair r) =
      cond_ind (ahead S W s w) (pair i S W) (pair j s w) (Answers e i (a ∷ b ∷ t))
      (λ k. a_pair (of_front h (λ m. ahead_trans S W s w (cost m) (ticks_of e m) k (r.smallest m))))
      (λ k. a_pair (of_rest r (λ _. k)))

pub answers : (e i : ℕ) (t : Table) → Answers e i t (cheapest e i t)
unfolding cheapest choice S W
answers e i [] = no_pair (λ n. none n n.left refl)
  where
    none : (n : Beside []) (l : Table) → n.left ≡ l → ⊥
    none n [] e = let z : ◌≡◌ {A = ℕ} 0 (suc (suc (length n.right))) = ap length (n.stands ∙ ap (λ (l : Table). l ++ (n.first ∷ n.second ∷ n.right)) e) in omega arith
    none n (x ∷ l) e = let z : ◌≡◌ {A = ℕ} 0 (suc (length (l ++ (n.first ∷ n.second ∷ n.right)))) = ap length (n.stands ∙ ap (λ (l : Table). l ++ (n.first ∷ n.second ∷ n.right)) e) in omega arith
answers e i (a ∷ []) = no_pair (none_in_one a)
answers e i (a ∷ b ∷ t) = step e i a b t (neighbours a b) refl (cheapest e (suc i) (b ∷ t)) (answers e (suc i) (b ∷ t))

-- ---- where no two are neighbours there are as many runs as buckets

pub lone_runs : (t : Table) → (Beside t → ⊥) → runs t ≡ length t
unfolding runs runs_after
lone_runs [] f = refl
lone_runs (a ∷ []) f = refl
lone_runs (a ∷ b ∷ t) f =
    cond_ind (eqb (end a) b.start) 0 1 (λ (n : ℕ). suc (n + runs_after (end b) t) ≡ suc (suc (length t)))
    (λ h. absurd (f (front a b t h)))
    (λ h. let ih : suc (runs_after (end b) t) ≡ suc (length t) = lone_runs (b ∷ t) (λ n. f (below a n)) in omega arith)

pub merged_at : (l : Table) (a b : Bucket) (r : Table) → merge_at (length l) (l ++ (a ∷ b ∷ r)) ≡ l ++ (union a b ∷ r)
unfolding merge_at
merged_at [] a b r = refl
merged_at (x ∷ []) a b r = refl
merged_at (x ∷ y ∷ l) a b r = ap (λ (t : Table). x ∷ t) (merged_at (y ∷ l) a b r)

-- a merge takes the cheapest neighbours wherever there are fewer runs than buckets
pub record Merges (e : ℕ) (t : Table) : Type 0 where
  pub these : Beside t
  pub leaves : merge e t ≡ these.left ++ (union these.first these.second ∷ these.right)
  pub smallest : (n : Beside t) → cost these ≤ cost n
  pub first : (n : Beside t) → ahead (cost these) (ticks_of e these) (cost n) (ticks_of e n) ≡ true
  pub lowest : (n : Beside t) → length n.left < length these.left → ahead (cost n) (ticks_of e n) (cost these) (ticks_of e these) ≡ false

pub merges : (e : ℕ) (t : Table) → runs t < length t → Merges e t
unfolding merge merge_of
merges e t h = go (cheapest e 0 t) (answers e 0 t) refl
  where
    go : (q : Choice) → Answers e 0 t q → cheapest e 0 t ≡ q → Merges e t
    go nothing (no_pair f) p = absurd (omega (arith, lone_runs t f))
    go (pair j s x) (a_pair w) p =
        record {
          these = w.these;
          leaves = ap (λ (q : Choice). merge_of q t) p ∙ ap (λ (k : ℕ). merge_at k t) (w.place ∙ omega arith) ∙ ap (merge_at (length w.these.left)) w.these.stands ∙ merged_at w.these.left w.these.first w.these.second w.these.right;
          smallest = λ n. omega (arith, w.costs, ahead_least s x (cost n) (ticks_of e n) (w.smallest n));
          first = λ n. rw (← w.costs, ← w.weighs) (w.smallest n);
          lowest = λ n g. rw (← w.costs, ← w.weighs) (w.lowest n g);
        }

module _ (e : ℕ) (t : Table) (h : runs t < length t) where
  pub merge_length : length t ≡ suc (length (merge e t))
  merge_length =
      let w = merges e t h in
      ap length w.these.stands ∙ merged_length w.these.first w.these.second w.these.touching w.these.left w.these.right ∙ ap (λ (u : Table). suc (length u)) (sym w.leaves)

  pub merge_runs : runs (merge e t) ≡ runs t
  merge_runs =
      let w = merges e t h in
      ap runs w.leaves ∙ merged_runs w.these.first w.these.second w.these.touching w.these.left w.these.right ∙ ap runs (sym w.these.stands)

  pub merge_readings : readings (merge e t) ≡ readings t
  merge_readings =
      let w = merges e t h in
      ap readings w.leaves ∙ merged_readings w.these.first w.these.second w.these.touching w.these.left w.these.right ∙ ap readings (sym w.these.stands)

-- ---- while the buckets are more than the limit

-- the limit leaves room for one bucket a run: late always, in order where there is but one run
abbrev pub Enough : Settings → Table → Type 0
Enough s t = runs t ≤ limit s (runs t)

module _ (s : Settings) where
  pub settle_rests : (t : Table) → length t ≤ limit s (runs t) → settle s t ≡ t
  unfolding settle settle_in
  settle_rests [] h = refl
  settle_rests (a ∷ t) h = rw (le-leb (length (a ∷ t)) (limit s (runs (a ∷ t))) h)

  pub settle_merges : (t : Table) → Enough s t → limit s (runs t) < length t → settle s t ≡ settle s (merge s.edition t)
  unfolding settle settle_in
  settle_merges [] e h = absurd (omega arith)
  settle_merges (a ∷ t) e h =
      let l : length t ≡ length (merge s.edition (a ∷ t)) = omega (arith, merge_length s.edition (a ∷ t) (omega arith)) in
      rw (lt-leb (length (a ∷ t)) (limit s (runs (a ∷ t))) h) (ap (λ (n : ℕ). settle_in n s (merge s.edition (a ∷ t))) l)

  still_enough : (t : Table) → runs t < length t → Enough s t → Enough s (merge s.edition t)
  still_enough t h e = rw (merge_runs s.edition t h) e

  -- what each merge keeps, the whole keeps
  pub settle_keeps : (P : Table → Type 0) → ((u : Table) → runs u < length u → P u → P (merge s.edition u)) → (n : ℕ) (t : Table) → length t ≤ n → Enough s t → P t → P (settle s t)
  settle_keeps P step zero t b e p = subst P (sym (settle_rests t (omega arith))) p
  settle_keeps P step (suc n) t b e p =
      by_test (leb (length t) (limit s (runs t)))
      (λ h. subst P (sym (settle_rests t (leb-true (length t) (limit s (runs t)) h))) p)
      (λ h.
      let over : limit s (runs t) < length t = leb-false (length t) (limit s (runs t)) h in
      let fewer : runs t < length t = omega arith in
      subst P (sym (settle_merges t e over))
      (settle_keeps P step n (merge s.edition t) (omega (arith, merge_length s.edition t fewer)) (still_enough t fewer e) (step t fewer p)))

  pub settle_runs : (t : Table) → Enough s t → runs (settle s t) ≡ runs t
  settle_runs t e = settle_keeps (λ u. runs u ≡ runs t) (λ u h p. merge_runs s.edition u h ∙ p) (length t) t (omega arith) e refl

  pub settle_readings : (t : Table) → Enough s t → readings (settle s t) ≡ readings t
  settle_readings t e = settle_keeps (λ u. readings u ≡ readings t) (λ u h p. merge_readings s.edition u h ∙ p) (length t) t (omega arith) e refl

  -- it ends at the limit, or with no merge where the buckets were no more: so the merges are the buckets above the limit
  pub settle_length : (n : ℕ) (t : Table) → length t ≤ n → Enough s t → length (settle s t) ≡ min (length t) (limit s (runs t))
  settle_length zero t b e = omega (arith, ap length (settle_rests t (omega arith)))
  settle_length (suc n) t b e =
      by_test (leb (length t) (limit s (runs t)))
      (λ h. omega (arith, leb-true (length t) (limit s (runs t)) h, ap length (settle_rests t (leb-true (length t) (limit s (runs t)) h))))
      (λ h.
      let over : limit s (runs t) < length t = leb-false (length t) (limit s (runs t)) h in
      let fewer : runs t < length t = omega arith in
      let shorter : length t ≡ suc (length (merge s.edition t)) = merge_length s.edition t fewer in
      let same : limit s (runs (merge s.edition t)) ≡ limit s (runs t) = ap (limit s) (merge_runs s.edition t fewer) in
      omega (arith, ap length (settle_merges t e over), settle_length n (merge s.edition t) (omega arith) (still_enough t fewer e)))

-- ---- how many merges a reading can ask for

unfoldable pub most_merges : Kind → ℕ
most_merges InOrder = 1
most_merges Late = 2

held_before_once : (tick : ℕ) (t : Table) → Ordered 0 t → held_before tick t ≤ 1
unfolding held_before
held_before_once zero t o = omega arith
held_before_once (suc tick) t o = held_once 0 tick t o

lost_room : (kind : Kind) (base before after n : ℕ) → before ≤ after + 1 → n ≤ limit_over kind base before → suc n ≤ min (suc n) (limit_over kind base after) + most_merges kind
unfolding limit_over most_merges
lost_room InOrder base before after n h k = omega arith
lost_room Late base before after n h k = omega arith

-- on a table within its limit: one in order, two late
pub few_merges : (s : Settings) (tick : ℕ) (v : ℤ) (t : Table) → Ordered 0 t → holders tick t ≡ 0 → length t ≤ limit s (runs t) → Enough s (insert (single tick v) t)
    → suc (length t) ≤ length (accept s t tick v) + most_merges s.kind
unfolding accept
few_merges s tick v t o free h enough =
    let u : Table = insert (single tick v) t in
    let longer : length u ≡ suc (length t) = insert_length (single tick v) t in
    let settled : length (settle s u) ≡ min (length u) (limit s (runs u)) = settle_length s (length u) u (omega arith) enough in
    let joins = insert_runs tick v t o free in
    let last = held_once 0 (suc tick) t o in
    let room = lost_room s.kind s.base (runs t) (runs u) (length t) (omega (arith, held_before_once tick t o)) h in
    omega arith
