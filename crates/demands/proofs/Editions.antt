-- Each edition's table is allowed by its rule in words, and no other is.
use Prim.Native.Nat.{ℕ, zero, suc, ◌+◌, ◌≤◌, ◌<◌}
use mathlib.Core.Path.{◌≡◌, refl, sym, ap, ◌∙◌, subst}
use mathlib.Core.Bool.{Bool, true, false, true≢false}
use mathlib.Core.List.{List, [], ◌∷◌, ◌++◌}
use mathlib.Core.Logic.{⊎_elim, inr}
use native.Mathlib.Omega.{arith}
use borrow.Author.Tests.{ltb-false, ltb-true}
use lib.Dec.{ltb}
use lib.ListN.{length}
use Rattle.rule.specs.declared.Bucket.{Bucket}
use Rattle.rule.specs.declared.Kind.{Kind}
use Rattle.rule.specs.declared.Settings.{Settings}
use Rattle.rule.specs.Bucket.{end, neighbours, spread, union}
use Rattle.rule.specs.Table.{Ordered, Table, accept, ahead, insert, merge, runs, single, weight}
use Rattle.rule.proofs.Merging as merging
use Rattle.rule.proofs.Merging.{Beside, Merges, ahead_true, is_ahead}
use Rattle.rule.proofs.Tables.{merged_ordered}
use Rattle.rule.proofs.Whole.{by_test}
use Rattle.demands.specs.Editions.{AcceptedBy, Editions, Follows, Taken, in_edition, readings_of, table_by}
use Rattle.demands.specs.History.{FewestTicks, Held, LowestStart, Merge, Reading, Settles, accepted, merges, opened, rests}
use Rattle.demands.proofs.Demand3.{held_invariant, served}
use Rattle.demands.proofs.Instance.{enough_runs, held_along, held_by, merge_is, settles_in}
use Rattle.demands.proofs.Invariant.{reading_invariant}

-- ---- places and starts

ordered_from : (e : ℕ) (l : Table) (a : Bucket) (r : Table) → Ordered e (l ++ (a ∷ r)) → e ≤ a.start
unfolding Ordered
ordered_from e [] a r o = o.0
ordered_from e (x ∷ l) a r o = omega (arith, o.0, ordered_from (end x) l a r o.1.1)

-- one that stands before another starts before it
earlier : (e : ℕ) (l : Table) (a : Bucket) (r l' : Table) (a' : Bucket) (r' : Table) → Ordered e (l ++ (a ∷ r)) → l ++ (a ∷ r) ≡ l' ++ (a' ∷ r') → length l < length l' → a.start < a'.start
unfolding Ordered
earlier e l a r [] a' r' o q h = absurd (omega arith)
earlier e [] a r (x ∷ l') a' r' o q h =
    let g : r ≡ l' ++ (a' ∷ r') = cc in
    omega (arith, o.1.0, ordered_from (end a) l' a' r' (subst (Ordered (end a)) g o.1.1))
earlier e (x ∷ l) a r (y ∷ l') a' r' o q h =
    let g : l ++ (a ∷ r) ≡ l' ++ (a' ∷ r') = cc in
    earlier (end x) l a r l' a' r' o.1.1 g (omega arith)

same_merge : (l : Table) (a b : Bucket) (r l' : Table) (a' b' : Bucket) (r' : Table) → l ++ (a ∷ b ∷ r) ≡ l' ++ (a' ∷ b' ∷ r') → length l ≡ length l' → l ++ (union a b ∷ r) ≡ l' ++ (union a' b' ∷ r')
same_merge [] a b r [] a' b' r' q h =
    let f : a ≡ a' = cc in
    let g : b ≡ b' = cc in
    let k : r ≡ r' = cc in
    λ i. union (f i) (g i) ∷ k i
same_merge [] a b r (x ∷ l') a' b' r' q h = absurd (omega arith)
same_merge (x ∷ l) a b r [] a' b' r' q h = absurd (omega arith)
same_merge (x ∷ l) a b r (y ∷ l') a' b' r' q h =
    let f : x ≡ y = cc in
    let g : l ++ (a ∷ b ∷ r) ≡ l' ++ (a' ∷ b' ∷ r') = cc in
    let k = same_merge l a b r l' a' b' r' g (omega arith) in
    λ i. f i ∷ k i

-- merges of neighbours that start alike are one
same_start : {t u v : Table} → Ordered 0 t → (x : Merge t u) (y : Merge t v) → x.first.start ≡ y.first.start → u ≡ v
same_start o x y e =
    let q = sym x.stands ∙ y.stands in
    by_test (ltb (length x.left) (length y.left))
    (λ h. absurd (omega (arith, earlier 0 x.left x.first (x.second ∷ x.right) y.left y.first (y.second ∷ y.right) (subst (Ordered 0) x.stands o) q (ltb-true (length x.left) (length y.left) h))))
    (λ h. by_test (ltb (length y.left) (length x.left))
    (λ k. absurd (omega (arith, earlier 0 y.left y.first (y.second ∷ y.right) x.left x.first (x.second ∷ x.right) (subst (Ordered 0) y.stands o) (sym q) (ltb-true (length y.left) (length x.left) k))))
    (λ k. x.leaves ∙ same_merge x.left x.first x.second x.right y.left y.first y.second y.right q (omega (arith, ltb-false (length x.left) (length y.left) h, ltb-false (length y.left) (length x.left) k)) ∙ sym y.leaves))

-- ---- no other table

module _ {M : Table → Table → Type 0} (cheap : (t u : Table) → M t u → Merge t u) (same : (t u v : Table) → Ordered 0 t → M t u → M t v → u ≡ v) where
  kept_ordered : {t u : Table} → Ordered 0 t → M t u → Ordered 0 u
  kept_ordered {t} {u} o w =
      let m = cheap t u w in
      subst (Ordered 0) (sym m.leaves) (merged_ordered m.first m.second m.touching 0 m.left m.right (subst (Ordered 0) m.stands o))

  one_settled : {kind : Kind} {base : ℕ} {t v t' w : Table} {n k : ℕ} → Settles M kind base t v n → Settles M kind base t' w k → t ≡ t' → Ordered 0 t → v ≡ w
  one_settled (rests h) (rests h') e o = e
  one_settled {kind} {base} (rests {t = t} h) (merges {t = t'} h' m s) e o = absurd (omega (arith, subst (λ (x : Table). length x ≤ Rattle.rule.specs.Table.limit_over kind base (runs x)) e h))
  one_settled {kind} {base} (merges {t = t} h m s) (rests {t = t'} h') e o = absurd (omega (arith, subst (λ (x : Table). Rattle.rule.specs.Table.limit_over kind base (runs x) < length x) e h))
  one_settled (merges {t = t} {u = u} h m s) (merges {u = u'} h' m' s') e o = one_settled s s' (same t u u' o m (subst (λ (x : Table). M x u') (sym e) m')) (kept_ordered o m)

  one_held : {kind : Kind} {base : ℕ} {rs rs' : List Reading} {t u : Table} {m n : ℕ} → Held M kind base rs t m → Held M kind base rs' u n → rs ≡ rs' → t ≡ u
  one_held opened opened e = refl
  one_held opened (accepted r h takes s) e = absurd (omega (arith, ap length e))
  one_held (accepted r h takes s) opened e = absurd (omega (arith, ap length e))
  one_held {kind} (accepted {rs = rs} {t = t} r h takes s) (accepted {rs = rs'} r' h' takes' s') e =
      let f : r ≡ r' = cc in
      let g : rs ≡ rs' = cc in
      let k = one_held h h' g in
      one_settled s s' (λ i. insert (single (f i).tick (f i).value) (k i)) (reading_invariant kind rs t (held_invariant (held_by cheap h)) r takes).ordered

-- ---- the rules in words

module _ (e : ℕ) (t : Table) (o : Ordered 0 t) (h : runs t < length t) where
  w : Merges e t
  w = merging.merges e t h

  abbrev beside : (l : Table) (a b : Bucket) (r : Table) → t ≡ l ++ (a ∷ b ∷ r) → neighbours a b ≡ true → Beside t
  beside l a b r q g = record { left = l; first = a; second = b; right = r; stands = q; touching = g }

  -- of those that are as good, the lowest start
  low : (l : Table) (a b : Bucket) (r : Table) (q : t ≡ l ++ (a ∷ b ∷ r)) (g : neighbours a b ≡ true) → spread (union a b) ≡ merging.cost w.these → weight e (union a b) ≡ merging.ticks_of e w.these → w.these.first.start ≤ a.start
  low l a b r q g c v =
      by_test (ltb (length l) (length w.these.left))
      (λ k. absurd (true≢false (sym (is_ahead _ _ _ _ (inr (c, omega (arith, v)))) ∙ w.lowest (beside l a b r q g) (ltb-true (length l) (length w.these.left) k))))
      (λ k. not_later (ltb-false (length l) (length w.these.left) k))
    where
      not_later : length w.these.left ≤ length l → w.these.first.start ≤ a.start
      not_later k =
          by_test (ltb (length w.these.left) (length l))
          (λ j. omega (arith, earlier 0 w.these.left w.these.first (w.these.second ∷ w.these.right) l a (b ∷ r) (subst (Ordered 0) w.these.stands o) (sym w.these.stands ∙ q) (ltb-true (length w.these.left) (length l) j)))
          (λ j. omega (arith, same_first w.these.left w.these.first (w.these.second ∷ w.these.right) l a (b ∷ r) (sym w.these.stands ∙ q) (omega (arith, k, ltb-false (length w.these.left) (length l) j))))
        where
          same_first : (l : Table) (a : Bucket) (r l' : Table) (a' : Bucket) (r' : Table) → l ++ (a ∷ r) ≡ l' ++ (a' ∷ r') → length l ≡ length l' → a.start ≡ a'.start
          same_first [] a r [] a' r' q h = let f : a ≡ a' = cc in ap (λ (x : Bucket). x.start) f
          same_first [] a r (x ∷ l') a' r' q h = absurd (omega arith)
          same_first (x ∷ l) a r [] a' r' q h = absurd (omega arith)
          same_first (x ∷ l) a r (y ∷ l') a' r' q h = let g : l ++ (a ∷ r) ≡ l' ++ (a' ∷ r') = cc in same_first l a r l' a' r' g (omega arith)

first_merges : (t : Table) → Ordered 0 t → runs t < length t → LowestStart t (merge 1 t)
unfolding weight merge_is w
first_merges t o h = record { merged = merge_is 1 t h; lowest = λ l a b r q g c. low 1 t o h l a b r q g c refl }

second_merges : (t : Table) → Ordered 0 t → runs t < length t → FewestTicks t (merge 2 t)
unfolding weight merge_is w
second_merges t o h =
    record {
      merged = merge_is 2 t h;
      fewest = λ l a b r q g c. ⊎_elim (λ k. absurd (omega arith)) (λ k. k.1) (ahead_true _ _ _ _ ((w 2 t o h).first (beside 2 t o h l a b r q g)));
      lowest = λ l a b r q g c v. low 2 t o h l a b r q g c v;
    }

first_same : (t u v : Table) → Ordered 0 t → LowestStart t u → LowestStart t v → u ≡ v
first_same t u v o x y =
    let m = x.merged in
    let n = y.merged in
    let below = m.cheapest n.left n.first n.second n.right n.stands n.touching in
    let above = n.cheapest m.left m.first m.second m.right m.stands m.touching in
    same_start o m n
    (omega (arith, x.lowest n.left n.first n.second n.right n.stands n.touching (omega arith), y.lowest m.left m.first m.second m.right m.stands m.touching (omega arith)))

second_same : (t u v : Table) → Ordered 0 t → FewestTicks t u → FewestTicks t v → u ≡ v
second_same t u v o x y =
    let m = x.merged in
    let n = y.merged in
    let below = m.cheapest n.left n.first n.second n.right n.stands n.touching in
    let above = n.cheapest m.left m.first m.second m.right m.stands m.touching in
    let fewer = x.fewest n.left n.first n.second n.right n.stands n.touching (omega arith) in
    let fewer' = y.fewest m.left m.first m.second m.right m.stands m.touching (omega arith) in
    same_start o m n
    (omega (arith, x.lowest n.left n.first n.second n.right n.stands n.touching (omega arith) (omega arith), y.lowest m.left m.first m.second m.right m.stands m.touching (omega arith) (omega arith)))

-- ---- the two editions

follows : (e : ℕ) (M : Table → Table → Type 0) → ((t : Table) → Ordered 0 t → runs t < length t → M t (merge e t)) → ((t u : Table) → M t u → Merge t u) → ((t u v : Table) → Ordered 0 t → M t u → M t v → u ≡ v) → Follows e M
follows e M made cheap same =
    record {
      allowed = λ s rs i few a. held_along M s (λ t o h. subst (λ (d : ℕ). M t (merge d t)) (sym i) (made t o h)) cheap rs few a;
      alone = λ x y. one_held cheap same x y refl;
      cheapest = cheap;
      served = λ few h. served _ _ _ _ _ few (held_by cheap h);
    }

-- ---- an edition for each reading

held_changing : (s : Settings) (ws : List Taken) → 1 ≤ s.base → AcceptedBy s ws → (m : ℕ) × Held Merge s.kind s.base (readings_of ws) (table_by s ws) m
unfolding AcceptedBy table_by readings_of accept
held_changing s [] few a = (0, opened)
held_changing s (w ∷ ws) few a =
    let g : Settings = in_edition w.0 s in
    let before = held_changing s ws few a.1 in
    let table : Table = insert (single w.1.tick w.1.value) (table_by s ws) in
    let invariant = reading_invariant s.kind (readings_of ws) (table_by s ws) (held_invariant before.1) w.1 a.0 in
    let after = settles_in Merge g (λ t o h. merge_is g.edition t h) (length table) table (omega arith) invariant.ordered (enough_runs s.kind s.base (runs table) few invariant.joined) in
    (after.0 + before.0, accepted w.1 before.1 a.0 after.1)

pub editions : Editions
editions =
    record {
      once = λ few h. served _ _ _ _ _ few h;
      changing = λ s ws few a. let h = held_changing s ws few a in (h.0, served s.kind s.base (readings_of ws) (table_by s ws) h.0 few h.1);
      first = follows 1 LowestStart first_merges (λ t u m. m.merged) first_same;
      second = follows 2 FewestTicks second_merges (λ t u m. m.merged) second_same;
    }
