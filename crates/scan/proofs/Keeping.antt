-- The better of the neighbours that were met and others.
use Prim.Native.Nat.{ℕ, suc, ◌<◌}
use mathlib.Core.Path.{◌≡◌, refl}
use mathlib.Core.Bool.{true, false}
use mathlib.Core.List.{[], ◌∷◌}
use native.Mathlib.Omega.{arith}
use lib.Dec.{eqb}
use Rattle.rule.specs.declared.Bucket.{Bucket}
use Rattle.rule.specs.Bucket.{neighbours, spread, union}
use Rattle.rule.specs.Numbers.{word}
use Rattle.rule.specs.Table.{Choice, Table, ahead, cheaper, cheapest, choice, nothing, pair, weight}
use Rattle.rule.proofs.Merging.{ahead_least, ahead_trans}
use Rattle.rule.proofs.Whole.{by_test, cond_ind}
use Rattle.rooms.specs.Slots.{cost_of, place_of}
use Rattle.rooms.proofs.Scoring.{Below, behind}
use Rattle.scan.specs.declared.Best.{Best}
use Rattle.scan.specs.Best.{Light, better, unmet}

pub better_both : (b : Best) (p q : Choice) → better (better b p) q ≡ better b (cheaper p q)
unfolding better cheaper
better_both b nothing q = refl
better_both b (pair i s w) nothing = refl
better_both b (pair i s w) (pair j t x) =
    by_test (ahead b.cost b.ticks s w)
    (λ e. by_test (ahead s w t x)
    (λ f. let g : ahead b.cost b.ticks t x ≡ true = ahead_trans b.cost b.ticks s w t x e f in rw (e, f, e, g))
    (λ f. rw (e, f)))
    (λ e. by_test (ahead s w t x)
    (λ f. rw (e, f, e))
    (λ f. let g : ahead b.cost b.ticks t x ≡ false = behind b.cost b.ticks s w t x e f in rw (e, f, g)))

-- with none met, they are ahead
met : (s w : ℕ) → s < word → ahead word 0 s w ≡ false
met s w h = by_test (ahead word 0 s w) (λ e. absurd (omega (arith, ahead_least word 0 s w e))) (λ e. e)

-- with none met, the place is theirs
pub better_place : (q : Choice) → Below q → (better unmet q).place ≡ place_of q
unfolding Below better place_of
better_place nothing h = refl
better_place (pair i s w) h = rw (met s w h)

-- and so is the cost
pub better_cost : (q : Choice) → Below q → (better unmet q).cost ≡ cost_of q
unfolding Below better cost_of
better_cost nothing h = refl
better_cost (pair i s w) h = rw (met s w h)

-- ---- without ticks

unfoldable Weightless : Choice → Type 0
Weightless nothing = Unit {0}
Weightless (pair i s w) = w ≡ 0

module _ (e : ℕ) (not-second : eqb e 2 ≡ false) where
  choice_first : (i : ℕ) (a b : Bucket) → choice e i a b ≡ choice 1 i a b
  unfolding choice weight
  choice_first i a b = rw not-second

  -- in any edition but the second the cheapest are those of the first
  pub cheapest_first : (i : ℕ) (t : Table) → cheapest e i t ≡ cheapest 1 i t
  unfolding cheapest
  cheapest_first i [] = refl
  cheapest_first i (a ∷ []) = refl
  cheapest_first i (a ∷ b ∷ t) = rw (choice_first i a b, cheapest_first (suc i) (b ∷ t))

  weightless_choice : (i : ℕ) (a b : Bucket) → Weightless (choice e i a b)
  unfolding Weightless choice weight
  weightless_choice i a b = cond_ind (neighbours a b) (pair i (spread (union a b)) (weight e (union a b))) nothing Weightless (λ _. rw not-second) (λ _. tt)

  weightless_cheapest : (i : ℕ) (t : Table) → Weightless (cheapest e i t)
  unfolding Weightless cheapest cheaper
  weightless_cheapest i [] = tt
  weightless_cheapest i (a ∷ []) = tt
  weightless_cheapest i (a ∷ b ∷ t) = both (choice e i a b) (cheapest e (suc i) (b ∷ t)) (weightless_choice i a b) (weightless_cheapest (suc i) (b ∷ t))
    where
      both : (p q : Choice) → Weightless p → Weightless q → Weightless (cheaper p q)
      both nothing q f g = g
      both (pair i s w) nothing f g = f
      both (pair i s w) (pair j r x) f g = cond_ind (ahead s w r x) (pair i s w) (pair j r x) Weightless (λ _. f) (λ _. g)

better_weightless : (b : Best) (q : Choice) → Weightless q → b.ticks ≡ 0 → (better b q).ticks ≡ 0
unfolding Weightless better
better_weightless b nothing f h = h
better_weightless b (pair i s w) f h = cond_ind (ahead b.cost b.ticks s w) b (record { place = i; cost = s; ticks = w }) (λ x. x.ticks ≡ 0) (λ _. h) (λ _. f)

-- what is met stays without ticks
pub light_choice : (e : ℕ) (b : Best) (i : ℕ) (x y : Bucket) → Light e b → Light e (better b (choice e i x y))
light_choice e b i x y h k = better_weightless b (choice e i x y) (weightless_choice e k i x y) (h k)

pub light_cheapest : (e : ℕ) (b : Best) (i : ℕ) (t : Table) → Light e b → Light e (better b (cheapest e i t))
light_cheapest e b i t h k = better_weightless b (cheapest e i t) (weightless_cheapest e k i t) (h k)
