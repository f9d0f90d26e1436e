-- The cheapest neighbours of a table: in two parts, and below a bound where every number lies in its field's range.
use Prim.Native.Nat.{ℕ, zero, suc, ◌+◌, ◌-◌, ◌≤◌, ◌<◌}
use mathlib.Core.Path.{◌≡◌, refl, ap, ◌∙◌, sym}
use mathlib.Core.Bool.{true, false, cond, true≢false}
use mathlib.Core.List.{List, [], ◌∷◌, ◌++◌}
use native.Mathlib.Omega.{arith}
use native.Mathlib.Numerals.{add-one}
use lib.IntN.{ℤ}
use lib.ListN.{length}
use mir.Syntax.{w32}
use mir.Val.{SFits}
use Rattle.rule.specs.declared.Bucket.{Bucket}
use Rattle.rule.specs.Bucket.{distance, neighbours, spread, union}
use Rattle.rule.specs.Numbers.{word}
use Rattle.rule.specs.Room.{slot, slots}
use Rattle.rule.specs.Table.{Choice, Table, ahead, cheaper, cheapest, choice, nothing, pair, weight}
use Rattle.rule.proofs.Fitting.{Fitted, larger_fits, lesser_fits}
use Rattle.rule.proofs.Merging.{ahead_other, ahead_trans}
use Rattle.rule.proofs.Whole.{whole, by_test, cond_ind, distance_is}

-- ---- the tie rule

-- not ahead of one that is not ahead of another: not ahead of that
pub behind : (s w t x u y : ℕ) → ahead s w t x ≡ false → ahead t x u y ≡ false → ahead s w u y ≡ false
behind s w t x u y e f =
    by_test (ahead s w u y)
    (λ g. absurd (true≢false (sym (ahead_trans s w u y t x g (ahead_other t x u y f)) ∙ e)))
    (λ g. g)

pub cheaper_nothing : (p : Choice) → cheaper p nothing ≡ p
unfolding cheaper
cheaper_nothing nothing = refl
cheaper_nothing (pair i s w) = refl

pub cheaper_assoc : (p q r : Choice) → cheaper (cheaper p q) r ≡ cheaper p (cheaper q r)
unfolding cheaper
cheaper_assoc nothing q r = refl
cheaper_assoc (pair i s w) nothing r = refl
cheaper_assoc (pair i s w) (pair j t x) nothing = cheaper_nothing (cond (ahead s w t x) (pair i s w) (pair j t x))
cheaper_assoc (pair i s w) (pair j t x) (pair k u y) =
    by_test (ahead s w t x)
    (λ e. by_test (ahead t x u y)
    (λ f. let g : ahead s w u y ≡ true = ahead_trans s w t x u y e f in rw (e, f, e, g))
    (λ f. rw (e, f)))
    (λ e. by_test (ahead t x u y)
    (λ f. rw (e, f, e))
    (λ f. let g : ahead s w u y ≡ false = behind s w t x u y e f in rw (e, f, g)))

-- ---- in two parts

-- the neighbours up to a bucket, and those from it on
pub cheapest_split : (d i j : ℕ) (x : Table) (a : Bucket) (y : Table) → i + length x ≡ j → cheapest d i (x ++ (a ∷ y)) ≡ cheaper (cheapest d i (x ++ (a ∷ []))) (cheapest d j (a ∷ y))
unfolding cheapest cheaper
cheapest_split d i j [] a y e = let here : j ≡ i = omega arith in rw here
cheapest_split d i j (c ∷ []) a y e =
    let next : suc i ≡ j = omega arith in
    rw (cheaper_nothing (choice d i c a), next)
cheapest_split d i j (c ∷ b ∷ x) a y e =
    ap (cheaper (choice d i c b)) (cheapest_split d (suc i) j (b ∷ x) a y (omega arith)) ∙ sym (cheaper_assoc (choice d i c b) (cheapest d (suc i) (b ∷ x ++ (a ∷ []))) (cheapest d j (a ∷ y)))

-- ---- slot by slot

module _ (l : List ℤ) (n : ℕ) where
  pub slots_next : (i : ℕ) → i < n → slots l i (n - i) ≡ slot l i ∷ slots l (suc i) (n - suc i)
  unfolding slots
  slots_next i h = let e : n - i ≡ suc (n - suc i) = omega arith in rw e

  -- slot i and the one after it, and those behind
  pub cheapest_next : (d i j : ℕ) → i + 1 < n → cheapest d j (slots l i (n - i)) ≡ cheaper (choice d j (slot l i) (slot l (i + 1))) (cheapest d (suc j) (slots l (i + 1) (n - (i + 1))))
  unfolding cheapest
  cheapest_next d i j h = rw (add-one, slots_next i (omega arith), slots_next (suc i) (omega arith))

  pub cheapest_last : (d i j : ℕ) → n ≤ i + 1 → cheapest d j (slots l i (n - i)) ≡ nothing
  unfolding cheapest slots
  cheapest_last d i j h = go (n - i) (omega arith)
    where
      go : (m : ℕ) → m ≤ 1 → cheapest d j (slots l i m) ≡ nothing
      go zero h = refl
      go (suc zero) h = refl
      go (suc (suc m)) h = absurd (omega arith)

-- ---- the bound

unfoldable pub Below : Choice → Type 0
Below nothing = Unit {0}
Below (pair i s w) = s < word

pub distance_below : {a b : ℤ} → SFits w32 a → SFits w32 b → distance a b < word
distance_below {a} {b} f g = omega (whole, distance_is a b)

below_cheaper : (p q : Choice) → Below p → Below q → Below (cheaper p q)
unfolding cheaper
below_cheaper nothing q f g = g
below_cheaper (pair i s w) nothing f g = f
below_cheaper (pair i s w) (pair j r x) f g = cond_ind (ahead s w r x) (pair i s w) (pair j r x) Below (λ _. f) (λ _. g)

pub cheapest_below : (d i : ℕ) (t : Table) → Fitted t → Below (cheapest d i t)
unfolding Below Fitted cheapest choice
cheapest_below d i [] f = tt
cheapest_below d i (a ∷ []) f = tt
cheapest_below d i (a ∷ b ∷ t) f =
    below_cheaper (choice d i a b) (cheapest d (suc i) (b ∷ t))
    (cond_ind (neighbours a b) (pair i (spread (union a b)) (weight d (union a b))) nothing Below (λ _. distance_below (larger_fits f.0.largest f.1.0.largest) (lesser_fits f.0.least f.1.0.least)) (λ _. tt))
    (cheapest_below d (suc i) (b ∷ t) f.1)
