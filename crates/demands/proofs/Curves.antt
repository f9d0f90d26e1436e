-- Every function of ticks is, up to any tick, a curve of one step more than it has changes.
use Prim.Native.Nat.{ℕ, zero, suc, ◌≤◌, min}
use mathlib.Core.Path.{◌≡◌, refl, sym, ap, ◌∙◌}
use mathlib.Core.Bool.{true, cond}
use mathlib.Core.List.{List, [], ◌∷◌, ◌++◌}
use native.Mathlib.Omega.{arith}
use borrow.Author.Tests.{leb-true, leb-false}
use lib.Dec.{leb}
use lib.IntN.{ℤ}
use lib.ListN.{length, length-append}
use lib.Signed.{le_z}
use Rattle.rule.specs.Rules.{equal}
use Rattle.rule.proofs.Whole.{by_test, whole}
use Rattle.rule.proofs.Ruling.{and_left, and_right}
use Rattle.demands.specs.Curve.{Border, Drawn, changes, value_from}

-- a border put last holds from its tick on, whatever stands before it
value_append : (v : ℤ) (bs : List Border) (b : Border) (tick : ℕ) → value_from v (bs ++ (b ∷ [])) tick ≡ cond (leb b.tick tick) b.level (value_from v bs tick)
unfolding value_from
value_append v [] b tick = refl
value_append v (a ∷ bs) b tick = value_append (cond (leb a.tick tick) a.level v) bs b tick

equal_true : (a b : ℤ) → equal a b ≡ true → a ≡ b
unfolding equal
equal_true a b e = omega (whole, and_left (le_z a b) (le_z b a) e, and_right (le_z a b) (le_z b a) e)

module _ (f : ℕ → ℤ) where
  -- a border wherever the value changes, with the new value from there on
  borders : ℕ → List Border
  borders zero = []
  borders (suc n) = cond (equal (f n) (f (suc n))) (borders n) (borders n ++ (record { tick = suc n; level = f (suc n) } ∷ []))

  borders_count : (n : ℕ) → length (borders n) ≡ changes f n
  unfolding borders changes
  borders_count zero = refl
  borders_count (suc n) =
      by_test (equal (f n) (f (suc n))) (λ h. rw h (omega (arith, borders_count n))) (λ h. rw h (simp length-append (omega (arith, borders_count n))))

  -- from n on the value stays: no border is later, so the next one may be put last
  borders_value : (n tick : ℕ) → value_from (f 0) (borders n) tick ≡ f (min tick n)
  unfolding borders value_from
  borders_value zero tick = ap f (omega arith)
  borders_value (suc n) tick =
      by_test (leb (suc n) tick)
      (λ g.
      let above : suc n ≤ tick = leb-true (suc n) tick g in
      let here : min tick (suc n) ≡ suc n = omega arith in
      let before : min tick n ≡ n = omega arith in
      by_test (equal (f n) (f (suc n)))
      (λ h. rw h (borders_value n tick ∙ ap f before ∙ equal_true (f n) (f (suc n)) h ∙ ap f (sym here)))
      (λ h. rw (h, value_append, g) (ap f (sym here))))
      (λ g.
      let below : min tick n ≡ min tick (suc n) = omega (arith, leb-false (suc n) tick g) in
      by_test (equal (f n) (f (suc n)))
      (λ h. rw h (borders_value n tick ∙ ap f below))
      (λ h. rw (h, value_append, g) (borders_value n tick ∙ ap f below)))

  pub drawn : (n : ℕ) → Drawn f n
  drawn n =
      record {
        curve = record { first = f 0; borders = borders n };
        size = omega (arith, borders_count n);
        same = λ tick h. borders_value n tick ∙ ap f (omega arith);
      }
