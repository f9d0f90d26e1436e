-- What the search may read says nothing of what stands behind a hit.
use Prim.Native.Nat.{ℕ, suc, ◌*◌, ◌≤◌, ◌<◌}
use mathlib.Core.Path.{◌≡◌, sym, ap, ◌∙◌}
use mathlib.Core.Bool.{true, false, false≢true}
use mathlib.Core.List.{List}
use native.Mathlib.Omega.{arith}
use borrow.Author.Tests.{leb-false, leb-true}
use lib.Dec.{leb}
use lib.IntN.{ℤ}
use lib.ListN.{length}
use Rattle.over.specs.Search.{over}
use Rattle.rule.specs.Numbers.{slot_width}
use Rattle.rule.specs.Room.{slot, slot_ranged}
use Rattle.rule.proofs.Whole.{by_test}
use Rattle.search.specs.Reading.{Blind, Readable}

module _ (first last : ℕ) (bar : ℤ) (l m : List ℤ) (n i : ℕ) (hit : over first last bar (slot l i) ≡ true) (long : slot_width * suc i ≤ length m)
    (same : (j : ℕ) → j ≤ i → (slot m j ≡ slot l j) × (slot_ranged m j ≡ slot_ranged l j)) (known : Readable first last bar l n) where
  known_too : (k : ℕ) → k < n → ((j : ℕ) → j < k → over first last bar (slot m j) ≡ false) → (slot_width * suc k ≤ length m) × (slot_ranged m k ≡ true)
  known_too k h p =
      by_test (leb k i)
      (λ e.
      let q : k ≤ i = leb-true k i e in
      let r = known.slots k h (λ j t. ap (over first last bar) (sym (same j (omega arith)).0) ∙ p j t) in
      (omega arith, (same k q).1 ∙ r.1))
      (λ e.
      let q : i < k = leb-false k i e in
      absurd (false≢true (sym (p i q) ∙ ap (over first last bar) (same i (omega arith)).0 ∙ hit)))

pub blind : Blind
blind = record { behind = λ first last bar l m n i hit long same known. record { slots = known_too first last bar l m n i hit long same known } }
