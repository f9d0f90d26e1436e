-- A curve has one value on ticks that no border separates.
use Prim.Native.Nat.{ℕ, suc, ◌+◌, ◌≤◌, ◌<◌}
use mathlib.Core.Path.{◌≡◌, refl}
use mathlib.Core.Bool.{Bool, true, false, cond}
use mathlib.Core.List.{List, [], ◌∷◌}
use native.Mathlib.Omega.{arith}
use lib.Dec.{leb}
use lib.IntN.{ℤ}
use lib.ListN.{length}
use Rattle.rule.proofs.Tables.{leb_counts, one}
use Rattle.demands.specs.Curve.{Border, value_from}

-- how many borders are at s or later: as many from suc s as from e means that none lies after s and before e
unfoldable pub from : ℕ → List Border → ℕ
from s [] = 0
from s (b ∷ bs) = one (leb s b.tick) + from s bs

pub from_all : (s : ℕ) (bs : List Border) → from s bs ≤ length bs
unfolding from
from_all s [] = omega arith
from_all s (b ∷ bs) = omega (arith, from_all s bs, leb_counts s b.tick)

fewer : (s e k : ℕ) → s ≤ e → one (leb e k) ≤ one (leb s k)
fewer s e k h = omega (arith, leb_counts s k, leb_counts e k)

pub from_fewer : (s e : ℕ) (bs : List Border) → s ≤ e → from e bs ≤ from s bs
unfolding from
from_fewer s e [] h = omega arith
from_fewer s e (b ∷ bs) h = omega (arith, from_fewer s e bs h, fewer s e b.tick h)

same : (c d : Bool) → one c ≡ one d → c ≡ d
same true true e = refl
same true false e = absurd (omega arith)
same false true e = absurd (omega arith)
same false false e = refl

pub one_value : (s e tick : ℕ) → s ≤ tick → tick < e → (v : ℤ) (bs : List Border) → from (suc s) bs ≤ from e bs → value_from v bs tick ≡ value_from v bs s
unfolding from value_from
one_value s e tick h k v [] g = refl
one_value s e tick h k v (b ∷ bs) g =
    let x = fewer (suc s) (suc tick) b.tick (omega arith) in
    let y = fewer (suc tick) e b.tick k in
    let z = from_fewer (suc s) e bs (omega arith) in
    let side : leb b.tick tick ≡ leb b.tick s = same (leb b.tick tick) (leb b.tick s) (omega (arith, after tick b.tick, after s b.tick)) in
    rw side (one_value s e tick h k (cond (leb b.tick s) b.level v) bs (omega arith))
  where
    after : (n m : ℕ) → one (leb m n) + one (leb (suc n) m) ≡ 1
    after n m = omega (arith, leb_counts m n, leb_counts (suc n) m)
