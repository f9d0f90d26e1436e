-- An input read byte by byte and in pieces.
use Prim.Native.Nat.{ℕ, ◌+◌, ◌<◌}
use mathlib.Core.Path.{◌≡◌, refl}
use mathlib.Core.List.{List, [], ◌∷◌, ◌++◌}
use native.Mathlib.Numerals.{add-one}
use lib.ListN.{drop, get_or, length}
use lib.Seq.{drop-cons}
use Rattle.listing.specs.Feeding.{Reader, byte_fed, fed}

-- the byte at a place, and the bytes behind it
pub fed_next : (x : Reader) (bytes : List ℕ) (i : ℕ) → i < length bytes → fed x (drop i bytes) ≡ fed (byte_fed x.0.last x.0 x.1.0 x.1.1 (get_or bytes i 0)) (drop (i + 1) bytes)
unfolding fed
fed_next x bytes i h = rw (drop-cons bytes i 0 h, add-one i)

-- two pieces read one behind the other are one
pub fed_append : (x : Reader) (p q : List ℕ) → fed x (p ++ q) ≡ fed (fed x p) q
unfolding fed
fed_append x [] q = refl
fed_append x (b ∷ p) q = fed_append (byte_fed x.0.last x.0 x.1.0 x.1.1 b) p q
