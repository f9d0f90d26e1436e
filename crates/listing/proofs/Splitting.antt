-- Where a line begun goes on, and where it ends.
use Prim.Native.Nat.{ℕ, ◌≤◌}
use native.Mathlib.Omega.{arith}
use mathlib.Core.Path.{◌≡◌, refl, ap, ◌∙◌}
use mathlib.Core.Bool.{true, false}
use mathlib.Core.List.{List, [], ◌∷◌, ◌++◌, append-nil}
use lib.Dec.{eqb}
use lib.ListN.{length}
use Rattle.notation.specs.Signs.{line_feed}
use Rattle.listing.specs.Listing.{begins, lines}

-- bytes with no line feed among them
unfoldable pub Unbroken : List ℕ → Type 0
Unbroken [] = Unit {0}
Unbroken (b ∷ l) = (eqb b line_feed ≡ false) × Unbroken l

pub unbroken_append : (g : List ℕ) (b : ℕ) → Unbroken g → eqb b line_feed ≡ false → Unbroken (g ++ (b ∷ []))
unfolding Unbroken
unbroken_append [] b u e = (e, tt)
unbroken_append (a ∷ g) b u e = (u.0, unbroken_append g b u.1 e)

-- bytes before the lines that follow them
unfoldable pub prefixed : List ℕ → List (List ℕ) → List (List ℕ)
prefixed [] ls = ls
prefixed (b ∷ g) ls = begins b (prefixed g ls)

pub lines_behind : (g bs : List ℕ) → Unbroken g → lines (g ++ bs) ≡ prefixed g (lines bs)
unfolding Unbroken prefixed lines
lines_behind [] bs u = refl
lines_behind (b ∷ g) bs u = rw (u.0, lines_behind g bs u.1)

-- the last line lacks its line feed
pub prefixed_last : (b : ℕ) (g : List ℕ) → prefixed (b ∷ g) [] ≡ (b ∷ g) ∷ []
unfolding prefixed begins
prefixed_last b [] = refl
prefixed_last b (a ∷ g) = ap (begins b) (prefixed_last a g)

pub prefixed_first : (g l : List ℕ) (ls : List (List ℕ)) → prefixed g (l ∷ ls) ≡ (g ++ l) ∷ ls
unfolding prefixed begins
prefixed_first [] l ls = refl
prefixed_first (b ∷ g) l ls = ap (begins b) (prefixed_first g l ls)

-- ---- a line begun, and what comes

-- a line feed ends it
pub lines_ended : (g : List ℕ) (b : ℕ) (bs : List ℕ) → Unbroken g → eqb b line_feed ≡ true → lines (g ++ (b ∷ bs)) ≡ g ∷ lines bs
unfolding lines
lines_ended g b bs u e = lines_behind g (b ∷ bs) u ∙ rw (e, prefixed_first g [] (lines bs), append-nil g)

-- so does the input's end
pub lines_rest : (g : List ℕ) → Unbroken g → 1 ≤ length g → lines (g ++ []) ≡ g ∷ []
unfolding lines
lines_rest [] u h = absurd (omega arith)
lines_rest (b ∷ g) u h = lines_behind (b ∷ g) [] u ∙ prefixed_last b g

-- any other byte goes on with it
pub record Longer (g : List ℕ) (b : ℕ) (ls : List (List ℕ)) : Type 0 where
  pub more : List ℕ
  pub others : List (List ℕ)
  pub split : ls ≡ (g ++ (b ∷ more)) ∷ others

begins_first : (g : List ℕ) (b : ℕ) (ls : List (List ℕ)) → Longer g b (prefixed g (begins b ls))
unfolding begins
begins_first g b [] = record { more = []; others = []; split = prefixed_first g (b ∷ []) [] }
begins_first g b (l ∷ ls) = record { more = l; others = ls; split = prefixed_first g (b ∷ l) ls }

pub lines_longer : (g : List ℕ) (b : ℕ) (bs : List ℕ) → Unbroken g → eqb b line_feed ≡ false → Longer g b (lines (g ++ (b ∷ bs)))
unfolding lines
lines_longer g b bs u e = rw (lines_behind g (b ∷ bs) u, e) (begins_first g b (lines bs))
