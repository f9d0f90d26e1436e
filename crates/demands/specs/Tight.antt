-- Against curves of one step more nothing is promised, for odd tables and even ones: in order, after these readings, some such curve is nearer than the picture.
use Rattle.std.specs.Prelude.{ℕ, ◌+◌, ◌/◌, ◌<◌, max, ◌≡◌, List, [], ◌∷◌, ℤ, pos, negsuc, length}
use Rattle.rule.specs.declared.Kind.TheVariants.{InOrder}
use Rattle.rule.specs.Bucket.{distance}
use Rattle.rule.specs.Table.{worst}
use Rattle.demands.specs.Curve.{Border, Curve, steps, value}
use Rattle.demands.specs.History.{Reading, table_after}

-- how far the readings are from a curve
unfoldable pub farthest : Curve → List Reading → ℕ
farthest c [] = 0
farthest c (r ∷ rs) = max (distance r.value (value c r.tick)) (farthest c rs)

-- the values of a trace in order, newest first
unfoldable pub in_order : List ℤ → List Reading
in_order [] = []
in_order (v ∷ vs) = record { tick = length vs; value = v } ∷ in_order vs

-- a curve of one step more than the promise speaks of, and nearer than the picture of a table of that base limit
pub record Nearer (edition base : ℕ) (vs : List ℤ) (c : Curve) : Type 0 where
  pub one_more : steps c ≡ (base + 1) / 2 + 1
  pub nearer : farthest c (in_order vs) < worst (table_after (record { kind = InOrder; base = base; gaps = 0; edition = edition }) (in_order vs))

abbrev pub border : ℕ → ℤ → Border
border tick level = record { tick = tick; level = level }

pub record TightIn (edition : ℕ) : Type 0 where
  pub odd : Nearer edition 1 (negsuc 5 ∷ negsuc 1 ∷ []) (record { first = negsuc 1; borders = border 1 (negsuc 5) ∷ [] })
  pub even : Nearer edition 2 (negsuc 8 ∷ negsuc 2 ∷ pos 1 ∷ pos 8 ∷ []) (record { first = pos 4; borders = border 2 (negsuc 5) ∷ [] })
  pub odd_again : Nearer edition 3 (pos 9 ∷ pos 3 ∷ pos 0 ∷ negsuc 6 ∷ pos 0 ∷ pos 7 ∷ []) (record { first = pos 7; borders = border 1 (negsuc 3) ∷ border 4 (pos 6) ∷ [] })

pub record Tight : Type 0 where
  pub first : TightIn 1
  pub second : TightIn 2
