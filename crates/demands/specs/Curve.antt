-- Every curve of flat steps at whole levels, over any ticks: a first level, and borders, each with the level from there on.
use Rattle.std.specs.Prelude.{ℕ, zero, suc, ◌+◌, ◌≤◌, ◌≡◌, cond, List, [], ◌∷◌, leb, ℤ, length}
use Rattle.rule.specs.Rules.{equal}

pub record Border : Type 0 where
  pub tick : ℕ
  pub level : ℤ

pub record Curve : Type 0 where
  pub first : ℤ
  pub borders : List Border

-- one flat step more than borders
abbrev pub steps : Curve → ℕ
steps c = suc (length c.borders)

-- the level of the last border of the list that is at or below the tick, v where there is none; so the borders need no order
unfoldable pub value_from : ℤ → List Border → ℕ → ℤ
value_from v [] tick = v
value_from v (b ∷ bs) tick = value_from (cond (leb b.tick tick) b.level v) bs tick

abbrev pub value : Curve → ℕ → ℤ
value c tick = value_from c.first c.borders tick

-- ---- which functions of ticks are curves

-- how often f has another value at the next tick, from tick 0 up to n
unfoldable pub changes : (ℕ → ℤ) → ℕ → ℕ
changes f zero = 0
changes f (suc n) = cond (equal (f n) (f (suc n))) 0 1 + changes f n

-- up to n, f is a curve of one step more than f has changes: no function of few enough flat steps is left out
pub record Drawn (f : ℕ → ℤ) (n : ℕ) : Type 0 where
  pub curve : Curve
  pub size : steps curve ≡ suc (changes f n)
  pub same : (tick : ℕ) → tick ≤ n → value curve tick ≡ f tick
