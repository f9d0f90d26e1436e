-- One number added to every reading: runs, points and curve stay, the two levels of the scale move.
use Prim.Native.Nat.{ℕ}
use mathlib.Core.Path.{◌≡◌, refl, ap, ◌∙◌}
use mathlib.Core.Bool.{true}
use mathlib.Core.List.{List, [], ◌∷◌, map}
use native.Mathlib.Omega.{arith}
use borrow.Author.Tests.{ne_eqb}
use lib.IntN.{ℤ, ◌+ℤ◌}
use lib.ListN.{length}
use Rattle.rule.specs.declared.Bucket.{Bucket}
use Rattle.rule.specs.Bucket.{end, larger, lesser, level, neighbours}
use Rattle.rule.specs.Room.{sound}
use Rattle.rule.specs.Table.{Table}
use Rattle.rule.proofs.Whole.{by_test}
use Rattle.drawing.specs.declared.View.{View}
use Rattle.drawing.specs.Picture.{across, before, curve, down, highest, lowest, picture, points_of, polyline, polylines, runs_of, scale, scale_numbers, view_of}
use Rattle.drawing.proofs.Answering.{unsound}
use Rattle.offset.specs.Caller.{Caller, after, left}
use Rattle.offset.specs.Offset.{Alike, AllHigher, moved, moved_all}
use Rattle.offset.proofs.Moved.{distance_moved, larger_moved, last_end_moved, length_moved, lesser_moved, level_moved}
use Rattle.offset.proofs.Offset.{offset}
use Rattle.pictures.specs.Moved.{PicturesMoved, Turn, after_all, buckets_of, calls, calls_of, draws, left_by, moved_numbers, moved_view, picture_with}

-- of a table with buckets, the numbers are told
pictured : (b : Bucket) (t : Table) (c : List ℕ) → picture (b ∷ t) c ≡ picture_with (scale_numbers (view_of (b ∷ t))) (b ∷ t) c
unfolding picture scale
pictured b t c = rw (ne_eqb (length (b ∷ t)) 0 (λ e. omega arith))

module _ (d : ℤ) where
  -- ---- where a thing stands

  across_moved : (v : View) (tick : ℕ) → across (moved_view d v) tick ≡ across v tick
  unfolding across
  across_moved v tick = refl

  down_moved : (v : View) (z : ℤ) → down (moved_view d v) (z +ℤ d) ≡ down v z
  unfolding down
  down_moved v z = rw (distance_moved d v.top v.low, distance_moved d v.top z)

  highest_moved : (z : ℤ) (t : Table) → highest (z +ℤ d) (moved_all d t) ≡ highest z t +ℤ d
  unfolding highest
  highest_moved z [] = refl
  highest_moved z (b ∷ t) =
      ap (λ (x : ℤ). highest (larger (z +ℤ d) x) (moved_all d t)) (level_moved d b) ∙ ap (λ (x : ℤ). highest x (moved_all d t)) (larger_moved d z (level b)) ∙ highest_moved (larger z (level b)) t

  lowest_moved : (z : ℤ) (t : Table) → lowest (z +ℤ d) (moved_all d t) ≡ lowest z t +ℤ d
  unfolding lowest
  lowest_moved z [] = refl
  lowest_moved z (b ∷ t) =
      ap (λ (x : ℤ). lowest (lesser (z +ℤ d) x) (moved_all d t)) (level_moved d b) ∙ ap (λ (x : ℤ). lowest x (moved_all d t)) (lesser_moved d z (level b)) ∙ lowest_moved (lesser z (level b)) t

  view_moved : (b : Bucket) (t : Table) → view_of (moved_all d (b ∷ t)) ≡ moved_view d (view_of (b ∷ t))
  unfolding view_of
  view_moved b t = rw (level_moved d b, highest_moved (level b) t, lowest_moved (level b) t, last_end_moved d 0 (b ∷ t))

  numbers_moved : (v : View) → scale_numbers (moved_view d v) ≡ moved_numbers d v
  numbers_moved v = rw (down_moved v v.top, down_moved v v.low)

  -- ---- the curve

  before_moved : (a : Bucket) (rs : List Table) → before (moved d a) (map (moved_all d) rs) ≡ map (moved_all d) (before a rs)
  unfolding before
  before_moved a [] = refl
  before_moved a ([] ∷ rs) = refl
  before_moved a ((b ∷ r) ∷ rs) = by_test (neighbours a b) (λ h. rw h) (λ h. rw h)

  runs_moved : (t : Table) → runs_of (moved_all d t) ≡ map (moved_all d) (runs_of t)
  unfolding runs_of
  runs_moved [] = refl
  runs_moved (b ∷ t) = rw (runs_moved t) (before_moved b (runs_of t))

  points_moved : (v : View) (r : Table) → points_of (moved_view d v) (moved_all d r) ≡ points_of v r
  unfolding points_of
  points_moved v [] = refl
  points_moved v (b ∷ r) =
      rw (level_moved d b, down_moved v (level b), across_moved v b.start, across_moved v (end b), points_moved v r)

  lines_moved : (v : View) (rs : List Table) → polylines (moved_view d v) (map (moved_all d) rs) ≡ polylines v rs
  unfolding polylines polyline
  lines_moved v [] = refl
  lines_moved v (r ∷ rs) = rw (points_moved v r, lines_moved v rs)

  curve_moved : (t : Table) → curve (moved_all d t) ≡ curve t
  unfolding curve
  curve_moved [] = refl
  curve_moved (b ∷ t) = rw (view_moved b t, runs_moved (b ∷ t), lines_moved (view_of (b ∷ t)) (runs_of (b ∷ t)))

  picture_moved : (b : Bucket) (t : Table) (c : List ℕ) → picture (moved_all d (b ∷ t)) c ≡ picture_with (moved_numbers d (view_of (b ∷ t))) (b ∷ t) c
  picture_moved b t c = pictured (moved d b) (moved_all d t) c ∙ rw (view_moved b t, numbers_moved (view_of (b ∷ t)), curve_moved (b ∷ t))

-- ---- callers

only_calls : (c : Caller) (xs : List Turn) → after_all c xs ≡ after c (calls_of xs)
unfolding after_all after calls_of left_by
only_calls c [] = refl
only_calls c (calls x ∷ xs) = only_calls (left c x) xs
only_calls c (draws caption out ∷ xs) = only_calls c xs

alike_curves : (d : ℤ) (c e : Caller) → Alike d c e → sound c.state c.room ≡ true
    → (sound e.state e.room ≡ true) × (buckets_of e ≡ moved_all d (buckets_of c)) × (curve (buckets_of e) ≡ curve (buckets_of c))
alike_curves d c e a h = (a.fit ∙ h, a.buckets h, ap curve (a.buckets h) ∙ curve_moved d (buckets_of c))

all_alike : (d : ℤ) (c e : Caller) → Alike d c e → (xs ys : List Turn) → AllHigher d (calls_of xs) (calls_of ys) → Alike d (after_all c xs) (after_all e ys)
all_alike d c e a xs ys h = rw (only_calls c xs, only_calls e ys) (offset.leaves d c e a (calls_of xs) (calls_of ys) h)

pub pictures_moved : PicturesMoved
unfolding left_by
pictures_moved =
    record {
      as_many = length_moved;
      curves = curve_moved;
      ticks = across_moved;
      levels = down_moved;
      views = view_moved;
      empty_view = λ d. refl;
      numbers = numbers_moved;
      pictures = pictured;
      moved_pictures = picture_moved;
      empty_pictures = λ d caption. refl;
      draw_leaves = λ c caption out. refl;
      only_calls = only_calls;
      same_curves = λ d c e a xs ys h fit. alike_curves d (after_all c xs) (after_all e ys) (all_alike d c e a xs ys h) fit;
      same_refusal = λ d c e a caption out too fit. (unsound c.state c.room caption out fit, unsound e.state e.room caption too (a.fit ∙ fit));
    }
