-- What is promised of the picture and of the call that writes it.
use Rattle.std.specs.Prelude.{ℕ, suc, ◌+◌, ◌*◌, ◌-◌, ◌/◌, ◌≤◌, ◌<◌, max, ◌≡◌, ◌≢◌, true, ℤ, pos, length, take, drop}
use mathlib.Core.List.{List, [], ◌∷◌, ◌++◌, map, Memᴰ}
use Rattle.std.specs.Int.Signed.{le_z}
use Rattle.rule.specs.declared.Bucket.{Bucket}
use Rattle.rule.specs.declared.State.{State}
use Rattle.rule.specs.Bucket.{distance, end, level}
use Rattle.rule.specs.Room.{sound, table_of}
use Rattle.rule.specs.Table.{Ordered, Table, next_tick, runs}
use Rattle.notation.specs.Printing.{decimal}
use Rattle.notation.specs.Signs.{ascii}
use Rattle.output.specs.Output.{filled}
use Rattle.captions.specs.Caption.{brackets, caption_good, escaped}
use Rattle.drawing.specs.declared.View.{View}
use Rattle.drawing.specs.Call.{picture_outcome}
use Rattle.drawing.specs.Picture.{across, behind_text, between_text, caption_of, curve, curve_text, down, empty_text, end_of, end_text, head_text, line_end, line_text, picture, points_of, polylines, printed, runs_of, scale, scale_text, start_of, view_of}

-- a picture of a sound trace has at most so many bytes
abbrev pub picture_most : ℕ
picture_most = 22866

-- buckets, one or more, of which each ends where the next starts
unfoldable pub Unbroken : Table → Type 0
Unbroken [] = ⊥
Unbroken (b ∷ []) = Unit {0}
Unbroken (a ∷ b ∷ r) = (end a ≡ b.start) × Unbroken (b ∷ r)

-- tables one behind the other
unfoldable pub together : List Table → Table
together [] = []
together (r ∷ rs) = r ++ together rs

pub record Pictures : Type 0 where
  -- ---- the caption: read back it is the one typed, nothing else of the picture depends on it, and it brings no bracket
  pub caption_back : (t : Table) (c : List ℕ) → caption_of (picture t c) ≡ c
  pub around : (t : Table) (c : List ℕ) → picture t c ≡ head_text ++ (escaped (take 100 c) ++ (between_text ++ (escaped (drop 100 c) ++ (behind_text ++ (scale (length t) (view_of t) ++ curve t)))))
  pub same_brackets : (t : Table) (c : List ℕ) → brackets (picture t c) ≡ brackets (picture t [])
  -- ---- the runs: as many as the trace counts, each unbroken, all buckets in their order
  pub one_a_run : (t : Table) → length (runs_of t) ≡ runs t
  pub unbroken : (t r : Table) → Memᴰ r (runs_of t) → Unbroken r
  pub all_buckets : (t : Table) → together (runs_of t) ≡ t
  -- ---- the curve, as text: one line for each run, in their order, and nothing else; its points, each a place and a height, are those of its buckets in their order
  pub curves : (t : Table) → curve t ≡ curve_text ++ (polylines (view_of t) (runs_of t) ++ end_text)
  pub lines : (v : View) (r : Table) (rs : List Table) → polylines v (r ∷ rs) ≡ line_text ++ (printed (points_of v r) ++ (line_end ++ polylines v rs))
  pub no_lines : (v : View) → polylines v [] ≡ []
  pub points_printed : (x y : ℕ) (ps : List (ℕ × ℕ)) → printed ((x, y) ∷ ps) ≡ decimal x ++ (ascii "," ++ (decimal y ++ (ascii " " ++ printed ps)))
  pub none_printed : printed [] ≡ []
  -- both ends of a bucket, at its level; where it ends the tick behind it stands, or a unit further than it starts
  pub points : (v : View) (b : Bucket) (r : Table) → points_of v (b ∷ r) ≡ (start_of v b, down v (level b)) ∷ (end_of v b, down v (level b)) ∷ points_of v r
  pub no_points : (v : View) → points_of v [] ≡ []
  pub starts : (v : View) (b : Bucket) → start_of v b ≡ across v b.start
  pub ends : (v : View) (b : Bucket) → end_of v b ≡ max (across v (end b)) (start_of v b + 1)
  -- ---- the scale, as text: the highest and the lowest level, the first and the last tick
  pub scales : (n : ℕ) (v : View) → scale (suc n) v ≡ filled scale_text (pos (down v v.top) ∷ pos (down v v.low) ∷ pos (down v v.top) ∷ v.top ∷ pos (down v v.low) ∷ v.low ∷ pos v.first ∷ pos (v.first + v.span - 1) ∷ [])
  pub no_scale : (v : View) → scale 0 v ≡ empty_text
  -- ---- what is shown: from the first tick to the last end, and from a bucket's level that none is above to one that none is below
  pub shows : (b : Bucket) (t : Table) → ((view_of (b ∷ t)).first ≡ b.start) × ((view_of (b ∷ t)).span ≡ next_tick (b ∷ t) - b.start)
  pub a_level_highest : (b : Bucket) (t : Table) → Memᴰ (view_of (b ∷ t)).top (map level (b ∷ t))
  pub a_level_lowest : (b : Bucket) (t : Table) → Memᴰ (view_of (b ∷ t)).low (map level (b ∷ t))
  pub highest : (t : Table) (b : Bucket) → Memᴰ b t → le_z (level b) (view_of t).top ≡ true
  pub lowest : (t : Table) (b : Bucket) → Memᴰ b t → le_z (view_of t).low (level b) ≡ true
  -- ---- where it stands: a tick by its part of the ticks shown, from 100 to 9900; a level by its part of the levels shown, from 260 down to 4060
  pub at_tick : (v : View) (tick : ℕ) → across v tick ≡ 100 + (tick - v.first) * 9800 / v.span
  pub left_edge : (b : Bucket) (t : Table) → across (view_of (b ∷ t)) b.start ≡ 100
  pub right_edge : (b : Bucket) (t : Table) → Ordered 0 (b ∷ t) → across (view_of (b ∷ t)) (next_tick (b ∷ t)) ≡ 9900
  pub later : (v : View) (tick next : ℕ) → tick ≤ next → across v tick ≤ across v next
  pub at_level : (v : View) (z : ℤ) → v.top ≢ v.low → down v z ≡ 260 + distance v.top z * 3800 / distance v.top v.low
  pub top_edge : (v : View) → v.top ≢ v.low → down v v.top ≡ 260
  pub low_edge : (v : View) → v.top ≢ v.low → down v v.low ≡ 4060
  pub flat : (v : View) (z : ℤ) → v.top ≡ v.low → down v z ≡ 2160
  pub higher : (v : View) (y z : ℤ) → le_z y z ≡ true → le_z z v.top ≡ true → down v z ≤ down v y
  -- and every point lies in the picture, each bucket with some width
  pub wide : (v : View) (b : Bucket) → start_of v b < end_of v b
  pub in_frame : (t : Table) (b : Bucket) → Ordered 0 t → Memᴰ b t → let v = view_of t in
      (100 ≤ start_of v b) × (end_of v b ≤ 9900) × (260 ≤ down v (level b)) × (down v (level b) ≤ 4060)
  -- ---- the call: of two sound traces with equal buckets it answers and leaves the same, and an output that is long enough for any picture is never too short
  pub of_buckets : (s s' : State) (l l' : List ℤ) (c out : List ℕ) → sound s l ≡ true → sound s' l' ≡ true → table_of s l ≡ table_of s' l' → picture_outcome s l c out ≡ picture_outcome s' l' c out
  pub longest : (s : State) (l : List ℤ) (c : List ℕ) → sound s l ≡ true → caption_good c ≡ true → length (picture (table_of s l) c) ≤ picture_most
