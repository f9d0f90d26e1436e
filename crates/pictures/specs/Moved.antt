-- The picture under a probe offset: one number added to all readings leaves the curve as it is, and moves the two levels that the scale tells.
use Rattle.std.specs.Prelude.{ℕ, ◌+◌, ◌-◌, ◌≡◌, true, false, List, [], ◌∷◌, ℤ, pos, ◌+ℤ◌, length, Err}
use Rattle.rule.specs.declared.Bucket.{Bucket}
use Rattle.rule.specs.declared.Refusal.{Refusal}
use Rattle.rule.specs.Room.{sound, table_of}
use Rattle.rule.specs.Table.{Table}
use Rattle.output.specs.Output.{filled, joined}
use Rattle.drawing.specs.declared.View.{View}
use Rattle.drawing.specs.Call.{picture_outcome}
use Rattle.drawing.specs.Picture.{across, curve, down, front, picture, scale_numbers, scale_text, view_of}
use Rattle.offset.specs.Caller.{Call, Caller, after, left}
use Rattle.offset.specs.Offset.{Alike, AllHigher, moved_all}
use Rattle.rule.specs.Calls.{Verdict}

-- ---- d higher, d being any whole number

-- the same ticks, both levels d more
abbrev pub moved_view : ℤ → View → View
moved_view d v = record { first = v.first; span = v.span; top = v.top +ℤ d; low = v.low +ℤ d }

-- the numbers of a scale: the two levels d more, and where they stand as it was
abbrev pub moved_numbers : ℤ → View → List ℤ
moved_numbers d v =
    let top = pos (down v v.top) in
    let low = pos (down v v.low) in
    top ∷ low ∷ top ∷ (v.top +ℤ d) ∷ low ∷ (v.low +ℤ d) ∷ pos v.first ∷ pos (v.first + v.span - 1) ∷ []

-- the picture of a table with these numbers on its scale
abbrev pub picture_with : List ℤ → Table → List ℕ → List ℕ
picture_with numbers t caption = joined (front caption ∷ filled scale_text numbers ∷ curve t ∷ [])

-- ---- a caller who draws between calls

-- what a caller does: any other call, or a picture with a caption, into a lent output
pub data Turn : Type 0 where
  calls : Call → Turn
  draws : (caption out : List ℕ) → Turn

-- the answer to a picture, and the output afterwards, of what the caller has
abbrev pub drawn_by : Caller → List ℕ → List ℕ → Verdict ℕ × List ℕ
drawn_by c caption out = picture_outcome c.state c.room caption out

-- what the caller has then: a picture reads state and room, and writes the output alone
unfoldable pub left_by : Caller → Turn → Caller
left_by c (calls x) = left c x
left_by c (draws caption out) = c

unfoldable pub after_all : Caller → List Turn → Caller
after_all c [] = c
after_all c (x ∷ xs) = after_all (left_by c x) xs

-- the other calls among them
unfoldable pub calls_of : List Turn → List Call
calls_of [] = []
calls_of (calls x ∷ xs) = x ∷ calls_of xs
calls_of (draws caption out ∷ xs) = calls_of xs

-- the buckets that a caller has
abbrev pub buckets_of : Caller → Table
buckets_of c = table_of c.state c.room

-- ---- the promise

pub record PicturesMoved : Type 0 where
  -- a table of so many buckets has as many when it is moved, and the same curve
  pub as_many : (d : ℤ) (t : Table) → length (moved_all d t) ≡ length t
  pub curves : (d : ℤ) (t : Table) → curve (moved_all d t) ≡ curve t
  -- every tick and every level stands where it stood
  pub ticks : (d : ℤ) (v : View) (tick : ℕ) → across (moved_view d v) tick ≡ across v tick
  pub levels : (d : ℤ) (v : View) (z : ℤ) → down (moved_view d v) (z +ℤ d) ≡ down v z
  -- what the picture shows are the same ticks, and both levels d more; of an empty table nothing moves
  pub views : (d : ℤ) (b : Bucket) (t : Table) → view_of (moved_all d (b ∷ t)) ≡ moved_view d (view_of (b ∷ t))
  pub empty_view : (d : ℤ) → view_of (moved_all d []) ≡ view_of []
  -- so the picture is the same but for two of the numbers on its scale, the two levels, which are d more
  pub numbers : (d : ℤ) (v : View) → scale_numbers (moved_view d v) ≡ moved_numbers d v
  pub pictures : (b : Bucket) (t : Table) (caption : List ℕ) → picture (b ∷ t) caption ≡ picture_with (scale_numbers (view_of (b ∷ t))) (b ∷ t) caption
  pub moved_pictures : (d : ℤ) (b : Bucket) (t : Table) (caption : List ℕ) → picture (moved_all d (b ∷ t)) caption ≡ picture_with (moved_numbers d (view_of (b ∷ t))) (b ∷ t) caption
  pub empty_pictures : (d : ℤ) (caption : List ℕ) → picture (moved_all d []) caption ≡ picture [] caption
  -- pictures between the calls change nothing of what a caller has
  pub draw_leaves : (c : Caller) (caption out : List ℕ) → left_by c (draws caption out) ≡ c
  pub only_calls : (c : Caller) (xs : List Turn) → after_all c xs ≡ after c (calls_of xs)
  -- of two that are alike, whatever they call and draw: the curves of their sound traces are the same
  pub same_curves : (d : ℤ) (c e : Caller) → Alike d c e → (xs ys : List Turn) → AllHigher d (calls_of xs) (calls_of ys) → let p = after_all c xs in let q = after_all e ys in
      sound p.state p.room ≡ true → (sound q.state q.room ≡ true) × (buckets_of q ≡ moved_all d (buckets_of p)) × (curve (buckets_of q) ≡ curve (buckets_of p))
  -- and where one is refused because its trace is not sound, so is the other
  pub same_refusal : (d : ℤ) (c e : Caller) → Alike d c e → (caption out too : List ℕ) → sound c.state c.room ≡ false
      → (drawn_by c caption out ≡ (Err Refusal.Unsound, out)) × (drawn_by e caption too ≡ (Err Refusal.Unsound, too))
