-- How long the picture of a sound trace can be: the text without its numbers, and the most bytes that each number has.
use Prim.Native.Nat.{ℕ, suc, ◌+◌, ◌*◌, ◌-◌, ◌≤◌, ◌<◌, ◌^◌}
use mathlib.Core.Path.{◌≡◌, refl, ap}
use mathlib.Core.Bool.{true, cond}
use mathlib.Core.List.Memᴰ
use mathlib.Core.List.{List, [], ◌∷◌, ◌++◌, Memᴰ}
use native.Mathlib.Omega.{arith}
use borrow.Author.Tests.{leb-true, ne_eqb}
use lib.Dec.{eqb}
use lib.IntN.{ℤ, pos}
use lib.ListN.{length, get_or, take, drop, length-append, length-drop, length-take}
use mir.Syntax.{w32}
use mir.Val.{SFits}
use Rattle.rule.specs.declared.Bucket.{Bucket}
use Rattle.rule.specs.declared.Kind.{Kind}
use Rattle.rule.specs.declared.Kind.TheVariants.{InOrder, Late}
use Rattle.rule.specs.declared.State.{State}
use Rattle.rule.specs.Bucket.{end, larger, lesser, level}
use Rattle.rule.specs.Numbers.{most, most_base, ticks}
use Rattle.rule.specs.Room.{gaps_good, runs_allowed, sound, table_of}
use Rattle.rule.specs.Table.{Ordered, Table, last_end, limit_over, runs}
use Rattle.rule.proofs.Fitting.{Fitted, Fitting, larger_fits, lesser_fits}
use Rattle.rule.proofs.Ruling.{Ruled, in_order_runs, ordered_readings, ruled_end}
use Rattle.rule.proofs.Signed.{middle_fits}
use Rattle.rule.proofs.Whole.{by_test}
use Rattle.rule.proofs.Whole.{whole as wholes}
use Rattle.rooms.proofs.Bounds.{bounds}
use Rattle.rooms.proofs.Fitting.{fitted_slots}
use Rattle.rooms.proofs.Laying.{length_slots}
use Rattle.rooms.proofs.Sounding.{sound_facts, sound_ordered}
use Rattle.notation.specs.Printing.{whole}
use Rattle.notation.proofs.Texts.{one_digit, short, whole_short}
use Rattle.output.specs.Output.{filled, mark, sign, unused}
use Rattle.captions.specs.Caption.{caption_good, escaped}
use Rattle.captions.proofs.Keeping.{captions}
use Rattle.drawing.specs.declared.View.{View}
use Rattle.drawing.specs.Picture.{behind_text, between_text, curve, curve_text, down, end_of, end_text, head_text, highest, line_end, line_most, line_text, lowest, picture, point_text, points_of, polyline, polylines, printed, runs_of, scale, scale_numbers, scale_text, start_of, view_of}
use Rattle.drawing.specs.Promise.{picture_most, together}
use Rattle.drawing.proofs.Captioning.{around}
use Rattle.drawing.proofs.Runs.{all_buckets, one_a_run}
use Rattle.drawing.proofs.Standing.{between, in_frame, over_low, under_top, wide}

-- ---- a text with numbers in it

-- each number has at most as many bytes as is said of it
unfoldable Within : List ℕ → List ℤ → Type 0
Within [] [] = Unit {0}
Within [] (n ∷ ns) = ⊥
Within (k ∷ ks) [] = ⊥
Within (k ∷ ks) (n ∷ ns) = (length (whole n) ≤ k) × Within ks ns

-- bytes that are enough for a text with such numbers in it
abbrev widest : List ℕ → List ℕ → ℕ
widest ks [] = 0
widest ks (b ∷ t) = cond (eqb b mark) (get_or ks 0 1) 1 + widest (cond (eqb b mark) (drop 1 ks) ks) t

within_first : (ks : List ℕ) (ns : List ℤ) → Within ks ns → length (whole (get_or ns 0 (pos 0))) ≤ get_or ks 0 1
unfolding Within whole
within_first [] [] h = rw (one_digit 0 (omega arith)) (omega arith)
within_first [] (n ∷ ns) h = absurd h
within_first (k ∷ ks) [] h = absurd h
within_first (k ∷ ks) (n ∷ ns) h = h.0

within_rest : (ks : List ℕ) (ns : List ℤ) → Within ks ns → Within (drop 1 ks) (drop 1 ns)
unfolding Within
within_rest [] [] h = tt
within_rest [] (n ∷ ns) h = absurd h
within_rest (k ∷ ks) [] h = absurd h
within_rest (k ∷ ks) (n ∷ ns) h = h.1

filled_within : (t ks : List ℕ) (ns : List ℤ) → Within ks ns → length (filled t ns) ≤ widest ks t
unfolding filled sign unused
filled_within [] ks ns h = omega arith
filled_within (b ∷ t) ks ns h =
    by_test (eqb b mark)
    (λ e. rw (e, length-append) (omega (arith, within_first ks ns h, filled_within t (drop 1 ks) (drop 1 ns) (within_rest ks ns h))))
    (λ e. rw (e, length-append) (omega (arith, filled_within t ks ns h)))

natural_short : (k n : ℕ) → n < 10 ^ suc k → length (whole (pos n)) ≤ suc k
unfolding whole
natural_short k n h = short k n h

-- ---- the caption

parts : (h x m y e r : List ℕ) → length (h ++ (x ++ (m ++ (y ++ (e ++ r))))) ≡ length h + length x + length m + length y + length e + length r
parts h x m y e r = simp length-append (omega arith)

front_short : (c r : List ℕ) → length c ≤ 200 → length (head_text ++ (escaped (take line_most c) ++ (between_text ++ (escaped (drop line_most c) ++ (behind_text ++ r))))) ≤ 1478 + length r
front_short c r h =
    omega (
      arith,
      parts head_text (escaped (take line_most c)) between_text (escaped (drop line_most c)) behind_text r,
      captions.longest (take line_most c),
      captions.longest (drop line_most c),
      length-take line_most c,
      length-drop line_most c,
    )

-- ---- the scale

level_fits : {b : Bucket} → Fitting b → SFits w32 (level b)
level_fits f = middle_fits f.least f.largest

highest_fits : (z : ℤ) (t : Table) → SFits w32 z → Fitted t → SFits w32 (highest z t)
unfolding highest Fitted
highest_fits z [] h f = h
highest_fits z (b ∷ t) h f = highest_fits (larger z (level b)) t (larger_fits h (level_fits f.0)) f.1

lowest_fits : (z : ℤ) (t : Table) → SFits w32 z → Fitted t → SFits w32 (lowest z t)
unfolding lowest Fitted
lowest_fits z [] h f = h
lowest_fits z (b ∷ t) h f = lowest_fits (lesser z (level b)) t (lesser_fits h (level_fits f.0)) f.1

-- what the scale writes has few digits
record Narrow (v : View) : Type 0 where
  top_in : down v v.top < 10 ^ 4
  low_in : down v v.low < 10 ^ 4
  top_fits : SFits w32 v.top
  low_fits : SFits w32 v.low
  first_in : v.first < 10 ^ 8
  last_in : v.first + v.span - 1 < 10 ^ 8

scale_filled : (v : View) → Narrow v → length (filled scale_text (scale_numbers v)) ≤ 287
unfolding Within
scale_filled v n =
    let y : length (whole (pos (down v v.top))) ≤ 4 = natural_short 3 (down v v.top) n.top_in in
    let z : length (whole (pos (down v v.low))) ≤ 4 = natural_short 3 (down v v.low) n.low_in in
    filled_within scale_text (4 ∷ 4 ∷ 4 ∷ 11 ∷ 4 ∷ 11 ∷ 8 ∷ 8 ∷ []) (scale_numbers v)
    (y, (z, (y, (whole_short v.top n.top_fits, (z, (whole_short v.low n.low_fits, (natural_short 7 v.first n.first_in, (natural_short 7 (v.first + v.span - 1) n.last_in, tt))))))))

-- so it is of an ordered table whose numbers fit
narrow : (b : Bucket) (t : Table) → Ordered 0 (b ∷ t) → last_end 0 (b ∷ t) ≤ ticks → Fitted (b ∷ t) → Narrow (view_of (b ∷ t))
unfolding view_of Ordered Fitted last_end
narrow b t o h f =
    let v = view_of (b ∷ t) in
    let low = over_low (b ∷ t) b (Memᴰ.head refl) in
    let top = under_top (b ∷ t) b (Memᴰ.head refl) in
    let past = ordered_readings (end b) t o.1.1 in
    record {
      top_in = omega (arith, (between v v.top (omega wholes) (omega wholes)).1);
      low_in = omega (arith, (between v v.low (omega wholes) (omega wholes)).1);
      top_fits = highest_fits (level b) t (level_fits f.0) f.1;
      low_fits = lowest_fits (level b) t (level_fits f.0) f.1;
      first_in = omega arith;
      last_in = omega arith;
    }

scale_short : (t : Table) → Ordered 0 t → last_end 0 t ≤ ticks → Fitted t → length (scale (length t) (view_of t)) ≤ 287
unfolding scale
scale_short [] o h f = omega arith
scale_short (b ∷ t) o h f = rw (ne_eqb (suc (length t)) 0 (λ e. omega arith)) (scale_filled (view_of (b ∷ t)) (narrow b t o h f))

-- ---- the curve

module _ (v : View) where
  -- both points of a bucket have at most four digits each way
  record Small (b : Bucket) : Type 0 where
    right : end_of v b < 10 ^ 4
    deep : down v (level b) < 10 ^ 4

  point_short : (x y : ℕ) → x < 10 ^ 4 → y < 10 ^ 4 → length (filled point_text (pos x ∷ pos y ∷ [])) ≤ 10
  unfolding Within
  point_short x y h g = filled_within point_text (4 ∷ 4 ∷ []) (pos x ∷ pos y ∷ []) (natural_short 3 x h, (natural_short 3 y g, tt))

  printed_short : (r : Table) → ((b : Bucket) → Memᴰ b r → Small b) → length (printed (points_of v r)) ≤ 20 * length r
  unfolding printed points_of
  printed_short [] h = omega arith
  printed_short (b ∷ r) h =
      let s = h b (Memᴰ.head refl) in
      let y = down v (level b) in
      let rest = printed (points_of v r) in
      let first = filled point_text (pos (start_of v b) ∷ pos y ∷ []) in
      let second = filled point_text (pos (end_of v b) ∷ pos y ∷ []) in
      omega (
        arith,
        length-append first (second ++ rest),
        length-append second rest,
        point_short (start_of v b) y (omega (arith, wide v b, s.right)) s.deep,
        point_short (end_of v b) y s.right s.deep,
        printed_short r (λ a m. h a (Memᴰ.tail m)),
      )

  -- a text between two others
  line_is : (o p e : List ℕ) → length (o ++ (p ++ (e ++ []))) ≡ length o + length p + length e
  line_is o p e = simp length-append (omega arith)

  polyline_short : (r : Table) → ((b : Bucket) → Memᴰ b r → Small b) → length (polyline v r) ≤ 22 + 20 * length r
  unfolding polyline
  polyline_short r h = omega (arith, line_is line_text (printed (points_of v r)) line_end, printed_short r h)

  polylines_short : (rs : List Table) → ((b : Bucket) → Memᴰ b (together rs) → Small b) → length (polylines v rs) ≤ 22 * length rs + 20 * length (together rs)
  unfolding polylines together
  polylines_short [] h = omega arith
  polylines_short (r ∷ rs) h =
      omega (
        arith,
        length-append (polyline v r) (polylines v rs),
        length-append r (together rs),
        polyline_short r (λ b m. h b (Memᴰ.append_left (together rs) m)),
        polylines_short rs (λ b m. h b (Memᴰ.append_right r m)),
      )

small : (t : Table) → Ordered 0 t → (b : Bucket) → Memᴰ b t → Small (view_of t) b
small t o b m = let f = in_frame t b o m in record { right = omega arith; deep = omega arith }

curve_short : (t : Table) → Ordered 0 t → length (curve t) ≤ 109 + (22 * runs t + 20 * length t)
unfolding curve
curve_short t o =
    let v = view_of t in
    omega (
      arith,
      line_is v curve_text (polylines v (runs_of t)) end_text,
      polylines_short v (runs_of t) (λ b m. small t o b (rw (all_buckets t) at m)),
      one_a_run t,
      ap length (all_buckets t),
    )

-- ---- the picture

picture_short : (t : Table) (c : List ℕ) → Ordered 0 t → last_end 0 t ≤ ticks → Fitted t → length c ≤ 200 → length (picture t c) ≤ 1874 + (22 * runs t + 20 * length t)
picture_short t c o h f g =
    let rest = scale (length t) (view_of t) ++ curve t in
    omega (arith, ap length (around t c), front_short c rest g, length-append (scale (length t) (view_of t)) (curve t), scale_short t o h f, curve_short t o)

one_run : (t : Table) → Ruled InOrder 0 t → runs t ≤ 1
unfolding runs Ruled
one_run [] r = omega arith
one_run (b ∷ t) r = omega (arith, in_order_runs (end b) t r.1)

-- runs and buckets that a sound trace has at most
few : (k : Kind) (t : Table) (base gaps : ℕ) → Ruled k 0 t → runs_allowed k gaps (runs t) ≡ true → gaps_good k gaps ≡ true → base ≤ most_base → length t ≤ limit_over k base (runs t)
    → (runs t ≤ most) × (length t ≤ most_base + most)
unfolding runs_allowed gaps_good limit_over
few InOrder t base gaps r h g e f = (omega (arith, one_run t r), omega arith)
few Late t base gaps r h g e f =
    let held : runs t ≤ most = omega (arith, leb-true (runs t) gaps h, bounds most gaps g) in (held, omega arith)

pub longest : (s : State) (l : List ℤ) (c : List ℕ) → sound s l ≡ true → caption_good c ≡ true → length (picture (table_of s l) c) ≤ picture_most
longest s l c e g =
    let f = sound_facts s l e in
    let t = table_of s l in
    let k = s.settings.kind in
    let held : length t ≤ limit_over k s.settings.base (runs t) = rw (← f.true_runs) (omega (arith, f.few, length_slots l 0 s.used)) in
    omega (
      arith,
      picture_short t c (sound_ordered s l f) (ruled_end k 0 t (omega arith) f.rules) (fitted_slots l 0 s.used f.ranges) (captions.taken c g).0,
      few k t s.settings.base s.settings.gaps f.rules (rw f.true_runs at f.allowed) f.good_gaps (bounds most_base s.settings.base f.good_base).1 held,
    )
