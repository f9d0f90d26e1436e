-- The broken lines as they are printed, bucket by bucket, are those of the runs.
use Prim.Native.Nat.{ℕ, suc, ◌+◌, ◌-◌, ◌≤◌, ◌<◌}
use mathlib.Core.Path.{◌≡◌, refl, sym, ap, ◌∙◌}
use mathlib.Core.List.{List, [], ◌∷◌, ◌++◌, append_assoc, append-nil}
use native.Mathlib.Numerals.{add-one}
use native.Mathlib.Omega.{arith}
use borrow.Author.Tests.{ne_eqb}
use lib.Dec.{eqb}
use lib.IntN.{ℤ, pos}
use Rattle.rule.specs.declared.Bucket.{Bucket}
use Rattle.rule.specs.Bucket.{end, level}
use Rattle.rule.specs.Room.{slot, slots}
use Rattle.rule.specs.Table.{Table}
use Rattle.rule.proofs.Whole.{by_test}
use Rattle.rooms.proofs.Scoring.{slots_next}
use Rattle.output.specs.Output.{filled, joined, sign, unused}
use Rattle.notation.specs.Signs.{ascii}
use Rattle.scale.proofs.Viewing.{slots_first}
use Rattle.drawing.specs.declared.View.{View}
use Rattle.drawing.specs.Picture.{before, down, end_of, line_end, line_text, points_of, polyline, polylines, printed, runs_of, start_of}
use Rattle.drawing.proofs.Runs.{first_run}
use Rattle.curve.specs.Joints.{joint, lines_after}

-- ---- constant texts have no number in them

pub text_line : (ns : List ℤ) → filled (ascii "<polyline points=\"") ns ≡ line_text
unfolding filled sign unused
text_line ns = refl

pub end_of_line : (ns : List ℤ) → filled (ascii "\"/>\n") ns ≡ line_end
unfolding filled sign unused
end_of_line ns = refl

pub begins_anew : (e start : ℕ) (ns : List ℤ) → (e ≡ start → ⊥) → joint e start ≡ filled (ascii "\"/>\n<polyline points=\"") ns
unfolding joint filled sign unused
begins_anew e start ns h = rw (ne_eqb e start h)

module _ (v : View) where
  -- ---- the points of one bucket

  pub both_ends : (b : Bucket) (x y z : ℤ) → x ≡ pos (start_of v b) → y ≡ pos (down v (level b)) → z ≡ pos (end_of v b)
      → printed (points_of v (b ∷ [])) ≡ filled (ascii "%,% %,% ") (x ∷ y ∷ z ∷ y ∷ [])
  unfolding printed points_of filled sign unused
  both_ends b x y z e f g = rw (e, f, g) (simp (append_assoc, append-nil))

  points_on : (b : Bucket) (r : Table) → printed (points_of v (b ∷ r)) ≡ printed (points_of v (b ∷ [])) ++ printed (points_of v r)
  unfolding printed points_of
  points_on b r = simp (append_assoc, append-nil)

  -- ---- the lines from the first point on

  unfoldable begun : List Table → List ℕ
  begun [] = []
  begun (r ∷ rs) = printed (points_of v r) ++ (line_end ++ polylines v rs)

  opened : (r : Table) (rs : List Table) → polylines v (r ∷ rs) ≡ line_text ++ begun (r ∷ rs)
  unfolding begun polylines polyline
  opened r rs = simp (append_assoc, append-nil)

  alone : (b : Bucket) → printed (points_of v (b ∷ [])) ++ line_end ≡ begun (before b [])
  unfolding begun before polylines
  alone b = rw append-nil

  step : (b c : Bucket) (r : Table) (rs : List Table) (rest : List ℕ) → rest ≡ begun ((c ∷ r) ∷ rs)
      → printed (points_of v (b ∷ [])) ++ (joint (end b) c.start ++ rest) ≡ begun (before b ((c ∷ r) ∷ rs))
  unfolding begun before joint
  step b c r rs rest e =
      by_test (eqb (end b) c.start)
      (λ h. rw (h, e, points_on b (c ∷ r)) (sym (append_assoc (printed (points_of v (b ∷ []))) (printed (points_of v (c ∷ r))) (line_end ++ polylines v rs))))
      (λ h. rw (h, e, opened (c ∷ r) rs))

  from_first : (b : Bucket) (t : Table) → printed (points_of v (b ∷ [])) ++ lines_after v (end b) t ≡ begun (runs_of (b ∷ t))
  unfolding lines_after runs_of
  from_first b [] = alone b
  from_first b (c ∷ t) =
      let f = first_run c t in
      let rest : printed (points_of v (c ∷ [])) ++ lines_after v (end c) t ≡ begun ((c ∷ f.0) ∷ f.1.0) = from_first c t ∙ ap begun f.1.1 in
      step b c f.0 f.1.0 (printed (points_of v (c ∷ [])) ++ lines_after v (end c) t) rest ∙ ap (λ x. begun (before b x)) (sym f.1.1)

  pub lines_are : (b : Bucket) (t : Table) → polylines v (runs_of (b ∷ t)) ≡ joined (line_text ∷ printed (points_of v (b ∷ [])) ∷ lines_after v (end b) t ∷ [])
  lines_are b t =
      let f = first_run b t in
      ap (polylines v) f.1.1 ∙ opened (b ∷ f.0) f.1.0 ∙ ap (λ x. line_text ++ x) (ap begun (sym f.1.1) ∙ sym (from_first b t) ∙ rw append-nil)

  -- ---- the buckets in slots

  module _ (l : List ℤ) (n : ℕ) where
    pub lines_none : n ≡ 0 → polylines v (runs_of (slots l 0 n)) ≡ []
    unfolding polylines runs_of slots
    lines_none e = rw e

    pub lines_first : (b : Bucket) → b ≡ slot l 0 → (n ≡ 0 → ⊥)
        → polylines v (runs_of (slots l 0 n)) ≡ joined (line_text ∷ printed (points_of v (b ∷ [])) ∷ lines_after v (end b) (slots l 1 (n - 1)) ∷ [])
    lines_first b e h = rw (slots_first l n h, ← e) (lines_are b (slots l 1 (n - 1)))

    pub after_next : (e i : ℕ) (b : Bucket) → b ≡ slot l i → i < n
        → lines_after v e (slots l i (n - i)) ≡ (joint e b.start ++ printed (points_of v (b ∷ []))) ++ lines_after v (end b) (slots l (i + 1) (n - (i + 1)))
    unfolding lines_after
    after_next e i b q h =
        rw (slots_next l n i h, ← q, add-one) (sym (append_assoc (joint e b.start) (printed (points_of v (b ∷ []))) (lines_after v (end b) (slots l (suc i) (n - suc i)))))

    pub after_end : (e i : ℕ) → n ≤ i → lines_after v e (slots l i (n - i)) ≡ line_end
    unfolding lines_after slots
    after_end e i h = let none : n - i ≡ 0 = omega arith in rw none
