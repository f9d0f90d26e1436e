-- The pieces of a picture, as they are printed one behind the other.
use Prim.Native.Nat.{ℕ, ◌+◌, ◌-◌, ◌≤◌, min}
use mathlib.Core.Path.{◌≡◌, refl, sym, ◌∙◌}
use mathlib.Core.List.{List, [], ◌∷◌, append_assoc, append-nil}
use native.Mathlib.Omega.{arith}
use borrow.Author.Tests.{eq-eqb, ltb-false, ltb-true, ne_eqb}
use lib.Dec.{ltb}
use lib.IntN.{ℤ, pos}
use lib.ListN.{length, take, drop, drop_of_length-le}
use lib.Seq.{take_all}
use Rattle.rule.specs.Bucket.{end}
use Rattle.rule.specs.Room.{slots}
use Rattle.rule.specs.Table.{Ordered, Table, last_end, next_tick}
use Rattle.rule.proofs.Ruling.{ordered_readings}
use Rattle.rule.proofs.Whole.{by_test}
use Rattle.rooms.proofs.Laying.{length_slots}
use Rattle.output.specs.Output.{filled, sign, unused}
use Rattle.output.proofs.Left.{Left, left_all}
use Rattle.captions.specs.Caption.{escaped}
use Rattle.drawing.specs.declared.View.{View}
use Rattle.drawing.specs.Picture.{behind_text, between_text, curve, curve_text, down, empty_text, end_text, front, head_text, picture, polylines, runs_of, scale, scale_text, view_of}

-- ---- the two lines of a caption

-- cut at 100 bytes, or at the end
module _ (s : List ℕ) where
  first_line : take (min (length s) 100) s ≡ take 100 s
  first_line =
      by_test (ltb (length s) 100)
      (λ f. take_all (min (length s) 100) s (omega (arith, ltb-true (length s) 100 f)) ∙ sym (take_all 100 s (omega (arith, ltb-true (length s) 100 f))))
      (λ f. let g : min (length s) 100 ≡ 100 = omega (arith, ltb-false (length s) 100 f) in rw g)

  second_line : drop (min (length s) 100) s ≡ drop 100 s
  second_line =
      by_test (ltb (length s) 100)
      (λ f. drop_of_length-le s {i = min (length s) 100} (omega (arith, ltb-true (length s) 100 f)) ∙ sym (drop_of_length-le s {i = 100} (omega (arith, ltb-true (length s) 100 f))))
      (λ f. let g : min (length s) 100 ≡ 100 = omega (arith, ltb-false (length s) 100 f) in rw g)

  pub front_pieces : (out : List ℕ) (at : ℕ) (first second : List ℕ) → first ≡ take (min (length s) 100) s → second ≡ drop (min (length s) 100) s
      → Left out at (front s) at out (filled head_text [] ∷ escaped first ∷ filled between_text [] ∷ escaped second ∷ filled behind_text [] ∷ [])
  unfolding front filled sign unused
  front_pieces out at first second e f = rw (e, f, first_line, second_line) (left_all _ _ _ _ refl)

-- ---- the scale

module _ (n : ℕ) (v : View) where
  pub scale_none : n ≡ 0 → scale n v ≡ filled empty_text []
  unfolding scale filled sign unused
  scale_none e = rw (eq-eqb n 0 e)

  pub scale_some : (n ≡ 0 → ⊥) → (x y top low first last : ℤ) → x ≡ pos (down v v.top) → y ≡ pos (down v v.low) → top ≡ v.top → low ≡ v.low → first ≡ pos v.first → last ≡ pos (v.first + v.span - 1)
      → scale n v ≡ filled scale_text (x ∷ y ∷ x ∷ top ∷ y ∷ low ∷ first ∷ last ∷ [])
  unfolding scale
  scale_some e x y top low first last ex ey et el ef es = rw (ne_eqb n 0 e, ex, ey, et, el, ef, es)

-- what a table in tick order shows lies within its ticks
pub first_most : (t : Table) → Ordered 0 t → (view_of t).first ≤ next_tick t
unfolding view_of last_end Ordered
first_most [] o = omega arith
first_most (b ∷ t) o = omega (arith, ordered_readings (end b) t o.1.1)

pub span_most : (t : Table) → (view_of t).span ≤ next_tick t + 1
unfolding view_of last_end
span_most [] = omega arith
span_most (b ∷ t) = omega arith

-- ---- the whole

pub picture_pieces : (l : List ℤ) (n : ℕ) (c : List ℕ) (out : List ℕ) (at : ℕ) (v : View) → let t = slots l 0 n in v ≡ view_of t
    → Left out at (picture t c) at out (front c ∷ scale n v ∷ filled curve_text [] ∷ polylines v (runs_of t) ∷ filled end_text [] ∷ [])
unfolding picture curve filled sign unused
picture_pieces l n c out at v e = rw e (left_all _ _ _ _ (rw (length_slots l 0 n) (simp (append_assoc, append-nil))))
