-- The call that writes the picture into a lent output.
use Rattle.std.specs.Prelude.{ℕ, not, List, [], ◌∷◌, ◌++◌, ltb, ℤ, length, drop, Ok, Err}
use Rattle.rule.specs.declared.Refusal.{Refusal}
use Rattle.rule.specs.declared.State.{State}
use Rattle.rule.specs.Calls.{Verdict, checked}
use Rattle.rule.specs.Room.{sound, table_of}
use Rattle.captions.specs.Caption.{caption_good}
use Rattle.drawing.specs.Picture.{picture}

-- the picture, or 4, 15, 13 in this order; the output has so many places
unfoldable pub picture_verdict : State → List ℤ → List ℕ → ℕ → Verdict (List ℕ)
picture_verdict s l c places =
    let p = picture (table_of s l) c in
    checked
    ((not (sound s l), Refusal.Unsound)
    ∷ (not (caption_good c), Refusal.Caption)
    ∷ (ltb places (length p), Refusal.Short)
    ∷ []) (Ok p)

-- the answer, and the output afterwards: the picture comes first, and what lies behind it is as it was
unfoldable pub drawn_in : List ℕ → Verdict (List ℕ) → Verdict ℕ × List ℕ
drawn_in out (Err r) = (Err r, out)
drawn_in out (Ok p) = (Ok (length p), p ++ drop (length p) out)

abbrev pub picture_outcome : State → List ℤ → List ℕ → List ℕ → Verdict ℕ × List ℕ
picture_outcome s l c out = drawn_in out (picture_verdict s l c (length out))
