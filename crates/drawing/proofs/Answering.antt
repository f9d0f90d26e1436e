-- What the call answers and leaves: the same for equal buckets, and case by case.
use Prim.Native.Nat.{ℕ, ◌≤◌, ◌<◌}
use mathlib.Core.Path.{◌≡◌}
use mathlib.Core.Bool.{true, false}
use mathlib.Core.List.{List, ◌++◌}
use borrow.Author.Tests.{le-ltb, lt-ltb}
use lib.IntN.{ℤ}
use lib.ListN.{length, drop}
use Rattle.rule.specs.declared.Refusal.{Refusal}
use Rattle.rule.specs.declared.State.{State}
use Rattle.rule.specs.Calls.{checked}
use Rattle.rule.specs.Room.{sound, table_of}
use Rattle.captions.specs.Caption.{caption_good}
use Rattle.drawing.specs.Call.{drawn_in, picture_outcome, picture_verdict}
use Rattle.drawing.specs.Picture.{picture}
use Rattle.std.specs.Prelude.{Ok, Err}

-- of two sound traces with equal buckets the call answers and leaves the same
pub of_buckets : (s s' : State) (l l' : List ℤ) (c out : List ℕ) → sound s l ≡ true → sound s' l' ≡ true → table_of s l ≡ table_of s' l' → picture_outcome s l c out ≡ picture_outcome s' l' c out
unfolding picture_verdict
of_buckets s s' l l' c out e f h = rw (e, f, h)

-- ---- case by case

module _ (s : State) (l : List ℤ) (c out : List ℕ) where
  pub unsound : sound s l ≡ false → picture_outcome s l c out ≡ (Err Refusal.Unsound, out)
  unfolding drawn_in picture_verdict checked
  unsound e = rw e

  pub bad_caption : sound s l ≡ true → caption_good c ≡ false → picture_outcome s l c out ≡ (Err Refusal.Caption, out)
  unfolding drawn_in picture_verdict checked
  bad_caption e f = rw (e, f)

  pub too_long : sound s l ≡ true → caption_good c ≡ true → length out < length (picture (table_of s l) c) → picture_outcome s l c out ≡ (Err Refusal.Short, out)
  unfolding drawn_in picture_verdict checked
  too_long e f h = rw (e, f, lt-ltb (length out) (length (picture (table_of s l) c)) h)

  pub all_drawn : sound s l ≡ true → caption_good c ≡ true → length (picture (table_of s l) c) ≤ length out
      → picture_outcome s l c out ≡ (Ok (length (picture (table_of s l) c)), picture (table_of s l) c ++ drop (length (picture (table_of s l) c)) out)
  unfolding drawn_in picture_verdict checked
  all_drawn e f h = rw (e, f, le-ltb (length out) (length (picture (table_of s l) c)) h)
