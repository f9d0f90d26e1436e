-- The broken lines as they are printed: what stands between two buckets, and all that follows one.
use Rattle.std.specs.Prelude.{ℕ, cond, List, [], ◌∷◌, ◌++◌, eqb}
use Rattle.rule.specs.Bucket.{end}
use Rattle.rule.specs.Table.{Table}
use Rattle.drawing.specs.declared.View.{View}
use Rattle.drawing.specs.Picture.{line_end, line_text, points_of, printed}

-- the run goes on where one bucket ends and the next starts, else the next one begins
unfoldable pub joint : ℕ → ℕ → List ℕ
joint e start = cond (eqb e start) [] (line_end ++ line_text)

-- what follows a bucket that ends at e
unfoldable pub lines_after : View → ℕ → Table → List ℕ
lines_after v e [] = line_end
lines_after v e (b ∷ t) = joint e b.start ++ (printed (points_of v (b ∷ [])) ++ lines_after v (end b) t)
