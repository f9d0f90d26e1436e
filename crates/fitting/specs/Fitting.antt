-- A line obeyed by a trace that is known to be sound.
use Rattle.std.specs.Prelude.{◌≡◌, ℕ, Bool, true, false, cond, List, ℤ, ◌==◌, Ok, Err}
use Rattle.rule.specs.Room.{sound}
use Rattle.trace.specs.declared.Trace.{Trace}
use Rattle.notation.specs.Signs.{line_feed}
use Rattle.listing.specs.declared.Feeding.{Feeding}
use Rattle.listing.specs.Feeding.{line_ended}
use Rattle.rule.specs.Calls.{Verdict}

-- the trace of the last answer is sound, where no line was refused
abbrev pub Fit : Verdict Trace → List ℤ → Type 0
Fit a l = (t : Trace) → a ≡ Ok t → sound t.state l ≡ true

unfoldable pub fit_now : Verdict Trace → List ℤ → Bool
fit_now (Err r) l = false
fit_now (Ok t) l = sound t.state l

-- the byte b ends a line, and the trace is sound, which is asked where it is not known
abbrev pub fit_at : Bool → Verdict Trace → ℕ → List ℤ → Bool
fit_at known a b l = cond (b == line_feed) (cond known true (fit_now a l)) false

-- the line begun is whole; behind a refused line nothing is read
unfoldable pub line_by : Verdict Trace → Feeding → List ℤ → List ℕ → Feeding × List ℤ
line_by (Err r) f l line = (f, l)
line_by (Ok t) f l line = line_ended f t.state l line
