-- A line leaves a sound trace sound, and a late reading taken without a check is the line obeyed.
use Rattle.std.proofs.Common.{◌≡◌, ℕ, Bool, true, false, cond, eqb, leb, List, length, take, ℤ, sym, refl, ap, ◌∙◌, subst, arith, eq-eqb, eqb-true, Ok, Err}
use mathlib.Core.Bool.{false≢true}
use Rattle.rule.specs.declared.State.{State}
use Rattle.rule.specs.Calls.{late, late_outcome, Verdict}
use Rattle.rule.specs.Room.{sound}
use Rattle.rule.proofs.Whole.{by_test}
use Rattle.trace.specs.declared.Trace.{Trace}
use Rattle.trace.specs.Answers.{answered}
use Rattle.notation.specs.Signs.{line_feed}
use Rattle.notation.specs.declared.Line.{Line}
use Rattle.std.proofs.Common.{Some}
use Rattle.std.proofs.lemmas.Option.{none-some}
use Rattle.notation.specs.Reading.{line_of}
use Rattle.notation.proofs.Ranges.{line_ranged}
use Rattle.listing.specs.declared.Feeding.{Feeding}
use Rattle.listing.specs.declared.Stage.{Stage}
use Rattle.listing.specs.Feeding.{Reader, answered_by, byte_fed, line_ended, line_fed}
use Rattle.listing.specs.Listing.{obeyed}
use Rattle.listing.proofs.Standings.{Upright, obeyed_upright}
use Rattle.waiting.specs.Waiting.{line_begun}
use Rattle.fitting.specs.Fitting.{Fit, fit_at, fit_now, line_by}

not_accepted : {r : _} {t : Trace} → ◌≡◌ {A = Verdict Trace} (Err r) (Ok t) → ⊥
not_accepted e = let z : ◌≡◌ {A = ℕ} 0 1 = cc in omega arith

same_trace : {t u : Trace} → ◌≡◌ {A = Verdict Trace} (Ok t) (Ok u) → t ≡ u
same_trace e = cc

fit_of : (known : Bool) (a : Verdict Trace) (l : List ℤ) → (known ≡ true → Fit a l) → cond known true (fit_now a l) ≡ true → Fit a l
unfolding fit_now
fit_of true a l h e = h refl
fit_of false (Err r) l h e = λ t q. absurd (not_accepted q)
fit_of false (Ok u) l h e = λ t q. subst (λ (x : Trace). sound x.state l ≡ true) (same_trace q) e

pub fits_at : (known : Bool) (a : Verdict Trace) (b : ℕ) (l : List ℤ) → (known ≡ true → Fit a l) → fit_at known a b l ≡ true → (b ≡ line_feed) × Fit a l
fits_at known a b l h e = by_test (eqb b line_feed) (λ z. (eqb-true b line_feed z, fit_of known a l h (rw z at e))) (λ z. absurd (false≢true (rw z at e)))

upright_fit : (a : Verdict Trace) (l : List ℤ) (g : Stage) (n : ℕ) → Upright a l g n → Fit a l
unfolding Upright
upright_fit (Err r) l g n x t q = absurd (not_accepted q)
upright_fit (Ok u) l g n x t q = subst (λ (y : Trace). sound y.state l ≡ true) (same_trace q) x.whole

pub line_fit : (a : Verdict Trace) (f : Feeding) (l : List ℤ) (line : List ℕ) → f.last ≡ a → Fit a l → let o = line_by a f l line in Fit o.0.last o.1
unfolding line_by line_ended line_fed
line_fit (Err r) f l line e h = λ t q. absurd (not_accepted (sym e ∙ q))
line_fit (Ok t) f l line e h =
    by_test (leb f.filled (length line))
    (λ k. rw k (upright_fit _ _ _ 1 (obeyed_upright f.stage t.state l 0 (line_of (take f.filled line)) (line_ranged (take f.filled line)) (record { whole = h t refl; few = omega arith }))))
    (λ k. rw k (λ u q. absurd (not_accepted q)))

pub line_byte : (a : Verdict Trace) (f : Feeding) (l : List ℤ) (line : List ℕ) (b : ℕ) → b ≡ line_feed → let o = line_by a f l line in ◌≡◌ {A = Reader} (o.0, (o.1, line)) (byte_fed a f l line b)
unfolding line_by byte_fed
line_byte (Err r) f l line b e = refl
line_byte (Ok t) f l line b e = rw (eq-eqb b line_feed e)

pub pair_taken : (f : Feeding) (s : State) (l : List ℤ) (line : List ℕ) {tick : ℕ} {v : ℤ} {a : Verdict Trace} {m : List ℤ} → line_begun f.filled line ≡ Some (Line.Pair tick v) → late s.settings.kind ≡ true → (a, m) ≡ answered (late_outcome s l tick v)
    → (answered_by f Stage.Readings a, m) ≡ line_ended f s l line
unfolding line_begun line_ended line_fed obeyed
pair_taken f s l line {tick} {v} begins kind e =
    by_test (leb f.filled (length line))
    (λ k. let means : line_of (take f.filled line) ≡ Some (Line.Pair tick v) = rw k at begins in rw (k, means, kind) (ap {B = Feeding × List ℤ} (λ (o : Verdict Trace × List ℤ). (answered_by f Stage.Readings o.0, o.1)) e))
    (λ k. absurd (none-some (Line.Pair tick v) (rw k at begins)))
