-- While no line is refused the trace is sound, and the lines are the readings and two headers at most.
use Prim.Native.Nat.{ℕ, suc, ◌+◌, ◌≤◌, ◌<◌}
use mathlib.Core.Path.{◌≡◌, ap}
use mathlib.Core.Bool.{true}
use mathlib.Core.List.{List}
use native.Mathlib.Omega.{arith}
use lib.IntN.{ℤ}
use mir.Syntax.{w32}
use mir.Val.{SFits}
use Rattle.rule.specs.declared.Opening.{Opening}
use Rattle.rule.specs.declared.State.{State}
use Rattle.rule.specs.Calls.{Verdict, kept, late, opened, traced}
use Rattle.rule.specs.Numbers.{ticks, word}
use Rattle.rule.specs.Room.{sound, table_of}
use Rattle.rule.specs.Table.{Table, accept, readings}
use Rattle.rule.proofs.Signed.{signed_fits}
use Rattle.rule.proofs.Whole.{by_test}
use Rattle.rooms.specs.Steps.{Ready}
use Rattle.rooms.proofs.Sounding.{sound_facts, sound_readings}
use Rattle.rooms.proofs.Taking.{taken_sound, taken_state}
use Rattle.trace.specs.Answers.{answer}
use Rattle.rooms.specs.Left.{LeavesSound, LeftBy}
use Rattle.rooms.proofs.Leaving.{late_either, next_either, open_either, open_leaves}
use Rattle.notation.specs.declared.Line.{Line}
use Rattle.std.proofs.Common.{Option, Some, None}
use Rattle.notation.proofs.Ranges.{Ranged}
use Rattle.listing.specs.declared.Stage.{Stage}
use Rattle.listing.specs.Listing.{obeyed, stage_after}
use Rattle.trace.specs.declared.Trace.{Trace}
use Rattle.std.specs.Prelude.{Ok, Err}

-- the most lines that such a stage and so many readings can have
abbrev pub most_lines : Stage → ℕ → ℕ
most_lines Stage.Nothing r = 0
most_lines Stage.Steps r = 1
most_lines Stage.Late r = 2
most_lines Stage.Readings r = r + 2

pub record Stood (s : State) (l : List ℤ) (g : Stage) (n : ℕ) : Type 0 where
  pub whole : sound s l ≡ true
  pub few : n ≤ most_lines g s.readings

-- so it is where the last answer is no refusal
unfoldable pub Upright : Verdict Trace → List ℤ → Stage → ℕ → Type 0
Upright (Err r) l g n = Unit {0}
Upright (Ok t) l g n = Stood t.state l g n

abbrev Left : Verdict State × List ℤ → Stage → ℕ → Type 0
Left o g n = Upright (answer o.0) o.1 g n

pub lines_at_most : (g : Stage) (r : ℕ) → most_lines g r ≤ r + 2
lines_at_most Stage.Nothing r = omega arith
lines_at_most Stage.Steps r = omega arith
lines_at_most Stage.Late r = omega arith
lines_at_most Stage.Readings r = omega arith

-- so a machine word counts them
pub few_lines : {s : State} {l : List ℤ} {g : Stage} {n : ℕ} → Stood s l g n → n ≤ ticks + 2
few_lines {s} {l} {g} {n} x =
    let facts = sound_facts s l x.whole in
    omega (arith, x.few, lines_at_most g s.readings, facts.true_readings, sound_readings s l facts)

pub opened_upright : (o : Opening) (l : List ℤ) (g : Stage) (n : ℕ) → n ≤ most_lines g 0 → Left (opened o l) g n
unfolding traced answer Upright LeftBy readings
opened_upright o l g n h =
    open_either o l (λ v. LeavesSound (traced (kept o) l v) → Left (traced (kept o) l v) g n) (λ r _. tt) (λ _ whole. record { whole = whole; few = h }) (open_leaves o l)

module _ (s : State) (l : List ℤ) (g : Stage) (n : ℕ) (x : Stood s l g n) where
  abbrev Goes : Verdict Table → Type 0
  Goes v = Left (traced s.settings l v) Stage.Readings (suc n)

  refused_goes : (r : _) → Goes (Err r)
  unfolding traced answer Upright
  refused_goes r = tt

  taken_goes : (at k tick : ℕ) (v : ℤ) → Ready s l at k tick v → SFits w32 v → tick < word → Goes (Ok (accept s.settings (table_of s l) tick v))
  unfolding traced answer Upright
  taken_goes at k tick v r fits small =
      record {
        whole = taken_sound s l at k tick v r fits small;
        few = omega (arith, x.few, lines_at_most g s.readings, ap (λ (z : State). z.readings) (taken_state s l at k tick v r fits small));
      }

pub obeyed_upright : (g : Stage) (s : State) (l : List ℤ) (n : ℕ) (m : Option Line) → Ranged m → Stood s l g n → let o = obeyed g s l m in Upright o.0 o.1 (stage_after m) (suc n)
unfolding obeyed Upright Ranged
obeyed_upright Stage.Nothing s l n (Some (Line.Steps b)) ranged x = opened_upright _ l Stage.Steps (suc n) (omega (arith, x.few))
obeyed_upright Stage.Steps s l n (Some (Line.Steps b)) ranged x = tt
obeyed_upright Stage.Late s l n (Some (Line.Steps b)) ranged x = tt
obeyed_upright Stage.Readings s l n (Some (Line.Steps b)) ranged x = tt
obeyed_upright Stage.Nothing s l n (Some (Line.Late k)) ranged x = opened_upright _ l Stage.Late (suc n) (omega (arith, x.few))
obeyed_upright Stage.Steps s l n (Some (Line.Late k)) ranged x = opened_upright _ l Stage.Late (suc n) (omega (arith, x.few))
obeyed_upright Stage.Late s l n (Some (Line.Late k)) ranged x = tt
obeyed_upright Stage.Readings s l n (Some (Line.Late k)) ranged x = tt
obeyed_upright g s l n (Some (Line.Alone v)) ranged x =
    by_test (late s.settings.kind) (λ e. rw e tt)
    (λ e. rw e (next_either s l v (Goes s l g n x) (refused_goes s l g n x) (λ _ r small. taken_goes s l g n x _ _ _ v r (signed_fits v ranged) small)))
obeyed_upright g s l n (Some (Line.Pair tick v)) ranged x =
    by_test (late s.settings.kind)
    (λ e. rw e (late_either s l v (Goes s l g n x) (refused_goes s l g n x) tick (λ _ _ r small. taken_goes s l g n x _ _ _ v r (signed_fits v ranged) small)))
    (λ e. rw e tt)
obeyed_upright g s l n None ranged x = tt
