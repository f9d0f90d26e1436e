-- `trace::Trace::open` meets its contract: each return is its case of the outcome.
use native.Mathlib.Omega.{arith}
use native.Mathlib.Nat.{sub-zero}
use Prim.Native.Nat.{◌≤◌}
use mathlib.Core.Path.{◌≡◌, sym, ◌∙◌}
use Rattle.rule.specs.Calls.{kept, traced}
use Rattle.rule.specs.Room.{flat, laid}
use Rattle.rule.specs.Table.{needed, readings, runs}
use Rattle.rooms.proofs.Bounds.{most_needed, needed_small}
use Rattle.trace.specs.Answers.{answer}
use Rattle.std.proofs.lemmas.Result.{err_from_is_err_and}
use Rattle.rooms.proofs.Granting.{admits}
use Rattle.admission.proofs.Admitting.{Grants, admit_grants, admit_refuses}
use Rattle.trace.proofs.Trace.open.Goals.{In_ok-settings}
use Rattle.trace.proofs.Trace.open.Goals as goal

granted : (c : In_ok-settings) → Grants c.args.named c.args.room.now c.in_ok-settings.field-0
granted c = admit_grants _ _ _ (sym c.admit.ensures ∙ c.in_ok-settings.was)

small : (c : In_ok-settings) → c.in_ok-settings.field-0.slots ≤ most_needed
small c =
    let g = granted c in
    omega (arith, g.2, needed_small (kept c.args.named) g.0.base g.0.gaps)

pub returns-in_err-settings : goal.returns-in_err-settings
unfolding traced answer
returns-in_err-settings c =
    let a = c.args in
    let p = err_from_is_err_and c.from_residual.result c.from_residual.ensures.1 in
    rw (admit_refuses a.named a.room.now c.in_err-settings.field-0.0 (sym c.admit.ensures ∙ c.in_err-settings.was), p.1, p.2)

pub returns : goal.returns
unfolding traced answer laid flat readings runs
returns c =
    let a = c.args in
    let g = granted (goal.at.returns c).In_ok-settings in
    rw (c.empty.ensures, c.clear.ensures, admits a.named a.room.now g.0, g.1, g.2) (simp sub-zero)

pub overflow_mul-slots : goal.overflow_mul-slots
overflow_mul-slots c = omega (arith, small (goal.at.overflow_mul-slots c).In_ok-settings)

pub clear-requires : goal.clear-requires
clear-requires c = let g = granted (goal.at.clear-requires c).In_ok-settings in omega (arith, g.2, g.0.long)
