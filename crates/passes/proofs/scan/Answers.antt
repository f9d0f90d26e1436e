-- `passes::scan` meets its contract. The invariant: what is left from slot `i` on, with what is counted, decides.
use native.Mathlib.Omega.{arith}
use mathlib.Core.Path.{sym, ◌∙◌}
use borrow.Author.Tests.{eq-eqb, ne_eqb}
use Rattle.passes.proofs.Scanning.{scan_breaks, scan_ends, scan_fails, scan_goes_on, scan_starts}
use Rattle.passes.proofs.scan.Goals as goal

pub loop-i-init : goal.loop-i-init
loop-i-init c =
    let a = c.args in
    scan_starts a.kind a.told_runs a.told_readings a.room.now a.used c.first_run-runs.result c.first_run-runs.ensures.used_value c.first_run-runs.ensures.upper_bound

pub returns-then-not-slot_ranged : goal.returns-then-not-slot_ranged
returns-then-not-slot_ranged c = sym (scan_fails c.loop-i.invariant c.loop-i-test.true (cc))

pub returns-then-first_broken-ne0 : goal.returns-then-first_broken-ne0
returns-then-first_broken-ne0 c =
    sym (scan_breaks c.loop-i.invariant c.loop-i-test.true _ c.read-b.ensures (ne_eqb _ 0 (λ none. c.if-first_broken-ne0.true (c.first_broken.ensures ∙ none))))

pub loop-i-preserved : goal.loop-i-preserved
loop-i-preserved c =
    rw (c.starts_run-runs.ensures, c.end-end.ensures)
    (scan_goes_on c.loop-i.invariant c.loop-i-test.true _ c.read-b.ensures (cc) (eq-eqb _ 0 (sym c.first_broken.ensures ∙ c.if-first_broken-ne0.false)) (omega arith))

pub returns-then-told_runs-runs : goal.returns-then-told_runs-runs
returns-then-told_runs-runs c = sym (scan_ends c.loop-i.invariant c.loop-i-test.false ∙ rw (eq-eqb c.args.told_runs c.loop-i.runs c.if-told_runs-runs.true))

pub returns-else-told_runs-runs : goal.returns-else-told_runs-runs
returns-else-told_runs-runs c = rw (scan_ends c.loop-i.invariant c.loop-i-test.false, ne_eqb c.args.told_runs c.loop-i.runs c.if-told_runs-runs.false)
