-- `faults::first_fault` meets its contract. What is left of the pass gives the first fault of the whole; of one record, every rule passed is met.
use mathlib.Core.Path.{sym, ◌∙◌}
use native.Mathlib.Omega.{arith}
use Rattle.rules.proofs.Numbered.{all_met, none_asked}
use Rattle.faults.proofs.Faults.{scan_all, scan_done, scan_fault, scan_next}
use Rattle.faults.proofs.first_fault.Goals as goal

pub loop-rule-init : goal.loop-rule-init
loop-rule-init c = none_asked _ _ _

pub records-preserved : goal.records-preserved
records-preserved c =
    let here = c.records in
    let read = c.read-b in
    rw c.end-end.ensures
    (sym
    (scan_next c.args.kind c.args.file.now _ here.end here.i read.result read.ensures (omega arith)
    (all_met _ _ _ c.loop-rule.rule (omega arith) c.loop-rule.invariant))
    ∙ here.invariant)

pub returns-then-not-meets : goal.returns-then-not-meets
returns-then-not-meets c =
    let a = c.args in
    let here = c.records in
    let read = c.read-b in
    sym
    (scan_fault a.kind a.file.now _ here.end here.i read.result read.ensures (omega arith) c.loop-rule.rule
    (sym c.meets.ensures ∙ c.if-not-meets.true))
    ∙ here.invariant
    ∙ scan_all a.kind a.file.now

pub returns-then-n-i : goal.returns-then-n-i
returns-then-n-i c =
    let a = c.args in
    sym (scan_done a.kind a.file.now _ c.records.end c.records.i (omega arith))
    ∙ c.records.invariant
    ∙ scan_all a.kind a.file.now
