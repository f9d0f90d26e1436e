-- `faults::inspect` meets its contract: each return is its case of the verdict.
use borrow.Author.Tests.{eq-eqb, le-ltb, lt-ltb, ne_eqb}
use native.Mathlib.Omega.{arith}
use Prim.Native.Nat.{◌%◌, ◌/◌}
use mathlib.Core.Path.{◌≡◌, ap}
use mathlib.Core.Bool.{Bool, true, not}
use lib.Dec.{eqb}
use lib.ListN.{length}
use Rattle.rule.specs.Bytes.{records_of}
use Rattle.rule.specs.Calls.{checked}
use Rattle.rule.specs.Numbers.{record_width}
use Rattle.rule.specs.Room.{runs_allowed}
use Rattle.rule.specs.Rules.{first_fault, is_whole, ruled}
use Rattle.rule.specs.Table.{limit, runs}
use Rattle.faults.proofs.Faults.{file_refused, file_whole}
use Rattle.storage.proofs.Records.{length_file}
use Rattle.rooms.proofs.Bounds.{limit_gaps, needed_small}
use Rattle.rule.proofs.Ruling.{flipped}
use Rattle.faults.specs.Verdicts.{inspection}
use Rattle.rule.specs.Calls.{file_verdict}
use Rattle.faults.proofs.Faults.{whole_readings}
use Rattle.faults.proofs.inspect.Goals.{After-limit, After-runs_allowed, Else-file-ne0, Else-place-count}
use Rattle.faults.proofs.inspect.Goals as goal
use Rattle.std.specs.Prelude.{Ok}

even_here : (c : Else-file-ne0) → eqb (length c.args.file.now % record_width) 0 ≡ true
even_here c = eq-eqb _ 0 c.if-file-ne0.false

whole_here : (c : Else-place-count) → let a = c.args in ruled a.s.kind (records_of a.file.now) ≡ true
unfolding ruled is_whole
whole_here c =
    let a = c.args in
    ap is_whole (file_whole a.s.kind a.file.now (omega (arith, c.first_fault-place.ensures)))

allowed_here : (c : After-runs_allowed) {v : Bool} → not c.runs_allowed.result ≡ v
    → let a = c.args in runs_allowed a.s.kind a.s.gaps (runs (records_of a.file.now)) ≡ not v
allowed_here c e = rw c.counts-c.ensures.0 at (flipped c.runs_allowed.ensures e)

limit_here : (c : After-limit) → let a = c.args in c.limit.result ≡ limit a.s (runs (records_of a.file.now))
limit_here c = rw c.counts-c.ensures.0 at c.limit.ensures

pub returns-then-file-ne0 : goal.returns-then-file-ne0
unfolding file_verdict inspection checked
returns-then-file-ne0 c = rw (ne_eqb _ 0 c.if-file-ne0.true)

pub returns-then-place-count : goal.returns-then-place-count
unfolding file_verdict inspection checked ruled
returns-then-place-count c =
    let a = c.args in
    let bad = file_refused (length a.file.now / record_width) (first_fault a.s.kind 0 0 (records_of a.file.now)) (omega (arith, c.first_fault-place.ensures)) in
    rw (even_here (goal.at.returns-then-place-count c).Else-file-ne0, bad.0, bad.1, ← c.first_fault-place.ensures)

pub returns-then-not-runs_allowed : goal.returns-then-not-runs_allowed
unfolding file_verdict inspection checked
returns-then-not-runs_allowed c = rw (even_here (goal.at.returns-then-not-runs_allowed c).Else-file-ne0, whole_here (goal.at.returns-then-not-runs_allowed c).Else-place-count, allowed_here (goal.at.returns-then-not-runs_allowed c).After-runs_allowed c.if-not-runs_allowed.true-raw)

pub limit-requires : goal.limit-requires
limit-requires c =
    let s = c.args.s in
    let grows = limit_gaps s.kind s.base s.gaps c.counts-c.result.runs (flipped c.runs_allowed.ensures c.if-not-runs_allowed.false-raw) in
    omega (arith, grows, needed_small s c.requires.0 c.requires.1)

pub returns-then-limit-count : goal.returns-then-limit-count
unfolding file_verdict inspection checked
returns-then-limit-count c =
    let a = c.args in
    let t = records_of a.file.now in
    rw (
      even_here (goal.at.returns-then-limit-count c).Else-file-ne0,
      whole_here (goal.at.returns-then-limit-count c).Else-place-count,
      allowed_here (goal.at.returns-then-limit-count c).After-runs_allowed c.if-not-runs_allowed.false-raw,
      lt-ltb (limit a.s (runs t)) (length t) (omega (arith, length_file a.file.now, limit_here (goal.at.returns-then-limit-count c).After-limit, c.if-limit-count.true)),
    )

pub returns : goal.returns
unfolding file_verdict inspection checked
returns c =
    let a = c.args in
    let t = records_of a.file.now in
    let told = c.counts-c.ensures in
    rw (
      even_here (goal.at.returns c).Else-file-ne0,
      whole_here (goal.at.returns c).Else-place-count,
      allowed_here (goal.at.returns c).After-runs_allowed c.if-not-runs_allowed.false-raw,
      le-ltb (limit a.s (runs t)) (length t) (omega (arith, length_file a.file.now, limit_here (goal.at.returns c).After-limit, c.if-limit-count.false)),
    )
    (λ i. Ok (record { runs = told.0 i; readings = told.1 i }))

pub counts-c-requires : goal.counts-c-requires
counts-c-requires c = whole_readings _ _ (whole_here c)
