-- What the answer of `inspect` says of a file.
use Prim.Native.Nat.{ℕ, ◌-◌}
use mathlib.Core.Path.{◌≡◌, ap}
use mathlib.Core.List.{List}
use native.Mathlib.Omega.{arith}
use Rattle.faults.specs.declared.Contents.{Contents}
use Rattle.rule.specs.declared.Refusal.{Refusal}
use Rattle.rule.specs.declared.Settings.{Settings}
use Rattle.rule.specs.Bytes.{records_of}
use Rattle.rule.specs.Calls.{Verdict, file_verdict}
use Rattle.rule.specs.Table.{Table, readings, runs}
use Rattle.faults.specs.Verdicts.{inspection}
use Rattle.storage.proofs.Filing.{Loads, file_either}
use Rattle.std.specs.Prelude.{Ok, Err}

pub inspect_refuses : (v : Verdict Table) (r : Refusal) → inspection v ≡ Err r → v ≡ Err r
unfolding inspection
inspect_refuses (Err q) r e = cc
inspect_refuses (Ok t) r e = absurd (let z : ◌≡◌ {A = ℕ} 0 1 = cc in omega arith)

counted : (t : Table) (c : Contents) → inspection (Ok t) ≡ Ok c → (c.runs ≡ runs t) × (c.readings ≡ readings t)
unfolding inspection
counted t c e = let same : c ≡ record { runs = runs t; readings = readings t } = cc in (ap (λ (d : Contents). d.runs) same, ap (λ (d : Contents). d.readings) same)

pub inspect_counts : (s : Settings) (file : List ℕ) (c : Contents) → inspection (file_verdict s file) ≡ Ok c
    → Loads s file × ((c.runs ≡ runs (records_of file)) × (c.readings ≡ readings (records_of file)))
unfolding inspection
inspect_counts s file c =
    file_either s file (λ v. inspection v ≡ Ok c → Loads s file × ((c.runs ≡ runs (records_of file)) × (c.readings ≡ readings (records_of file))))
    (λ r e. absurd (let z : ◌≡◌ {A = ℕ} 0 1 = cc in omega arith)) (λ h e. (h, counted (records_of file) c e))
