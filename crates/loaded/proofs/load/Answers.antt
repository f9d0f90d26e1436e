-- `loaded::load` meets its contract: each return is its case of the outcome.
use native.Mathlib.Omega.{arith}
use Prim.Native.Nat.{◌/◌, ◌≤◌}
use mathlib.Core.Path.{◌≡◌, sym, ◌∙◌}
use lib.ListN.{length}
use Rattle.rule.specs.declared.Settings.{Settings}
use Rattle.rule.specs.Numbers.{record_width}
use Rattle.rule.specs.Bytes.{records_of}
use Rattle.rule.specs.Calls.{kept, traced}
use Rattle.rule.specs.Room.{laid}
use Rattle.rule.specs.Table.{needed, readings, runs}
use Rattle.storage.proofs.Records.{length_file}
use Rattle.rooms.proofs.Bounds.{most_needed, needed_small}
use Rattle.trace.specs.Answers.{answer}
use Rattle.rule.specs.Calls.{file_verdict}
use Rattle.storage.proofs.Filing.{Loads, cleared, file_loads, loaded_length, loads_needed}
use Rattle.loaded.proofs.Inspecting.{inspect_counts, inspect_refuses}
use Rattle.rooms.proofs.Granting.{admits}
use Rattle.admission.proofs.Admitting.{Grants, admit_grants, admit_refuses}
use Rattle.std.proofs.lemmas.Result.{err_from_is_err_and}
use Rattle.loaded.proofs.load.Goals.{In_ok-c, In_ok-settings}
use Rattle.loaded.proofs.load.Goals as goal
use Rattle.std.specs.Prelude.{Ok}

granted : (c : In_ok-settings) → Grants c.args.named c.args.room.now c.in_ok-settings.field-0
granted c = admit_grants _ _ _ (sym c.admit.ensures ∙ c.in_ok-settings.was)

small : (c : In_ok-settings) → c.in_ok-settings.field-0.slots ≤ most_needed
small c =
    let g = granted c in
    omega (arith, g.2, needed_small (kept c.args.named) g.0.base g.0.gaps)

loads : (c : In_ok-c) → Grants c.args.named c.args.room.now c.in_ok-settings.field-0
    → let a = c.args in Loads (kept a.named) a.file.now × ((c.in_ok-c.c.runs ≡ runs (records_of a.file.now)) × (c.in_ok-c.c.readings ≡ readings (records_of a.file.now)))
loads c g =
    let a = c.args in
    inspect_counts (kept a.named) a.file.now c.in_ok-c.c (rw g.1 at (sym c.inspect.ensures ∙ c.in_ok-c.was))

-- there is a slot for each record
few : (c : In_ok-c) → Grants c.args.named c.args.room.now c.in_ok-settings.field-0
    → length c.args.file.now / record_width ≤ c.in_ok-settings.field-0.slots
few c g =
    let a = c.args in
    omega (arith, loads_needed (kept a.named) a.file.now (loads c g).0, length_file a.file.now, g.2)

pub inspect-requires : goal.inspect-requires
inspect-requires c = let g = granted (goal.at.inspect-requires c).In_ok-settings in rw g.1 (g.0.base, g.0.gaps)

pub load_slots-requires : goal.load_slots-requires
load_slots-requires c = let g = granted (goal.at.load_slots-requires c).In_ok-settings in (omega arith, omega (arith, few (goal.at.load_slots-requires c).In_ok-c g, g.2, g.0.long))

pub clear-requires : goal.clear-requires
clear-requires c =
    let a = c.args in
    let g = granted (goal.at.clear-requires c).In_ok-settings in
    let same = loaded_length a.file.now a.room.now (length a.file.now / record_width) c.load_slots.new.room (omega (arith, few (goal.at.clear-requires c).In_ok-c g, g.2, g.0.long)) c.load_slots.ensures in
    let fits = few (goal.at.clear-requires c).In_ok-c g in
    (omega (arith, fits), omega (arith, fits, same, g.2, g.0.long))

pub returns-in_err-settings : goal.returns-in_err-settings
unfolding traced answer
returns-in_err-settings c =
    let a = c.args in
    let p = err_from_is_err_and c.from_residual.result c.from_residual.ensures.1 in
    rw (admit_refuses a.named a.room.now c.in_err-settings.field-0.0 (sym c.admit.ensures ∙ c.in_err-settings.was) (file_verdict (kept a.named) a.file.now), p.1, p.2)

pub returns-in_err-c : goal.returns-in_err-c
unfolding traced answer
returns-in_err-c c =
    let a = c.args in
    let g = granted (goal.at.returns-in_err-c c).In_ok-settings in
    let p = err_from_is_err_and c.from_residual-in_err-c.result c.from_residual-in_err-c.ensures.1 in
    rw (
      admits a.named a.room.now g.0 (file_verdict (kept a.named) a.file.now),
      inspect_refuses (file_verdict (kept a.named) a.file.now) c.in_err-c.field-0.0 (rw g.1 at (sym c.inspect.ensures ∙ c.in_err-c.was)),
      p.1,
      p.2,
    )

pub returns : goal.returns
unfolding traced answer records_of
returns c =
    let a = c.args in
    let s : Settings = kept a.named in
    let g = granted (goal.at.returns c).In_ok-settings in
    let h = loads (goal.at.returns c).In_ok-c g in
    let room : c.clear.new.room ≡ laid (needed s) (records_of a.file.now) a.room.now =
    rw (c.clear.ensures, c.load_slots.ensures) (rw g.2 (cleared a.file.now a.room.now (length a.file.now / record_width) (needed s) (omega (arith, few (goal.at.returns c).In_ok-c g, g.2)))) in
    rw (admits a.named a.room.now g.0 (file_verdict s a.file.now), file_loads s a.file.now h.0)
    (λ i. (Ok (record { state = record { settings = g.1 i; used = sym (length_file a.file.now) i; runs = h.1.0 i; readings = h.1.1 i } }), room i))

pub overflow_mul-slots : goal.overflow_mul-slots
overflow_mul-slots c = omega (arith, small (goal.at.overflow_mul-slots c).In_ok-settings)
