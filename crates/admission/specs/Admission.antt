-- The answer of the check that open, load and replay begin with: document 01's verdict, case by case.
use Rattle.rule.specs.declared.Settings.{Settings}
use Rattle.rule.specs.Calls.{Verdict}
use Rattle.rule.specs.Table.{Table, needed}
use Rattle.admission.specs.declared.Admitted.{Admitted}
use Rattle.std.specs.Prelude.{Ok, Err}

-- what is admitted: the settings to keep, and the slots needed
unfoldable pub admission : Settings → Verdict Table → Verdict Admitted
admission s (Err r) = Err r
admission s (Ok t) = Ok (record { settings = s; slots = needed s })
