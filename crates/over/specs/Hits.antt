-- What a search answers: a refusal, or the bucket that is over, where there is one.
use Rattle.std.specs.Prelude.{ℕ, Option, Some, Ok}
use Rattle.rule.specs.Calls.{Verdict}
use Rattle.over.specs.declared.Sought.{Sought}

abbrev pub Searched : Type 0
Searched = Verdict (Option Sought)

-- the bucket of an index, which starts at a tick
abbrev pub hit : ℕ → ℕ → Searched
hit index start = Ok (Some (record { index = index; start = start }))
