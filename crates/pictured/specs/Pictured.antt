-- The answer of a picture as a plain record: refusal 0 where it was written, else document 01's number and place.
use Rattle.std.specs.Prelude.{ℕ, List, ℤ, Ok, Err}
use Rattle.rule.specs.Answers.{number, place}
use Rattle.drawing.specs.Call.{picture_outcome}
use Rattle.fields.specs.declared.Fields.{Fields}
use Rattle.fields.specs.States.{state_from}
use Rattle.pictured.specs.declared.Pictured.{Pictured}
use Rattle.rule.specs.Calls.{Verdict}

-- refused: no byte
unfoldable pub picturing : Verdict ℕ → Pictured
picturing (Ok n) = record { refusal = 0; place = 0; bytes = n }
picturing (Err r) = record { refusal = number r; place = place r; bytes = 0 }

-- with the output afterwards
abbrev pub pictured : Verdict ℕ × List ℕ → Pictured × List ℕ
pictured d = (picturing d.0, d.1)

-- ---- what the exported function answers, with the output as it leaves it

abbrev pub picture_reply : Fields → List ℤ → List ℕ → List ℕ → Pictured × List ℕ
picture_reply state room caption out = pictured (picture_outcome (state_from state) room caption out)
