-- The state as plain fields, and back.
use Rattle.std.specs.Prelude.{ℕ, zero, suc}
use Rattle.rule.specs.declared.Kind.{Kind}
use Rattle.rule.specs.declared.Kind.TheVariants.{InOrder, Late}
use Rattle.rule.specs.declared.Opening.{Opening}
use Rattle.rule.specs.declared.Size.{Size}
use Rattle.rule.specs.declared.Size.TheVariants.{Steps, Base}
use Rattle.rule.specs.declared.State.{State}
use Rattle.fields.specs.declared.Named.{Named}
use Rattle.fields.specs.declared.Fields.{Fields}

-- 0 is in order, any other number late
unfoldable pub kind_of : ℕ → Kind
kind_of zero = InOrder
kind_of (suc n) = Late

unfoldable pub number_of : Kind → ℕ
number_of InOrder = 0
number_of Late = 1

-- by 0 the size is B, by any other number C
unfoldable pub size_of : ℕ → ℕ → Size
size_of zero size = Steps size
size_of (suc n) size = Base size

abbrev pub opening_of : Named → Opening
opening_of named = record { kind = kind_of named.kind; size = size_of named.by named.size; gaps = named.gaps; edition = named.edition }

abbrev pub state_from : Fields → State
state_from f = record { settings = record { kind = kind_of f.kind; base = f.base; gaps = f.gaps; edition = f.edition }; used = f.used; runs = f.runs; readings = f.readings }

abbrev pub fields_of : State → Fields
fields_of s = record { kind = number_of s.settings.kind; base = s.settings.base; gaps = s.settings.gaps; used = s.used; runs = s.runs; readings = s.readings; edition = s.settings.edition }

-- the state that a refused open, load or replay answers: no reading and no look accepts it
abbrev pub none : Fields
none = record { kind = 0; base = 0; gaps = 0; used = 0; runs = 0; readings = 0; edition = 0 }
