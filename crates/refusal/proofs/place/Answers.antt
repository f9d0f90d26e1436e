-- `refusal::place` meets its contract: a refusal that is not a record's has the place 0.
use Prim.Native.Nat.{ℕ}
use mathlib.Core.List.{List, [], ◌∷◌}
use mathlib.Core.Path.{◌≡◌, refl}
use types.Run.{OneOf, miss}
use borrow.Enum.Refused.{opened}
use denote.Enum.Declared.{tag_of}
use Rattle.rule.specs.declared.Refusal.{Refusal}
use Rattle.rule.specs.declared.Refusal.TheVariants.{Steps, Gaps, Room, Unsound, Kind, Tick, Length, Record, Runs, Overfull, Taken, Absent, Short, Line, Caption, Edition}
use Rattle.rule.specs.Answers.{place}
use Rattle.rule.specs.contracts.Refusal.{the_type}
use Rattle.refusal.proofs.place.Goals as goal

abbrev others : List ℕ
others = 0 ∷ 1 ∷ 2 ∷ 3 ∷ 4 ∷ 5 ∷ 6 ∷ 8 ∷ 9 ∷ 10 ∷ 11 ∷ 12 ∷ 13 ∷ 14 ∷ 15 ∷ []

none : (r : Refusal) → OneOf others (tag_of the_type r) → 0 ≡ place r
none Steps k = refl
none Gaps k = refl
none Room k = refl
none Unsound k = refl
none Kind k = refl
none Tick k = refl
none Length k = refl
none (Record i) k = absurd (miss others 7 tt k)
none Runs k = refl
none Overfull k = refl
none Taken k = refl
none Absent k = refl
none Short k = refl
none Line k = refl
none Caption k = refl
none Edition k = refl

pub returns-in_default : goal.returns-in_default
returns-in_default c = none c.args.refusal (opened c.in_default.in_default-own.keys2)
