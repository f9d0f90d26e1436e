-- Soundness as the code tests it, one list in its order, and how many slots a sound state can use.
use Prim.Native.Nat.{◌≤◌}
use mathlib.Core.Path.{◌≡◌}
use mathlib.Core.Bool.{Bool, true, and_assoc}
use mathlib.Core.List.{List, [], ◌∷◌}
use native.Mathlib.Omega.{arith}
use lib.Dec.{leb}
use lib.IntN.{ℤ}
use Rattle.rule.specs.declared.State.{State}
use Rattle.rule.specs.Room.{all_of, base_good, clauses, edition_good, gaps_good, rest_zero, roomy, runs_allowed, sound}
use Rattle.rule.specs.Table.{limit}
use Rattle.passes.proofs.Scanning.{scanned}
use Rattle.rooms.proofs.Bounds.{limit_gaps, most_allowed, needed_small}

abbrev pub tests : State → List ℤ → List Bool
tests s l =
    edition_good s.settings.edition
    ∷ base_good s.settings.base
    ∷ gaps_good s.settings.kind s.settings.gaps
    ∷ runs_allowed s.settings.kind s.settings.gaps s.runs
    ∷ roomy s.settings l
    ∷ leb s.used (limit s.settings s.runs)
    ∷ scanned s.settings.kind s.runs s.readings l s.used
    ∷ rest_zero s l
    ∷ []

pub sound_tests : (s : State) (l : List ℤ) → sound s l ≡ all_of (tests s l)
unfolding sound clauses all_of
sound_tests s l = simp and_assoc

-- ---- limits

pub record Limits (s : State) : Type 0 where
  pub small : limit s.settings s.settings.gaps ≤ most_allowed
  pub grows : limit s.settings s.runs ≤ limit s.settings s.settings.gaps

pub limits : (s : State) → base_good s.settings.base ≡ true → gaps_good s.settings.kind s.settings.gaps ≡ true
    → runs_allowed s.settings.kind s.settings.gaps s.runs ≡ true → Limits s
limits s h g r =
    let t = s.settings in
    record { small = omega (arith, needed_small t h g); grows = limit_gaps t.kind t.base t.gaps s.runs r }
