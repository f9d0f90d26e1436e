-- What the answer of `admit` says of the refusals, and of settings and room that are admitted.
use Prim.Native.Nat.{ℕ}
use mathlib.Core.Path.{◌≡◌, ap}
use mathlib.Core.Bool.{true, false}
use mathlib.Core.List.{List, [], ◌∷◌}
use native.Mathlib.Omega.{arith}
use lib.IntN.{ℤ}
use Rattle.rule.specs.declared.Refusal.{Refusal}
use Rattle.rule.specs.declared.Opening.{Opening}
use Rattle.rule.specs.declared.Settings.{Settings}
use Rattle.rule.specs.Calls.{Check, Verdict, checked, admitted, kept}
use Rattle.rule.specs.Table.{Table, needed}
use Rattle.admission.specs.declared.Admitted.{Admitted}
use Rattle.admission.specs.Admission.{admission}
use Rattle.rooms.proofs.Granting.{Granted, past_admission}
use Rattle.std.specs.Prelude.{Ok, Err}

-- what comes after refusals does not change them
same_refusal : (l : List Check) (s : Settings) (r : Refusal) (v : Verdict Table) → admission s (checked l (Ok [])) ≡ Err r → checked l v ≡ Err r
unfolding admission checked
same_refusal [] s r v e = absurd (let z : ◌≡◌ {A = ℕ} 0 1 = cc in omega arith)
same_refusal ((true, q) ∷ l) s r v e = cc
same_refusal ((false, q) ∷ l) s r v e = same_refusal l s r v e

pub admit_refuses : (o : Opening) (l : List ℤ) (r : Refusal) → admission (kept o) (admitted o l (Ok [])) ≡ Err r → (v : Verdict Table) → admitted o l v ≡ Err r
unfolding admitted
admit_refuses o l r e v = same_refusal _ (kept o) r v e

-- what `admit` grants is what is kept
abbrev pub Grants : Opening → List ℤ → Admitted → Type 0
Grants o l a = Granted (kept o) l × (a.settings ≡ kept o) × (a.slots ≡ needed (kept o))

pub admit_grants : (o : Opening) (l : List ℤ) (a : Admitted) → admission (kept o) (admitted o l (Ok [])) ≡ Ok a → Grants o l a
unfolding admission
admit_grants o l a =
    past_admission o l (Ok []) (λ v. admission (kept o) v ≡ Ok a → Grants o l a)
    (λ r e. absurd (let z : ◌≡◌ {A = ℕ} 0 1 = cc in omega arith))
    (λ g e. let same : a ≡ record { settings = kept o; slots = needed (kept o) } = cc in (g, ap (λ (x : Admitted). x.settings) same, ap (λ (x : Admitted). x.slots) same))
