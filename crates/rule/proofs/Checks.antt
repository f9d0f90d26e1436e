-- A chain of tests passed, or one of its refusals.
use mathlib.Core.Path.{◌≡◌}
use mathlib.Core.Bool.{false}
use mathlib.Core.List.{List, [], ◌∷◌}
use Rattle.rule.specs.declared.Refusal.{Refusal}
use Rattle.rule.specs.Calls.{Check, Verdict, checked}
use Rattle.rule.proofs.Whole.{cond_ind}
use Rattle.std.specs.Prelude.{Err}

-- no test holds
unfoldable pub Unrefused : List Check → Type 0
Unrefused [] = Unit {0}
Unrefused (c ∷ l) = (c.0 ≡ false) × Unrefused l

-- what holds of every refusal, and of what comes after where no test holds, holds of both
pub past_checks : {A : Type 0} (P : Verdict A → Type 0) → ((r : Refusal) → P (Err r)) → (l : List Check) (v : Verdict A) → (Unrefused l → P v) → P (checked l v)
unfolding checked Unrefused
past_checks P refuses [] v f = f tt
past_checks P refuses (c ∷ l) v f = cond_ind c.0 _ _ P (λ _. refuses c.1) (λ e. past_checks P refuses l v (λ k. f (e, k)))
