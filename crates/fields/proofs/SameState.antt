-- A state as plain fields is the same state, and fields of kind 0 or 1 are those of a state.
use Prim.Native.Nat.{ℕ, zero, suc, ◌≤◌}
use mathlib.Core.Path.{◌≡◌, refl}
use native.Mathlib.Omega.{arith}
use Rattle.rule.specs.declared.Kind.{Kind}
use Rattle.rule.specs.declared.Kind.TheVariants.{InOrder, Late}
use Rattle.rule.specs.declared.State.{State}
use Rattle.fields.specs.declared.Fields.{Fields}
use Rattle.fields.specs.States.{fields_of, kind_of, number_of, state_from}

same_kind : (k : Kind) → kind_of (number_of k) ≡ k
unfolding kind_of number_of
same_kind InOrder = refl
same_kind Late = refl

pub same_state : (s : State) → state_from (fields_of s) ≡ s
same_state s = λ i. record {
  settings = record { kind = same_kind s.settings.kind i; base = s.settings.base; gaps = s.settings.gaps; edition = s.settings.edition };
  used = s.used;
  runs = s.runs;
  readings = s.readings;
}

same_number : (n : ℕ) → n ≤ 1 → number_of (kind_of n) ≡ n
unfolding kind_of number_of
same_number zero h = refl
same_number (suc n) h = omega arith

pub same_fields : (f : Fields) → f.kind ≤ 1 → fields_of (state_from f) ≡ f
same_fields f h = λ i. record { kind = same_number f.kind h i; base = f.base; gaps = f.gaps; used = f.used; runs = f.runs; readings = f.readings; edition = f.edition }
