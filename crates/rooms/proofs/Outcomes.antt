-- What an accepted outcome says, and that a refused one leaves the room as it stood.
use Prim.Native.Nat.{ℕ}
use mathlib.Core.Path.{◌≡◌, sym, ap}
use mathlib.Core.List.{List}
use native.Mathlib.Omega.{arith}
use lib.IntN.{ℤ}
use Rattle.rule.specs.declared.Refusal.{Refusal}
use Rattle.rule.specs.declared.Settings.{Settings}
use Rattle.rule.specs.declared.State.{State}
use Rattle.rule.specs.Calls.{Verdict, state_of, traced}
use Rattle.rule.specs.Room.{laid}
use Rattle.rule.specs.Table.{Table, needed}
use Rattle.std.specs.Prelude.{Ok, Err}

module _ (g : Settings) (l : List ℤ) where
  -- a refusal is not accepted, and leaves the room
  pub not_accepted : {s : State} {m : List ℤ} (r : Refusal) → traced g l (Err r) ≡ (Ok s, m) → ⊥
  unfolding traced
  not_accepted {s} r e = let f : ◌≡◌ {A = Verdict State} (Err r) (Ok s) = ap (λ (o : Verdict State × List ℤ). o.0) e in let z : ◌≡◌ {A = ℕ} 0 1 = cc in omega arith

  -- the state of an accepted call is that of the table it leaves, and the table lies in the room
  pub accepted_is : {s : State} {m : List ℤ} (t : Table) → traced g l (Ok t) ≡ (Ok s, m) → (s ≡ state_of g t) × (m ≡ laid (needed g) t l)
  unfolding traced
  accepted_is {s} t e =
      let f : ◌≡◌ {A = Verdict State} (Ok (state_of g t)) (Ok s) = ap (λ (o : Verdict State × List ℤ). o.0) e in
      ((let q : state_of g t ≡ s = cc in sym q), sym (ap (λ (o : Verdict State × List ℤ). o.1) e))

  -- the settings stay
  pub accepted_settings : (v : Verdict Table) {s : State} {m : List ℤ} → traced g l v ≡ (Ok s, m) → s.settings ≡ g
  accepted_settings (Err r) e = absurd (not_accepted r e)
  accepted_settings (Ok t) e = ap (λ (x : State). x.settings) (accepted_is t e).0

  pub traced_refused : (v : Verdict Table) (r : Refusal) (m : List ℤ) → traced g l v ≡ (Err r, m) → m ≡ l
  unfolding traced
  traced_refused (Err q) r m e = sym (ap (λ (o : Verdict State × List ℤ). o.1) e)
  traced_refused (Ok t) r m e = absurd (let f : ◌≡◌ {A = Verdict State} (Ok (state_of g t)) (Err r) = ap (λ (o : Verdict State × List ℤ). o.0) e in let z : ◌≡◌ {A = ℕ} 0 1 = cc in omega arith)
