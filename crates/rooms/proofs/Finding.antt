-- The place of a tick in a sound trace, and what the test there tells: the bucket before the place holds the tick, or none does.
use Prim.Native.Nat.{ℕ, ◌-◌, ◌<◌}
use mathlib.Core.Path.{◌≡◌, refl, sym, ap, ◌∙◌}
use mathlib.Core.Bool.{true, false, false≢true, true≢false}
use mathlib.Core.List.{List}
use mathlib.Core.Option.{Option, some, none}
use native.Mathlib.Omega.{arith}
use lib.IntN.{ℤ}
use Rattle.rule.specs.declared.Bucket.{Bucket}
use Rattle.rule.specs.declared.State.{State}
use Rattle.rule.specs.Calls.{is_held}
use Rattle.rule.specs.Room.{slot, slots, sound, table_of}
use Rattle.rule.specs.Table.{holding}
use Rattle.rooms.specs.Steps.{Placed, position}
use Rattle.rooms.proofs.Placing.{slot_first, slot_held, slot_holding}
use Rattle.rooms.proofs.Sounding.{sound_facts, sound_filled, sound_ordered}

pub sound_placed : (s : State) (l : List ℤ) (at tick : ℕ) → sound s l ≡ true → at ≡ position tick (table_of s l) → Placed l s.used at tick
sound_placed s l at tick e place =
    let f = sound_facts s l e in record { filled = sound_filled s l f; ordered = sound_ordered s l f; place = place }

pub not_held : (o : Option Bucket) → is_held o ≡ false → o ≡ none
unfolding is_held
not_held none e = refl
not_held (some b) e = absurd (true≢false e)

module _ {l : List ℤ} {n at tick : ℕ} (w : Placed l n at tick) (e : is_held (holding tick (slots l 0 n)) ≡ true) where
  pub past_first : 0 < at
  unfolding is_held
  past_first = let not_first : at ≡ 0 → ⊥ = λ h. false≢true (sym (ap is_held (slot_first w h)) ∙ e) in omega arith

  pub before_holds : holding tick (slots l 0 n) ≡ some (slot l (at - 1))
  before_holds = rw (sym (slot_held w past_first) ∙ e) at (slot_holding w past_first)
