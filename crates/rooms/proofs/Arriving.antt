-- A late reading of a sound trace at a tick that is not held is ready to be taken: it goes to its tick's place, and the runs with it follow from the buckets it touches.
use Prim.Native.Nat.{ℕ, suc, ◌+◌, ◌-◌, ◌<◌, ◌≤◌}
use mathlib.Core.Path.{◌≡◌, refl, ap, ◌∙◌}
use mathlib.Core.Bool.{true, false, false≢true}
use mathlib.Core.List.{List, [], ◌∷◌}
use native.Mathlib.Omega.{arith}
use borrow.Author.Tests.{leb-true, le-leb, lt-leb}
use lib.Dec.{ltb}
use lib.IntN.{ℤ}
use Rattle.rule.specs.declared.Kind.{Kind}
use Rattle.rule.specs.declared.Kind.TheVariants.{InOrder, Late}
use Rattle.rule.specs.declared.Refusal.{Refusal}
use Rattle.rule.specs.declared.State.{State}
use Rattle.rule.specs.Calls.{Verdict, checked, is_held, late, late_checks}
use Rattle.rule.specs.Numbers.{most, ticks}
use Rattle.rule.specs.Room.{gaps_good, runs_allowed, sound, table_of}
use Rattle.rule.specs.Rules.{ruled}
use Rattle.rule.specs.Table.{Table, holders, holding, insert, runs, single}
use Rattle.rule.proofs.Ruling.{Ruled, facts_ruled, late_ruled}
use Rattle.rule.proofs.Tables.{one}
use Rattle.rooms.specs.Slots.{Filled}
use Rattle.rooms.specs.Steps.{Placed, position}
use Rattle.rooms.proofs.Bounds.{bounds}
use Rattle.rooms.proofs.Laying.{length_slots}
use Rattle.rooms.proofs.Placing.{held_counts, insert_at, place_within}
use Rattle.rooms.proofs.Sounding.{Facts, sound_facts, sound_filled, sound_ordered}
use Rattle.rooms.proofs.Finding.{sound_placed}
use Rattle.rooms.specs.Steps.{Ready, with}

-- ---- by the kind

late_few : (k : Kind) (gaps n : ℕ) → late k ≡ true → gaps_good k gaps ≡ true → runs_allowed k gaps n ≡ true → n ≤ most
unfolding late gaps_good runs_allowed
late_few InOrder gaps n e g h = absurd (false≢true e)
late_few Late gaps n e g h = omega (arith, leb-true n gaps h, (bounds most gaps g).1)

few_allowed : (k : Kind) (gaps n : ℕ) → n ≤ gaps → runs_allowed k gaps n ≡ true
unfolding runs_allowed
few_allowed InOrder gaps n h = refl
few_allowed Late gaps n h = le-leb n gaps h

late_rules : (k : Kind) (tick : ℕ) (v : ℤ) (t : Table) → late k ≡ true → Ruled k 0 t → tick < ticks → holders tick t ≡ 0 → Ruled k 0 (insert (single tick v) t)
unfolding late
late_rules InOrder tick v t e r h free = absurd (false≢true e)
late_rules Late tick v t e r h free = late_ruled 0 tick v t r (omega arith) h free

-- ---- past the first three refusals

pub record Passed (s : State) (l : List ℤ) (tick : ℕ) : Type 0 where
  pub fit : sound s l ≡ true
  pub kind : late s.settings.kind ≡ true
  pub small : tick < ticks

module _ {s : State} {l : List ℤ} {tick : ℕ} (p : Passed s l tick) where
  facts : Facts s l
  facts = sound_facts s l p.fit

  pub late_filled : Filled l s.used
  late_filled = sound_filled s l facts

  pub late_placed : {at : ℕ} → at ≡ position tick (table_of s l) → Placed l s.used at tick
  late_placed {at} h = sound_placed s l at tick p.fit h

  pub late_runs : s.runs ≤ most
  late_runs = late_few s.settings.kind s.settings.gaps s.runs p.kind facts.good_gaps facts.allowed

  -- k with the reading, from k before it and the buckets it touches
  module _ (joins : ℕ) (touched : (v : ℤ) → joins + runs (with s l tick v) ≡ suc (runs (table_of s l))) (v : ℤ) where
    pub late_joins : joins ≤ s.runs + 1
    late_joins = omega (arith, facts.true_runs, touched v)

    pub late_truth : s.runs + 1 - joins ≡ runs (with s l tick v)
    late_truth = omega (arith, facts.true_runs, touched v)

  -- past the fourth refusal
  module _ (free : is_held (holding tick (table_of s l)) ≡ false) where
    pub late_free : holders tick (table_of s l) ≡ 0
    late_free = held_counts 0 tick (table_of s l) (sound_ordered s l facts) ∙ ap one free

    pub late_left : {A : Type 0} (v : ℤ) (w : Verdict A) → checked (late_checks s l tick v) w ≡ checked ((ltb s.settings.gaps (runs (with s l tick v)), Refusal.Runs) ∷ []) w
    unfolding checked
    late_left v w = rw (p.fit, p.kind, lt-leb ticks tick p.small, free)

    pub late_ready : {at k : ℕ} {v : ℤ} → at ≡ position tick (table_of s l) → k ≡ runs (with s l tick v) → k ≤ s.settings.gaps → Ready s l at k tick v
    unfolding ruled
    late_ready {at} {k} {v} h truth few =
        record {
          fit = p.fit;
          inside = omega (arith, place_within tick (table_of s l), length_slots l 0 s.used);
          place = rw h (insert_at (single tick v) (table_of s l));
          truth = truth;
          rules = facts_ruled s.settings.kind 0 0 (with s l tick v) (late_rules s.settings.kind tick v (table_of s l) p.kind facts.rules p.small late_free);
          allowed = few_allowed s.settings.kind s.settings.gaps k few;
        }
