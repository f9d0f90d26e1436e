-- An accepted open or reading leaves a sound trace.
use Prim.Native.Nat.{ℕ, ◌<◌}
use mathlib.Core.Path.{◌≡◌, refl}
use mathlib.Core.Bool.{true, false}
use mathlib.Core.List.{List, []}
use native.Mathlib.Omega.{arith}
use lib.IntN.{ℤ}
use mir.Syntax.{w32}
use mir.Val.{SFits}
use Rattle.rule.specs.declared.Kind.{Kind}
use Rattle.rule.specs.declared.Kind.TheVariants.{InOrder, Late}
use Rattle.rule.specs.declared.Refusal.{Refusal}
use Rattle.rule.specs.declared.Opening.{Opening}
use Rattle.rule.specs.declared.Settings.{Settings}
use Rattle.rule.specs.declared.State.{State}
use Rattle.rule.specs.Calls.{Verdict, admitted, is_held, kept, late, late_outcome, late_verdict, next_outcome, next_verdict, opened, traced}
use Rattle.rule.specs.Numbers.{word}
use Rattle.rule.specs.Room.{runs_allowed, table_of}
use Rattle.rule.specs.Table.{Table, accept, holding, next_tick, runs}
use Rattle.rule.proofs.Fitting.{Fitted}
use Rattle.rule.proofs.Ruling.{Ruled}
use Rattle.rooms.specs.Steps.{position}
use Rattle.rooms.proofs.Sounding.{facts_sound, laid_facts}
use Rattle.rooms.proofs.Granting.{Granted, past_admission}
use Rattle.rooms.specs.Left.{LeavesSound, LeftBy}
use Rattle.rooms.specs.Steps.{Ready, with}
use Rattle.rooms.proofs.Arriving.{Passed}
use Rattle.rooms.proofs.Passing.{late_passed, next_passed}
use Rattle.rooms.proofs.Taking.{taken_sound}
use Rattle.std.specs.Prelude.{Ok, Err}

-- the outcome of a verdict leaves a sound trace
abbrev pub Leaves : Settings → List ℤ → Verdict Table → Type 0
Leaves s l v = LeavesSound (traced s l v)

pub refused_leaves : (s : Settings) (l : List ℤ) (r : Refusal) → Leaves s l (Err r)
unfolding traced LeftBy
refused_leaves s l r = tt

pub none_allowed : (k : Kind) (gaps : ℕ) → runs_allowed k gaps 0 ≡ true
unfolding runs_allowed
none_allowed InOrder gaps = refl
none_allowed Late gaps = lib.Dec.leb-zero gaps

empty_leaves : (s : Settings) (l : List ℤ) → Granted s l → Leaves s l (Ok [])
unfolding traced LeftBy runs Ruled Fitted
empty_leaves s l g = facts_sound _ _ (laid_facts s [] l g.edition g.base g.gaps (none_allowed s.kind s.gaps) g.long (omega arith) tt tt)

pub open_either : (o : Opening) (l : List ℤ) (P : Verdict Table → Type 0) → ((r : Refusal) → P (Err r)) → (Granted (kept o) l → P (Ok [])) → P (admitted o l (Ok []))
open_either o l = past_admission o l (Ok [])

pub open_leaves : (o : Opening) (l : List ℤ) → LeavesSound (opened o l)
open_leaves o l = open_either o l (Leaves (kept o) l) (refused_leaves (kept o) l) (empty_leaves (kept o) l)

-- a reading that is ready to be taken leaves a sound trace
pub taken_leaves : (s : State) (l : List ℤ) (at k tick : ℕ) (v : ℤ) → Ready s l at k tick v → SFits w32 v → tick < word → Leaves s.settings l (Ok (accept s.settings (table_of s l) tick v))
unfolding traced LeftBy
taken_leaves s l at k tick v r fits small = taken_sound s l at k tick v r fits small

-- ---- what holds of every refusal, and of a reading that is ready to be taken, holds of a reading

module _ (s : State) (l : List ℤ) (v : ℤ) (P : Verdict Table → Type 0) (no : (r : Refusal) → P (Err r)) where
  pub next_either : (late s.settings.kind ≡ false → Ready s l s.used 1 (next_tick (table_of s l)) v → next_tick (table_of s l) < word → P (Ok (accept s.settings (table_of s l) (next_tick (table_of s l)) v)))
      → P (next_verdict s l v)
  unfolding next_verdict
  next_either = next_passed s l v P no _

  pub late_either : (tick : ℕ)
      → (Passed s l tick → is_held (holding tick (table_of s l)) ≡ false → Ready s l (position tick (table_of s l)) (runs (with s l tick v)) tick v → tick < word → P (Ok (accept s.settings (table_of s l) tick v)))
      → P (late_verdict s l tick v)
  unfolding late_verdict
  late_either tick = late_passed s l v P no _ tick

pub next_leaves : (s : State) (l : List ℤ) (v : ℤ) → SFits w32 v → LeavesSound (next_outcome s l v)
next_leaves s l v fits = next_either s l v (Leaves s.settings l) (refused_leaves s.settings l) (λ _ r small. taken_leaves s l _ _ _ v r fits small)

pub late_leaves : (s : State) (l : List ℤ) (tick : ℕ) (v : ℤ) → SFits w32 v → LeavesSound (late_outcome s l tick v)
late_leaves s l tick v fits = late_either s l v (Leaves s.settings l) (refused_leaves s.settings l) tick (λ _ _ r small. taken_leaves s l _ _ _ v r fits small)
