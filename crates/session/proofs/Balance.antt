-- In a session the tally's counts are the numbers of accepted and refused readings, merges equals accepted minus buckets, and the session of the definitions is the one that the calls' contracts make.
use Prim.Native.Nat.{ℕ, suc, ◌+◌, ◌-◌, ◌≤◌, ◌<◌, min}
use mathlib.Core.Path.{◌≡◌, refl, sym, ap, ◌∙◌, subst}
use mathlib.Core.Bool.{true}
use mathlib.Core.List.{List, [], ◌∷◌}
use native.Mathlib.Omega.{arith}
use lib.IntN.{ℤ}
use mir.Syntax.{w32}
use mir.Val.{SFits}
use Rattle.rule.specs.declared.Refusal.{Refusal}
use Rattle.rule.specs.declared.Opening.{Opening}
use Rattle.rule.specs.declared.State.{State}
use Rattle.rule.specs.Calls.{Verdict, counted, grown, kept, onward, opened, state_of, traced}
use Rattle.rule.specs.Numbers.{tally_most, ticks, word}
use Rattle.rule.specs.Room.{sound, table_of}
use Rattle.rule.specs.Table.{Table, accept, readings}
use Rattle.rule.proofs.Signed.{signed_fits}
use Rattle.rooms.proofs.Sounding.{sound_facts, sound_readings}
use Rattle.trace.specs.Answers.{verdict}
use Rattle.rooms.specs.Left.{LeavesSound, LeftBy}
use Rattle.rooms.specs.Steps.{Ready}
use Rattle.trace.proofs.Verdicts.{verdict_answer}
use Rattle.rooms.proofs.Leaving.{late_either, next_either, open_either, open_leaves}
use Rattle.rooms.proofs.Taking.{taken_short, taken_sound, taken_state}
use Rattle.session.specs.Session.{AlwaysTallied, CallsLeave, GrownTally, Call, Session, TrueTally, accepted_among, accepted_one, after, begun, late, left, next, outcome, refused_among, refused_one}
use Rattle.trace.specs.declared.Trace.{Trace}
use Rattle.std.specs.Prelude.{Ok, Err}

-- ---- how the counts grow, on any state and room with any tally

-- each outcome is counted once
one_each : (v : Verdict State) → accepted_one v + refused_one v ≡ 1
unfolding accepted_one refused_one
one_each (Err r) = refl
one_each (Ok s) = refl

one_accepted : (c : Session) (o : Verdict State × List ℤ) → c.tally.accepted ≤ tally_most → (left c o).tally.accepted ≡ min (c.tally.accepted + accepted_one o.0) tally_most
unfolding counted grown accepted_one
one_accepted c (Err r, l) small = omega arith
one_accepted c (Ok s, l) small = omega arith

one_refused : (c : Session) (o : Verdict State × List ℤ) → c.tally.refused ≤ tally_most → (left c o).tally.refused ≡ min (c.tally.refused + refused_one o.0) tally_most
unfolding counted grown refused_one
one_refused c (Err r, l) small = omega arith
one_refused c (Ok s, l) small = omega arith

merges_one : (c : Session) (o : Verdict State × List ℤ) → c.tally.merges ≤ tally_most → (left c o).tally.merges ≡ min (c.tally.merges + (c.state.used + accepted_one o.0 - (left c o).state.used)) tally_most
unfolding counted grown onward accepted_one
merges_one c (Err r, l) small = omega arith
merges_one c (Ok s, l) small = omega arith

module _ (c : Session) where
  abbrev Brings : Verdict Table → Type 0
  Brings v = (left c (traced c.state.settings c.room v)).state.used ≤ c.state.used + accepted_one (traced c.state.settings c.room v).0

  refused_brings : (r : Refusal) → Brings (Err r)
  unfolding traced onward accepted_one
  refused_brings r = omega arith

  taken_brings : (at k tick : ℕ) (v : ℤ) → Ready c.state c.room at k tick v → SFits w32 v → tick < word → Brings (Ok (accept c.state.settings (table_of c.state c.room) tick v))
  unfolding traced onward accepted_one
  taken_brings at k tick v r fits small = omega (arith, taken_short c.state c.room at k tick v r fits small)

  -- a reading brings a bucket at most
  brings : (r : Call) → (left c (outcome c r)).state.used ≤ c.state.used + accepted_one (outcome c r).0
  unfolding outcome
  brings (next v ranged) = next_either c.state c.room v Brings refused_brings (λ _ r small. taken_brings _ _ _ v r (signed_fits v ranged) small)
  brings (late tick v ranged) = late_either c.state c.room v Brings refused_brings tick (λ _ _ r small. taken_brings _ _ _ v r (signed_fits v ranged) small)

-- ---- one reading and then the rest, as numbers

-- each is counted once
one_more : (a r b s : ℕ) {n : ℕ} → a + r ≡ 1 → b + s ≡ n → (a + b) + (r + s) ≡ suc n
one_more a r b s p q = omega (arith, p, q)

-- to grow twice is to grow by the sum, and what has grown has 32 bits
twice : (m d e f : ℕ) {n o : ℕ} → n ≡ min (m + d) tally_most → (n ≤ tally_most → o ≡ min (n + e) tally_most) → d + e ≡ f → o ≡ min (m + f) tally_most
twice m d e f p q s = let more = q (omega (arith, p)) in omega (arith, p, more, s)

-- buckets brought and buckets gone add up
brought : (u a b : ℕ) {v w : ℕ} → v ≤ u + a → w ≤ v + b → w ≤ u + (a + b)
brought u a b p q = omega (arith, p, q)

gone : (u a b : ℕ) {v w : ℕ} → v ≤ u + a → w ≤ v + b → u + a - v + (v + b - w) ≡ u + (a + b) - w
gone u a b p q = omega (arith, p, q)

grows : (c : Session) (rs : List Call) → GrownTally c rs
unfolding after accepted_among refused_among
grows c [] = record { each = refl; accepted_grown = λ small. omega arith; refused_grown = λ small. omega arith; buckets = omega arith; merges_grown = λ small. omega arith }
grows c (r ∷ rs) =
    let o : Verdict State × List ℤ = outcome c r in
    let rest = grows (left c o) rs in
    record {
      each = one_more (accepted_one o.0) (refused_one o.0) _ _ (one_each o.0) rest.each;
      accepted_grown = λ small. twice c.tally.accepted _ _ _ (one_accepted c o small) rest.accepted_grown refl;
      refused_grown = λ small. twice c.tally.refused _ _ _ (one_refused c o small) rest.refused_grown refl;
      buckets = brought c.state.used (accepted_one o.0) _ (brings c r) rest.buckets;
      merges_grown = λ small. twice c.tally.merges _ _ _ (merges_one c o small) rest.merges_grown (gone c.state.used (accepted_one o.0) _ (brings c r) rest.buckets);
    }

-- ---- one reading

-- accepted does not stop: each accepted reading takes one of the ticks
record Even (c : Session) : Type 0 where
  fit : sound c.state c.room ≡ true
  each : c.tally.accepted ≡ c.state.readings

module _ (c : Session) (e : Even c) where
  abbrev state : State
  state = c.state

  abbrev room : List ℤ
  room = c.room

  abbrev Stays : Verdict Table → Type 0
  Stays v = Even (left c (traced state.settings room v))

  refused_stays : (r : Refusal) → Stays (Err r)
  unfolding traced onward counted
  refused_stays r = record { fit = e.fit; each = omega (arith, e.each) }

  taken_stays : (at k tick : ℕ) (v : ℤ) → Ready state room at k tick v → SFits w32 v → tick < word → Stays (Ok (accept state.settings (table_of state room) tick v))
  unfolding traced onward counted grown
  taken_stays at k tick v r fits small =
      let t : Table = accept state.settings (table_of state room) tick v in
      let whole = taken_sound state room at k tick v r fits small in
      let facts = sound_facts (state_of state.settings t) _ whole in
      let more : readings t ≡ state.readings + 1 = ap (λ (z : State). z.readings) (taken_state state room at k tick v r fits small) in
      let most : readings t ≤ ticks = omega (arith, facts.true_readings, sound_readings (state_of state.settings t) _ facts) in
      record { fit = whole; each = omega (arith, e.each) }

  stays : (r : Call) → Even (left c (outcome c r))
  unfolding outcome
  stays (next v ranged) = next_either state room v Stays refused_stays (λ _ r small. taken_stays _ _ _ v r (signed_fits v ranged) small)
  stays (late tick v ranged) = late_either state room v Stays refused_stays tick (λ _ _ r small. taken_stays _ _ _ v r (signed_fits v ranged) small)

-- ---- all readings

after_even : (c : Session) → Even c → (rs : List Call) → Even (after c rs)
unfolding after
after_even c e [] = e
after_even c e (r ∷ rs) = after_even (left c (outcome c r)) (stays c e r) rs

-- an opened trace is empty
opened_empty : (o : Opening) (l : List ℤ) → onward (state_of (kept o) []) (opened o l).0 ≡ state_of (kept o) []
unfolding traced onward
opened_empty o l = open_either o l (λ v. onward (state_of (kept o) []) (traced (kept o) l v).0 ≡ state_of (kept o) []) (λ r. refl) (λ g. refl)

-- a sound trace has at most `ticks` readings, so accepted has not stopped
from_opening : (o : Opening) (l : List ℤ) (st : State) (l' : List ℤ) → opened o l ≡ (Ok st, l') → (rs : List Call) → TrueTally (begun st l') rs
unfolding LeftBy onward readings
from_opening o l st l' e rs =
    let empty : st ≡ state_of (kept o) [] = ap (λ (v : Verdict State × List ℤ). onward (state_of (kept o) []) v.0) (sym e) ∙ opened_empty o l in
    let start : Even (begun st l') = record {
      fit = subst LeavesSound e (open_leaves o l);
      each = omega (arith, ap (λ (z : State). z.readings) empty);
    } in
    let even = after_even (begun st l') start rs in
    let last : Session = after (begun st l') rs in
    let facts = sound_facts last.state last.room even.fit in
    let most : last.state.readings ≤ ticks = omega (arith, facts.true_readings, sound_readings last.state last.room facts) in
    let growth = grows (begun st l') rs in
    let true-accepted : last.tally.accepted ≡ accepted_among (begun st l') rs = omega (arith, most, even.each, growth.accepted_grown (omega arith)) in
    record {
      accepted_true = true-accepted;
      refused_true = omega (arith, growth.refused_grown (omega arith));
      merges_true = omega (arith, most, even.each, true-accepted, ap (λ (z : State). z.used) empty, growth.buckets, growth.merges_grown (omega arith));
    }

pub always_tallied : AlwaysTallied
always_tallied = record { any = grows; fresh = from_opening }

-- ---- a session of calls

pub calls_leave : CallsLeave
calls_leave c x r l t e f =
    let v : verdict r ≡ (outcome c x).0 = ap (λ (a : Verdict Trace × List ℤ). verdict a.0) e ∙ verdict_answer (outcome c x).0 in
    λ i. record { state = onward c.state (v i); room = (e i).1; tally = (f ∙ ap (counted c.tally c.state.used) v) i }
