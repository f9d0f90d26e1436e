-- What soundness says, fact by fact, and that a trace whose buckets were inserted and settled is sound again.
use Prim.Native.Nat.{ℕ, zero, suc, ◌+◌, ◌*◌, ◌-◌, ◌≤◌, ◌<◌, min}
use mathlib.Core.Path.{◌≡◌, refl, sym, ap}
use mathlib.Core.Bool.{Bool, true}
use mathlib.Core.List.{List, [], ◌∷◌, ◌++◌}
use native.Mathlib.Omega.{arith}
use native.Mathlib.Nat.{suc-add, zero-add}
use borrow.Author.Tests.{leb-true, le-leb, eqb-true, eq-eqb}
use lib.IntN.{ℤ, pos}
use lib.ListN.{length, get_or, take, drop, length-replicate}
use lib.Seq.{drop_at, drop-drop, take_at, take-nil}
use Rattle.rule.specs.declared.Kind.{Kind}
use Rattle.rule.specs.declared.Kind.TheVariants.{InOrder, Late}
use Rattle.rule.specs.declared.Settings.{Settings}
use Rattle.rule.specs.declared.State.{State}
use Rattle.rule.specs.Bucket.{end}
use Rattle.rule.specs.Calls.{state_of}
use Rattle.rule.specs.Numbers.{most_base, slot_width, ticks, word}
use Rattle.rule.specs.Room.{all_of, all_zero, base_good, clauses, edition_good, flat, gaps_good, laid, ranged, rest_zero, roomy, runs_allowed, slots, sound, table_of, zeros}
use Rattle.rule.specs.Rules.{equal, ruled}
use Rattle.rule.specs.Table.{Table, Ordered, cheapest, limit, limit_over, merge, merge_of, needed, readings, runs, settle, Choice, nothing, pair}
use Rattle.rule.proofs.Merging.{Enough, merge_readings, settle_keeps, settle_length, settle_runs}
use Rattle.rule.proofs.Ruling.{Ruled, and_left, and_right, facts_ruled, in_order_runs, ordered_readings, ruled_end, ruled_facts, ruled_ordered, settle_ruled}
use Rattle.rooms.proofs.Bounds.{bounds, limit_gaps}
use Rattle.rooms.specs.Slots.{Filled}
use Rattle.rule.proofs.Fitting.{Fitted, fitted_merge}
use Rattle.rooms.proofs.Fitting.{filled_laid}
use Rattle.rooms.proofs.Laying.{laid_more, length_flat, length_laid, slots_laid}

pub record Facts (s : State) (l : List ℤ) : Type 0 where
  pub good_edition : edition_good s.settings.edition ≡ true
  pub good_base : base_good s.settings.base ≡ true
  pub good_gaps : gaps_good s.settings.kind s.settings.gaps ≡ true
  pub allowed : runs_allowed s.settings.kind s.settings.gaps s.runs ≡ true
  pub long : slot_width * needed s.settings ≤ length l
  pub few : s.used ≤ limit s.settings s.runs
  pub ranges : ranged l 0 s.used ≡ true
  pub rules : Ruled s.settings.kind 0 (table_of s l)
  pub true_runs : s.runs ≡ runs (table_of s l)
  pub true_readings : s.readings ≡ readings (table_of s l)
  pub rest : rest_zero s l ≡ true

-- each test of a list whose tests all hold
all_at : (l : List Bool) (i : ℕ) → all_of l ≡ true → get_or l i true ≡ true
unfolding all_of
all_at [] i e = refl
all_at (c ∷ l) zero e = and_left c (all_of l) e
all_at (c ∷ l) (suc i) e = all_at l i (and_right c (all_of l) e)

pub sound_facts : (s : State) (l : List ℤ) → sound s l ≡ true → Facts s l
unfolding sound clauses roomy ruled
sound_facts s l e =
    record {
      good_edition = all_at (clauses s l) 0 e;
      good_base = all_at (clauses s l) 1 e;
      good_gaps = all_at (clauses s l) 2 e;
      allowed = all_at (clauses s l) 3 e;
      long = leb-true (slot_width * needed s.settings) (length l) (all_at (clauses s l) 4 e);
      few = leb-true s.used (limit s.settings s.runs) (all_at (clauses s l) 5 e);
      ranges = all_at (clauses s l) 6 e;
      rules = ruled_facts s.settings.kind 0 0 (table_of s l) (all_at (clauses s l) 7 e);
      true_runs = eqb-true s.runs (runs (table_of s l)) (all_at (clauses s l) 8 e);
      true_readings = eqb-true s.readings (readings (table_of s l)) (all_at (clauses s l) 9 e);
      rest = all_at (clauses s l) 10 e;
    }

pub facts_sound : (s : State) (l : List ℤ) → Facts s l → sound s l ≡ true
unfolding sound clauses roomy ruled all_of
facts_sound s l f =
    rw (
      f.good_edition,
      f.good_base,
      f.good_gaps,
      f.allowed,
      le-leb (slot_width * needed s.settings) (length l) f.long,
      le-leb s.used (limit s.settings s.runs) f.few,
      f.ranges,
      facts_ruled s.settings.kind 0 0 (table_of s l) f.rules,
      eq-eqb s.runs (runs (table_of s l)) f.true_runs,
      eq-eqb s.readings (readings (table_of s l)) f.true_readings,
      f.rest,
    )

zero_part : (a b : ℕ) (l : List ℤ) → all_zero (take (a + b) l) ≡ true → all_zero (take b (drop a l)) ≡ true
unfolding all_zero
zero_part zero b l e = rw (zero-add b) at e
zero_part (suc a) b [] e = rw (take-nil {A = ℤ} b)
zero_part (suc a) b (z ∷ l) e =
    zero_part a b l (and_right (equal z (pos 0)) (all_zero (take (a + b) l)) (rw (suc-add a b) at e))

module _ (s : State) (l : List ℤ) (f : Facts s l) where
  pub sound_filled : Filled l s.used
  sound_filled = record { there = omega (arith, f.long, f.few, limit_gaps s.settings.kind s.settings.base s.settings.gaps s.runs f.allowed); ranges = f.ranges }

  pub sound_ordered : Ordered 0 (table_of s l)
  sound_ordered = ruled_ordered s.settings.kind 0 (table_of s l) f.rules

  pub sound_readings : readings (table_of s l) ≤ ticks
  sound_readings = omega (arith, ordered_readings 0 (table_of s l) sound_ordered, ruled_end s.settings.kind 0 (table_of s l) (omega arith) f.rules)

  pub used_needed : suc s.used ≤ needed s.settings
  used_needed = omega (arith, f.few, limit_gaps s.settings.kind s.settings.base s.settings.gaps s.runs f.allowed)

  -- with the unused slots zeros, clearing none of them is clearing all
  pub laid_used : (w : Table) → length w ≤ s.used → laid s.used w l ≡ laid (needed s.settings) w l
  unfolding rest_zero
  laid_used w h = laid_more s.used (needed s.settings) w l h (omega (arith, used_needed)) f.long f.rest

  -- and so is clearing one
  pub laid_needed : (w : Table) → length w ≤ suc s.used → laid (suc s.used) w l ≡ laid (needed s.settings) w l
  unfolding rest_zero
  laid_needed w h =
      let n = needed s.settings in
      let parts : slot_width * (n - s.used) ≡ 4 + slot_width * (n - suc s.used) = omega (arith, used_needed) in
      let there : slot_width * s.used + 4 ≡ slot_width * suc s.used = omega arith in
      let e : all_zero (take (4 + slot_width * (n - suc s.used)) (drop (slot_width * s.used) l)) ≡ true = rw parts at f.rest in
      let e' : all_zero (take (slot_width * (n - suc s.used)) (drop 4 (drop (slot_width * s.used) l))) ≡ true = zero_part 4 (slot_width * (n - suc s.used)) (drop (slot_width * s.used) l) e in
      laid_more (suc s.used) n w l h used_needed f.long (rw (drop-drop 4 (slot_width * s.used) l, there) at e')

length_zeros : (n : ℕ) → length (zeros n) ≡ n
unfolding zeros
length_zeros n = length-replicate n (pos 0)

all_zeros : (n : ℕ) → all_zero (zeros n) ≡ true
unfolding all_zero zeros equal
all_zeros zero = refl
all_zeros (suc n) = all_zeros n

pub rest_laid : (s : Settings) (w : Table) (l : List ℤ) → rest_zero (state_of s w) (laid (needed s) w l) ≡ true
unfolding rest_zero laid
rest_laid s w l =
    let k : ℕ = slot_width * (needed s - length w) in
    rw (drop_at (flat w) (zeros k ++ drop (slot_width * needed s) l) (slot_width * length w) (length_flat w), take_at (zeros k) (drop (slot_width * needed s) l) k (length_zeros k)) (all_zeros k)

-- a table that meets what a sound state asks, laid
pub laid_facts : (s : Settings) (w : Table) (l : List ℤ) → edition_good s.edition ≡ true → base_good s.base ≡ true → gaps_good s.kind s.gaps ≡ true → runs_allowed s.kind s.gaps (runs w) ≡ true
    → slot_width * needed s ≤ length l → length w ≤ limit s (runs w) → Fitted w → Ruled s.kind 0 w → Facts (state_of s w) (laid (needed s) w l)
laid_facts s w l edition base gaps allowed long few fitted rules =
    let n : ℕ = needed s in
    let within : length w ≤ n = omega (arith, limit_gaps s.kind s.base s.gaps (runs w) allowed) in
    let same : slots (laid n w l) 0 (length w) ≡ w = slots_laid n w l in
    record {
      good_edition = edition;
      good_base = base;
      good_gaps = gaps;
      allowed = allowed;
      long = omega (arith, length_laid n w l within long);
      few = few;
      ranges = (filled_laid n w l within long fitted).ranges;
      rules = rw same rules;
      true_runs = ap runs (sym same);
      true_readings = ap readings (sym same);
      rest = rest_laid s w l;
    }

-- ---- an accepted reading

fitted_merges : (q : Choice) (t : Table) → Fitted t → readings t < word → Fitted (merge_of q t)
unfolding merge_of
fitted_merges nothing t f h = f
fitted_merges (pair i s w) t f h = fitted_merge i t f h

pub settle_fitted : (s : Settings) (t : Table) → Enough s t → Fitted t → readings t < word → Fitted (settle s t)
unfolding merge
settle_fitted s t e f h =
    (settle_keeps s (λ u. Fitted u × (readings u < word))
    (λ u g p. (fitted_merges (cheapest s.edition 0 u) u p.0 p.1, omega (arith, p.1, merge_readings s.edition u g)))
    (length t) t (omega arith) e (f, h)).0

one_run : (t : Table) → Ruled InOrder 0 t → runs t ≤ 1
unfolding Ruled runs
one_run [] r = omega arith
one_run (b ∷ t) r = omega (arith, in_order_runs (end b) t r.1)

pub enough_runs : (k : Kind) (base : ℕ) (t : Table) → 1 ≤ base → Ruled k 0 t → runs t ≤ limit_over k base (runs t)
unfolding limit_over
enough_runs InOrder base t h r = omega (arith, one_run t r)
enough_runs Late base t h r = omega arith

-- u: the buckets with the new one; settled, they are a sound trace's
module _ (s : State) (l : List ℤ) (f : Facts s l) (u : Table) (longer : length u ≡ suc s.used) (fitted : Fitted u)
    (rules : Ruled s.settings.kind 0 u) (allowed : runs_allowed s.settings.kind s.settings.gaps (runs u) ≡ true) where
  pub enough : Enough s.settings u
  enough = enough_runs s.settings.kind s.settings.base u (omega (arith, bounds most_base s.settings.base f.good_base)) rules

  pub counted : readings u < word
  counted = omega (arith, ordered_readings 0 u (ruled_ordered s.settings.kind 0 u rules), ruled_end s.settings.kind 0 u (omega arith) rules)

  -- what a sound state says of the settled buckets, laid
  pub settled_facts : Facts (state_of s.settings (settle s.settings u)) (laid (needed s.settings) (settle s.settings u) l)
  settled_facts =
      let settled : length (settle s.settings u) ≡ min (length u) (limit s.settings (runs u)) = settle_length s.settings (length u) u (omega arith) enough in
      let same_runs : runs (settle s.settings u) ≡ runs u = settle_runs s.settings u enough in
      laid_facts s.settings (settle s.settings u) l f.good_edition f.good_base f.good_gaps (rw same_runs allowed) f.long (rw same_runs (omega arith))
      (settle_fitted s.settings u enough fitted counted) (settle_ruled s.settings s.settings.kind 0 u enough rules)

  pub settled_sound : sound (state_of s.settings (settle s.settings u)) (laid (needed s.settings) (settle s.settings u) l) ≡ true
  settled_sound = facts_sound (state_of s.settings (settle s.settings u)) (laid (needed s.settings) (settle s.settings u) l) settled_facts
