-- An accepted reading, over lists: what the insertion and the merges leave is the table after the reading, laid, and the trace is sound again.
use Prim.Native.Nat.{ℕ, suc, ◌+◌, ◌*◌, ◌≤◌, ◌<◌}
use mathlib.Core.Path.{◌≡◌, refl, sym, ap, ◌∙◌, subst}
use mathlib.Core.Bool.{true}
use mathlib.Core.List.{List, [], ◌∷◌}
use native.Mathlib.Omega.{arith}
use lib.IntN.{ℤ}
use lib.ListN.{length}
use mir.Syntax.{w32}
use mir.Val.{SFits}
use Rattle.rule.specs.declared.State.{State}
use Rattle.rule.specs.Calls.{state_of}
use Rattle.rule.specs.Numbers.{slot_width, word}
use Rattle.rule.specs.Room.{flat, laid, numbers, runs_allowed, slots, sound, table_of}
use Rattle.rule.specs.Rules.{ruled}
use Rattle.rule.specs.Table.{Table, accept, cheapest, limit, merge, merge_at, needed, readings, runs, settle, single}
use Rattle.rule.proofs.Merging.{merge_length, merge_readings, merge_runs, settle_length, settle_merges, settle_readings, settle_rests, settle_runs}
use Rattle.rule.proofs.Ruling.{Ruled, ruled_facts}
use Rattle.rule.proofs.Tables.{insert_length, insert_readings}
use Rattle.rule.proofs.Fitting.{Fitted, Fitting, fitted_insert, fitted_merge}
use Rattle.rooms.specs.Slots.{Filled, Joining, place_of, put_at}
use Rattle.rooms.specs.Steps.{Ready, Settling, with}
use Rattle.rooms.proofs.Bounds.{limit_gaps, needed_small}
use Rattle.rooms.proofs.Fitting.{filled_laid, fitted_slots, ranged_flat}
use Rattle.rooms.proofs.Laying.{laid_laid, length_slots, slots_laid}
use Rattle.rooms.proofs.Merges.{cheapest_place}
use Rattle.rooms.proofs.Sounding.{Facts, counted, enough, laid_needed, laid_used, settled_sound, sound_facts, sound_filled, sound_readings, used_needed}

-- w: the buckets with the new one
module _ (s : State) (l : List ℤ) (at k tick : ℕ) (v : ℤ) (w : Table) where
  -- the room of a full table after the first merge
  abbrev merged_room : List ℤ
  merged_room = laid s.used (merge_at (place_of (cheapest s.settings.edition 0 w)) w) l

  -- n buckets in the room m are those after the reading
  abbrev Taken : ℕ → List ℤ → Type 0
  Taken n m = (n ≡ length (accept s.settings (table_of s l) tick v)) × (m ≡ laid (needed s.settings) (accept s.settings (table_of s l) tick v) l)

  -- what the steps ask and leave
  pub record Steps : Type 0 where
    pub small : limit s.settings k < word
    pub filled : Filled l s.used
    pub more : slot_width * suc s.used ≤ length l
    pub rests : s.used < limit s.settings k → Taken (suc s.used) (laid (suc s.used) w l)
    pub new : Filled (numbers (single tick v)) 1
    pub joins : Joining l s.used at (single tick v)
    pub inside : limit s.settings k ≤ s.used → place_of (cheapest s.settings.edition 0 w) < s.used
    pub settles : limit s.settings k ≤ s.used → Settling s.settings k merged_room s.used
    pub settled : limit s.settings k ≤ s.used → Taken (length (settle s.settings (slots merged_room 0 s.used))) (laid s.used (settle s.settings (slots merged_room 0 s.used)) merged_room)

module _ (s : State) (l : List ℤ) (at k tick : ℕ) (v : ℤ) (r : Ready s l at k tick v) (fits : SFits w32 v) (small : tick < word) where
  facts : Facts s l
  facts = sound_facts s l r.fit

  abbrev u : Table
  u = with s l tick v

  longer : length u ≡ suc s.used
  longer = insert_length (single tick v) (table_of s l) ∙ ap suc (length_slots l 0 s.used)

  new : Fitting (single tick v)
  new = record { start = small; count = omega arith; least = fits; largest = fits }

  fitted : Fitted u
  fitted = fitted_insert (single tick v) new (table_of s l) (fitted_slots l 0 s.used facts.ranges)

  rules : Ruled s.settings.kind 0 u
  unfolding ruled
  rules = ruled_facts s.settings.kind 0 0 u r.rules

  allowed : runs_allowed s.settings.kind s.settings.gaps (runs u) ≡ true
  allowed = rw (← r.truth) r.allowed

  room_enough : runs u ≤ limit s.settings (runs u)
  room_enough = enough s l facts u longer fitted rules allowed

  limit_small : limit s.settings k < word
  limit_small = omega (arith, needed_small s.settings facts.good_base facts.good_gaps, limit_gaps s.settings.kind s.settings.base s.settings.gaps k r.allowed)

  -- ---- in a full table

  module _ (h : limit s.settings k ≤ s.used) where
    over : limit s.settings (runs u) < length u
    over = rw (longer, ← r.truth) (omega arith)

    more : runs u < length u
    more = omega (arith, over, room_enough)

    merges : merge_at (place_of (cheapest s.settings.edition 0 u)) u ≡ merge s.settings.edition u
    merges = (cheapest_place s.settings.edition u more).1

    shorter : length (merge s.settings.edition u) ≡ s.used
    shorter = omega (arith, merge_length s.settings.edition u more, longer)

    found : slots (laid s.used (merge s.settings.edition u) l) 0 s.used ≡ merge s.settings.edition u
    found = ap (slots (laid s.used (merge s.settings.edition u) l) 0) (sym shorter) ∙ slots_laid s.used (merge s.settings.edition u) l

    can_settle : Settling s.settings k (laid s.used (merge s.settings.edition u) l) s.used
    can_settle =
        let few = counted s l facts u longer fitted rules allowed in
        let fits-still : Fitted (merge s.settings.edition u) = rw merges at (fitted_merge (place_of (cheapest s.settings.edition 0 u)) u fitted few) in
        record {
          filled = subst (Filled (laid s.used (merge s.settings.edition u) l)) shorter (filled_laid s.used (merge s.settings.edition u) l (omega (arith, shorter)) (sound_filled s l facts).there fits-still);
          count = rw (found, merge_readings s.settings.edition u more) few;
          truth = rw (found, merge_runs s.settings.edition u more) r.truth;
          enough = rw r.truth room_enough;
          small = limit_small;
        }

    settles : settle s.settings (slots (laid s.used (merge s.settings.edition u) l) 0 s.used) ≡ settle s.settings u
    settles = rw found (sym (settle_merges s.settings u room_enough over))

    settled_room : laid s.used (settle s.settings u) (laid s.used (merge s.settings.edition u) l) ≡ laid (needed s.settings) (settle s.settings u) l
    settled_room =
        let w : Table = settle s.settings u in
        let short : length w ≤ s.used = omega (arith, settle_length s.settings (length u) u (omega arith) room_enough, over, longer) in
        laid_laid s.used (merge s.settings.edition u) l (omega (arith, shorter)) s.used w (omega arith) ∙ laid_used s l facts w short

  pub steps : Steps s l at k tick v (put_at at (single tick v) (table_of s l))
  unfolding accept flat Fitted
  steps =
      let rest : s.used < limit s.settings k → settle s.settings u ≡ u = λ h. settle_rests s.settings u (rw (longer, ← r.truth) h) in
      subst (Steps s l at k tick v) r.place
      (record {
        small = limit_small;
        filled = sound_filled s l facts;
        more = omega (arith, facts.long, used_needed s l facts);
        rests = λ h. rw (rest h) (sym longer, laid_needed s l facts u (omega (arith, longer)));
        new = record { there = omega arith; ranges = ranged_flat (single tick v ∷ []) [] (new, tt) };
        joins = record { filled = sound_filled s l facts; inside = r.inside; count = omega (arith, sound_readings s l facts) };
        inside = λ h. omega (arith, (cheapest_place s.settings.edition u (more h)).0, longer);
        settles = λ h. rw (merges h) (can_settle h);
        settled = λ h. rw (merges h, settles h) (refl, settled_room h);
      })

  -- ---- the state that is left, and that it is sound

  pub taken_state : state_of s.settings (accept s.settings (table_of s l) tick v) ≡ record { settings = s.settings; used = length (accept s.settings (table_of s l) tick v); runs = k; readings = s.readings + 1 }
  unfolding accept
  taken_state =
      let told : readings u ≡ 1 + readings (table_of s l) = insert_readings (single tick v) (table_of s l) in
      λ i. record {
        settings = s.settings;
        used = length (settle s.settings u);
        runs = (settle_runs s.settings u room_enough ∙ sym r.truth) i;
        readings = grown (settle_readings s.settings u room_enough) told facts.true_readings i;
      }
    where
      grown : {a b c d : ℕ} → a ≡ b → b ≡ 1 + c → d ≡ c → a ≡ d + 1
      grown p q w = omega arith

  pub taken_short : length (accept s.settings (table_of s l) tick v) ≤ suc s.used
  unfolding accept
  taken_short = omega (arith, longer, settle_length s.settings (length u) u (omega arith) room_enough)

  pub taken_sound : sound (state_of s.settings (accept s.settings (table_of s l) tick v)) (laid (needed s.settings) (accept s.settings (table_of s l) tick v) l) ≡ true
  unfolding accept
  taken_sound = settled_sound s l facts u longer fitted rules allowed
