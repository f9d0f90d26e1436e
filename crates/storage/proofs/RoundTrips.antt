-- What is saved loads as it was, what loads is saved as it was, and an accepted load leaves a sound trace.
use Prim.Native.Nat.{ℕ, ◌*◌, ◌-◌, ◌/◌, ◌≤◌}
use mathlib.Core.Path.{◌≡◌, refl, sym, ap, ◌∙◌, subst}
use mathlib.Core.Bool.{true}
use mathlib.Core.List.{List, [], ◌++◌, append_assoc}
use native.Mathlib.Omega.{arith}
use lib.IntN.{ℤ}
use lib.ListN.{length, take, drop, length-append, length-replicate}
use lib.Seq.{take_at}
use Rattle.rule.specs.declared.Opening.{Opening}
use Rattle.rule.specs.declared.Settings.{Settings}
use Rattle.rule.specs.declared.State.{State}
use Rattle.rule.specs.Bytes.{records, records_of, saved}
use Rattle.rule.specs.Calls.{Verdict, admitted, file_verdict, kept, loaded, opened, save_outcome, state_of, traced}
use Rattle.rule.specs.Numbers.{record_width, slot_width}
use Rattle.rule.specs.Room.{flat, laid, rest_zero, sound, table_of, zeros}
use Rattle.rule.specs.Table.{Table, needed, readings, runs}
use Rattle.rule.proofs.Ruling.{Ruled}
use Rattle.storage.proofs.Records.{length_file}
use Rattle.storage.proofs.RoundTrip.{file_fitted, length_saved, records_saved, saved_records}
use Rattle.rooms.proofs.Fitting.{fitted_slots}
use Rattle.rooms.proofs.Laying.{flat_slots, laid_more, laid_over, length_flat, length_slots, slots_laid}
use Rattle.rooms.proofs.Sounding.{Facts, facts_sound, laid_facts, sound_facts, sound_filled, used_needed}
use Rattle.storage.specs.Bytes.{AllBytes}
use Rattle.rooms.proofs.Leaving.{none_allowed}
use Rattle.storage.proofs.Filing.{Loads, file_loads, load_accepts, load_leaves, save_writes}
use Rattle.rooms.proofs.Granting.{Granted}
use Rattle.std.specs.Prelude.{Ok}

-- ---- saved, then loaded

-- the needed slots of what is laid: the buckets, and zeros
take_laid : (n : ℕ) (t : Table) (l : List ℤ) → length t ≤ n → take (slot_width * n) (laid n t l) ≡ flat t ++ zeros (slot_width * (n - length t))
unfolding laid zeros
take_laid n t l h =
    rw (← append_assoc (flat t) (zeros (slot_width * (n - length t))) (drop (slot_width * n) l))
    (take_at (flat t ++ zeros (slot_width * (n - length t))) (drop (slot_width * n) l) (slot_width * n) (simp (length-append, length-replicate, length_flat) (omega arith)))

module _ (s : State) (l : List ℤ) (whole : sound s l ≡ true) where
  facts : Facts s l
  facts = sound_facts s l whole

  -- a sound trace's room is its table, laid
  as_laid : laid (needed s.settings) (table_of s l) l ≡ l
  unfolding rest_zero
  as_laid =
      let f = sound_filled s l facts in
      sym (laid_more s.used (needed s.settings) (table_of s l) l (omega (arith, length_slots l 0 s.used)) (omega (arith, used_needed s l facts)) facts.long facts.rest)
      ∙ laid_over s.used (table_of s l) l (length_slots l 0 s.used)
      ∙ flat_slots s.used l f.there f.ranges

  state_same : state_of s.settings (table_of s l) ≡ s
  state_same = λ i. record { settings = s.settings; used = length_slots l 0 s.used i; runs = sym facts.true_runs i; readings = sym facts.true_readings i }

  same_records : records_of (saved (table_of s l)) ≡ table_of s l
  same_records = records_saved (table_of s l) (fitted_slots l 0 s.used facts.ranges)

  loads : Loads s.settings (saved (table_of s l))
  loads =
      record {
        even = omega (arith, length_saved (table_of s l));
        rules = rw same_records facts.rules;
        allowed = rw (same_records, ← facts.true_runs) facts.allowed;
        few = rw (same_records, ← facts.true_runs) (omega (arith, facts.few, length_slots l 0 s.used));
      }

  module _ (o : Opening) (names : kept o ≡ s.settings) (m : List ℤ) (long : slot_width * needed s.settings ≤ length m) where
    again : loaded o (saved (table_of s l)) m ≡ (Ok s, laid (needed s.settings) (table_of s l) m)
    again =
        let file : List ℕ = saved (table_of s l) in
        let g : Granted s.settings m = record { edition = facts.good_edition; base = facts.good_base; gaps = facts.good_gaps; long = long } in
        load_leaves o file m (subst (λ (k : Settings). Granted k m) (sym names) g) (subst (λ (k : Settings). Loads k file) (sym names) loads)
        ∙ ap (λ (k : Settings). (Ok (state_of k (records_of file)), laid (needed k) (records_of file) m)) names
        ∙ ap (λ (t : Table). (Ok (state_of s.settings t), laid (needed s.settings) t m)) same_records
        ∙ ap (λ (r : State). (Ok r, laid (needed s.settings) (table_of s l) m)) state_same

    slots_again : take (slot_width * needed s.settings) (loaded o (saved (table_of s l)) m).1 ≡ take (slot_width * needed s.settings) l
    slots_again =
        let n : ℕ = needed s.settings in
        let short : length (table_of s l) ≤ n = omega (arith, length_slots l 0 s.used, used_needed s l facts) in
        ap (λ (p : Verdict State × List ℤ). take (slot_width * n) p.1) again
        ∙ take_laid n (table_of s l) m short ∙ sym (take_laid n (table_of s l) l short) ∙ ap (take (slot_width * n)) as_laid

  -- where the load is accepted, the room was long enough
  again_accepted : (o : Opening) → kept o ≡ s.settings → (m : List ℤ) (t : State) → (loaded o (saved (table_of s l)) m).0 ≡ Ok t → slot_width * needed s.settings ≤ length m
  again_accepted o names m t e = subst (λ (k : Settings). slot_width * needed k ≤ length m) names (load_accepts o (saved (table_of s l)) m t e).0.long

  laid_again : (m : List ℤ) → slot_width * needed s.settings ≤ length m → sound s (laid (needed s.settings) (table_of s l) m) ≡ true
  laid_again m long =
      ap (λ (r : State). sound r (laid (needed s.settings) (table_of s l) m)) (sym state_same)
      ∙ facts_sound _ _
      (laid_facts s.settings (table_of s l) m facts.good_edition facts.good_base facts.good_gaps (rw (← facts.true_runs) facts.allowed) long (rw (← facts.true_runs) (omega (arith, facts.few, length_slots l 0 s.used))) (fitted_slots l 0 s.used facts.ranges) facts.rules)

-- ---- loaded, then saved

module _ (o : Opening) (file : List ℕ) (l : List ℤ) (t : State) (known : AllBytes file) (accepts : (loaded o file l).0 ≡ Ok t) where
  granted : Granted (kept o) l
  granted = (load_accepts o file l t accepts).0

  that_loads : Loads (kept o) file
  that_loads = (load_accepts o file l t accepts).1

  leaves : loaded o file l ≡ (Ok (state_of (kept o) (records_of file)), laid (needed (kept o)) (records_of file) l)
  leaves = load_leaves o file l granted that_loads

  state_is : t ≡ state_of (kept o) (records_of file)
  state_is = let e : Ok t ≡ Ok (state_of (kept o) (records_of file)) = sym accepts ∙ ap (λ (p : Verdict State × List ℤ). p.0) leaves in cc

  room_is : (loaded o file l).1 ≡ laid (needed (kept o)) (records_of file) l
  room_is = ap (λ (p : Verdict State × List ℤ). p.1) leaves

  laid_sound : sound (state_of (kept o) (records_of file)) (laid (needed (kept o)) (records_of file) l) ≡ true
  laid_sound =
      facts_sound _ _
      (laid_facts (kept o) (records_of file) l granted.edition granted.base granted.gaps that_loads.allowed granted.long that_loads.few (file_fitted file known) that_loads.rules)

  sound_again : sound t (loaded o file l).1 ≡ true
  sound_again = ap (λ (r : State). sound r (loaded o file l).1) state_is ∙ ap (sound (state_of (kept o) (records_of file))) room_is ∙ laid_sound

  bytes_again : (out : List ℕ) → length file ≤ length out → save_outcome t (loaded o file l).1 out ≡ (Ok (length file / record_width), file ++ drop (length file) out)
  bytes_again out h =
      let all : record_width * (length file / record_width) ≡ length file = omega (arith, that_loads.even) in
      ap (λ (r : State). save_outcome r (loaded o file l).1 out) state_is
      ∙ ap (λ (m : List ℤ). save_outcome (state_of (kept o) (records_of file)) m out) room_is
      ∙ save_writes (state_of (kept o) (records_of file)) (laid (needed (kept o)) (records_of file) l) out laid_sound (omega (arith, length_file file))
      ∙ rw (slots_laid (needed (kept o)) (records_of file) l, saved_records file that_loads.even known, length_file file, all)

-- ---- the statements

-- what a sound trace saves loads, by whatever names its settings and into any room that is long enough, as the same state and the same table
pub saved_loaded : (o : Opening) (s : State) (l m : List ℤ) → kept o ≡ s.settings → sound s l ≡ true → slot_width * needed s.settings ≤ length m
    → loaded o (saved (table_of s l)) m ≡ (Ok s, laid (needed s.settings) (table_of s l) m)
saved_loaded o s l m names whole long = again s l whole o names m long

-- and every needed slot is then as it was
pub saved_loaded_slots : (o : Opening) (s : State) (l m : List ℤ) → kept o ≡ s.settings → sound s l ≡ true → slot_width * needed s.settings ≤ length m
    → take (slot_width * needed s.settings) (loaded o (saved (table_of s l)) m).1 ≡ take (slot_width * needed s.settings) l
saved_loaded_slots o s l m names whole long = slots_again s l whole o names m long

-- where that load is accepted, whatever the room held, the trace is the same and sound
pub saved_accepted : (o : Opening) (s : State) (l m : List ℤ) (t : State) (n : List ℤ) → kept o ≡ s.settings → sound s l ≡ true → loaded o (saved (table_of s l)) m ≡ (Ok t, n)
    → (t ≡ s) × (n ≡ laid (needed s.settings) (table_of s l) m) × (sound s n ≡ true)
saved_accepted o s l m t n names whole e =
    let long = again_accepted s l whole o names m t (ap (λ (p : Verdict State × List ℤ). p.0) e) in
    let f : ◌≡◌ {A = Verdict State × List ℤ} (Ok t, n) (Ok s, laid (needed s.settings) (table_of s l) m) = sym e ∙ again s l whole o names m long in
    let g : ◌≡◌ {A = Verdict State} (Ok t) (Ok s) = ap (λ (p : Verdict State × List ℤ). p.0) f in
    let room : n ≡ laid (needed s.settings) (table_of s l) m = ap (λ (p : Verdict State × List ℤ). p.1) f in
    ((let q : t ≡ s = cc in q), room, ap (sound s) room ∙ laid_again s l whole m long)

-- an accepted load leaves a sound trace
pub load_sound : (o : Opening) (file : List ℕ) (l : List ℤ) (t : State) → AllBytes file → (loaded o file l).0 ≡ Ok t
    → sound t (loaded o file l).1 ≡ true
load_sound o file l t known accepts = sound_again o file l t known accepts

-- and saving that trace writes the bytes of the file, and no others
pub loaded_saved : (o : Opening) (file : List ℕ) (l : List ℤ) (t : State) (out : List ℕ) → AllBytes file → (loaded o file l).0 ≡ Ok t → length file ≤ length out
    → save_outcome t (loaded o file l).1 out ≡ (Ok (length file / record_width), file ++ drop (length file) out)
loaded_saved o file l t out known accepts long = bytes_again o file l t known accepts out long

-- the empty file is the empty trace
pub empty_loaded : (o : Opening) (l : List ℤ) → loaded o [] l ≡ opened o l
unfolding file_verdict records_of records Ruled runs
empty_loaded o l =
    let none : Loads (kept o) [] = record { even = refl; rules = tt; allowed = none_allowed o.kind (kept o).gaps; few = omega arith } in
    ap (λ (v : Verdict Table). traced (kept o) l (admitted o l v)) (file_loads (kept o) [] none)
