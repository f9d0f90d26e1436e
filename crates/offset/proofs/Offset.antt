-- Two callers whose readings differ by one number get the same answers, moved, and what they have stays alike.
use Prim.Native.Nat.{ℕ, zero, suc, ◌*◌, ◌%◌}
use mathlib.Core.Path.{◌≡◌, refl, sym, ap, subst, ◌∙◌}
use mathlib.Core.Bool.{true}
use mathlib.Core.List.Memᴰ
use mathlib.Core.List.{List, [], ◌∷◌, ◌++◌, map, Memᴰ}
use mathlib.Core.Logic.{⊎_elim}
use mathlib.Core.Option.{Option, some, none}
use native.Mathlib.Omega.{arith}
use lib.Dec.{eqb, leb}
use lib.IntN.{ℤ, pos, nat_abs, ◌+ℤ◌}
use lib.ListN.{length, drop, get_or, length-map}
use lib.Seq.{take_at}
use lib.Signed.{le_z}
use Rattle.rule.specs.declared.Bucket.{Bucket}
use Rattle.rule.specs.declared.Found.{Found}
use Rattle.rule.specs.declared.Refusal.{Refusal}
use Rattle.rule.specs.declared.Opening.{Opening}
use Rattle.rule.specs.declared.Settings.{Settings}
use Rattle.rule.specs.declared.Size.{Size}
use Rattle.rule.specs.declared.State.{State}
use Rattle.rule.specs.declared.Tally.{Tally}
use Rattle.rule.specs.Bucket.{level}
use Rattle.rule.specs.Bytes.{bits, bytes, records_of, saved, saved_record}
use Rattle.rule.specs.Calls.{Check, Verdict, admitted, checked, counted, file_verdict, found, found_of, is_held, kept as keptAs, late_verdict, loaded, lookup_outcome, next_verdict, onward, state_of, traced, worst_outcome, write_verdict, wrote}
use Rattle.rule.specs.Numbers.{record_width, ticks}
use Rattle.rule.specs.Room.{laid, roomy, signed, slots, sound, table_of}
use Rattle.rule.specs.Table.{Table, holding, insert, needed, next_tick, runs, single}
use Rattle.rule.proofs.Signed.{signed_fits}
use Rattle.rule.specs.Rules.{ruled}
use Rattle.rule.proofs.Errors.{error_is_half}
use Rattle.rule.proofs.Fitting.{Fitted}
use Rattle.rule.proofs.Whole.{whole, by_test, middle_down, middle_up, one_side, sum}
use Rattle.storage.proofs.RoundTrip.{length_saved, records_saved}
use Rattle.rooms.proofs.Sounding.{sound_facts}
use Rattle.rooms.proofs.Writing.{write_either}
use Rattle.rooms.proofs.Fitting.{fitted_slots}
use Rattle.rooms.proofs.Laying.{slots_laid}
use Rattle.storage.specs.Bytes.{AllBytes}
use Rattle.storage.proofs.RoundTrips.{load_sound}
use Rattle.rooms.specs.Left.{LeavesSound, LeftBy}
use Rattle.rooms.proofs.Granting.{past_admission}
use Rattle.rooms.proofs.Leaving.{Leaves, late_leaves, next_leaves, open_leaves, refused_leaves}
use Rattle.series.specs.Counts.{or_counted, tallied}
use Rattle.series.specs.Series as series
use Rattle.series.specs.Series.{Fed, fed_from, late_call, late_many, next_call, next_many, or_end, timed}
use Rattle.over.specs.Search.{search_outcome}
use Rattle.logger.specs.declared.Frame.{Frame}
use Rattle.logger.specs.Replay as logger
use Rattle.logger.specs.Replay.{Course, Landed, fed_at, frames_of, gone_on, landing, late_opening, replay_outcome, replay_verdict, replayed}
use Rattle.offset.specs.Caller as caller
use Rattle.offset.specs.Caller.{Answer, Call, Caller, after, answer, answers, begun, fed, fed_many, file_at, idle, kept, left, part, played, reach, recount}
use Rattle.offset.specs.Offset.{AllFit, AllHigher, Alike, FileMoved, FilesMoved, Higher, Offset, RecordingMoved, each, higher, landed_in, lates_many_too, lates_too, loads_too, lookups_too, moved_all, moved_answer, moved_found, moved_frame, moved_landed, moved_readings, nexts_many_too, nexts_too, none as no_more, opens_too, readings_in, readings_of, replays_too, rows_too, saves_too, searches_too, worsts_too}
use Rattle.offset.proofs.Moved.{accept_moved, error_moved, first_fault_moved, first_over_moved, holding_moved, insert_moved, last_end_moved, length_moved, level_moved, moved_held, readings_moved, runs_moved, tick_moved, worst_moved}
use Rattle.offset.proofs.Raised.{raised_bytes, recording_raised, word_bytes}
use Rattle.std.specs.Prelude.{Ok, Err}

-- what is saved is bytes
saved_bytes : (t : Table) → AllBytes (saved t)
unfolding saved saved_record bytes
saved_bytes [] i = omega arith
saved_bytes (b ∷ t) i =
    let largest = bytes (bits b.largest) ++ saved t in
    let least = bytes (bits b.least) ++ largest in
    let count = bytes b.count ++ least in
    word_bytes b.start count (word_bytes b.count least (word_bytes (bits b.least) largest (word_bytes (bits b.largest) (saved t) (saved_bytes t)))) i

-- an accepted load of bytes leaves a sound trace
load_left : (g : Opening) (f : List ℕ) (l : List ℤ) → AllBytes f → (v : Verdict State) → (loaded g f l).0 ≡ v → LeftBy v (loaded g f l).1
unfolding LeftBy
load_left g f l known (Err r) e = tt
load_left g f l known (Ok t) e = load_sound g f l t known e

load_leaves : (g : Opening) (f : List ℕ) (l : List ℤ) → AllBytes f → LeavesSound (loaded g f l)
load_leaves g f l known = load_left g f l known (loaded g f l).0 refl

-- so does the opening of a replay
replay_leaves : (size : Size) (gaps edition : ℕ) (r : List ℕ) (l : List ℤ) → let k = keptAs (late_opening size gaps edition) in LeavesSound (traced k l (replay_verdict size gaps edition r l))
unfolding replay_verdict checked
replay_leaves size gaps edition r l =
    let g : Opening = late_opening size gaps edition in
    let no = refused_leaves (keptAs g) l in
    by_test (eqb (length r % 6) 0) (λ h. rw h (open_leaves g l)) (λ h. rw h (past_admission g l (Err Refusal.Length) (Leaves (keptAs g) l) no (λ _. no Refusal.Length)))

-- what is written of a table is all that a file has
written_are : (t : Table) (out : List ℕ) → part 16 (Ok (length t)) (saved t ++ drop (length (saved t)) out) ≡ saved t
unfolding part
written_are t out = take_at (saved t) (drop (length (saved t)) out) (16 * length t) (length_saved t)

module _ (d : ℤ) where
  one_more : {f g : List ℕ} (fs gs : List (List ℕ)) → FileMoved d f g → FilesMoved d fs gs → FilesMoved d (f ∷ fs) (g ∷ gs)
  one_more fs gs p q zero = p
  one_more fs gs p q (suc i) = q i

  -- ---- verdicts

  unfoldable moved_verdict : Verdict Table → Verdict Table
  moved_verdict (Err r) = Err r
  moved_verdict (Ok t) = Ok (moved_all d t)

  -- the same tests refuse alike
  checked_moved : (cs : List Check) (v w : Verdict Table) → w ≡ moved_verdict v → checked cs w ≡ moved_verdict (checked cs v)
  unfolding checked moved_verdict
  checked_moved [] v w e = e
  checked_moved (c ∷ cs) v w e = by_test c.0 (λ h. rw h) (λ h. rw h (checked_moved cs v w e))

  -- where the first test holds, the others are not asked
  first_refuses : (r : Refusal) (cs ds : List Check) (v w : Verdict Table) → checked ((true, r) ∷ cs) w ≡ moved_verdict (checked ((true, r) ∷ ds) v)
  unfolding checked moved_verdict
  first_refuses r cs ds v w = refl

  held_moved : (o : Option Bucket) → is_held (moved_held d o) ≡ is_held o
  unfolding is_held moved_held
  held_moved none = refl
  held_moved (some b) = refl

  -- one state, and two rooms, both of them sound or neither: the second holds the buckets of the first, moved
  record Twin (s : State) (l m : List ℤ) : Type 0 where
    fit : sound s m ≡ sound s l
    buckets : sound s l ≡ true → table_of s m ≡ moved_all d (table_of s l)

  module _ (s : State) (l m : List ℤ) (a : Twin s l m) where
    next_moved : (v : ℤ) → next_verdict s m (v +ℤ d) ≡ moved_verdict (next_verdict s l v)
    unfolding next_verdict moved_verdict
    next_moved v =
        let t = table_of s l in
        by_test (sound s l)
        (λ h. rw (a.fit, h, a.buckets h, last_end_moved d 0 t) (checked_moved _ _ _ (ap Ok (accept_moved d s.settings t (next_tick t) v))))
        (λ h. rw (a.fit, h) (first_refuses Refusal.Unsound _ _ _ _))

    late_moved : (tick : ℕ) (v : ℤ) → late_verdict s m tick (v +ℤ d) ≡ moved_verdict (late_verdict s l tick v)
    unfolding late_verdict moved_verdict
    late_moved tick v =
        let t = table_of s l in
        let same : runs (insert (single tick (v +ℤ d)) (moved_all d t)) ≡ runs (insert (single tick v) t) = ap runs (insert_moved d (single tick v) t) ∙ runs_moved d (insert (single tick v) t) in
        by_test (sound s l)
        (λ h. rw (a.fit, h, a.buckets h, holding_moved d tick t, held_moved (holding tick t), same) (checked_moved _ _ _ (ap Ok (accept_moved d s.settings t tick v))))
        (λ h. rw (a.fit, h) (first_refuses Refusal.Unsound _ _ _ _))

    write_moved : (taken places : ℕ) → write_verdict s m taken places ≡ moved_verdict (write_verdict s l taken places)
    unfolding write_verdict moved_verdict
    write_moved taken places = by_test (sound s l) (λ h. rw (a.fit, h, a.buckets h) (checked_moved _ _ _ refl)) (λ h. rw (a.fit, h) (first_refuses Refusal.Unsound _ _ _ _))

    found_moved : (o : Option Bucket) → found (moved_held d o) ≡ moved_found d (found o)
    unfolding found moved_held moved_found
    found_moved none = refl
    found_moved (some b) = λ i. Ok (record { level = level_moved d b i; error = error_moved d b i; least = b.least +ℤ d; largest = b.largest +ℤ d })

    lookup_moved : (tick : ℕ) → lookup_outcome s m tick ≡ moved_found d (lookup_outcome s l tick)
    unfolding lookup_outcome found_of checked moved_found
    lookup_moved tick =
        by_test (sound s l)
        (λ h.
        rw (a.fit, h, a.buckets h, holding_moved d tick (table_of s l))
        (by_test (leb ticks tick) (λ k. rw k refl) (λ k. rw k (found_moved (holding tick (table_of s l))))))
        (λ h. rw (a.fit, h) refl)

    search_same : (first last : ℕ) (bar : ℤ) → search_outcome s m first last (bar +ℤ d) ≡ search_outcome s l first last bar
    unfolding search_outcome checked
    search_same first last bar =
        by_test (sound s l) (λ h. rw (a.fit, h, a.buckets h, first_over_moved d first last bar 0 (table_of s l)) refl) (λ h. rw (a.fit, h) refl)

    worst_same : worst_outcome s m ≡ worst_outcome s l
    unfolding worst_outcome checked
    worst_same = by_test (sound s l) (λ h. rw (a.fit, h, a.buckets h, worst_moved d (table_of s l)) refl) (λ h. rw (a.fit, h) refl)

    -- what is saved of a sound trace is a file, and the second's is moved
    file_moved : sound s l ≡ true → FileMoved d (saved (table_of s l)) (saved (moved_all d (table_of s l)))
    file_moved h =
        let t = table_of s l in
        let fitted = fitted_slots l 0 s.used (sound_facts s l h).ranges in
        let fitted-too = subst Fitted (a.buckets h) (fitted_slots m 0 s.used (sound_facts s m (a.fit ∙ h)).ranges) in
        record {
          bytes = saved_bytes t;
          bytes_too = saved_bytes (moved_all d t);
          long = omega (arith, length_saved t, length_saved (moved_all d t), length_moved d t);
          records = records_saved (moved_all d t) fitted-too ∙ ap (moved_all d) (sym (records_saved t fitted));
        }

  -- ---- what open and load ask

  admitted_moved : (g : Opening) (l m : List ℤ) → length m ≡ length l → (v w : Verdict Table) → w ≡ moved_verdict v → admitted g m w ≡ moved_verdict (admitted g l v)
  unfolding admitted roomy
  admitted_moved g l m long v w e = rw long (checked_moved _ v w e)

  file_verdict_moved : (g : Settings) (f too : List ℕ) → FileMoved d f too → file_verdict g too ≡ moved_verdict (file_verdict g f)
  unfolding file_verdict ruled moved_verdict
  file_verdict_moved g f too a =
      rw (a.long, a.records, first_fault_moved d g.kind 0 0 (records_of f), runs_moved d (records_of f), length_moved d (records_of f))
      (checked_moved _ (Ok (records_of f)) _ refl)

  -- ---- what the two have

  state_moved : (g : Settings) (t : Table) → state_of g (moved_all d t) ≡ state_of g t
  state_moved g t = λ i. record { settings = g; used = length_moved d t i; runs = runs_moved d t i; readings = readings_moved d t i }

  tables_moved : (g : Settings) (t : Table) (l m : List ℤ) → table_of (state_of g t) (laid (needed g) (moved_all d t) m) ≡ moved_all d (table_of (state_of g t) (laid (needed g) t l))
  tables_moved g t l m =
      ap (λ (n : ℕ). slots (laid (needed g) (moved_all d t) m) 0 n) (sym (length_moved d t)) ∙ slots_laid (needed g) (moved_all d t) m ∙ ap (moved_all d) (sym (slots_laid (needed g) t l))

  -- a table and the same moved, laid in two rooms
  laid_twin : (g : Settings) (t : Table) (l m : List ℤ) → sound (state_of g t) (laid (needed g) t l) ≡ true → sound (state_of g (moved_all d t)) (laid (needed g) (moved_all d t) m) ≡ true
      → Twin (state_of g t) (laid (needed g) t l) (laid (needed g) (moved_all d t) m)
  laid_twin g t l m p q =
      record {
        fit = subst (λ (x : State). sound x (laid (needed g) (moved_all d t) m) ≡ true) (state_moved g t) q ∙ sym p;
        buckets = λ _. tables_moved g t l m;
      }

  -- ---- one reading, and many

  -- a reading that fits 32 bits, and fits them with d
  abbrev Fits : ℤ → Type 0
  Fits v = (signed v ≡ true) × (signed (v +ℤ d) ≡ true)

  -- a reading with its tick, the reading d more
  abbrev moved_timed : ℕ × ℤ → ℕ × ℤ
  moved_timed r = (r.0, r.1 +ℤ d)

  -- the second gets the first one's verdict, and what both go on with is alike
  record Steps (s : State) (o q : Verdict State × List ℤ) : Type 0 where
    same : q.0 ≡ o.0
    twin : Twin (onward s o.0) o.1 q.1

  module _ (s : State) (l m : List ℤ) (a : Twin s l m) where
    traced_steps : (v : Verdict Table) → let g = s.settings in LeavesSound (traced g l v) → LeavesSound (traced g m (moved_verdict v)) → Steps s (traced g l v) (traced g m (moved_verdict v))
    unfolding traced moved_verdict onward LeftBy
    traced_steps (Err r) p q = record { same = refl; twin = a }
    traced_steps (Ok t) p q = let g = s.settings in record { same = ap Ok (state_moved g t); twin = laid_twin g t l m p q }

    verdict_steps : (v w : Verdict Table) → w ≡ moved_verdict v → let g = s.settings in LeavesSound (traced g l v) → LeavesSound (traced g m w) → Steps s (traced g l v) (traced g m w)
    verdict_steps v w e p = let g = s.settings in subst (λ (x : Verdict Table). LeavesSound (traced g m x) → Steps s (traced g l v) (traced g m x)) (sym e) (traced_steps v p)

    next_steps : (v : ℤ) → Fits v → Steps s (next_call s l v) (next_call s m (v +ℤ d))
    next_steps v fits = verdict_steps _ _ (next_moved s l m a v) (next_leaves s l v (signed_fits v fits.0)) (next_leaves s m (v +ℤ d) (signed_fits (v +ℤ d) fits.1))

    late_steps : (r : ℕ × ℤ) → Fits r.1 → Steps s (late_call s l r) (late_call s m (moved_timed r))
    late_steps r fits =
        let tick = r.0 in
        let v = r.1 in
        verdict_steps _ _ (late_moved s l m a tick v) (late_leaves s l tick v (signed_fits v fits.0)) (late_leaves s m tick (v +ℤ d) (signed_fits (v +ℤ d) fits.1))

  -- what has come of many, and the tally then
  record Ends (f g : Fed) (t u : Tally) : Type 0 where
    state : g.state ≡ f.state
    accepted : g.accepted ≡ f.accepted
    refusal : g.refusal ≡ f.refusal
    twin : Twin f.state f.room g.room
    tally : u ≡ t

  -- one verdict for both: it ends them alike, or they go on alike
  one_ends : (n : ℕ) (t : Tally) (s : State) (v : Verdict State) (l m : List ℤ) → Twin (onward s v) l m → (on too : State → List ℤ → Fed) (counts counts-too : State → List ℤ → Tally)
      → ((x : State) (l m : List ℤ) → Twin x l m → Ends (on x l) (too x m) (counts x l) (counts-too x m)) → Ends (or_end n s v l on) (or_end n s v m too) (or_counted t v l counts) (or_counted t v m counts-too)
  unfolding or_end or_counted onward
  one_ends n t s (Err r) l m a on too counts counts-too h = record { state = refl; accepted = refl; refusal = refl; twin = a; tally = refl }
  one_ends n t s (Ok x) l m a on too counts counts-too h = h x l m a

  -- of next and late, by what one reading of them does
  module _ {A : Type 0} (call : series.Call A) (up : A → A) (Good : A → Type 0) (steps : (s : State) (l m : List ℤ) → Twin s l m → (v : A) → Good v → Steps s (call s l v) (call s m (up v))) where
    all_ends : (vs : List A) → ((v : A) → Memᴰ v vs → Good v) → (n : ℕ) (t : Tally) (s : State) (l m : List ℤ) → Twin s l m
        → Ends (fed_from call n s l vs) (fed_from call n s m (map up vs)) (tallied call t s l vs) (tallied call t s m (map up vs))
    unfolding fed_from tallied
    all_ends [] h n t s l m a = record { state = refl; accepted = refl; refusal = refl; twin = a; tally = refl }
    all_ends (v ∷ vs) h n t s l m a =
        let b = steps s l m a v (h v (Memᴰ.head refl)) in
        let o = call s l v in
        let q = call s m (up v) in
        let u = counted t s.used o.0 in
        subst (λ (x : Verdict State). let w = counted t s.used x in Ends (fed_from call n s l (v ∷ vs)) (or_end n s x q.1 (λ y k. fed_from call (suc n) y k (map up vs))) (tallied call t s l (v ∷ vs)) (or_counted w x q.1 (λ y k. tallied call w y k (map up vs))))
        (sym b.same) (one_ends n u s o.0 o.1 q.1 b.twin _ _ _ _ (λ y k e. all_ends vs (λ w i. h w (Memᴰ.tail i)) (suc n) u y k e))

  timed_moved : (ts : List ℕ) (vs : List ℤ) → timed ts (moved_readings d vs) ≡ map moved_timed (timed ts vs)
  unfolding timed
  timed_moved [] vs = refl
  timed_moved (t ∷ ts) [] = refl
  timed_moved (t ∷ ts) (v ∷ vs) = ap (λ (rs : List (ℕ × ℤ)). (t, v +ℤ d) ∷ rs) (timed_moved ts vs)

  timed_fit : (ts : List ℕ) (vs : List ℤ) → AllFit d vs → (r : ℕ × ℤ) → Memᴰ r (timed ts vs) → Fits r.1
  unfolding timed
  timed_fit [] vs h r i = absurd (Memᴰ.not-nil i)
  timed_fit (t ∷ ts) [] h r i = absurd (Memᴰ.not-nil i)
  timed_fit (t ∷ ts) (v ∷ vs) h r i = ⊎_elim (λ q. rw q (h v (Memᴰ.head refl))) (timed_fit ts vs (λ w k. h w (Memᴰ.tail k)) r) (Memᴰ.cases_cons i)

  module _ (s : State) (l m : List ℤ) (a : Twin s l m) (t : Tally) where
    next_ends : (vs : List ℤ) → AllFit d vs → let ws = moved_readings d vs in Ends (next_many s l vs) (next_many s m ws) (tallied next_call t s l vs) (tallied next_call t s m ws)
    next_ends vs h = all_ends next_call (λ v. v +ℤ d) Fits next_steps vs h 0 t s l m a

    late_ends : (ts : List ℕ) (vs : List ℤ) → AllFit d vs → let rs = timed ts vs in let qs = timed ts (moved_readings d vs) in Ends (late_many s l rs) (late_many s m qs) (tallied late_call t s l rs) (tallied late_call t s m qs)
    late_ends ts vs h =
        rw (timed_moved ts vs) (all_ends late_call moved_timed (λ r. Fits r.1) late_steps (timed ts vs) (timed_fit ts vs h) 0 t s l m a)

  many_same : {f g : Fed} {t u : Tally} → Ends f g t u → reach g ≡ reach f
  many_same b = λ i. caller.reached (b.state i) (b.accepted i) (b.refusal i)

  -- ---- the course of a replay

  -- the second course, which has the first one's state and counts: the same records are accepted, at the same ticks
  abbrev beside : Course → List ℤ → Course
  beside c m = record { state = c.state; room = m; landed = map (moved_landed d) c.landed; refused = c.refused }

  record Runs (c e : Course) : Type 0 where
    same : e ≡ beside c e.room
    twin : Twin c.state c.room e.room

  module _ (c : Course) (m : List ℤ) where
    after_runs : (w : Landed) (v : Verdict State) (l n : List ℤ) → Twin (onward c.state v) l n → Runs (logger.after c w v l) (logger.after (beside c m) (moved_landed d w) v n)
    unfolding onward logger.after
    after_runs w (Err r) l n a = record { same = refl; twin = a }
    after_runs w (Ok t) l n a = record { same = refl; twin = a }

    -- one record: a late reading at its tick
    fed_runs : Twin c.state c.room m → (f : Frame) → Fits f.value → Runs (fed_at c (landing c f)) (fed_at (beside c m) (landing (beside c m) (moved_frame d f)))
    fed_runs a f fits =
        let w : Landed = landing c f in
        let r : ℕ × ℤ = (nat_abs w.tick, f.value) in
        let b = late_steps c.state c.room m a r fits in
        rw (tick_moved d c.landed f.counter)
        (subst (λ (x : Verdict State). Runs (fed_at c w) (logger.after (beside c m) (moved_landed d w) x (late_call c.state m (moved_timed r)).1)) (sym b.same) (after_runs w _ _ _ b.twin))

  all_runs : (fs : List Frame) (c : Course) (m : List ℤ) → Twin c.state c.room m → AllFit d (map (λ (f : Frame). f.value) fs) → Runs (replayed c fs) (replayed (beside c m) (map (moved_frame d) fs))
  unfolding replayed
  all_runs [] c m a h = record { same = refl; twin = a }
  all_runs (f ∷ fs) c m a h =
      let b = fed_runs c m a f (h f.value (Memᴰ.head refl)) in
      let k : Course = fed_at c (landing c f) in
      let e : Course = fed_at (beside c m) (landing (beside c m) (moved_frame d f)) in
      subst (λ (x : Course). Runs (replayed k fs) (replayed x (map (moved_frame d) fs))) (sym b.same) (all_runs fs k e.room b.twin (λ v i. h v (Memᴰ.tail i)))

  replay_verdict_moved : (size : Size) (gaps edition : ℕ) (r q : List ℕ) (l m : List ℤ) → length q ≡ length r → length m ≡ length l → replay_verdict size gaps edition q m ≡ moved_verdict (replay_verdict size gaps edition r l)
  unfolding replay_verdict moved_verdict
  replay_verdict_moved size gaps edition r q l m long as_long =
      rw long (admitted_moved (late_opening size gaps edition) l m as_long _ _ (checked_moved _ (Ok []) (Ok []) refl))

  -- both are refused alike, or both go on
  data Plays : Verdict Course × List ℤ → Verdict Course × List ℤ → Type 0 where
    neither : (r : Refusal) (l m : List ℤ) → Plays (Err r, l) (Err r, m)
    both : (k e : Course) → Runs k e → Plays (Ok k, k.room) (Ok e, e.room)

  gone_plays : (fs : List Frame) → AllFit d (map (λ (f : Frame). f.value) fs) → (g : Settings) (l m : List ℤ) (v : Verdict Table) → LeavesSound (traced g l v) → LeavesSound (traced g m (moved_verdict v))
      → let o = traced g l v in let q = traced g m (moved_verdict v) in Plays (gone_on fs o.0 o.1) (gone_on (map (moved_frame d) fs) q.0 q.1)
  unfolding traced moved_verdict LeftBy gone_on
  gone_plays fs h g l m (Err r) p q = neither r l m
  gone_plays fs h g l m (Ok t) p q =
      let c : Course = logger.begun (state_of g t) (laid (needed g) t l) in
      let n = laid (needed g) (moved_all d t) m in
      both (replayed c fs) _ (subst (λ (s : State). Runs (replayed c fs) (replayed (logger.begun s n) (map (moved_frame d) fs))) (sym (state_moved g t)) (all_runs fs c n (laid_twin g t l m p q) h))

  replay_plays : (size : Size) (gaps edition : ℕ) (r q : List ℕ) (l m : List ℤ) → RecordingMoved d r q → length m ≡ length l → Plays (replay_outcome size gaps edition r l) (replay_outcome size gaps edition q m)
  replay_plays size gaps edition r q l m moves long =
      let k = keptAs (late_opening size gaps edition) in
      let fs : List Frame = frames_of r in
      let o = traced k l (replay_verdict size gaps edition r l) in
      rw moves.records
      (subst (λ (x : Verdict Table). LeavesSound (traced k m x) → let p = traced k m x in Plays (gone_on fs o.0 o.1) (gone_on (map (moved_frame d) fs) p.0 p.1))
      (sym (replay_verdict_moved size gaps edition r q l m moves.long long)) (gone_plays fs moves.fit k l m _ (replay_leaves size gaps edition r l)) (replay_leaves size gaps edition q m))

  plays_same : {o q : Verdict Course × List ℤ} → Plays o q → landed_in q.0 ≡ map (moved_landed d) (landed_in o.0)
  unfolding landed_in
  plays_same (neither r l m) = refl
  plays_same (both k e b) = ap (λ (x : Course). x.landed) b.same

  -- the second caller, who has the first one's state and tally
  abbrev second : Caller → List ℤ → List (List ℕ) → Caller
  second c m gs = record { state = c.state; room = m; tally = c.tally; files = gs }

  record Along (c : Caller) (m : List ℤ) (gs : List (List ℕ)) : Type 0 where
    twin : Twin c.state c.room m
    files : FilesMoved d c.files gs

  record Goes (c e : Caller) : Type 0 where
    state : e.state ≡ c.state
    tally : e.tally ≡ c.tally
    along : Along c e.room e.files

  module _ (c : Caller) (m : List ℤ) (gs : List (List ℕ)) (a : Along c m gs) where
    -- a call that changes nothing
    stays : Goes c (second c m gs)
    stays = record { state = refl; tally = refl; along = a }

    fed_goes : {o q : Verdict State × List ℤ} → Steps c.state o q → (caller.traced q.0 ≡ caller.traced o.0) × Goes (fed c o) (fed (second c m gs) q)
    fed_goes b =
        (ap caller.traced b.same, record { state = ap (onward c.state) b.same; tally = ap (counted c.tally c.state.used) b.same; along = record { twin = b.twin; files = a.files } })

    many_goes : {f g : Fed} {t u : Tally} → Ends f g t u → (reach g ≡ reach f) × Goes (fed_many c f t) (fed_many (second c m gs) g u)
    many_goes b = (many_same b, record { state = b.state; tally = b.tally; along = record { twin = b.twin; files = a.files } })

    -- of an open or a load, in rooms l and n: the answers, and what each leaves its caller
    abbrev Both : Settings → List ℤ → List ℤ → Verdict Table → Verdict Table → Type 0
    Both g l n v w =
        let o = traced g l v in
        let q = traced g n w in
        (caller.traced q.0 ≡ caller.traced o.0) × Goes (begun c o.0 o.1) (begun (second c m gs) q.0 q.1)

    begun_goes : (g : Settings) (l n : List ℤ) (v : Verdict Table) → LeavesSound (traced g l v) → LeavesSound (traced g n (moved_verdict v)) → Both g l n v (moved_verdict v)
    unfolding traced moved_verdict begun LeftBy
    begun_goes g l n (Err r) p q = (refl, stays)
    begun_goes g l n (Ok t) p q =
        let same = state_moved g t in (ap (λ (x : State). caller.traced (Ok x)) same, record { state = same; tally = refl; along = record { twin = laid_twin g t l n p q; files = a.files } })

    along : (g : Settings) (l n : List ℤ) (v w : Verdict Table) → w ≡ moved_verdict v → LeavesSound (traced g l v) → LeavesSound (traced g n w) → Both g l n v w
    along g l n v w e p = subst (λ (x : Verdict Table). LeavesSound (traced g n x) → Both g l n v x) (sym e) (begun_goes g l n v p)

    -- what row and save write: the buckets, and their bytes
    drawn_moved : (out too : List Bucket) (v : Verdict Table)
        → let o = wrote (λ t. t) out v in let q = wrote (λ t. t) too (moved_verdict v) in caller.drawn q.0 (part 1 q.0 q.1) ≡ caller.drawn o.0 (moved_all d (part 1 o.0 o.1))
    unfolding wrote moved_verdict part
    drawn_moved out too (Err r) = refl
    drawn_moved out too (Ok t) =
        rw (take_at t (drop (length t) out) (1 * length t) (omega arith), take_at (moved_all d t) (drop (length (moved_all d t)) too) (1 * length (moved_all d t)) (omega arith), length_moved d t) refl

    abbrev Filed : List ℕ → List ℕ → Verdict Table → Type 0
    Filed out too v =
        let o = wrote saved out v in
        let q = wrote saved too (moved_verdict v) in
        (caller.filed q.0 ≡ caller.filed o.0) × Goes (kept c o.0 o.1) (kept (second c m gs) q.0 q.1)

    not_filed : (out too : List ℕ) (r : Refusal) → Filed out too (Err r)
    unfolding wrote moved_verdict kept
    not_filed out too r = (refl, stays)

    file_written : (out too : List ℕ) → sound c.state c.room ≡ true → let t = table_of c.state c.room in let u = moved_all d t in
        FileMoved d (part 16 (Ok (length t)) (saved t ++ drop (length (saved t)) out)) (part 16 (Ok (length u)) (saved u ++ drop (length (saved u)) too))
    file_written out too h =
        let t = table_of c.state c.room in rw (written_are t out, written_are (moved_all d t) too) (file_moved c.state c.room m a.twin h)

    filed_too : (out too : List ℕ) → sound c.state c.room ≡ true → Filed out too (Ok (table_of c.state c.room))
    unfolding wrote moved_verdict kept
    filed_too out too h =
        (ap (λ (n : ℕ). caller.filed (Ok n)) (length_moved d (table_of c.state c.room)), record { state = refl; tally = refl; along = record { twin = a.twin; files = one_more c.files gs (file_written out too h) a.files } })

    played_goes : {o q : Verdict Course × List ℤ} → Plays o q → (caller.recounted (recount q.0) ≡ caller.recounted (recount o.0)) × Goes (played c o.0 o.1) (played (second c m gs) q.0 q.1)
    unfolding recount played
    played_goes (neither r l n) = (refl, stays)
    played_goes (both k e b) = (
      ap (λ (x : Course). caller.recounted (Ok (x.state, length x.landed, x.refused))) b.same
          ∙ ap (λ (n : ℕ). caller.recounted (Ok (k.state, n, k.refused))) (length-map k.landed (moved_landed d)),
      record { state = ap (λ (x : Course). x.state) b.same; tally = refl; along = record { twin = b.twin; files = a.files } },
    )

    step : {x y : Call} → Higher d x y → (answer (second c m gs) y ≡ moved_answer d (answer c x)) × Goes (left c x) (left (second c m gs) y)
    unfolding answer left moved_answer moved_verdict
    step (opens_too g l n long) =
        let k = keptAs g in
        along k l n _ _ (admitted_moved g l n long (Ok []) (Ok []) refl) (open_leaves g l) (open_leaves g n)
    step (nexts_too v fits fits-too) = fed_goes (next_steps c.state c.room m a.twin v (fits, fits-too))
    step (lates_too tick v fits fits-too) = fed_goes (late_steps c.state c.room m a.twin (tick, v) (fits, fits-too))
    step (nexts_many_too vs fit) = many_goes (next_ends c.state c.room m a.twin c.tally vs fit)
    step (lates_many_too ts vs fit) = many_goes (late_ends c.state c.room m a.twin c.tally ts vs fit)
    step (lookups_too tick) = (ap caller.shown (lookup_moved c.state c.room m a.twin tick), stays)
    step (searches_too first last bar) = (ap caller.pointed (search_same c.state c.room m a.twin first last bar), stays)
    step worsts_too = (ap caller.measured (worst_same c.state c.room m a.twin), stays)
    step (rows_too out too long) =
        let n = c.state.used in
        (rw (long, write_moved c.state c.room m a.twin n (length out)) (drawn_moved out too (write_verdict c.state c.room n (length out))), stays)
    step (saves_too out too long) =
        let n = record_width * c.state.used in
        rw (long, write_moved c.state c.room m a.twin n (length out))
        (write_either c.state c.room n (length out) (Filed out too) (not_filed out too) (λ h _. filed_too out too h))
    step (loads_too g i l n long) =
        let k = keptAs g in
        let f = file_at c i in
        let too = get_or gs i [] in
        let moves = a.files i in
        along k l n _ _ (admitted_moved g l n long (file_verdict k f) (file_verdict k too) (file_verdict_moved k f too moves)) (load_leaves g f l moves.bytes) (load_leaves g too n moves.bytes_too)
    step (replays_too size gaps edition r q l n moves long) = played_goes (replay_plays size gaps edition r q l n moves long)

  -- ---- any calls

  all : (c : Caller) (m : List ℤ) (gs : List (List ℕ)) → Along c m gs → {xs ys : List Call} → AllHigher d xs ys
      → (answers (second c m gs) ys ≡ map (moved_answer d) (answers c xs)) × Alike d (after c xs) (after (second c m gs) ys)
  unfolding answers after
  all c m gs a no_more = (refl, record { state = refl; fit = a.twin.fit; buckets = a.twin.buckets; tally = refl; files = a.files })
  all c m gs a (each {x} {y} {xs} {ys} h hs) =
      let w = step c m gs a h in
      let e = left (second c m gs) y in
      let same : e ≡ second (left c x) e.room e.files = λ i. record { state = w.1.state i; room = e.room; tally = w.1.tally i; files = e.files } in
      let r = all (left c x) e.room e.files w.1.along hs in (
        ap (λ (z : Answer). z ∷ answers e ys) w.0 ∙ ap (λ (z : List Answer). moved_answer d (answer c x) ∷ z) (ap (λ (z : Caller). answers z ys) same ∙ r.0),
        subst (λ (z : Caller). Alike d (after (left c x) xs) (after z ys)) (sym same) r.1,
      )

  -- before the first open nothing is sound
  idle_along : (s : State) (t : Tally) (fs gs : List (List ℕ)) → FilesMoved d fs gs → Along (idle s t fs) [] gs
  idle_along s t fs gs f = record { twin = record { fit = refl; buckets = λ h. absurd (omega (arith, (sound_facts s [] h).long)) }; files = f }

module _ (d : ℤ) (c e : Caller) (a : Alike d c e) where
  same_second : e ≡ second d c e.room e.files
  same_second = λ i. record { state = a.state i; room = e.room; tally = a.tally i; files = e.files }

  alike_along : Along d c e.room e.files
  alike_along =
      record {
        twin = record {
          fit = subst (λ (s : State). sound s e.room ≡ sound c.state c.room) a.state a.fit;
          buckets = λ h. subst (λ (s : State). table_of s e.room ≡ moved_all d (table_of c.state c.room)) a.state (a.buckets h);
        };
        files = a.files;
      }

  from_alike : (xs ys : List Call) → AllHigher d xs ys → (answers e ys ≡ map (moved_answer d) (answers c xs)) × Alike d (after c xs) (after e ys)
  from_alike xs ys h =
      subst (λ (z : Caller). (answers z ys ≡ map (moved_answer d) (answers c xs)) × Alike d (after c xs) (after z ys)) (sym same_second) (all d c e.room e.files alike_along h)

-- ---- nothing is left out

all_higher : (d : ℤ) (xs : List Call) → AllFit d (readings_in xs) → AllHigher d xs (map (higher d) xs)
unfolding readings_in higher
all_higher d [] f = no_more
all_higher d (caller.opens g l ∷ xs) f = each (opens_too g l l refl) (all_higher d xs f)
all_higher d (caller.nexts v ∷ xs) f =
    let p = f v (Memᴰ.head refl) in each (nexts_too v p.0 p.1) (all_higher d xs (λ w m. f w (Memᴰ.tail m)))
all_higher d (caller.lates tick v ∷ xs) f =
    let p = f v (Memᴰ.head refl) in each (lates_too tick v p.0 p.1) (all_higher d xs (λ w m. f w (Memᴰ.tail m)))
all_higher d (caller.nexts_many vs ∷ xs) f =
    each (nexts_many_too vs (λ w i. f w (Memᴰ.append_left (readings_in xs) i))) (all_higher d xs (λ w i. f w (Memᴰ.append_right vs i)))
all_higher d (caller.lates_many ts vs ∷ xs) f =
    each (lates_many_too ts vs (λ w i. f w (Memᴰ.append_left (readings_in xs) i))) (all_higher d xs (λ w i. f w (Memᴰ.append_right vs i)))
all_higher d (caller.lookups tick ∷ xs) f = each (lookups_too tick) (all_higher d xs f)
all_higher d (caller.searches first last bar ∷ xs) f = each (searches_too first last bar) (all_higher d xs f)
all_higher d (caller.worsts ∷ xs) f = each worsts_too (all_higher d xs f)
all_higher d (caller.rows out ∷ xs) f = each (rows_too out out refl) (all_higher d xs f)
all_higher d (caller.saves out ∷ xs) f = each (saves_too out out refl) (all_higher d xs f)
all_higher d (caller.loads g i l ∷ xs) f = each (loads_too g i l l refl) (all_higher d xs f)
all_higher d (caller.replays size gaps edition r l ∷ xs) f =
    let moves = recording_raised d r (λ v m. f v (Memᴰ.append_left (readings_in xs) m)) in
    each (replays_too size gaps edition r _ l l moves refl) (all_higher d xs (λ v m. f v (Memᴰ.append_right (readings_of r) m)))

-- ---- the promise

twice_level : (b : Bucket) → (le_z (level b +ℤ level b) (b.least +ℤ b.largest) ≡ true) × (le_z (b.least +ℤ b.largest) ((level b +ℤ level b) +ℤ pos 1) ≡ true)
twice_level b =
    let a = b.least in
    let z = b.largest in
    let m = level b in
    (omega (whole, middle_up a z, middle_down a z, sum m m, one_side (a +ℤ z), one_side m), omega (whole, middle_up a z, middle_down a z, sum m m, sum (m +ℤ m) (pos 1), one_side (a +ℤ z), one_side m))

replay_answers : (c : Caller) (size : Size) (gaps edition : ℕ) (r : List ℕ) (l m : List ℤ) (k : Course) → replay_outcome size gaps edition r l ≡ (Ok k, m)
    → (answer c (caller.replays size gaps edition r l) ≡ caller.recounted (Ok (k.state, length k.landed, k.refused))) × (left c (caller.replays size gaps edition r l) ≡ record { state = k.state; room = m; tally = c.tally; files = c.files })
unfolding answer left recount played
replay_answers c size gaps edition r l m k e = (ap (λ (o : Verdict Course × List ℤ). caller.recounted (recount o.0)) e, ap (λ (o : Verdict Course × List ℤ). played c o.0 o.1) e)

replay_refused : (c : Caller) (size : Size) (gaps edition : ℕ) (r : List ℕ) (l m : List ℤ) (x : Refusal) → replay_outcome size gaps edition r l ≡ (Err x, m)
    → (answer c (caller.replays size gaps edition r l) ≡ caller.recounted (Err x)) × (left c (caller.replays size gaps edition r l) ≡ c)
unfolding answer left recount played
replay_refused c size gaps edition r l m x e = (ap (λ (o : Verdict Course × List ℤ). caller.recounted (recount o.0)) e, ap (λ (o : Verdict Course × List ℤ). played c o.0 o.1) e)

pub offset : Offset
unfolding after answer answers left readings_in
offset =
    record {
      rounded = twice_level;
      half = error_is_half;
      levels = level_moved;
      errors = error_moved;
      worsts = worst_moved;
      before = λ d s t fs gs f. (all d (idle s t fs) [] gs (idle_along d s t fs gs f) no_more).1;
      answers = λ d c e a xs ys h. (from_alike d c e a xs ys h).0;
      leaves = λ d c e a xs ys h. (from_alike d c e a xs ys h).1;
      answers_each = λ c x xs. refl;
      after_each = λ c x xs. refl;
      any = all_higher;
      searched = λ c first last bar. refl;
      search_leaves = λ c first last bar. refl;
      search_feeds = λ first last bar xs. refl;
      next_feeds = λ v xs. refl;
      late_feeds = λ tick v xs. refl;
      next_many_feeds = λ vs xs. refl;
      late_many_feeds = λ ts vs xs. refl;
      replay_feeds = λ size gaps edition r l xs. refl;
      search_any = λ d first last bar. searches_too first last bar;
      search_same = λ d c e a first last bar. ap (λ (s : State). search_outcome s e.room first last (bar +ℤ d)) a.state ∙ search_same d c.state c.room e.room (alike_along d c e a).twin first last bar;
      many_nexts = λ c vs. (refl, refl);
      many_lates = λ c ts vs. (refl, refl);
      next_many_same = λ d c e a vs h. ap (λ (s : State). reach (next_many s e.room (moved_readings d vs))) a.state ∙ many_same d (next_ends d c.state c.room e.room (alike_along d c e a).twin c.tally vs h);
      late_many_same = λ d c e a ts vs h. ap (λ (s : State). reach (late_many s e.room (timed ts (moved_readings d vs)))) a.state ∙ many_same d (late_ends d c.state c.room e.room (alike_along d c e a).twin c.tally ts vs h);
      replay_same = λ d size gaps edition r q l m moves long. plays_same d (replay_plays d size gaps edition r q l m moves long);
      replay_answers = replay_answers;
      replay_refused = replay_refused;
      raised_bytes = raised_bytes;
    }
