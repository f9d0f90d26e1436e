-- Demands 2 and 3 hold of everything that can be reached.
use Prim.Native.Nat.{ℕ, ◌+◌, ◌*◌, ◌≤◌, ◌<◌}
use mathlib.Core.Path.{◌≡◌, refl, sym, ap, ◌∙◌, subst}
use mathlib.Core.Bool.{Bool, true, false, cond, true≢false, false≢true}
use mathlib.Core.List.Memᴰ
use mathlib.Core.List.{List, [], ◌∷◌, Memᴰ}
use mathlib.Core.Logic.{◌⊎◌, ⊎_elim}
use mathlib.Core.Option.{Option, some}
use native.Mathlib.Omega.{arith}
use borrow.Author.Tests.{eqb-true, lt-leb}
use lib.IntN.{ℤ}
use lib.ListN.{length, take}
use Rattle.rule.specs.declared.Bucket.{Bucket}
use Rattle.rule.specs.declared.Kind.{Kind}
use Rattle.rule.specs.declared.Kind.TheVariants.{InOrder, Late}
use Rattle.rule.specs.declared.Opening.{Opening}
use Rattle.rule.specs.declared.Settings.{Settings}
use Rattle.rule.specs.declared.State.{State}
use Rattle.rule.specs.declared.Found.{Found}
use Rattle.rule.specs.Bucket.{end, error, level, spread}
use Rattle.rule.specs.Bytes.{records_of, saved}
use Rattle.rule.specs.Calls.{Verdict, base_of, checked, found_of, found, gaps_kept, is_held, kept, late, late_verdict, loaded, load_verdict, lookup_outcome, next_outcome, next_verdict, admitted, state_of, traced}
use Rattle.rule.specs.Numbers.{most_base, record_width, slot_width, ticks}
use Rattle.rule.specs.Room.{laid, signed, slots, sound, table_of}
use Rattle.rule.specs.Table.{Table, Ordered, accept, holders, holding, holds, last_end, limit, limit_over, needed, next_tick, readings, runs}
use Rattle.rule.specs.Rules.{follows}
use Rattle.rule.proofs.Ruling.{Ruled}
use Rattle.rule.proofs.Tables.{held_member, held_once, held_within, one}
use Rattle.rule.proofs.Whole.{by_test, distance_is, whole}
use Rattle.rule.proofs.Fitting.{Fitted, Fitting}
use Rattle.rooms.proofs.Fitting.{fitted_slots}
use Rattle.rooms.proofs.Laying.{length_slots, slots_laid}
use Rattle.rooms.proofs.Placing.{held_counts}
use Rattle.rule.proofs.Signed.{signed_fits}
use Rattle.rooms.proofs.Sounding.{sound_facts, sound_ordered}
use Rattle.rooms.proofs.Bounds.{bounds}
use Rattle.rooms.specs.Left.{LeavesSound, LeftBy}
use Rattle.storage.proofs.Filing.{load_accepts, load_leaves, save_writes}
use Rattle.storage.proofs.RoundTrips.{loaded_saved, saved_accepted, saved_loaded, saved_loaded_slots}
use Rattle.rooms.proofs.Arriving.{late_free}
use Rattle.rooms.proofs.Leaving.{late_either, late_leaves, next_either, next_leaves, open_either, open_leaves}
use Rattle.demands.specs.Editions.{Follows}
use Rattle.demands.specs.History.{Accepted, FewestTicks, Held, LowestStart, Reading, Takes, arrived, runs_of, table_after}
use Rattle.demands.specs.Served.{Served}
use Rattle.demands.proofs.Editions.{editions}
use Rattle.demands.proofs.Instance.{demand3 as of-tables, instance_length}
use Rattle.series.specs.Promise.{AllSigned, AllTimed}
use Rattle.series.specs.Series.{Fed, late_call, late_many, next_call, next_many}
use Rattle.series.proofs.Taking.{fed_ind}
use Rattle.promises.proofs.Reloading.{either_loads}
use Rattle.promises.specs.Reached.{Reached, SameSettings, at_their_ticks, in_order_from, late_refused, lates, load_refused, loads, next_refused, nexts, open_refused, opens, replay_refused}
use Rattle.answered.specs.Answered.{base_named, named_by, slots_needed}
use Rattle.promises.specs.Demands.{Demand2, Demand3, Upheld}
use Rattle.answered.proofs.Answering.{base_is, either_edition, limit_named, needed_is}
use Rattle.answered.proofs.Outcomes.{bytes_written, next_in_order}
use Rattle.rooms.proofs.Outcomes.{accepted_is, not_accepted, traced_refused}
use Rattle.logger.proofs.Along.{replay_refused as replay_leaves}
use Rattle.promises.proofs.Replays.{replay_reached}
use Rattle.std.specs.Prelude.{Ok}

-- ---- along the way

record Known (g : Opening) (rs : List Reading) (s : State) (l : List ℤ) : Type 0 where
  named : s.settings ≡ kept g
  fit : sound s l ≡ true
  buckets : table_of s l ≡ table_after s.settings rs
  taken : Accepted s.settings rs

left_sound : {o : Verdict State × List ℤ} {s : State} {m : List ℤ} → o ≡ (Ok s, m) → LeavesSound o → sound s m ≡ true
unfolding LeftBy
left_sound e h = subst LeavesSound e h

-- a table laid in another room is read off as many slots
same_slots : (s : State) (l room : List ℤ) → table_of s (laid (needed s.settings) (table_of s l) room) ≡ table_of s l
same_slots s l room =
    ap (slots (laid (needed s.settings) (table_of s l) room) 0) (sym (length_slots l 0 s.used)) ∙ slots_laid (needed s.settings) (table_of s l) room

-- the table that was laid is read back
laid_table : (g : Settings) (t : Table) (l : List ℤ) → table_of (state_of g t) (laid (needed g) t l) ≡ t
laid_table g t l = slots_laid (needed g) t l

-- ---- what is named

-- settings that are the same, in order but for K, are kept as the same
kept_gaps : (k : Kind) (m n : ℕ) → (late k ≡ true → m ≡ n) → gaps_kept k m ≡ gaps_kept k n
unfolding gaps_kept late
kept_gaps InOrder m n e = refl
kept_gaps Late m n e = e refl

pub kept_same : (h g : Opening) → SameSettings h g → kept h ≡ kept g
kept_same h g same =
    let gaps : gaps_kept h.kind h.gaps ≡ gaps_kept g.kind g.gaps = ap (λ (k : Kind). gaps_kept k h.gaps) same.kind ∙ kept_gaps g.kind h.gaps g.gaps same.gaps in
    let base : base_of h.size ≡ base_of g.size = omega (arith, same.base, base_is h.size, base_is g.size) in
    λ i. record { kind = same.kind i; base = base i; gaps = gaps i; edition = same.edition i }

-- K as kept, in 01's words
pub gaps_are : (k : Kind) (n : ℕ) → gaps_kept k n ≡ cond (late k) n 0
unfolding gaps_kept late
gaps_are InOrder n = refl
gaps_are Late n = refl

module _ {g : Opening} {rs : List Reading} {s : State} {l : List ℤ} (k : Known g rs s l) (r : Reading) (t : State) (m : List ℤ) where
  step : Takes s.settings.kind (table_of s l) r.tick → t ≡ state_of s.settings (accept s.settings (table_of s l) r.tick r.value)
      → m ≡ laid (needed s.settings) (accept s.settings (table_of s l) r.tick r.value) l → sound t m ≡ true → Known g (r ∷ rs) t m
  unfolding table_after Accepted
  step takes state room fit =
      let h : Settings = s.settings in
      let same : t.settings ≡ h = ap (λ (x : State). x.settings) state in
      let w : Table = accept h (table_of s l) r.tick r.value in
      let read : table_of t m ≡ w = ap (λ (x : State). table_of x m) state ∙ ap (λ (x : List ℤ). table_of (state_of h w) x) room ∙ laid_table h w l in
      let by_rule : w ≡ accept h (table_after h rs) r.tick r.value = ap (λ (u : Table). accept h u r.tick r.value) k.buckets in
      record {
        named = same ∙ k.named;
        fit = fit;
        buckets = read ∙ by_rule ∙ ap (λ (x : Settings). accept x (table_after x rs) r.tick r.value) (sym same);
        taken = subst (λ (x : Settings). Takes x.kind (table_after x rs) r.tick × Accepted x rs) (sym same) (subst (λ (u : Table). Takes h.kind u r.tick) k.buckets takes, k.taken);
      }

next_takes : (k : Kind) (t : Table) → late k ≡ false → Takes k t (next_tick t)
unfolding late Takes
next_takes InOrder t e = refl
next_takes Late t e = absurd (true≢false e)

late_takes : (k : Kind) (t : Table) (tick : ℕ) → late k ≡ true → holders tick t ≡ 0 → Takes k t tick
unfolding late Takes
late_takes InOrder t tick e h = absurd (false≢true e)
late_takes Late t tick e h = h

known : {g : Opening} {rs : List Reading} {s : State} {l : List ℤ} → Reached g rs s l → Known g rs s l
unfolding table_after Accepted slots
known {g} (opens l {m = m} {s = s} e) =
    open_either g l (λ w. traced (kept g) l w ≡ (Ok s, m) → Known g [] s m) (λ q f. absurd (not_accepted (kept g) l q f))
    (λ _ f.
    let o = accepted_is (kept g) l [] f in
    record { named = ap (λ (x : State). x.settings) o.0; fit = left_sound e (open_leaves g l); buckets = ap (λ (x : State). table_of x m) o.0; taken = tt }) e
known {g} (nexts {rs = rs} {s = s} {t = t} {l = l} {m = m} v range r e) =
    let k = known r in
    let q : Reading = record { tick = next_tick (table_of s l); value = v } in
    next_either s l v (λ w. traced s.settings l w ≡ (Ok t, m) → Known g (q ∷ rs) t m) (λ n f. absurd (not_accepted s.settings l n f))
    (λ kind _ _ f.
    let o = accepted_is s.settings l _ f in
    step k q t m (next_takes s.settings.kind (table_of s l) kind) o.0 o.1 (left_sound e (next_leaves s l v (signed_fits v range)))) e
known {g} (lates {rs = rs} {s = s} {t = t} {l = l} {m = m} tick v range r e) =
    let k = known r in
    let q : Reading = record { tick = tick; value = v } in
    late_either s l v (λ w. traced s.settings l w ≡ (Ok t, m) → Known g (q ∷ rs) t m) (λ n f. absurd (not_accepted s.settings l n f)) tick
    (λ p free _ _ f.
    let o = accepted_is s.settings l _ f in
    step k q t m (late_takes s.settings.kind (table_of s l) tick p.kind (late_free p free)) o.0 o.1 (left_sound e (late_leaves s l tick v (signed_fits v range)))) e
known {g} (next_refused {rs = rs} {s = s} {l = l} {m = m} {r = q} v r e) = subst (Known g rs s) (sym (traced_refused s.settings l (next_verdict s l v) q m e)) (known r)
known {g} (late_refused {rs = rs} {s = s} {l = l} {m = m} {r = q} tick v r e) = subst (Known g rs s) (sym (traced_refused s.settings l (late_verdict s l tick v) q m e)) (known r)
known {g} (open_refused {rs = rs} {s = s} {l = l} {m = m} {r = q} h r e) = subst (Known g rs s) (sym (traced_refused (kept h) l (admitted h l (Ok [])) q m e)) (known r)
known {g} (load_refused {rs = rs} {s = s} {l = l} {m = m} {r = q} h file r e) = subst (Known g rs s) (sym (traced_refused (kept h) l (load_verdict h file l) q m e)) (known r)
known {g} (replay_refused {rs = rs} {s = s} {l = l} {m = m} size gaps edition recording r e) = subst (Known g rs s) (sym (replay_leaves size gaps edition recording l e)) (known r)
known {g} (loads {rs = rs} {s = s} {t = t} {l = l} {m = m} {written = written} {n = n} out room h same r saves e) =
    let k = known r in
    let file : take (record_width * n) written ≡ saved (table_of s l) = bytes_written s l out n written saves in
    let w = saved_accepted h s l room t m (kept_same h g same ∙ sym k.named) k.fit (ap (λ (f : List ℕ). loaded h f room) (sym file) ∙ e) in
    let read : table_of s m ≡ table_of s l = ap (λ (x : List ℤ). table_of s x) w.1 ∙ same_slots s l room in
    subst (λ (x : State). Known g rs x m) (sym w.0) (record { named = k.named; fit = w.2; buckets = read ∙ k.buckets; taken = k.taken })

-- ---- the picture, as lookup shows it

-- a held tick is one of document 01's
pub held_small : (k : Kind) (e tick : ℕ) (t : Table) → Ruled k e t → 1 ≤ holders tick t → tick < ticks
unfolding Ruled holders
held_small k e tick [] r h = absurd (omega arith)
held_small k e tick (b ∷ t) r h =
    by_test (holds tick b) (λ g. omega (arith, held_within tick b g, r.0.inside)) (λ g. held_small k (end b) tick t r.1 (omega (arith, ap one g)))

-- the bucket that holds a tick is the one found
held_is : (e tick : ℕ) (t : Table) (b : Bucket) → Ordered e t → Memᴰ b t → holds tick b ≡ true → holding tick t ≡ some b
unfolding holding Ordered holders
held_is e tick [] b o m h = absurd (Memᴰ.not-nil m)
held_is e tick (a ∷ t) b o m h =
    by_test (holds tick a)
    (λ g. ⊎_elim (λ same. rw g (ap some (sym same))) (λ rest. absurd (omega (arith, ap one g, held_member tick rest h, held_once e tick (a ∷ t) o))) (Memᴰ.cases_cons m))
    (λ g. ⊎_elim (λ same. absurd (false≢true (sym g ∙ subst (λ (x : Bucket). holds tick x ≡ true) same h))) (λ rest. rw g (held_is (end a) tick t b o.1.1 rest h)) (Memᴰ.cases_cons m))

shows : (s : State) (l : List ℤ) (tick : ℕ) (b : Bucket) → sound s l ≡ true → tick < ticks → holding tick (table_of s l) ≡ some b
    → lookup_outcome s l tick ≡ Ok (record { level = level b; error = error b; least = b.least; largest = b.largest })
unfolding lookup_outcome found_of checked found
shows s l tick b fit small h = rw (fit, lt-leb ticks tick small, h)

-- in order each bucket starts where the one before it ends, so the end is that of the counts
follows_on : (k : Kind) (e : ℕ) (t : Table) → late k ≡ false → Ruled k e t → last_end e t ≡ e + readings t
unfolding late Ruled follows last_end readings
follows_on Late e t h r = absurd (true≢false h)
follows_on InOrder e [] h r = omega arith
follows_on InOrder e (b ∷ t) h r = omega (arith, follows_on InOrder (end b) t h r.1, eqb-true b.start e r.0.follow)

pub keeps : {g : Opening} {rs : List Reading} {s : State} {l : List ℤ} → Reached g rs s l → Upheld g rs s l
unfolding is_held
keeps {g} {rs} {s} {l} r =
    let k = known r in
    let f = sound_facts s l k.fit in
    let positive : 1 ≤ s.settings.base = (bounds most_base s.settings.base f.good_base).0 in
    let d = of-tables s.settings rs positive k.taken in
    let v : Served s.settings.kind s.settings.base rs (table_of s l) d.0 = subst (λ (t : Table). Served s.settings.kind s.settings.base rs t d.0) (sym k.buckets) d.1 in
    let same : s.settings.base ≡ base_named g.size = ap (λ (x : Settings). x.base) k.named ∙ base_is g.size in
    record {
      named = k.named;
      kind_named = ap (λ (x : Settings). x.kind) k.named;
      named_base = same;
      gaps_named = ap (λ (x : Settings). x.gaps) k.named ∙ gaps_are g.kind g.gaps;
      edition_named = ap (λ (x : Settings). x.edition) k.named;
      fit = k.fit;
      buckets = k.buckets ∙ ap (λ (x : Settings). table_after x rs) k.named;
      picture = λ c E few near.
          let p = v.picture c E (omega (arith, same)) near in (
            λ q m.
                let b = p.0 q m in
                record { bucket = b.0; answer = shows s l q.tick b.0 k.fit (held_small s.settings.kind 0 q.tick (table_of s l) f.rules (omega (arith, held_counts 0 q.tick (table_of s l) (sound_ordered s l f), the_held (holding q.tick (table_of s l)) b.1))) b.1; near = b.2 },
            p.1,
          );
      size = omega (arith, v.size, length_slots l 0 s.used, ap (limit s.settings) v.true_runs, ap (λ (x : Settings). limit x (runs_of rs)) k.named, limit_named g (runs_of rs));
      lookups = λ tick b m h.
          let o = sound_ordered s l f in
          shows s l tick b k.fit (held_small s.settings.kind 0 tick (table_of s l) f.rules (held_member tick m h)) (held_is 0 tick (table_of s l) b o m h);
      runs = f.true_runs ∙ v.true_runs;
      readings = f.true_readings ∙ v.each;
      next = λ in_order. omega (arith, follows_on s.settings.kind 0 (table_of s l) (ap (λ (x : Settings). late x.kind) k.named ∙ in_order) f.rules, v.each);
      covers = v.covers;
      extremes = v.extremes;
    }
  where
    the_held : (o : Option Bucket) {b : Bucket} → o ≡ some b → one (is_held o) ≡ 1
    the_held o e = rw e

-- ---- the two demands

-- two numbers of 32 bits are less than 2 ^ 32 apart
spread_small : (b : Bucket) → Fitting b → spread b ≤ 4294967295
spread_small b f = omega (whole, distance_is b.largest b.least, f.least, f.largest)

fitting_member : {b : Bucket} {t : Table} → Fitted t → Memᴰ b t → Fitting b
unfolding Fitted
fitting_member f (Memᴰ.head e) = subst Fitting (sym e) f.0
fitting_member f (Memᴰ.tail m) = fitting_member f.1 m

counted_once : (c : Bool) → 1 ≤ cond c 1 0 → c ≡ true
counted_once true h = refl
counted_once false h = absurd (omega arith)

late_limit : (k : Kind) (base : ℕ) → late k ≡ true → limit_over k base 1 ≡ base + 1
unfolding late limit_over
late_limit InOrder base e = absurd (false≢true e)
late_limit Late base e = refl

late_gaps : (k : Kind) (gaps : ℕ) → late k ≡ true → gaps_kept k gaps ≡ gaps
late_gaps k gaps e = gaps_are k gaps ∙ rw e

same_kept : (h g : Opening) → kept h ≡ kept g → SameSettings h g
same_kept h g e =
    let kind : h.kind ≡ g.kind = ap (λ (x : Settings). x.kind) e in
    record {
      kind = kind;
      base = omega (arith, ap (λ (x : Settings). x.base) e, base_is h.size, base_is g.size);
      gaps = λ l. sym (late_gaps h.kind h.gaps (ap late kind ∙ l)) ∙ ap (λ (x : Settings). x.gaps) e ∙ late_gaps g.kind g.gaps l;
      edition = ap (λ (x : Settings). x.edition) e;
    }

load_names : (g : Opening) (file : List ℕ) (l : List ℤ) (t : State) → (loaded g file l).0 ≡ Ok t → t.settings ≡ kept g
load_names g file l t e =
    let a = load_accepts g file l t e in
    let f : ◌≡◌ {A = Verdict State} (Ok t) (Ok (state_of (kept g) (records_of file))) = sym e ∙ ap (λ (o : Verdict State × List ℤ). o.0) (load_leaves g file l a.0 a.1) in
    let q : t ≡ state_of (kept g) (records_of file) = cc in
    ap (λ (x : State). x.settings) q

-- the rule in words, of whatever is reached
by_rule : {g : Opening} {rs : List Reading} {s : State} {l : List ℤ} (M : Table → Table → Type 0) → Follows g.edition M → Reached g rs s l → (m : ℕ) × Held M g.kind (base_named g.size) rs (table_of s l) m
by_rule {g} {rs} {s} {l} M f r =
    let k = known r in
    let up = keeps r in
    let positive : 1 ≤ s.settings.base = (bounds most_base s.settings.base (sound_facts s l k.fit).good_base).0 in
    let h = f.allowed s.settings rs up.edition_named positive k.taken in
    (h.0, subst (λ (t : Table). Held M g.kind (base_named g.size) rs t h.0) (sym k.buckets) (subst (λ (b : ℕ). Held M g.kind b rs (table_after s.settings rs) h.0) up.named_base (subst (λ (x : Kind). Held M x s.settings.base rs (table_after s.settings rs) h.0) up.kind_named h.1)))

pub demand2 : Demand2
unfolding base_named
demand2 = record {
  buckets = λ r. (keeps r).buckets;
  first_edition = λ {g} r e. by_rule LowestStart (subst (λ (n : ℕ). Follows n LowestStart) (sym e) editions.first) r;
  second_edition = λ {g} r e. by_rule FewestTicks (subst (λ (n : ℕ). Follows n FewestTicks) (sym e) editions.second) r;
  first_alone = editions.first.alone;
  second_alone = editions.second.alone;
  either_edition = λ {g} {rs} {s} {l} r. subst (λ (n : ℕ). (n ≡ 1) ⊎ (n ≡ 2)) (keeps r).edition_named (either_edition s.settings.edition (sound_facts s l (keeps r).fit).good_edition);
  extremes = λ r. (keeps r).extremes;
  gapless = λ {g} {rs} {s} {l} r b m tick h. counted_once (arrived tick rs) (omega (arith, (keeps r).covers tick, held_member tick m h));
  spreads = λ {g} {rs} {s} {l} r b m. spread_small b (fitting_member (fitted_slots l 0 s.used (sound_facts s l (keeps r).fit).ranges) m);
  settled = λ {g} {r} {rs} {s} {l} q.
      let k = known q in
      let positive : 1 ≤ s.settings.base = (bounds most_base s.settings.base (sound_facts s l k.fit).good_base).0 in
      omega (arith, length_slots l 0 s.used, ap length k.buckets, instance_length s.settings r rs positive k.taken, ap (λ (x : Settings). length (table_after x rs)) k.named, ap (λ (x : Settings). limit x (runs_of (r ∷ rs))) k.named, limit_named g (runs_of (r ∷ rs)));
  one_run = λ s e. late_limit s.kind s.base e;
  saves = λ {g} {rs} {s} {l} r out long. save_writes s l out (keeps r).fit long;
  saved_loaded = λ {g} {h} {rs} {s} {l} r same room long.
      let k = keeps r in
      let sized : needed s.settings ≡ slots_needed (named_by g) = ap needed k.named ∙ needed_is g in
      let enough : slot_width * needed s.settings ≤ length room = omega (arith, sized, long) in
      let names : kept h ≡ s.settings = kept_same h g same ∙ sym k.named in (
        ap (λ (o : Verdict State × List ℤ). o.0) (saved_loaded h s l room names k.fit enough),
        subst (λ (n : ℕ). take (4 * n) (loaded h (saved (table_of s l)) room).1 ≡ take (4 * n) l) sized (saved_loaded_slots h s l room names k.fit enough),
      );
  same_settings = λ h g. (kept_same h g, same_kept h g);
  loaded_named = λ g file l t e. let n = load_names g file l t e in (
    ap (λ (x : Settings). x.kind) n,
    ap (λ (x : Settings). x.base) n ∙ base_is g.size,
    ap (λ (x : Settings). x.gaps) n ∙ gaps_are g.kind g.gaps,
    ap (λ (x : Settings). x.edition) n,
  );
  either_loads = λ g e here there file l. either_loads g e l here there file;
  loaded_saved = loaded_saved;
}

-- ---- many readings at one call

-- an accepted reading in order moves the next tick by one
next_moves : {g : Opening} {rs : List Reading} {s t : State} {l m : List ℤ} (v : ℤ) → signed v ≡ true → Reached g rs s l → next_outcome s l v ≡ (Ok t, m) → next_tick (table_of t m) ≡ next_tick (table_of s l) + 1
next_moves {g} {rs} {s} {t} {l} {m} v range r e =
    let k = keeps r in
    let in_order : late g.kind ≡ false = sym (ap (λ (x : Settings). late x.kind) k.named) ∙ next_in_order s l v e in
    omega (arith, k.next in_order, (keeps (nexts v range r e)).next in_order)

module _ (g : Opening) where
  abbrev NextReached : State → List ℤ → List ℤ → Fed → Type 0
  NextReached s l vs f = AllSigned vs → (rs : List Reading) → Reached g rs s l → Reached g (in_order_from (next_tick (table_of s l)) (take f.accepted vs) rs) f.state f.room

  next_reached : (s : State) (l vs : List ℤ) → NextReached s l vs (next_many s l vs)
  unfolding in_order_from
  next_reached =
      fed_ind next_call NextReached
      (λ s l q rs p. p)
      (λ s l v vs r m e q rs p. next_refused v p e)
      (λ s l v vs t m e ih q rs p.
      let range = q v (Memᴰ.head refl) in
      let f = next_many t m vs in
      let first : Reading = record { tick = next_tick (table_of s l); value = v } in
      subst (λ (n : ℕ). Reached g (in_order_from n (take f.accepted vs) (first ∷ rs)) f.state f.room) (next_moves v range p e)
      (ih (λ w i. q w (Memᴰ.tail i)) (first ∷ rs) (nexts v range p e)))

  abbrev LateReached : State → List ℤ → List (ℕ × ℤ) → Fed → Type 0
  LateReached s l ws f = AllTimed ws → (rs : List Reading) → Reached g rs s l → Reached g (at_their_ticks (take f.accepted ws) rs) f.state f.room

  late_reached : (s : State) (l : List ℤ) (ws : List (ℕ × ℤ)) → LateReached s l ws (late_many s l ws)
  unfolding at_their_ticks
  late_reached =
      fed_ind late_call LateReached
      (λ s l q rs p. p)
      (λ s l w ws r m e q rs p. late_refused w.0 w.1 p e)
      (λ s l w ws t m e ih q rs p. ih (λ x i. q x (Memᴰ.tail i)) (record { tick = w.0; value = w.1 } ∷ rs) (lates w.0 w.1 (q w (Memᴰ.head refl)) p e))

pub demand3 : Demand3
unfolding base_named
demand3 = record {
  begins = λ g l e. opens l e;
  replays = replay_reached;
  many_next = λ {g} {rs} {s} {l} r vs q. next_reached g s l vs q rs r;
  many_late = λ {g} {rs} {s} {l} r ws q. late_reached g s l ws q rs r;
  picture_of_base = λ r c E few near. (keeps r).picture c E (omega arith) near;
  picture_of_steps = λ r c E few near. (keeps r).picture c E (omega arith) near;
  size_of_base = λ r. omega (arith, (keeps r).size);
  size_of_steps = λ r. omega (arith, (keeps r).size);
  covers = λ r. (keeps r).covers;
}
