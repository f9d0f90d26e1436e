-- The exported functions keep demands 2 and 3.
use Prim.Native.Nat.{ℕ, zero, suc, ◌+◌, ◌*◌, ◌/◌, ◌≤◌, ◌<◌}
use mathlib.Core.Path.{◌≡◌, refl, sym, ap, ◌∙◌, subst}
use mathlib.Core.Logic.{⊎_elim}
use mathlib.Core.Bool.{Bool, true, false, cond}
use mathlib.Core.List.{List, [], ◌∷◌, ◌++◌, Memᴰ}
use native.Mathlib.Omega.{arith}
use borrow.Author.Tests.{eqb-false, le-ltb, lt-leb, ne_eqb}
use lib.Dec.{eqb, leb}
use lib.IntN.{ℤ}
use lib.ListN.{drop, length}
use lib.Signed.{le_z}
use Rattle.rule.specs.declared.Bucket.{Bucket}
use Rattle.rule.specs.declared.Opening.{Opening}
use Rattle.rule.specs.declared.Settings.{Settings}
use Rattle.rule.specs.declared.State.{State}
use Rattle.rule.specs.declared.Found.{Found}
use Rattle.rule.specs.Answers.{place}
use Rattle.rule.specs.Bucket.{distance}
use Rattle.rule.specs.Bytes.{saved}
use Rattle.rule.specs.Calls.{Verdict, checked, counted, found, found_of, is_held, kept, loaded, lookup_outcome, worst_outcome, write_verdict, wrote}
use Rattle.rule.specs.Numbers.{record_width, slot_width, ticks}
use Rattle.rule.specs.Room.{sound, table_of}
use Rattle.rule.specs.Table.{Table, holders, holding, holds, needed, worst}
use Rattle.rule.proofs.Whole.{by_test, whole}
use Rattle.rule.proofs.Tables.{held_within, one}
use Rattle.storage.proofs.RoundTrip.{length_saved}
use Rattle.rooms.proofs.Laying.{length_slots}
use Rattle.rooms.proofs.Placing.{held_counts}
use Rattle.rooms.proofs.Sounding.{sound_facts, sound_ordered}
use Rattle.trace.specs.Answers.{answer}
use Rattle.over.specs.Promise.{First, Over, all_over, answer_of}
use Rattle.over.proofs.Searching as searching
use Rattle.storage.proofs.RoundTrips.{loaded_saved, saved_loaded}
use Rattle.demands.specs.Curve as curve
use Rattle.demands.specs.Curve.{Curve}
use Rattle.demands.specs.History.{FewestTicks, Held, LowestStart, Reading, arrived, table_after}
use Rattle.demands.specs.Served.{Inside, Near}
use Rattle.fields.specs.declared.Fields.{Fields}
use Rattle.fields.specs.declared.Named.{Named}
use Rattle.plain.specs.declared.Reply.{Reply}
use Rattle.fields.specs.States.{fields_of, kind_of, none, number_of, opening_of, size_of, state_from}
use Rattle.plain.specs.Plain.{erring, lookup_reply, pointing, replying, showing, telling, told, worst_reply}
use Rattle.replay.specs.Answers as replay
use Rattle.answered.specs.Answered.{base_named}
use Rattle.promises.specs.Demands.{Upheld}
use Rattle.exported.specs.Exported.{Called, ExportedDemand2, Promised, Within, buckets_of, first_due, wrote_all}
use Rattle.answered.proofs.Answering.{needed_is}
use Rattle.promises.proofs.Keeping.{demand2, held_small, keeps, kept_same}
use Rattle.exported.proofs.Answering.{exported_demand1}
use Rattle.exported.proofs.Searching.{exported_search}
use Rattle.exported.proofs.Reaching.{accepts, reaches}

-- ---- what ndz_lookup and ndz_worst show of it

-- the error shown is at most the worst
found_error : (tick : ℕ) (t : Table) → (showing (found (holding tick t))).error ≤ worst t
unfolding showing found holding worst
found_error tick [] = omega arith
found_error tick (b ∷ t) = by_test (holds tick b) (λ h. rw h (omega arith)) (λ h. rw h (omega (arith, found_error tick t)))

shown_error : (f : Fields) (l : List ℤ) (tick : ℕ) → (lookup_reply f l tick).error ≤ worst (table_of (state_from f) l)
unfolding showing lookup_outcome found_of checked
shown_error f l tick =
    by_test (sound (state_from f) l)
    (λ fit. by_test (leb ticks tick) (λ h. rw (fit, h) (omega arith)) (λ h. rw (fit, h) (found_error tick (table_of (state_from f) l))))
    (λ fit. rw fit (omega arith))

looked : (f : Fields) (l : List ℤ) (tick : ℕ) (here : Bool) → sound (state_from f) l ≡ true → is_held (holding tick (table_of (state_from f) l)) ≡ here → (here ≡ true → tick < ticks)
    → (lookup_reply f l tick).refusal ≡ cond here 0 (cond (leb ticks tick) 6 12)
unfolding first_due
looked f l tick true fit h small = ap (λ (x : ℕ × ℕ). x.0) (exported_demand1.lookups f l tick).exactly ∙ rw (fit, lt-leb ticks tick (small refl), h)
looked f l tick false fit h small = ap (λ (x : ℕ × ℕ). x.0) (exported_demand1.lookups f l tick).exactly ∙ by_test (leb ticks tick) (λ g. rw (fit, g)) (λ g. rw (fit, g, h))

worst_of : (f : Fields) (l : List ℤ) → sound (state_from f) l ≡ true → worst_reply f l ≡ record { refusal = 0; place = 0; error = worst (table_of (state_from f) l) }
unfolding worst_outcome checked erring
worst_of f l fit = rw fit

-- ---- what ndz_row and ndz_save write of it

all_wrote : {A : Type 0} (form : Table → List A) (taken : ℕ) (f : Fields) (l : List ℤ) (out : List A) → length (form (table_of (state_from f) l)) ≡ taken → sound (state_from f) l ≡ true → taken ≤ length out
    → told (wrote form out (write_verdict (state_from f) l taken (length out))) ≡ (wrote_all f.used, form (table_of (state_from f) l) ++ drop taken out)
unfolding write_verdict checked wrote telling
all_wrote form taken f l out long fit h = rw (fit, le-ltb (length out) taken h, long, length_slots l 0 f.used)

same_test : (c d : Bool) → one c ≡ one d → c ≡ d
same_test true true e = refl
same_test true false e = absurd (omega arith)
same_test false true e = absurd (omega arith)
same_test false false e = refl

-- ---- what the search says of the readings

arrives : (r : Reading) (rs : List Reading) → Memᴰ r rs → arrived r.tick rs ≡ true
unfolding arrived
arrives r [] m = absurd (mathlib.Core.List.Memᴰ.not-nil m)
arrives r (a ∷ rs) m =
    by_test (eqb a.tick r.tick) (λ h. rw h)
    (λ h. rw h (⊎_elim (λ e. absurd (eqb-false a.tick r.tick h (ap (λ (x : Reading). x.tick) (sym e)))) (arrives r rs) (mathlib.Core.List.Memᴰ.cases_cons m)))

holder : (tick : ℕ) (t : Table) → 1 ≤ holders tick t → (b : Bucket) × Memᴰ b t × (holds tick b ≡ true)
unfolding holders
holder tick [] h = absurd (omega arith)
holder tick (b ∷ t) h =
    by_test (holds tick b) (λ e. (b, mathlib.Core.List.Memᴰ.head refl, e)) (λ e. let w = holder tick t (omega (arith, rw e at h)) in (w.0, mathlib.Core.List.Memᴰ.tail w.1, w.2))

module _ {g : Opening} {rs : List Reading} {s : State} {l : List ℤ} (k : Upheld g rs s l) (first last : ℕ) (bar : ℤ) where
  none_over : ((b : Bucket) → Memᴰ b (table_of s l) → Over first last bar b → ⊥) → (r : Reading) → Memᴰ r rs → first ≤ r.tick → r.tick ≤ last → le_z bar r.value ≡ false
  none_over f r m low high =
      by_test (le_z bar r.value)
      (λ e.
      let w = holder r.tick (table_of s l) (omega (arith, k.covers r.tick, ap one (arrives r rs m))) in
      let b = w.0 in
      let inside = held_within r.tick b w.2 in
      let below = ((k.extremes b w.1).bounds r m w.2).1 in
      let reaches : le_z bar b.largest ≡ true = omega (whole, e, below) in
      absurd (f b w.1 (record { shares = record { tick = r.tick; from_first = low; to_last = high; from_start = inside.0; before_end = inside.1 }; reaches = reaches })))
      (λ e. e)

  some_over : {index start : ℕ} → First first last bar (table_of s l) index start
      → (w : First first last bar (table_after (kept g) rs) index start) × Inside rs w.hit.bucket w.hit.bucket.largest
  some_over {index} {start} w =
      let b = w.hit.bucket in
      let m : Memᴰ b (table_of s l) = subst (Memᴰ b) (sym w.hit.stands) (mathlib.Core.List.Memᴰ.append_right w.hit.front (mathlib.Core.List.Memᴰ.head refl)) in
      (record { hit = record { front = w.hit.front; bucket = b; back = w.hit.back; stands = sym k.buckets ∙ w.hit.stands; counted = w.hit.counted; begins = w.hit.begins; over = w.hit.over }; none_before = w.none_before }, (k.extremes b m).largest)

-- ---- demands 2 and 3

base_words : (by size : ℕ) → base_named (size_of by size) ≡ cond (eqb by 0) (2 * size) size
unfolding base_named size_of
base_words zero size = refl
base_words (suc n) size = rw (ne_eqb (suc n) 0 (λ e. omega arith))

-- the rule in words, of the buckets of the rule and by the field
by_words : (named : Named) (f : Fields) {rs : List Reading} {l : List ℤ} (M : Table → Table → Type 0) → Upheld (opening_of named) rs (state_from f) l → (m : ℕ) × Held M (kind_of named.kind) (base_named (opening_of named).size) rs (table_of (state_from f) l) m
    → (m : ℕ) × Held M (kind_of named.kind) f.base rs (buckets_of named rs) m
by_words named f {rs} {l} M k h =
    (h.0, subst (λ (t : Table). Held M (kind_of named.kind) f.base rs t h.0) k.buckets (subst (λ (b : ℕ). Held M (kind_of named.kind) b rs (table_of (state_from f) l) h.0) (sym k.named_base) h.1))

pub promises : {named : Named} {rs : List Reading} {f : Fields} {l : List ℤ} → Called named rs f l → Promised named rs f l
unfolding showing replying answer
promises {named} {rs} {f} {l} c =
    let plain : fields_of (state_from f) ≡ f = (reaches c).1 in
    let k = keeps (reaches c).0 in
    let t : Table = table_of (state_from f) l in
    let facts = sound_facts (state_from f) l k.fit in
    let named-steps : named.by ≡ 0 → base_named (size_of named.by named.size) ≡ 2 * named.size = λ by. base_words named.by named.size ∙ rw by in
    let pictured : (c : Curve) (E : ℕ) → curve.steps c ≤ (base_named (size_of named.by named.size) + 1) / 2 → Near E c rs → (r : Reading) → Memᴰ r rs → Within E f l r =
    λ c E few near r m.
    let p = k.picture c E few near in
    let seen = p.0 r m in
    record {
      shown = ap (λ (x : Verdict Found). (showing x).refusal) seen.answer;
      near = subst (λ (x : Verdict Found). distance r.value (showing x).level ≤ E) (sym seen.answer) seen.near;
      error = omega (arith, shown_error f l r.tick, p.1);
    } in
    record {
      keeps = k;
      plain = plain;
      kind_named = sym (ap (λ (x : Fields). x.kind) plain) ∙ ap (λ (x : Settings). number_of x.kind) k.named;
      named_base = k.named_base ∙ base_words named.by named.size;
      gaps_named = k.gaps_named;
      edition_named = k.edition_named;
      either_edition = demand2.either_edition (reaches c).0;
      first_edition = λ e. by_words named f LowestStart k (demand2.first_edition (reaches c).0 e);
      second_edition = λ e. by_words named f FewestTicks k (demand2.second_edition (reaches c).0 e);
      size = omega (arith, k.size, k.named_base);
      size_of_steps = λ by. omega (arith, k.size, named-steps by);
      runs = k.runs;
      readings = k.readings;
      row = λ out long. all_wrote (λ t. t) f.used f l out (length_slots l 0 f.used) k.fit long ∙ ap (λ (x : Table). (wrote_all f.used, x ++ drop f.used out)) k.buckets;
      save = λ out long. all_wrote saved (record_width * f.used) f l out (length_saved t ∙ ap (λ (n : ℕ). record_width * n) (length_slots l 0 f.used)) k.fit long ∙ ap (λ (x : Table). (wrote_all f.used, saved x ++ drop (record_width * f.used) out)) k.buckets;
      load = λ other room same long.
          let h : Opening = opening_of other in
          let bytes : List ℕ = saved t in
          ap (λ (x : Table). replying none (answer (loaded h (saved x) room).0)) (sym k.buckets)
          ∙ ap (λ (x : Verdict State × List ℤ). replying none (answer x.0)) (saved_loaded h (state_from f) l room (kept_same h (opening_of named) same ∙ sym k.named) k.fit (subst (λ (x : Settings). slot_width * needed x ≤ length room) (sym k.named) (subst (λ (n : ℕ). slot_width * n ≤ length room) (sym (needed_is (opening_of named))) long)))
          ∙ ap (λ (x : Fields). record { refusal = 0; place = 0; state = x }) plain;
      picture = λ c E few near. pictured c E (omega (arith, k.named_base)) near;
      picture_of_steps = λ by c E few near. pictured c E (omega (arith, named-steps by)) near;
      worst_told = worst_of f l k.fit ∙ ap (λ (x : Table). record { refusal = 0; place = 0; error = worst x }) k.buckets;
      worst_within = λ c E few near. subst (λ (x : Table). worst x ≤ E) k.buckets (k.picture c E (omega (arith, k.named_base)) near).1;
      lookups = λ tick b m h. ap showing (k.lookups tick b (subst (Memᴰ b) (sym k.buckets) m) h);
      searches = λ first last bar h g. ap pointing ((searching.searches).as_all (state_from f) l first last bar k.fit h g ∙ ap (λ (x : Table). answer_of (all_over first last bar 0 x)) k.buckets);
      none_over = λ first last bar z e. none_over k first last bar (exported_search.misses f l first last bar z e);
      some_over = λ first last bar e. some_over k first last bar (exported_search.hits f l first last bar e);
      covers = λ tick.
          looked f l tick (arrived tick rs) k.fit
          (same_test (is_held (holding tick t)) (arrived tick rs) (sym (held_counts 0 tick t (sound_ordered (state_from f) l facts)) ∙ k.covers tick))
          (λ here. held_small (kind_of f.kind) 0 tick t facts.rules (omega (arith, k.covers tick, ap one here)));
    }

pub exported_demand2 : ExportedDemand2
unfolding telling
exported_demand2 = record {
  begins = λ named l z. Called.opens l refl z;
  load_named = λ named file l z.
      let h : Opening = opening_of named in
      let r : Reply = replying none (answer (loaded h file l).0) in
      let a = accepts none (loaded h file l) {r = r} {m = (loaded h file l).1} refl z in
      let n = demand2.loaded_named h file l (state_from r.state) (ap (λ (x : Verdict State × List ℤ). x.0) a.outcome) in (
        sym (ap (λ (x : Fields). x.kind) a.plain) ∙ ap number_of n.0,
        n.1 ∙ base_words named.by named.size,
        n.2,
        n.3,
      );
  same_bytes = λ named file out l known long z.
      let h : Opening = opening_of named in
      let a = accepts none (loaded h file l) {r = replying none (answer (loaded h file l).0)} {m = (loaded h file l).1} refl z in
      ap told (loaded_saved h file l (state_from (replying none (answer (loaded h file l).0)).state) out known (ap (λ (x : Verdict State × List ℤ). x.0) a.outcome) long);
}
