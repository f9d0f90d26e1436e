-- Records and slots written one after the other, and what it means that settings, room and file are admitted.
use Prim.Native.Nat.{ℕ, zero, suc, ◌+◌, ◌*◌, ◌-◌, ◌%◌, ◌≤◌}
use mathlib.Core.Path.{◌≡◌, ap, ◌∙◌}
use mathlib.Core.Bool.{true}
use mathlib.Core.List.{List, [], ◌∷◌, ◌++◌, append_assoc, append-nil}
use native.Mathlib.Omega.{arith}
use native.Mathlib.Nat.{add-zero, zero-add}
use borrow.Author.Tests.{eqb-true, eq-eqb, ltb-false, le-ltb, not-false}
use lib.IntN.{ℤ}
use lib.ListN.{length, take, drop, length-append, length-drop}
use lib.Seq.{drop-append-add, drop-drop, take_at}
use Rattle.rule.specs.declared.Bucket.{Bucket}
use Rattle.rule.specs.declared.Refusal.{Refusal}
use Rattle.rule.specs.declared.Opening.{Opening}
use Rattle.rule.specs.declared.Settings.{Settings}
use Rattle.rule.specs.declared.State.{State}
use Rattle.rule.specs.Bytes.{record_at, records, records_of, saved}
use Rattle.rule.specs.Calls.{Verdict, checked, file_verdict, kept, loaded, save_outcome, state_of, traced, write_verdict, wrote}
use Rattle.rule.specs.Numbers.{record_width, slot_width}
use Rattle.rule.specs.Room.{flat, laid, runs_allowed, slot, slots, sound, table_of, zeros}
use Rattle.rule.specs.Rules.{ruled}
use Rattle.rule.specs.Table.{Table, limit, needed, runs}
use Rattle.rule.proofs.Ruling.{Ruled, facts_ruled, ruled_facts}
use Rattle.storage.specs.Files as files
use Rattle.storage.proofs.Records.{length_records}
use Rattle.storage.proofs.RoundTrip.{length_saved, put_saved}
use Rattle.rooms.specs.Slots.{put}
use Rattle.rooms.proofs.Shifting.{drop_past}
use Rattle.rooms.proofs.Bounds.{limit_gaps}
use Rattle.rooms.proofs.Laying.{flat_append, length_flat, length_slots, slots_split}
use Rattle.rooms.proofs.Granting.{Granted, admits, past_admission}
use Rattle.rule.proofs.Checks.{Unrefused, past_checks}
use Rattle.std.specs.Prelude.{Ok, Err}

-- ---- saved slot by slot

slots_last : (l : List ℤ) (i : ℕ) → slots l 0 (suc i) ≡ slots l 0 i ++ (slot l i ∷ [])
unfolding slots
slots_last l i = slots_split l 0 i i 1 (suc i) (zero-add i) (omega arith)

-- the first i slots of l are saved in out
abbrev pub saved_up_to : List ℤ → List ℕ → ℕ → List ℕ
saved_up_to l out i = saved (slots l 0 i) ++ drop (record_width * i) out

pub saved_length : (l : List ℤ) (out : List ℕ) (i : ℕ) (new : List ℕ) → record_width * i ≤ length out → new ≡ saved_up_to l out i → length new ≡ length out
saved_length l out i new h e = rw e (simp (length-append, length-drop, length_saved, length_slots) (omega arith))

pub saved_next : (l : List ℤ) (out : List ℕ) (i : ℕ) → files.put (saved_up_to l out i) i (slot l i) ≡ saved_up_to l out (suc i)
saved_next l out i =
    let e : record_width * i + record_width ≡ record_width * suc i = omega arith in
    put_saved (slots l 0 i) (slot l i) (drop (record_width * i) out) i (length_slots l 0 i)
    ∙ rw (slots_last l i, drop-drop record_width (record_width * i) out, e)

-- what a save of a sound trace leaves, where the output is long enough
pub save_writes : (s : State) (l : List ℤ) (out : List ℕ) → sound s l ≡ true → record_width * s.used ≤ length out → save_outcome s l out ≡ (Ok s.used, saved_up_to l out s.used)
unfolding write_verdict checked wrote
save_writes s l out h k = rw (h, le-ltb (length out) (record_width * s.used) k, length_saved (table_of s l), length_slots l 0 s.used)

-- ---- loaded record by record

records_last : (f : List ℕ) (i n : ℕ) → records f i (suc n) ≡ records f i n ++ (record_at f (i + n) ∷ [])
unfolding records
records_last f i zero = rw add-zero
records_last f i (suc n) =
    let next : i + suc n ≡ suc i + n = omega arith in
    rw next (ap (λ (t : Table). record_at f i ∷ t) (records_last f (suc i) n))

-- the next bucket, behind the slots of the table t
put_behind : (t : Table) (b : Bucket) (rest : List ℤ) (i : ℕ) → length t ≡ i → put (flat t ++ rest) i b ≡ flat (t ++ (b ∷ [])) ++ drop slot_width rest
unfolding put flat
put_behind t b rest i h =
    let e : slot_width * suc i ≡ length (flat t) + slot_width = omega (arith, length_flat t) in
    rw (take_at (flat t) rest (slot_width * i) (omega (arith, length_flat t)), e, drop-append-add (flat t) rest slot_width, flat_append) (simp (append_assoc, append-nil))

-- the first i records of f are loaded into l
abbrev pub loaded_up_to : List ℕ → List ℤ → ℕ → List ℤ
loaded_up_to f l i = flat (records f 0 i) ++ drop (slot_width * i) l

pub loaded_length : (f : List ℕ) (l : List ℤ) (i : ℕ) (new : List ℤ) → slot_width * i ≤ length l → new ≡ loaded_up_to f l i → length new ≡ length l
loaded_length f l i new h e = rw e (simp (length-append, length-drop, length_flat, length_records) (omega arith))

pub loaded_next : (f : List ℕ) (l : List ℤ) (i : ℕ) → put (loaded_up_to f l i) i (record_at f i) ≡ loaded_up_to f l (suc i)
loaded_next f l i =
    let e : slot_width * i + slot_width ≡ slot_width * suc i = omega arith in
    put_behind (records f 0 i) (record_at f i) (drop (slot_width * i) l) i (length_records f 0 i)
    ∙ rw (records_last f 0 i, zero-add i, drop-drop slot_width (slot_width * i) l, e)

-- what is left where the slots behind are cleared
pub cleared : (f : List ℕ) (l : List ℤ) (i n : ℕ) → i ≤ n → take (slot_width * i) (loaded_up_to f l i) ++ (zeros (slot_width * n - slot_width * i) ++ drop (slot_width * n) (loaded_up_to f l i)) ≡ laid n (records f 0 i) l
unfolding laid
cleared f l i n h =
    let t = records f 0 i in
    let long : length (flat t) ≡ slot_width * i = length_flat t ∙ omega (arith, length_records f 0 i) in
    let left : slot_width * n - slot_width * i ≡ slot_width * (n - length t) = omega (arith, length_records f 0 i) in
    rw (take_at (flat t) (drop (slot_width * i) l) (slot_width * i) long, left, drop_past (flat t) l (slot_width * i) (slot_width * n) long (omega arith))

-- ---- a file that loads

pub record Loads (s : Settings) (file : List ℕ) : Type 0 where
  pub even : length file % record_width ≡ 0
  pub rules : Ruled s.kind 0 (records_of file)
  pub allowed : runs_allowed s.kind s.gaps (runs (records_of file)) ≡ true
  pub few : length (records_of file) ≤ limit s (runs (records_of file))

module _ (s : Settings) (file : List ℕ) where
  pub file_loads : Loads s file → file_verdict s file ≡ Ok (records_of file)
  unfolding file_verdict checked ruled
  file_loads h =
      rw (
        eq-eqb (length file % record_width) 0 h.even,
        facts_ruled s.kind 0 0 (records_of file) h.rules,
        h.allowed,
        le-ltb (limit s (runs (records_of file))) (length (records_of file)) h.few,
      )

  -- what holds of every refusal, and of the records of a file that loads, holds of the file's verdict
  pub file_either : (P : Verdict Table → Type 0) → ((r : Refusal) → P (Err r)) → (Loads s file → P (Ok (records_of file))) → P (file_verdict s file)
  unfolding file_verdict ruled Unrefused
  file_either P refuses loads =
      let t = records_of file in
      past_checks P refuses _ _ (λ p.
      loads (record { even = eqb-true (length file % record_width) 0 (not-false _ p.0); rules = ruled_facts s.kind 0 0 t (not-false _ p.1.0); allowed = not-false _ p.1.1.0; few = ltb-false (limit s (runs t)) (length t) p.1.1.1.0 }))

-- the records of a file that loads leave a slot free
pub loads_needed : (s : Settings) (file : List ℕ) → Loads s file → suc (length (records_of file)) ≤ needed s
loads_needed s file h = omega (arith, h.few, limit_gaps s.kind s.base s.gaps (runs (records_of file)) h.allowed)

-- ---- a load that is accepted

module _ (o : Opening) (file : List ℕ) (l : List ℤ) where
  pub load_accepts : (t : State) → (loaded o file l).0 ≡ Ok t → Granted (kept o) l × Loads (kept o) file
  unfolding traced
  load_accepts t =
      past_admission o l (file_verdict (kept o) file) P refuses (λ g. file_either (kept o) file P refuses (λ h e. (g, h)))
    where
      P : Verdict Table → Type 0
      P v = (traced (kept o) l v).0 ≡ Ok t → Granted (kept o) l × Loads (kept o) file

      refuses : (r : Refusal) → P (Err r)
      refuses r e = absurd (let z : ◌≡◌ {A = ℕ} 0 1 = cc in omega arith)

  pub load_leaves : Granted (kept o) l → Loads (kept o) file → loaded o file l ≡ (Ok (state_of (kept o) (records_of file)), laid (needed (kept o)) (records_of file) l)
  unfolding traced
  load_leaves g h = rw (admits o l g (file_verdict (kept o) file), file_loads (kept o) file h)
