-- Demand 1: the chain of refusals of each call gives the first row that is due, and a refusal leaves what was lent.
use Prim.Native.Nat.{ℕ, zero, suc, ◌+◌, ◌*◌, ◌/◌, ◌≤◌, ◌<◌, min}
use mathlib.Core.Path.{◌≡◌, refl, sym, ap, subst, ◌∙◌}
use mathlib.Core.Bool.{Bool, true, false, cond, false≢true, not, ◌&&◌, ◌||◌}
use mathlib.Core.List.{List, [], ◌∷◌, ◌++◌, map, Memᴰ}
use mathlib.Core.Option.{Option, some, none}
use mathlib.Core.Logic.{◌⊎◌, inl, inr}
use native.Mathlib.Omega.{arith}
use borrow.Author.Tests.{eq-eqb, eqb-true, le-leb, le-ltb, leb-false, leb-true, lt-ltb, ne_eqb}
use lib.Dec.{eqb, leb, ltb}
use lib.IntN.{ℤ, nat_abs}
use lib.ListN.{drop, length}
use Rattle.rule.specs.declared.Bucket.{Bucket}
use Rattle.rule.specs.declared.Kind.{Kind}
use Rattle.rule.specs.declared.Kind.TheVariants.{InOrder, Late}
use Rattle.rule.specs.declared.Refusal.{Refusal}
use Rattle.rule.specs.declared.Opening.{Opening}
use Rattle.rule.specs.declared.Settings.{Settings}
use Rattle.rule.specs.declared.Size.{Size}
use Rattle.rule.specs.declared.Size.TheVariants.{Steps, Base}
use Rattle.rule.specs.declared.State.{State}
use Rattle.rule.specs.declared.Tally.{Tally}
use Rattle.rule.specs.Answers.{number, place}
use Rattle.rule.specs.Bytes.{records_of, saved}
use Rattle.rule.specs.Calls.{Check, Verdict, admitted, base_of, checked, counted, file_verdict, found, found_of, gaps_kept, grown, is_held, kept, late, late_outcome, late_verdict, load_verdict, loaded, lookup_outcome, next_outcome, next_verdict, opened, size_good, traced, worst_outcome, write_verdict, wrote}
use Rattle.rule.specs.Numbers.{most, most_base, record_width, slot_width, tally_most, ticks, word}
use Rattle.rule.specs.Files.{Finds, FirstBroken, meets}
use Rattle.rule.specs.Room.{bounded, edition_good, laid, signed, gaps_good, roomy, runs_allowed, sound, table_of}
use Rattle.rule.specs.Rules.{Fault, fault, first_fault, follows, is_whole, place_or, ruled, whole}
use Rattle.rule.specs.Table.{Table, accept, holding, insert, limit, limit_over, needed, runs, single}
use Rattle.rule.proofs.Merging.{settle_runs}
use Rattle.rule.proofs.Ruling.{Meets, facts_meets, first_is_first, meets_facts}
use Rattle.rule.proofs.Signed.{signed_fits}
use Rattle.rooms.proofs.Bounds.{in_bounds, size_base}
use Rattle.rooms.proofs.Granting.{Granted, admits as grants, admitted_kept, loaded_kept, opened_kept}
use Rattle.rooms.proofs.Laying.{drop_laid}
use Rattle.rooms.specs.Steps.{Ready}
use Rattle.rooms.proofs.Sounding.{sound_facts, used_needed}
use Rattle.rooms.proofs.Taking.{taken_short}
use Rattle.rooms.proofs.Leaving.{late_either, next_either, open_either}
use Rattle.rooms.proofs.Outcomes.{accepted_settings, traced_refused}
use Rattle.over.specs.Search.{first_over, search_outcome, sought, sought_of}
use Rattle.logger.specs.declared.Frame.{Frame}
use Rattle.logger.specs.Replay.{Course, frames_of, gone_on, late_opening, replay_outcome, replay_verdict}
use Rattle.logger.proofs.Along.{replay_keeps, replay_refused}
use Rattle.series.specs.Series.{Call, Fed, fed_from, late_call, next_call}
use Rattle.series.proofs.Taking.{fed_ind}
use Rattle.captions.specs.Caption.{all_printable, caption_good, caption_most, printable}
use Rattle.drawing.specs.Call.{drawn_in, picture_verdict}
use Rattle.storage.proofs.Filing.{load_accepts, load_leaves, loads_needed}
use Rattle.rule.proofs.Whole.{by_test}
use Rattle.answered.specs.Answered.{Answered, Demand1, Lawful, Row, base_named, file_rows, first_of, late_rows, lookup_rows, most_steps, named_by, next_rows, open_rows, outside, outside_byte, picture_rows, recording_rows, refusing, said, size_outside, slots_needed, said_drawn, said_found, said_measured, said_sought, said_written, search_rows, worst_rows, write_rows}
use Rattle.std.specs.Prelude.{Ok, Err}

-- ---- a call's checks and the table's rows

abbrev as_row : Check → Row
as_row c = record { number = number c.1; place = place c.1; due = c.0 }

said_checks : {A : Type 0} (l : List Check) (v : Verdict A) (rows : List Row) → said v ≡ first_of rows → said (checked l v) ≡ first_of (map as_row l ++ rows)
unfolding said checked first_of
said_checks [] v rows e = e
said_checks ((true, r) ∷ l) v rows e = refl
said_checks ((false, r) ∷ l) v rows e = said_checks l v rows e

said_all : {A : Type 0} (l : List Check) (a : A) → said (checked l (Ok a)) ≡ first_of (map as_row l ++ [])
unfolding said first_of
said_all l a = said_checks l (Ok a) [] refl

-- ---- the conditions, as the definitions say them and as document 01 does

not_leb : (a b : ℕ) → not (leb a b) ≡ ltb b a
not_leb a b = by_test (leb a b) (λ h. rw (h, le-ltb b a (leb-true a b h))) (λ h. rw (h, lt-ltb b a (leb-false a b h)))

bounds : (top n : ℕ) → not (bounded top n) ≡ outside top n
unfolding bounded outside
bounds top zero = refl
bounds top (suc n) = rw (le-leb 1 (suc n) (omega arith), ne_eqb (suc n) 0 (λ e. omega arith)) (not_leb (suc n) top)

size_due : (z : Size) → not (size_good z) ≡ size_outside z
unfolding size_good size_outside
size_due (Steps b) = bounds most b
size_due (Base c) = bounds most_base c

-- the base limit kept is the one that is named
pub base_is : (z : Size) → base_of z ≡ base_named z
unfolding base_of base_named
base_is (Steps b) = omega arith
base_is (Base c) = omega arith

edition_due : (e : ℕ) → not (edition_good e) ≡ not (eqb e 1 || eqb e 2)
unfolding edition_good
edition_due e = refl

-- 1 or 2
pub one_of_two : (e : ℕ) → (e ≡ 1) ⊎ (e ≡ 2) → edition_good e ≡ true
unfolding edition_good
one_of_two e (inl h) = rw h
one_of_two e (inr h) = rw h

pub either_edition : (e : ℕ) → edition_good e ≡ true → (e ≡ 1) ⊎ (e ≡ 2)
unfolding edition_good
either_edition e h = by_test (eqb e 1) (λ g. inl (eqb-true e 1 g)) (λ g. inr (eqb-true e 2 (rw g at h)))

gaps_due : (k : Kind) (gaps : ℕ) → not (gaps_good k (gaps_kept k gaps)) ≡ late k && outside 256 gaps
unfolding gaps_good gaps_kept late
gaps_due InOrder gaps = refl
gaps_due Late gaps = bounds most gaps

runs_due : (k : Kind) (gaps n : ℕ) → not (runs_allowed k (gaps_kept k gaps) n) ≡ late k && ltb gaps n
unfolding runs_allowed gaps_kept late
runs_due InOrder gaps n = refl
runs_due Late gaps n = not_leb n gaps

-- the limit, in 01's words
pub limit_is : (k : Kind) (base n : ℕ) → limit_over k base n ≡ base + cond (late k) n 0
unfolding limit_over late
limit_is InOrder base n = omega arith
limit_is Late base n = refl

pub limit_named : (g : Opening) (n : ℕ) → limit (kept g) n ≡ most_steps (named_by g) n
limit_named g n = limit_is g.kind (base_of g.size) n ∙ ap (λ (c : ℕ). c + cond (late g.kind) n 0) (base_is g.size)

-- in order K plays no part
needed_over : (k : Kind) (base gaps : ℕ) → limit_over k base (gaps_kept k gaps) ≡ base + cond (late k) gaps 0
unfolding limit_over late gaps_kept
needed_over InOrder base gaps = omega arith
needed_over Late base gaps = refl

pub needed_is : (g : Opening) → needed (kept g) ≡ slots_needed (named_by g)
needed_is g = ap (λ (n : ℕ). n + 1) (needed_over g.kind (base_of g.size) g.gaps ∙ ap (λ (c : ℕ). c + cond (late g.kind) g.gaps 0) (base_is g.size))

room_due : (g : Opening) (l : List ℤ) → not (roomy (kept g) l) ≡ ltb (length l) (4 * slots_needed (named_by g))
unfolding roomy
room_due g l = not_leb (slot_width * needed (kept g)) (length l) ∙ ap (λ (n : ℕ). ltb (length l) (4 * n)) (needed_is g)

not_both : (a b : Bool) → not (a && b) ≡ not a || not b
not_both true b = refl
not_both false b = refl

byte_due : (b : ℕ) → not (printable b) ≡ ltb b 0x20 || ltb 0x7E b
unfolding printable
byte_due b = not_both (leb 0x20 b) (leb b 0x7E) ∙ rw (not_leb 0x20 b, not_leb b 0x7E)

bytes_due : (c : List ℕ) → not (all_printable c) ≡ outside_byte c
unfolding all_printable outside_byte
bytes_due [] = refl
bytes_due (b ∷ c) = not_both (printable b) (all_printable c) ∙ rw (byte_due b, bytes_due c)

caption_due : (c : List ℕ) → not (caption_good c) ≡ ltb 200 (length c) || outside_byte c
unfolding caption_good
caption_due c = not_both (leb (length c) caption_most) (all_printable c) ∙ rw (not_leb (length c) caption_most, bytes_due c)

-- late, the limit leaves a bucket for each run
enough : (k : Kind) (base n : ℕ) → late k ≡ true → n ≤ limit_over k base n
unfolding late limit_over
enough InOrder base n e = absurd (false≢true e)
enough Late base n e = omega arith

accepted_runs : (s : Settings) (t : Table) (tick : ℕ) (v : ℤ) → late s.kind ≡ true → runs (insert (single tick v) t) ≡ runs (accept s t tick v)
unfolding accept
accepted_runs s t tick v e = sym (settle_runs s (insert (single tick v) t) (enough s.kind s.base (runs (insert (single tick v) t)) e))

-- ---- the answers

none_given : (r : ℕ × ℕ) → none ≡ some r → ⊥
none_given r e = let z : ◌≡◌ {A = ℕ} 0 1 = cc in omega arith

given : (r q : ℕ × ℕ) → some r ≡ some q → r ≡ q
given r q e = cc

module _ (g : Settings) (l : List ℤ) where
  answered : (v : Verdict Table) (rows : List Row) → said v ≡ first_of rows → let o = traced g l v in Answered (said o.0) rows l o.1
  unfolding said traced
  answered (Err r) rows e = record { exactly = e; untouched = λ q f. refl }
  answered (Ok t) rows e = record { exactly = e; untouched = λ q f. absurd (none_given q f) }

  on_and_on : (fs : List Frame) (v : Verdict Table) (rows : List Row) → said v ≡ first_of rows → let t = traced g l v in let o = gone_on fs t.0 t.1 in Answered (said o.0) rows l o.1
  unfolding said traced gone_on
  on_and_on fs (Err r) rows e = record { exactly = e; untouched = λ q f. refl }
  on_and_on fs (Ok t) rows e = record { exactly = e; untouched = λ q f. absurd (none_given q f) }

written : {A : Type 0} (form : Table → List A) (out : List A) (v : Verdict Table) (rows : List Row) → said v ≡ first_of rows
    → let o = wrote form out v in Answered (said_written o.0) rows out o.1
unfolding said said_written wrote
written form out (Err r) rows e = record { exactly = e; untouched = λ q f. refl }
written form out (Ok t) rows e = record { exactly = e; untouched = λ q f. absurd (none_given q f) }

pictured : (out : List ℕ) (v : Verdict (List ℕ)) (rows : List Row) → said v ≡ first_of rows → let o = drawn_in out v in Answered (said_drawn o.0) rows out o.1
unfolding said said_drawn drawn_in
pictured out (Err r) rows e = record { exactly = e; untouched = λ q f. refl }
pictured out (Ok p) rows e = record { exactly = e; untouched = λ q f. absurd (none_given q f) }

-- ---- each call's chain

admits : (g : Opening) (l : List ℤ) (v : Verdict Table) (rows : List Row) → said v ≡ first_of rows → said (admitted g l v) ≡ first_of (open_rows g l ++ rows)
unfolding admitted
admits g l v rows e = said_checks _ v rows e ∙ rw (edition_due g.edition, size_due g.size, gaps_due g.kind g.gaps, room_due g l)

writes : (s : State) (l : List ℤ) (places taken : ℕ) → said (write_verdict s l taken places) ≡ first_of (write_rows s l places taken)
unfolding write_verdict
writes s l places taken = said_all _ _

pictures : (s : State) (l : List ℤ) (c : List ℕ) (places : ℕ) → said (picture_verdict s l c places) ≡ first_of (picture_rows s l c places)
unfolding picture_verdict
pictures s l c places = said_all _ _ ∙ rw (caption_due c)

absent : (o : Option Bucket) → said_found (found o) ≡ first_of (refusing 12 (not (is_held o)) ∷ [])
unfolding said_found found first_of is_held
absent none = refl
absent (some b) = refl

looked : (s : State) (l : List ℤ) (tick : ℕ) → said_found (lookup_outcome s l tick) ≡ first_of (lookup_rows s l tick)
unfolding lookup_outcome found_of checked first_of said_found
looked s l tick =
    by_test (sound s l)
    (λ fit. by_test (leb ticks tick) (λ h. rw (fit, h)) (λ h. rw (fit, h) (absent (holding tick (table_of s l)))))
    (λ fit. rw fit)

found_said : (h : Option (ℕ × ℕ)) → said_sought (sought h) ≡ none
unfolding sought said_sought
found_said none = refl
found_said (some h) = refl

search_said : (s : State) (l : List ℤ) (first last : ℕ) (bar : ℤ) → said_sought (search_outcome s l first last bar) ≡ first_of (search_rows s l first last)
unfolding search_outcome sought_of checked first_of said_sought
search_said s l first last bar =
    by_test (sound s l)
    (λ fit. by_test (leb ticks first)
    (λ h. rw (fit, h))
    (λ h. by_test (leb ticks last) (λ k. rw (fit, h, k)) (λ k. rw (fit, h, k) (found_said (first_over first last bar 0 (table_of s l))))))
    (λ fit. rw fit)

worst_said : (s : State) (l : List ℤ) → said_measured (worst_outcome s l) ≡ first_of (worst_rows s l)
unfolding worst_outcome checked first_of said_measured
worst_said s l = by_test (sound s l) (λ fit. rw fit) (λ fit. rw fit)

told : (t : Tally) (used : ℕ) (o : Verdict State) (r : ℕ × ℕ) → said o ≡ some r → counted t used o ≡ record { accepted = t.accepted; refused = min (t.refused + 1) tally_most; merges = t.merges }
unfolding said counted grown
told t used (Err q) r e = refl
told t used (Ok s) r e = absurd (none_given r e)

-- ---- load, and 8's place

loading : (g : Opening) (file : List ℕ) (l : List ℤ) → said (load_verdict g file l) ≡ first_of (open_rows g l ++ file_rows g file)
unfolding file_verdict ruled
loading g file l =
    admits g l _ _ (said_all _ _ ∙ rw (runs_due g.kind g.gaps (runs (records_of file)), limit_named g (runs (records_of file))))

-- a row of another number is not the one given
other : (n : ℕ) (c : Bool) (rows : List Row) (i : ℕ) → (n ≡ 8 → ⊥) → first_of (refusing n c ∷ rows) ≡ some (8, i) → first_of rows ≡ some (8, i)
unfolding first_of
other n true rows i differs e = absurd (differs (ap (λ (r : ℕ × ℕ). r.0) (given (n, 0) (8, i) e)))
other n false rows i differs e = e

the_first : (k : Kind) (file : List ℕ) (f : Fault) (rows : List Row) (i : ℕ) → (first_of rows ≡ some (8, i) → ⊥) → Finds k file f
    → first_of (record { number = 8; place = place_or 0 f; due = not (is_whole f) } ∷ rows) ≡ some (8, i) → FirstBroken k file i
unfolding first_of place_or is_whole Finds
the_first k file whole rows i later h e = absurd (later e)
the_first k file (fault j r) rows i later h e = subst (FirstBroken k file) (ap (λ (r : ℕ × ℕ). r.1) (given (8, j) (8, i) e)) h

all_meet : (k : Kind) (file : List ℕ) (f : Fault) → is_whole f ≡ true → Finds k file f → (i : ℕ) → i < length file / record_width → meets k file i ≡ true
unfolding is_whole Finds
all_meet k file whole e h = h
all_meet k file (fault j r) e h = absurd (false≢true e)

no_row : (r : ℕ × ℕ) → first_of [] ≡ some r → ⊥
unfolding first_of
no_row r e = none_given r e

eighth : (g : Opening) (file : List ℕ) (l : List ℤ) (i : ℕ) → first_of (open_rows g l ++ file_rows g file) ≡ some (8, i) → FirstBroken g.kind file i
unfolding ruled
eighth g file l i e =
    the_first g.kind file (first_fault g.kind 0 0 (records_of file)) _ i
    (λ f. no_row (8, i) (other 10 _ [] i (λ n. omega arith) (other 9 _ _ i (λ n. omega arith) f)))
    (first_is_first g.kind file)
    (other 7 _ _ i (λ n. omega arith) (other 3 _ _ i (λ n. omega arith) (other 2 _ _ i (λ n. omega arith) (other 1 _ _ i (λ n. omega arith) (other 16 _ _ i (λ n. omega arith) e)))))

loaded_said : (g : Opening) (file : List ℕ) (l : List ℤ) → said (loaded g file l).0 ≡ first_of (open_rows g l ++ file_rows g file)
loaded_said g file l = (answered (kept g) l (load_verdict g file l) (open_rows g l ++ file_rows g file) (loading g file l)).exactly

-- ---- B is C = 2B

doubled : (k : Kind) (b gaps edition : ℕ) → kept (record { kind = k; size = Steps b; gaps = gaps; edition = edition }) ≡ kept (record { kind = k; size = Base (2 * b); gaps = gaps; edition = edition })
unfolding base_of
doubled k b gaps edition = refl

same_replay : (b gaps edition : ℕ) (recording : List ℕ) (l : List ℤ) → replay_outcome (Steps b) gaps edition recording l ≡ replay_outcome (Base (2 * b)) gaps edition recording l
unfolding base_of replay_verdict
same_replay b gaps edition recording l =
    ap (λ (v : Verdict Table). let o = traced (kept (late_opening (Steps b) gaps edition)) l v in gone_on (frames_of recording) o.0 o.1)
    (admitted_kept (late_opening (Steps b) gaps edition) (late_opening (Base (2 * b)) gaps edition) (doubled Late b gaps edition) l _)

-- ---- the record rules

pub lawful : (k : Kind) (e : ℕ) (b : Bucket) → Meets k e b → Lawful k e b
unfolding follows late
lawful InOrder e b m = record { count = m.positive; inside = m.inside; ordered = m.ordered; alone = m.single_level; in_order = λ _. eqb-true b.start e m.follow; not_below = λ h. absurd (false≢true h) }
lawful Late e b m = record { count = m.positive; inside = m.inside; ordered = m.ordered; alone = m.single_level; in_order = λ h. absurd (false≢true (sym h)); not_below = λ _. leb-true e b.start m.follow }

pub law_meets : (k : Kind) (e : ℕ) (b : Bucket) → Lawful k e b → Meets k e b
unfolding follows late
law_meets InOrder e b m = record { positive = m.count; inside = m.inside; ordered = m.ordered; single_level = m.alone; follow = eq-eqb b.start e (m.in_order refl) }
law_meets Late e b m = record { positive = m.count; inside = m.inside; ordered = m.ordered; single_level = m.alone; follow = le-leb e b.start (m.not_below refl) }

-- ---- the slots past the needed number

module _ (g : Settings) (l : List ℤ) where
  -- what an outcome that leaves no more buckets than slots needed leaves behind them
  abbrev Past : Verdict Table → Type 0
  Past v = drop (slot_width * needed g) (traced g l v).1 ≡ drop (slot_width * needed g) l

  refused_past : (r : Refusal) → Past (Err r)
  unfolding traced
  refused_past r = refl

  accepted_past : (t : Table) → length t ≤ needed g → Past (Ok t)
  unfolding traced
  accepted_past t h = drop_laid (needed g) t l h (needed g) (omega arith)

  -- and the settings that it leaves
  abbrev Still : State → List ℤ → Type 0
  Still s m = (s.settings ≡ g) × (drop (slot_width * needed g) m ≡ drop (slot_width * needed g) l)

  past_still : (v : Verdict Table) → Past v → {s : State} {m : List ℤ} → traced g l v ≡ (Ok s, m) → Still s m
  past_still v p e = (accepted_settings g l v e, ap (λ (o : Verdict State × List ℤ). drop (slot_width * needed g) o.1) (sym e) ∙ p)

named_past : (g : Opening) (l m : List ℤ) → drop (slot_width * needed (kept g)) m ≡ drop (slot_width * needed (kept g)) l → drop (4 * slots_needed (named_by g)) m ≡ drop (4 * slots_needed (named_by g)) l
named_past g l m e = subst (λ (n : ℕ). drop (slot_width * n) m ≡ drop (slot_width * n) l) (needed_is g) e

-- a reading's settings are kept ones
read_past : (s : State) (l m : List ℤ) → drop (slot_width * needed s.settings) m ≡ drop (slot_width * needed s.settings) l → drop (4 * slots_needed s.settings) m ≡ drop (4 * slots_needed s.settings) l
read_past s l m e = subst (λ (n : ℕ). drop (slot_width * n) m ≡ drop (slot_width * n) l) (ap (λ (n : ℕ). n + 1) (limit_is s.settings.kind s.settings.base s.settings.gaps)) e

taken_past : (s : State) (l : List ℤ) (at k tick : ℕ) (v : ℤ) → Ready s l at k tick v → signed v ≡ true → tick < word → Past s.settings l (Ok (accept s.settings (table_of s l) tick v))
taken_past s l at k tick v r range small =
    accepted_past s.settings l _ (omega (arith, taken_short s l at k tick v r (signed_fits v range) small, used_needed s l (sound_facts s l r.fit)))

load_past : (g : Opening) (file : List ℕ) (l : List ℤ) (o : Verdict State × List ℤ) → loaded g file l ≡ o → drop (slot_width * needed (kept g)) o.1 ≡ drop (slot_width * needed (kept g)) l
load_past g file l (Err r, m) e = ap (drop (slot_width * needed (kept g))) (traced_refused (kept g) l (load_verdict g file l) r m e)
load_past g file l (Ok t, m) e =
    let a = load_accepts g file l t (ap (λ (o : Verdict State × List ℤ). o.0) e) in
    let left : m ≡ laid (needed (kept g)) (records_of file) l = ap (λ (o : Verdict State × List ℤ). o.1) (sym e ∙ load_leaves g file l a.0 a.1) in
    ap (drop (slot_width * needed (kept g))) left ∙ drop_laid (needed (kept g)) (records_of file) l (omega (arith, loads_needed (kept g) file a.1)) (needed (kept g)) (omega arith)

open_past : (g : Opening) (l : List ℤ) → Past (kept g) l (admitted g l (Ok []))
open_past g l = open_either g l (Past (kept g) l) (refused_past (kept g) l) (λ _. accepted_past (kept g) l [] (omega arith))

late_past : (s : State) (l : List ℤ) (tick : ℕ) (v : ℤ) → signed v ≡ true → Past s.settings l (late_verdict s l tick v)
late_past s l tick v range = late_either s l v (Past s.settings l) (refused_past s.settings l) tick (λ _ _ r small. taken_past s l _ _ tick v r range small)

-- along a replay the settings stay, and with them the number of slots
still : (g : Settings) (l : List ℤ) (s t : State) (m n : List ℤ) (tick : ℕ) (v : ℤ) → signed v ≡ true → late_outcome s m tick v ≡ (Ok t, n) → Still g l s m → Still g l t n
still g l s t m n tick v range e p =
    let q : Still g m t n = subst (λ (h : Settings). Still h m t n) p.0 (past_still s.settings m (late_verdict s m tick v) (late_past s m tick v range) e) in
    (q.0, q.1 ∙ p.1)

replay_past : (size : Size) (gaps edition : ℕ) (recording : List ℕ) (l : List ℤ) (o : Verdict Course × List ℤ) → replay_outcome size gaps edition recording l ≡ o
    → let g = kept (late_opening size gaps edition) in drop (slot_width * needed g) o.1 ≡ drop (slot_width * needed g) l
replay_past size gaps edition recording l (Err r, m) e = ap (drop (slot_width * needed (kept (late_opening size gaps edition)))) (replay_refused size gaps edition recording l e)
replay_past size gaps edition recording l (Ok c, m) e =
    let g : Opening = late_opening size gaps edition in
    (replay_keeps (λ s n ws. Still (kept g) l s n) (λ s t m n ws w. still (kept g) l s t m n (nat_abs w.tick) w.value) size gaps edition recording l
    (λ s n. past_still (kept g) l (admitted g l (Ok [])) (open_past g l)) e).1

-- ---- every good C is taken

gaps_fine : (k : Kind) (gaps : ℕ) → (late k ≡ true → (1 ≤ gaps) × (gaps ≤ 256)) → gaps_good k (gaps_kept k gaps) ≡ true
unfolding gaps_good gaps_kept late
gaps_fine InOrder gaps h = refl
gaps_fine Late gaps h = in_bounds most gaps (h refl)

any_base : (k : Kind) (c gaps edition : ℕ) (l : List ℤ) → (edition ≡ 1) ⊎ (edition ≡ 2) → 1 ≤ c → c ≤ 512 → (late k ≡ true → (1 ≤ gaps) × (gaps ≤ 256)) → 4 * (c + cond (late k) gaps 0 + 1) ≤ length l
    → said (opened (record { kind = k; size = Base c; gaps = gaps; edition = edition }) l).0 ≡ none
unfolding base_of base_named said traced
any_base k c gaps edition l either low high fine long =
    let o : Opening = record { kind = k; size = Base c; gaps = gaps; edition = edition } in
    let granted : Granted (kept o) l = record { edition = one_of_two edition either; base = in_bounds most_base c (low, high); gaps = gaps_fine k gaps fine; long = omega (arith, long, needed_is o) } in
    ap (λ (v : Verdict Table). said (traced (kept o) l v).0) (grants o l granted (Ok []))

-- ---- past the needed slots

past_next : (s : State) (l : List ℤ) (v : ℤ) → signed v ≡ true → drop (4 * slots_needed s.settings) (next_outcome s l v).1 ≡ drop (4 * slots_needed s.settings) l
past_next s l v range = read_past s l _ (next_either s l v (Past s.settings l) (refused_past s.settings l) (λ _ r small. taken_past s l _ _ _ v r range small))

past_late : (s : State) (l : List ℤ) (tick : ℕ) (v : ℤ) → signed v ≡ true → drop (4 * slots_needed s.settings) (late_outcome s l tick v).1 ≡ drop (4 * slots_needed s.settings) l
past_late s l tick v range = read_past s l _ (late_past s l tick v range)

-- of many readings, where it is so of one, and the settings stay
module _ {A : Type 0} (call : Call A) (Fits : A → Type 0)
    (past : (s : State) (l : List ℤ) (v : A) → Fits v → drop (4 * slots_needed s.settings) (call s l v).1 ≡ drop (4 * slots_needed s.settings) l)
    (stay : (s t : State) (l m : List ℤ) (v : A) → call s l v ≡ (Ok t, m) → t.settings ≡ s.settings) where
  abbrev ManyPast : State → List ℤ → List A → Fed → Type 0
  ManyPast s l vs f = ((v : A) → Memᴰ v vs → Fits v) → drop (4 * slots_needed s.settings) f.room ≡ drop (4 * slots_needed s.settings) l

  past_one : (s : State) (l : List ℤ) (v : A) {o : Verdict State × List ℤ} → call s l v ≡ o → Fits v → drop (4 * slots_needed s.settings) o.1 ≡ drop (4 * slots_needed s.settings) l
  past_one s l v e q = ap (λ (o : Verdict State × List ℤ). drop (4 * slots_needed s.settings) o.1) (sym e) ∙ past s l v q

  many_past : (s : State) (l : List ℤ) (vs : List A) → ManyPast s l vs (fed_from call 0 s l vs)
  many_past =
      fed_ind call ManyPast
      (λ s l q. refl)
      (λ s l v vs r m e q. past_one s l v e (q v (Memᴰ.head refl)))
      (λ s l v vs t m e ih q.
      subst (λ (g : Settings). drop (4 * slots_needed g) (fed_from call 0 t m vs).room ≡ drop (4 * slots_needed g) m) (stay s t l m v e) (ih (λ w i. q w (Memᴰ.tail i)))
      ∙ past_one s l v e (q v (Memᴰ.head refl)))

pub demand1 : Demand1
unfolding next_verdict late_verdict lookup_outcome write_verdict replay_verdict ruled said first_of late base_named
demand1 = record {
  opens = λ g l. answered (kept g) l (admitted g l (Ok [])) (open_rows g l) (admits g l (Ok []) [] refl);
  nexts = λ s l v. answered s.settings l (next_verdict s l v) (next_rows s l) (said_all _ _);
  lates = λ s l tick v. answered s.settings l (late_verdict s l tick v) (late_rows s l tick v)
      (said_all _ _ ∙ by_test (late s.settings.kind) (λ h. rw (accepted_runs s.settings (table_of s l) tick v h)) (λ h. rw h));
  lookups = λ s l tick. looked s l tick;
  searches = search_said;
  worsts = worst_said;
  rows = λ s l out. written (λ t. t) out (write_verdict s l s.used (length out)) (write_rows s l (length out) s.used) (writes s l (length out) s.used);
  saves = λ s l out. written saved out (write_verdict s l (record_width * s.used) (length out)) (write_rows s l (length out) (record_width * s.used)) (writes s l (length out) (record_width * s.used));
  pictures = λ s l caption out. pictured out (picture_verdict s l caption (length out)) (picture_rows s l caption (length out)) (pictures s l caption (length out));
  loads = λ g file l. answered (kept g) l (load_verdict g file l) (open_rows g l ++ file_rows g file)
      (loading g file l);
  replays = λ size gaps edition recording l. on_and_on (kept (late_opening size gaps edition)) l (frames_of recording) (replay_verdict size gaps edition recording l) _ (admits (late_opening size gaps edition) l _ (recording_rows recording) (said_all _ _));
  any_base = λ k c gaps edition l either low high. any_base k c gaps edition l either low (omega arith);
  names = λ b c. (refl, refl);
  one_law = λ z. sym (size_due z) ∙ ap not (size_base z) ∙ bounds most_base (base_of z) ∙ ap (outside 512) (base_is z);
  same_open = λ k b gaps edition l. opened_kept _ _ (doubled k b gaps edition) l;
  same_load = λ k b gaps edition file l. loaded_kept _ _ (doubled k b gaps edition) file l;
  same_replay = same_replay;
  places = λ g file l i e. eighth g file l i (sym (loaded_said g file l) ∙ e);
  breaks = λ k file i inside broken. by_test (is_whole (first_fault k 0 0 (records_of file))) (λ h. absurd (false≢true (sym broken ∙ all_meet k file (first_fault k 0 0 (records_of file)) h (first_is_first k file) i inside))) (λ h. h);
  rules = λ k e b. (λ h. lawful k e b (meets_facts k e b h), λ h. facts_meets k e b (law_meets k e b h));
  past_open = λ g l. named_past g l _ (open_past g l);
  past_next = past_next;
  past_late = past_late;
  past_load = λ g file l. named_past g l _ (load_past g file l (loaded g file l) refl);
  past_replay = λ size gaps edition recording l. named_past (late_opening size gaps edition) l _ (replay_past size gaps edition recording l (replay_outcome size gaps edition recording l) refl);
  past_next_many = many_past next_call (λ v. signed v ≡ true) past_next (λ s t l m v e. accepted_settings s.settings l (next_verdict s l v) e);
  past_late_many = many_past late_call (λ w. signed w.1 ≡ true) (λ s l w q. past_late s l w.0 w.1 q) (λ s t l m w e. accepted_settings s.settings l (late_verdict s l w.0 w.1) e);
  sizes_in_order = λ c gaps edition k. (omega arith, omega arith);
  sizes_late = λ c gaps edition k. (refl, refl);
  tally = told;
}
