-- Demand 1 of the exported functions: each replies what its call answers.
use Prim.Native.Nat.{ℕ, ◌+◌, ◌*◌, ◌≤◌}
use mathlib.Core.Path.{◌≡◌, refl, sym, ap, ◌∙◌}
use mathlib.Core.List.{List, [], ◌∷◌, ◌++◌}
use mathlib.Core.Option.{Option, some}
use native.Mathlib.Omega.{arith}
use lib.IntN.{ℤ}
use lib.ListN.{length}
use Rattle.rule.specs.declared.Refusal.{Refusal}
use Rattle.rule.specs.declared.Refusal.TheVariants.{Steps, Gaps, Room, Unsound, Kind, Tick, Length, Record, Runs, Overfull, Taken, Absent, Short, Line, Caption, Edition}
use Rattle.rule.specs.declared.State.{State}
use Rattle.rule.specs.declared.Tally.{Tally}
use Rattle.rule.specs.declared.Found.{Found}
use Rattle.rule.specs.Answers.{number, place}
use Rattle.rule.specs.Calls.{Verdict, checked, counted, found_of, grown, late_outcome, late_verdict, loaded, lookup_outcome, next_outcome, next_verdict, opened, row_outcome, save_outcome, traced, worst_outcome, write_verdict, wrote}
use Rattle.rule.specs.Numbers.{record_width}
use Rattle.rule.specs.Room.{all_of, bounded, clauses, edition_good, sound}
use Rattle.rule.proofs.Whole.{by_test}
use Rattle.trace.specs.Answers.{answer, answered}
use Rattle.over.specs.Search.{search_outcome, sought_of}
use Rattle.over.proofs.Searching as searching
use Rattle.demands.specs.Curve as curve
use Rattle.fields.specs.declared.Fields.{Fields}
use Rattle.fields.specs.States.{kind_of, none, opening_of, size_of, state_from}
use Rattle.plain.specs.Plain.{erring, pointing, replied, replying, showing, telling}
use Rattle.replay.specs.Answers as replay
use Rattle.answered.specs.Answered.{Answered, Row, file_rows, first_of, late_rows, lookup_rows, next_rows, open_rows, said, said_found, said_measured, said_sought, said_written, search_rows, worst_rows, write_rows}
use Rattle.exported.specs.Exported.{Counts, Errs, ExportedDemand1, Points, Replies, Shows, Tallies, first_due}
use Rattle.answered.proofs.Answering.{demand1}
use Rattle.std.specs.Prelude.{Ok, Err, None, Some}
use Rattle.over.specs.Hits.{Searched}

-- refusal and place, zeros where nothing is said
abbrev pub saying : Option (ℕ × ℕ) → ℕ × ℕ
saying Option.none = (0, 0)
saying (some r) = r

pub due : (rows : List Row) → first_due rows ≡ saying (first_of rows)
unfolding first_due first_of
due [] = refl
due (r ∷ rs) = by_test r.due (λ h. rw h) (λ h. rw h (due rs))

pub numbered : (r : Refusal) → 1 ≤ number r
numbered Steps = omega arith
numbered Gaps = omega arith
numbered Room = omega arith
numbered Unsound = omega arith
numbered Kind = omega arith
numbered Tick = omega arith
numbered Length = omega arith
numbered (Record i) = omega arith
numbered Runs = omega arith
numbered Overfull = omega arith
numbered Taken = omega arith
numbered Absent = omega arith
numbered Short = omega arith
numbered Line = omega arith
numbered Caption = omega arith
numbered Edition = omega arith

replies : (back : Fields) (v : Verdict State) (rows : List Row) (before after : List ℤ) → Answered (said v) rows before after → Replies rows back before after (replying back (answer v))
unfolding said replying answer
replies back (Err r) rows before after a = record { exactly = ap saying a.exactly ∙ sym (due rows); untouched = λ h. (refl, a.untouched (number r, place r) refl) }
replies back (Ok s) rows before after a = record { exactly = ap saying a.exactly ∙ sym (due rows); untouched = λ h. absurd (h refl) }

tallies : (back : Fields) (used : ℕ) (v : Verdict State) (t : Tally) → Tallies used (replying back (answer v)) t (counted t used v)
unfolding said counted grown replying answer
tallies back used (Err r) t = record { counts_refused = λ h. demand1.tally t used (Err r) (number r, place r) refl; counts_accepted = λ h. absurd (omega (arith, h, numbered r)) }
tallies back used (Ok s) t = record { counts_refused = λ h. absurd (h refl); counts_accepted = λ h. refl }

shows_found : (f : Verdict Found) (rows : List Row) → said_found f ≡ first_of rows → Shows rows (showing f)
unfolding said_found showing
shows_found (Err r) rows e = record { exactly = ap saying e ∙ sym (due rows); zeros = λ h. refl }
shows_found (Ok f) rows e = record { exactly = ap saying e ∙ sym (due rows); zeros = λ h. absurd (h refl) }

points : (s : Searched) (rows : List Row) → said_sought s ≡ first_of rows → Points rows (pointing s)
unfolding said_sought pointing
points (Err r) rows e = record { exactly = ap saying e ∙ sym (due rows); zeros = λ h. refl }
points (Ok None) rows e = record { exactly = ap saying e ∙ sym (due rows); zeros = λ h. absurd (h refl) }
points (Ok (Some h)) rows e = record { exactly = ap saying e ∙ sym (due rows); zeros = λ h. absurd (h refl) }

errs : (m : Verdict ℕ) (rows : List Row) → said_measured m ≡ first_of rows → Errs rows (erring m)
unfolding said_measured erring
errs (Err r) rows e = record { exactly = ap saying e ∙ sym (due rows); none_told = λ h. refl }
errs (Ok n) rows e = record { exactly = ap saying e ∙ sym (due rows); none_told = λ h. absurd (h refl) }

counts : {A : Type 0} (w : Verdict ℕ) (rows : List Row) (before after : List A) → Answered (said_written w) rows before after → Counts rows before after (telling w)
unfolding said_written telling
counts (Err r) rows before after a = record { exactly = ap saying a.exactly ∙ sym (due rows); untouched = λ h. (refl, a.untouched (number r, place r) refl) }
counts (Ok n) rows before after a = record { exactly = ap saying a.exactly ∙ sym (due rows); untouched = λ h. absurd (h refl) }

eight : (back : Fields) (v : Verdict State) → (replying back (answer v)).refusal ≡ 8 → said v ≡ some (8, (replying back (answer v)).place)
unfolding said replying answer
eight back (Err r) e = ap (λ (n : ℕ). some (n, place r)) e
eight back (Ok s) e = absurd (omega arith)

pub exported_demand1 : ExportedDemand1
unfolding sound clauses edition_good all_of bounded next_verdict late_verdict lookup_outcome found_of write_verdict search_outcome sought_of worst_outcome checked traced wrote answer replying showing telling pointing erring kind_of size_of
exported_demand1 = record {
  opens = λ named l. let g = opening_of named in replies none (opened g l).0 (open_rows g l) l (opened g l).1 (demand1.opens g l);
  nexts = λ f l v. let s = state_from f in replies f (next_outcome s l v).0 (next_rows s l) l (next_outcome s l v).1 (demand1.nexts s l v);
  lates = λ f l tick v. let s = state_from f in replies f (late_outcome s l tick v).0 (late_rows s l tick v) l (late_outcome s l tick v).1 (demand1.lates s l tick v);
  next_tallies = λ f l v. tallies f f.used (next_outcome (state_from f) l v).0;
  late_tallies = λ f l tick v. tallies f f.used (late_outcome (state_from f) l tick v).0;
  lookups = λ f l tick. let s = state_from f in shows_found (lookup_outcome s l tick) (lookup_rows s l tick) (demand1.lookups s l tick);
  searches = λ f l first last bar. let s = state_from f in points (search_outcome s l first last bar) (search_rows s l first last) (demand1.searches s l first last bar);
  worsts = λ f l. let s = state_from f in errs (worst_outcome s l) (worst_rows s l) (demand1.worsts s l);
  rows = λ f l out. let s = state_from f in counts (row_outcome s l out).0 (write_rows s l (length out) f.used) out (row_outcome s l out).1 (demand1.rows s l out);
  saves = λ f l out. let s = state_from f in counts (save_outcome s l out).0 (write_rows s l (length out) (record_width * f.used)) out (save_outcome s l out).1 (demand1.saves s l out);
  loads = λ named file l. let g = opening_of named in replies none (loaded g file l).0 (open_rows g l ++ file_rows g file) l (loaded g file l).1 (demand1.loads g file l);
  places = λ named file l e. let g = opening_of named in demand1.places g file l (replying none (answer (loaded g file l).0)).place (eight none (loaded g file l).0 e);
  kinds = (refl, λ n. refl);
  openings = λ kind size gaps edition n. (refl, refl);
  same_open = λ kind b gaps edition n l. ap (λ (o : Verdict State × List ℤ). replied none (answered o)) (demand1.same_open (kind_of kind) b gaps edition l);
  same_load = λ kind b gaps edition n file l. ap (λ (o : Verdict State × List ℤ). replied none (answered o)) (demand1.same_load (kind_of kind) b gaps edition file l);
  unsound = λ l. refl;
  unusable = λ l tick last v out bytes. refl;
}
