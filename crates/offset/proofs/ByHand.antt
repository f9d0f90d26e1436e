-- The calls worked by hand are what the definitions say.
use Prim.Native.Nat.{ℕ, zero, suc}
use mathlib.Core.Path.{◌≡◌, refl, ap, ◌∙◌}
use mathlib.Core.Bool.{true, ◌&&◌}
use mathlib.Core.List.Memᴰ
use mathlib.Core.List.{List, [], ◌∷◌, map}
use mathlib.Core.Logic.{⊎_elim}
use borrow.Author.Tests.{ltb-true}
use lib.Dec.{ltb}
use lib.IntN.{ℤ, pos, negsuc, ◌+ℤ◌}
use lib.ListN.{get_or, length}
use Rattle.rule.proofs.Ruling.{and_left, and_right}
use Rattle.storage.specs.Bytes.{AllBytes}
use native.Mathlib.Omega.{arith}
use Rattle.rule.specs.Bucket.{distance, larger, lesser, middle}
use Rattle.rule.specs.Table.{ahead, accept, cheaper, cheapest, choice, holding, holds, insert, last_end, limit_over, merge, merge_at, merge_of, readings, runs, runs_after, settle, settle_in, worst, weight}
use Rattle.rule.specs.Rules.{broken, equal, fault_at, first_false, first_fault, follows, is_whole, place_or, ruled, rules}
use Rattle.rule.specs.Room.{all_of, all_zero, bounded, clauses, edition_good, flat, gaps_good, laid, ranged, rest_zero, roomy, runs_allowed, signed, slot, slot_ranged, slots, sound, within, zeros}
use Rattle.rule.specs.Bytes.{bits, bytes, reading, record_at, records, records_of, saved, saved_record, word_at}
use Rattle.rule.specs.Calls.{admitted, base_of, checked, counted, file_verdict, found, found_of, gaps_kept, grown, is_held, late, late_verdict, lookup_outcome, next_verdict, onward, size_good, traced, worst_outcome, write_verdict, wrote}
use Rattle.series.specs.Counts.{or_counted, tallied}
use Rattle.series.specs.Series.{fed_from, or_end, timed}
use Rattle.over.specs.Search.{first_over, over, search_outcome, sought, sought_of, touches}
use Rattle.logger.specs.Replay as logger
use Rattle.logger.specs.Replay.{frame_at, frames, frames_of, gone_on, higher, newest, replay_verdict, replayed, signed_turn, tick_from, wrapped}
use Rattle.offset.specs.Caller.{after, answer, answers, begun, kept, left, part, played, recount}
use Rattle.offset.specs.Offset.{AllFit, AllHigher, FileMoved, FilesMoved, RecordingMoved, bytes_of, each, lates_many_too, lates_too, loads_too, lookups_too, moved_frame, nexts_many_too, nexts_too, none, opens_too, readings_of, replays_too, rows_too, saves_too, searches_too, worsts_too}
use Rattle.offset.specs.ByHand.{ByHand, ends, files, files_moved, recorded, recorded_moved}

-- a list whose numbers are tested one by one
bytes_all : (l : List ℕ) → all_of (map (λ n. ltb n 256) l) ≡ true → AllBytes l
unfolding all_of
bytes_all [] e i = omega arith
bytes_all (n ∷ l) e zero = ltb-true n 256 (and_left (ltb n 256) (all_of (map (λ n. ltb n 256) l)) e)
bytes_all (n ∷ l) e (suc i) = bytes_all l (and_right (ltb n 256) (all_of (map (λ n. ltb n 256) l)) e) i

-- the files that a caller has, each
moved_empty : (i : ℕ) → FileMoved (pos 1001) (get_or {A = List ℕ} [] i []) (get_or {A = List ℕ} [] i [])
unfolding records_of records
moved_empty i = record { bytes = λ j. omega arith; bytes_too = λ j. omega arith; long = refl; records = refl }

moved_each : FilesMoved (pos 1001) files files_moved
unfolding records_of records record_at word_at reading all_of
moved_each zero = record { bytes = bytes_all (get_or files 0 []) refl; bytes_too = bytes_all (get_or files_moved 0 []) refl; long = refl; records = refl }
moved_each (suc zero) = record { bytes = bytes_all (1 ∷ []) refl; bytes_too = bytes_all (1 ∷ []) refl; long = refl; records = refl }
moved_each (suc (suc i)) = moved_empty i

-- readings that are tested one by one
fit_all : (d : ℤ) (vs : List ℤ) → all_of (map (λ v. signed v && signed (v +ℤ d)) vs) ≡ true → AllFit d vs
unfolding all_of
fit_all d [] e v m = absurd (Memᴰ.not-nil m)
fit_all d (x ∷ vs) e v m =
    let good = and_left (signed x && signed (x +ℤ d)) (all_of (map (λ v. signed v && signed (v +ℤ d)) vs)) e in
    ⊎_elim
    (λ q. rw q (and_left (signed x) (signed (x +ℤ d)) good, and_right (signed x) (signed (x +ℤ d)) good))
    (fit_all d vs (and_right (signed x && signed (x +ℤ d)) (all_of (map (λ v. signed v && signed (v +ℤ d)) vs)) e) v)
    (Memᴰ.cases_cons m)

recording_moves : (r q : List ℕ) → length q ≡ length r → frames_of q ≡ map (moved_frame (pos 1001)) (frames_of r) → all_of (map (λ v. signed v && signed (v +ℤ pos 1001)) (readings_of r)) ≡ true → RecordingMoved (pos 1001) r q
recording_moves r q long same fits = record { long = long; records = same; fit = fit_all (pos 1001) (readings_of r) fits }

-- a reading by each of the calls that feed one or many
fed_ends : (d v : ℤ) → signed v ≡ true → signed (v +ℤ d) ≡ true → AllHigher d (ends v) (ends (v +ℤ d))
fed_ends d v e f =
    let fit : AllFit d (v ∷ []) = λ w i. let same = Memᴰ.eq_of_singleton i in (ap signed same ∙ e, ap (λ (x : ℤ). signed (x +ℤ d)) same ∙ f) in
    each (nexts_too v e f) (each (lates_too 9 v e f) (each (nexts_many_too (v ∷ []) fit) (each (lates_many_too (9 ∷ []) (v ∷ []) fit) none)))

pub by_hand : ByHand
unfolding logger.after frame_at frames gone_on higher newest replay_verdict replayed signed_turn tick_from wrapped bytes_of played recount distance larger lesser middle accept ahead weight cheaper cheapest choice holding holds insert last_end limit_over merge merge_at merge_of readings runs runs_after settle settle_in worst broken equal fault_at first_false first_fault follows is_whole place_or ruled rules all_of all_zero bounded clauses edition_good flat gaps_good laid ranged rest_zero roomy runs_allowed slot slot_ranged slots sound within zeros bits bytes reading record_at records records_of saved saved_record word_at admitted base_of size_good checked counted file_verdict found found_of gaps_kept grown is_held late late_verdict lookup_outcome next_verdict traced write_verdict wrote first_over over search_outcome sought sought_of touches worst_outcome onward after answer answers begun kept left part fed_from or_end timed or_counted tallied
by_hand =
    record {
      near_ground = refl;
      with_offset = refl;
      late_near_ground = refl;
      late_with_offset = refl;
      many_near_ground = refl;
      many_with_offset = refl;
      files_near_ground = refl;
      files_with_offset = refl;
      replay_near_ground = refl;
      replay_with_offset = refl;
      edition_near_ground = refl;
      edition_with_offset = refl;
      tallied = refl;
      late_tallied = refl;
      many_tallied = refl;
      replay_tallied = refl;
      calls_higher = each (opens_too _ _ _ refl) (each (nexts_too (negsuc 2) refl refl) (each (nexts_too (pos 0) refl refl) (each (nexts_too (pos 50) refl refl) (each (lookups_too _) (each (searches_too 1 9 (pos 0)) (each (searches_too 0 9 (pos 50)) (each (searches_too 0 1 (pos 50)) (each worsts_too (each (rows_too _ _ refl) (each (saves_too _ _ refl) (each (loads_too _ _ _ _ refl) (each (lookups_too _) (each (lookups_too _) (each (nexts_too (pos 50) refl refl) (each worsts_too (each (rows_too _ _ refl) (each (opens_too _ _ _ refl) (each (loads_too _ _ _ _ refl) none))))))))))))))))));
      late_higher = each worsts_too (each (searches_too 0 9 (negsuc 2)) (each (opens_too _ _ _ refl) (each (lates_too 5 (negsuc 2) refl refl) (each (lates_too 5 (pos 50) refl refl) (each (nexts_too (pos 50) refl refl) (each (saves_too _ _ refl) (each (lates_too 3 (pos 50) refl refl) (each (opens_too _ _ _ refl) (each (saves_too _ _ refl) (each (rows_too _ _ refl) (each (searches_too 3 5 (pos 50)) (each (searches_too 4 5 (negsuc 2)) (each (searches_too 4 4 (negsuc 2)) (each (searches_too 9 16777216 (negsuc 2)) (each (saves_too _ _ refl) (each (loads_too _ _ _ _ refl) (each (lookups_too _) (each (loads_too _ _ _ _ refl) (each (lookups_too _) (each (lookups_too _) (each (lates_too 6 (pos 50) refl refl) (each (lates_too 7 (negsuc 2) refl refl) (each (lates_too 8 (negsuc 2) refl refl) (each (saves_too _ _ refl) (each (loads_too _ _ _ _ refl) none)))))))))))))))))))))))));
      many_higher = each (nexts_many_too (negsuc 2 ∷ []) (fit_all (pos 1001) _ refl)) (each (opens_too _ _ _ refl) (each (nexts_many_too (negsuc 2 ∷ pos 0 ∷ pos 50 ∷ []) (fit_all (pos 1001) _ refl)) (each (lookups_too _) (each (nexts_many_too [] (fit_all (pos 1001) _ refl)) (each (lates_many_too _ (pos 50 ∷ []) (fit_all (pos 1001) _ refl)) (each (opens_too _ _ _ refl) (each (lates_many_too _ (pos 0 ∷ negsuc 2 ∷ pos 50 ∷ pos 50 ∷ []) (fit_all (pos 1001) _ refl)) (each (lates_many_too _ (pos 50 ∷ pos 50 ∷ negsuc 2 ∷ []) (fit_all (pos 1001) _ refl)) (each (rows_too _ _ refl) (each (nexts_many_too (negsuc 2 ∷ pos 0 ∷ []) (fit_all (pos 1001) _ refl)) none))))))))));
      replay_higher = let whole = recording_moves (recorded []) (recorded_moved []) refl refl refl in let more = recording_moves (recorded (1 ∷ [])) (recorded_moved (1 ∷ [])) refl refl refl in each (replays_too _ _ _ _ _ _ _ whole refl) (each (lookups_too _) (each (lookups_too _) (each (lates_too 32770 (pos 50) refl refl) (each (replays_too _ _ _ _ _ _ _ more refl) (each (replays_too _ _ _ _ _ _ _ whole refl) (each (lates_too 32769 (pos 50) refl refl) (each (lookups_too _) (each (lates_too 32771 (pos 50) refl refl) (each (rows_too _ _ refl) (each (saves_too _ _ refl) (each (replays_too _ _ _ _ _ _ _ (recording_moves [] [] refl refl refl) refl) (each (lookups_too _) (each (loads_too _ _ _ _ refl) none)))))))))))));
      edition_higher = each (opens_too _ _ _ refl) (each (nexts_many_too (negsuc 2 ∷ negsuc 2 ∷ negsuc 2 ∷ negsuc 2 ∷ []) (fit_all (pos 1001) _ refl)) (each (rows_too _ _ refl) (each (opens_too _ _ _ refl) (each (saves_too _ _ refl) (each (loads_too _ _ _ _ refl) (each (nexts_too (negsuc 2) refl refl) (each (rows_too _ _ refl) (each (replays_too _ _ _ _ _ _ _ (recording_moves [] [] refl refl refl) refl) none))))))));
      no_files = moved_empty;
      moved_files = moved_each;
      recording_raised = refl;
      far_up = fed_ends (pos 4294967295) (negsuc 2147483647) refl refl;
      far_down = fed_ends (negsuc 4294967294) (pos 2147483647) refl refl;
    }
