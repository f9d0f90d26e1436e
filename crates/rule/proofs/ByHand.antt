-- H1 to H12 hold: both sides of each row compute to the same.
use mathlib.Core.Path.{refl}
use Rattle.rule.specs.Bucket.{distance, larger, lesser, middle}
use Rattle.rule.specs.Table.{ahead, cheaper, cheapest, choice, holding, holds, insert, last_end, limit_over, merge, merge_at, merge_of, readings, runs, runs_after, settle, settle_in, accept, weight, worst}
use Rattle.rule.specs.Rules.{broken, equal, fault_at, first_false, first_fault, follows, is_whole, ruled, rules}
use Rattle.rule.specs.Room.{all_of, all_zero, bounded, clauses, edition_good, flat, gaps_good, laid, ranged, rest_zero, roomy, runs_allowed, slot, slot_ranged, slots, sound, within, zeros}
use Rattle.rule.specs.Bytes.{bits, bytes, reading, record_at, saved, saved_record, word_at}
use Rattle.rule.specs.Calls.{admitted, base_of, checked, gaps_kept, is_held, late, late_verdict, next_verdict, size_good, traced, write_verdict, wrote}
use Rattle.rule.specs.ByHand.{ByHand, feed, feed_to, feed_late, feed_late_to, leaves, saves, start, worst_to}

pub by_hand : ByHand
unfolding distance larger lesser middle ahead weight cheaper cheapest choice holding holds insert last_end limit_over merge merge_at merge_of readings runs runs_after settle settle_in accept worst broken equal fault_at first_false first_fault follows is_whole ruled rules all_of all_zero bounded clauses edition_good flat gaps_good laid ranged rest_zero roomy runs_allowed slot slot_ranged slots sound within zeros bits bytes reading record_at saved saved_record word_at admitted base_of gaps_kept is_held late late_verdict next_verdict checked size_good traced write_verdict wrote feed feed_to feed_late feed_late_to leaves saves start worst_to
by_hand =
    record {
      h1 = refl;
      h1_worst = refl;
      h2 = refl;
      h3 = refl;
      h4 = refl;
      h5 = refl;
      h5_worst = refl;
      h6_level = refl;
      h6_error = refl;
      h7_level = refl;
      h7_error = refl;
      h8 = refl;
      h8_worst = refl;
      h9 = refl;
      h10 = refl;
      h10_number = refl;
      h11 = refl;
      h11_refused = refl;
      h11_number = refl;
      h12 = refl;
      every_byte = refl;
      every_byte_read = refl;
      one_step = refl;
      three_steps = refl;
      one_and_the_runs = refl;
      one_and_a_run = refl;
      no_size = refl;
      a_size = refl;
      flat_first = refl;
      flat_second = refl;
      late_first = refl;
      late_second = refl;
      closed_first = refl;
      closed_second = refl;
      spread_before_ticks = refl;
      start_among_equal_ticks = refl;
      no_edition = refl;
      an_edition = refl;
      edition_number = refl;
    }
