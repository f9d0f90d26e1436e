-- The inputs worked by hand: both sides compute to the same.
use mathlib.Core.Path.{refl}
use Rattle.rule.specs.Bucket.{distance, larger, lesser, middle}
use Rattle.rule.specs.Calls.{admitted, base_of, gaps_kept, is_held, late, late_verdict, next_verdict, checked, size_good, traced}
use Rattle.rule.specs.Room.{all_of, all_zero, bounded, clauses, edition_good, flat, gaps_good, laid, ranged, rest_zero, roomy, runs_allowed, slot, slot_ranged, slots, sound, within, zeros}
use Rattle.rule.specs.Rules.{broken, equal, fault_at, first_false, first_fault, follows, is_whole, ruled, rules}
use Rattle.rule.specs.Table.{ahead, accept, cheaper, cheapest, choice, holding, holds, insert, last_end, limit_over, merge, merge_at, merge_of, readings, runs, runs_after, settle, settle_in, worst, weight}
use Rattle.notation.specs.Printing.{decimal, decimal_in, line, listing, refused, row, rows, total, whole}
use Rattle.notation.specs.Reading.{digits, digits_after, first_space, is_digit, line_of, negated, number, same, signed_field, spaced, unsigned_field}
use Rattle.trace.specs.Answers.{answer}
use Rattle.listing.specs.Listing.{begins, begun, lines, obeyed, output, read, read_all, shown}
use Rattle.listing.specs.ByHand.{ByHand, outputs}

pub by_hand : ByHand
unfolding distance larger lesser middle admitted base_of size_good gaps_kept is_held late late_verdict next_verdict checked traced all_of all_zero bounded clauses edition_good flat gaps_good laid ranged rest_zero roomy runs_allowed slot slot_ranged slots sound within zeros broken equal fault_at first_false first_fault follows is_whole ruled rules accept ahead weight cheaper cheapest choice holding holds insert last_end limit_over merge merge_at merge_of readings runs runs_after settle settle_in worst decimal decimal_in line listing refused row rows total whole digits digits_after first_space is_digit line_of negated number same signed_field spaced unsigned_field answer begins begun lines obeyed output read read_all shown outputs
by_hand = record { worked = refl }
