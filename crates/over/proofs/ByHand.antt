-- The searches worked by hand are what the definitions say.
use mathlib.Core.Path.{refl}
use Rattle.rule.specs.Calls.{checked}
use Rattle.rule.specs.Room.{all_of, all_zero, bounded, clauses, edition_good, flat, gaps_good, ranged, rest_zero, roomy, runs_allowed, slot, slot_ranged, slots, sound, within}
use Rattle.rule.specs.Rules.{broken, equal, fault_at, first_false, first_fault, follows, is_whole, ruled, rules}
use Rattle.rule.specs.Table.{limit_over, readings, runs, runs_after}
use Rattle.over.specs.Search.{first_over, over, search_outcome, sought, sought_of, touches}
use Rattle.over.specs.ByHand.{ByHand}

pub by_hand : ByHand
unfolding checked all_of all_zero bounded clauses edition_good flat gaps_good ranged rest_zero roomy runs_allowed slot slot_ranged slots sound within broken equal fault_at first_false first_fault follows is_whole ruled rules limit_over readings runs runs_after first_over over search_outcome sought sought_of touches
by_hand =
    record {
      at_the_bar = refl;
      above_it = refl;
      first_of_two = refl;
      last_bucket = refl;
      nowhere = refl;
      begins_inside = refl;
      ends_inside = refl;
      inside = refl;
      one_before = refl;
      gap = refl;
      from_gap = refl;
      behind = refl;
      empty = refl;
      empty_far = refl;
      first_above = refl;
      last_above = refl;
      unsound = refl;
    }
