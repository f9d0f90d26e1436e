-- The lines worked by hand: both sides compute to the same.
use mathlib.Core.Path.{refl}
use Rattle.rule.specs.Room.{within}
use Rattle.notation.specs.Reading.{digits, digits_after, first_space, is_digit, line_of, negated, number, same, signed_field, spaced, unsigned_field}
use Rattle.notation.specs.LinesByHand.{ByHand, lines}

pub by_hand : ByHand
unfolding lines digits digits_after first_space is_digit line_of negated number same signed_field spaced unsigned_field within
by_hand = record { meanings = refl }
