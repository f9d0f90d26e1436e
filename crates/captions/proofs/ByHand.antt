-- The captions worked by hand: both sides compute to the same.
use mathlib.Core.Path.{refl}
use Rattle.captions.specs.Caption.{all_printable, caption_good, escaped, leaving, printable, standing, starts_with, unescaped_after}
use Rattle.captions.specs.ByHand.{ByHand, bytes, captions, others}

pub by_hand : ByHand
unfolding all_printable caption_good escaped leaving printable standing starts_with unescaped_after bytes captions others
by_hand = record { leave = refl; typed = refl; read = refl; good = refl }
