use Rattle.std.proofs.Common.{◌≡◌, suc, ◌-◌, cond, length}
use Rattle.listing.specs.Feeding.{has_ended}
use Rattle.listing.proofs.Listed.{Reached}
use Rattle.listing.proofs.Passing.{most_passed, passed}
use Rattle.list.proofs.list.Given as goal

abbrev pub invariant-pieces : goal.invariant-pieces
invariant-pieces l = record { room : length l.room ≡ 3076; line : length l.line ≡ 64; piece : length l.piece ≡ 65536; reached : Reached l.state l.room l.line }

abbrev pub decreases-pieces : goal.decreases-pieces
decreases-pieces l = cond (has_ended l.state.last) 0 (suc (most_passed - passed l.state))
