use Rattle.std.proofs.Common.{◌≡◌, length}
use Rattle.sketching.proofs.Passing.{Reached, left}
use Rattle.svg.proofs.draw.Given as goal

abbrev pub invariant-pieces : goal.invariant-pieces
invariant-pieces l = record {
  room : length l.room ≡ 3076;
  line : length l.line ≡ 64;
  caption : length l.caption ≡ 201;
  piece : length l.piece ≡ 65536;
  reached : Reached l.heading l.caption l.state l.room l.line;
}

abbrev pub decreases-pieces : goal.decreases-pieces
decreases-pieces l = left l.heading l.caption l.state
