-- Inputs worked by hand: document 01's, inputs of which a line is refused, one without a last line feed, a level that is rounded below 0, and a late trace whose readings arrive in order.
use Prim.Native.String.{String}
use Rattle.std.specs.Prelude.{◌≡◌, List, [], ◌∷◌, map}
use Rattle.notation.specs.Signs.{ascii}
use Rattle.listing.specs.Listing.{output}

unfoldable pub outputs : List (String × String)
outputs =
    ("steps 1\nlate 2\n0 1\n1 4\n2 2\n3 9\n6 2\n5 3\n4 8\n", "0 3 1 4 2\n3 2 8 9 8\n5 2 2 3 2\ntotal 7 3 2\n")
    ∷ ("", "total 0 0 0\n")
    ∷ ("5", "0 1 5 5 5\ntotal 1 1 0\n")
    ∷ ("5\n", "0 1 5 5 5\ntotal 1 1 0\n")
    ∷ ("5\n\n", "refused 2 14\n")
    ∷ ("\n", "refused 1 14\n")
    ∷ ("steps 0\n", "refused 1 1\n")
    ∷ ("steps 1\nsteps 1\n", "refused 2 14\n")
    ∷ ("late 2\nsteps 1\n", "refused 2 14\n")
    ∷ ("late 0", "refused 1 2\n")
    ∷ ("late 257\n0 1\n", "refused 1 2\n")
    ∷ ("1\nlate 2\n", "refused 2 14\n")
    ∷ ("0 1\n", "refused 1 14\n")
    ∷ ("late 1\n1\n", "refused 2 14\n")
    ∷ ("late 1\n0 1\n0 1\n7", "refused 3 11\n")
    ∷ ("late 1\n0 1\n2 1\nx\n", "refused 3 9\n")
    ∷ ("late 1\n16777216 1\n", "refused 2 6\n")
    ∷ ("x\nx\n", "refused 1 14\n")
    ∷ ("steps 1\n1\n4\n2\n9", "0 3 1 4 2\n3 1 9 9 9\ntotal 4 2 2\n")
    ∷ ("steps 1\nlate 1\n0 1\n1 4\n2 2\n3 9\n", "0 1 1 1 1\n1 2 2 4 3\n3 1 9 9 9\ntotal 4 3 1\n")
    ∷ ("5\nsteps 1\n", "refused 2 14\n")
    ∷ ("5\nsteps 0\n", "refused 2 14\n")
    ∷ ("steps 1\nlate 1\nlate 1\n", "refused 3 14\n")
    ∷ ("late 1\n0 1\nlate 0\n", "refused 3 14\n")
    ∷ ("5\t6\n", "refused 1 14\n")
    ∷ ("5\r\n", "refused 1 14\n")
    ∷ ("16777216 1\n", "refused 1 14\n")
    ∷ ("late 1\n0 -5\n", "0 1 -5 -5 -5\ntotal 1 1 0\n")
    ∷ ("steps 1\n-3\n0\n9\n", "0 2 -3 0 -2\n2 1 9 9 9\ntotal 3 2 2\n")
    ∷ ("steps 257\n", "refused 1 1\n")
    ∷ ("steps 300\n", "refused 1 1\n")
    ∷ ("steps 256\nlate 256\n", "total 0 0 0\n")
    ∷ []

pub record ByHand : Type 0 where
  pub worked : map (λ e. output (ascii e.0)) outputs ≡ map (λ e. ascii e.1) outputs
