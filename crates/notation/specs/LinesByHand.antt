-- Lines worked by hand: those of document 01, and lines at the edges of what can be read.
use Prim.Native.String.{String}
use Rattle.std.specs.Prelude.{◌≡◌, List, [], ◌∷◌, map, Option, Some, None, pos, negsuc}
use Rattle.notation.specs.Signs.{ascii}
use Rattle.notation.specs.declared.Line.{Line}
use Rattle.notation.specs.declared.Line.TheVariants.{Steps, Late, Alone, Pair}
use Rattle.notation.specs.Reading.{line_of}

unfoldable pub lines : List (String × Option Line)
lines =
    ("steps 1", Some (Steps 1))
    ∷ ("late 2", Some (Late 2))
    ∷ ("6 2", Some (Pair 6 (pos 2)))
    ∷ ("-3", Some (Alone (negsuc 2)))
    ∷ ("steps 4294967295", Some (Steps 4294967295))
    ∷ ("steps 4294967296", None)
    ∷ ("steps -1", None)
    ∷ ("late -0", Some (Late 0))
    ∷ ("late", None)
    ∷ ("Late 2", None)
    ∷ ("2147483647", Some (Alone (pos 2147483647)))
    ∷ ("2147483648", None)
    ∷ ("-2147483648", Some (Alone (negsuc 2147483647)))
    ∷ ("-2147483649", None)
    ∷ ("0000000007", Some (Alone (pos 7)))
    ∷ ("00000000007", None)
    ∷ ("-0000000007", Some (Alone (negsuc 6)))
    ∷ ("--7", None)
    ∷ ("+7", None)
    ∷ ("-", None)
    ∷ ("", None)
    ∷ ("1 2 3", None)
    ∷ ("1  2", None)
    ∷ (" 1", None)
    ∷ ("1 ", None)
    ∷ ("1\r", None)
    ∷ ("1\t2", None)
    ∷ ("-1 2", None)
    ∷ ("0 -5", Some (Pair 0 (negsuc 4)))
    ∷ ("-0 5", Some (Pair 0 (pos 5)))
    ∷ ("-0000000000 -0000000005", Some (Pair 0 (negsuc 4)))
    ∷ ("4294967295 -2147483648", Some (Pair 4294967295 (negsuc 2147483647)))
    ∷ ("5:", None)
    ∷ ("5/", None)
    ∷ ("stepsx 1", None)
    ∷ ("step 1", None)
    ∷ ("steps -0", Some (Steps 0))
    ∷ []

pub record ByHand : Type 0 where
  pub meanings : map (λ e. line_of (ascii e.0)) lines ≡ map (λ e. e.1) lines
