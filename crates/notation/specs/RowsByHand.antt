-- Listings worked by hand: document 01's, the lowest numbers that are printed, and a listing of nothing.
use Rattle.std.specs.Prelude.{◌≡◌, [], ◌∷◌, pos, negsuc}
use Rattle.rule.specs.ByHand.{bucket}
use Rattle.notation.specs.Signs.{ascii}
use Rattle.notation.specs.Printing.{listing, refused}

pub record ByHand : Type 0 where
  pub listed : listing (bucket 0 3 (pos 1) (pos 4) ∷ bucket 3 2 (pos 8) (pos 9) ∷ bucket 5 2 (pos 2) (pos 3) ∷ []) ≡ ascii "0 3 1 4 2\n3 2 8 9 8\n5 2 2 3 2\ntotal 7 3 2\n"
  pub lowest : listing (bucket 16777215 1 (negsuc 2147483647) (negsuc 2147483647) ∷ []) ≡ ascii "16777215 1 -2147483648 -2147483648 -2147483648\ntotal 1 1 0\n"
  pub none : listing [] ≡ ascii "total 0 0 0\n"
  pub refusal : refused 10 14 ≡ ascii "refused 10 14\n"
