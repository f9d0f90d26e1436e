-- A text with numbers in it, byte by byte.
use Prim.Native.Nat.{ℕ, ◌+◌, ◌≤◌, ◌<◌}
use mathlib.Core.Path.{◌≡◌, refl}
use mathlib.Core.List.{List, [], ◌∷◌, ◌++◌}
use native.Mathlib.Numerals.{add-one}
use native.Mathlib.Omega.{arith}
use borrow.Author.Tests.{eq-eqb, ne_eqb}
use denote.Ref.{Bor}
use lib.IntN.{ℤ, pos}
use lib.ListN.{length, get_or, get_or-eq_default, drop, drop_of_length-le}
use lib.Seq.{drop-cons}
use Rattle.std.proofs.Common.{Iter, Option, None, Some, option_copied}
use Rattle.std.specs.Option.{unwrap_or}
use Rattle.std.specs.Slice.Iter.{iter_rest, iter_steps}
use Rattle.notation.specs.Printing.{whole}
use Rattle.output.specs.Output.{filled, mark, sign, unused}

-- the next number, 0 where there is none, and those behind it
pub number_next : (s u : Iter ℤ) (r : Option (Bor ℤ)) → iter_steps s r u → (unwrap_or (option_copied r) (pos 0) ≡ get_or (iter_rest s) 0 (pos 0)) × (iter_rest u ≡ drop 1 (iter_rest s))
number_next s u None h =
    rw (h.1, get_or-eq_default (iter_rest s) (pos 0) {n = 0} (omega (arith, h.0)), drop_of_length-le (iter_rest s) {i = 1} (omega (arith, h.0))) (refl, drop_of_length-le (iter_rest s) {i = 0} (omega (arith, h.0)))
number_next s u (Some x) h = rw h (refl, refl)

module _ (t : List ℕ) (ns : List ℤ) (i : ℕ) where
  pub mark_next : i < length t → get_or t i 0 ≡ mark → filled (drop i t) ns ≡ whole (get_or ns 0 (pos 0)) ++ filled (drop (i + 1) t) (drop 1 ns)
  unfolding filled sign unused
  mark_next h e = rw (drop-cons t i 0 h, add-one i, eq-eqb (get_or t i 0) mark e)

  pub byte_next : i < length t → (get_or t i 0 ≡ mark → ⊥) → filled (drop i t) ns ≡ (get_or t i 0 ∷ []) ++ filled (drop (i + 1) t) ns
  unfolding filled sign unused
  byte_next h e = rw (drop-cons t i 0 h, add-one i, ne_eqb (get_or t i 0) mark e)

  pub filled_done : length t ≤ i → filled (drop i t) ns ≡ []
  unfolding filled
  filled_done h = rw (drop_of_length-le t {i = i} h)
