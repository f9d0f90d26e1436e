-- What a line means is in the ranges of its fields, and a line that is too long means nothing.
use Prim.Native.Nat.{ℕ, ◌<◌}
use mathlib.Core.Path.{◌≡◌}
use mathlib.Core.Bool.{true}
use mathlib.Core.List.{List}
use lib.Dec.{eqb, ltb}
use lib.ListN.{length}
use borrow.Author.Tests.{lt-ltb}
use Rattle.std.proofs.Common.{ℤ, Option, Some, None}
use Rattle.rule.specs.Room.{signed}
use Rattle.rule.proofs.Whole.{by_test}
use Rattle.notation.specs.declared.Line.{Line}
use Rattle.notation.specs.Reading.{alone, first_space, late_word, late, line_most, line_of, number, pair, same, signed_field, spaced, steps, steps_word, unsigned_field}

-- readings are in the range of their field
unfoldable pub Ranged : Option Line → Type 0
Ranged (Some (Line.Steps b)) = Unit {0}
Ranged (Some (Line.Late k)) = Unit {0}
Ranged (Some (Line.Alone v)) = signed v ≡ true
Ranged (Some (Line.Pair tick v)) = signed v ≡ true
Ranged None = Unit {0}

alone_ranged : (n : Option ℤ) → Ranged (alone (signed_field n))
unfolding signed_field Ranged
alone_ranged (Some z) = by_test (signed z) (λ e. rw e e) (λ e. rw e tt)
alone_ranged None = tt

pair_ranged : (t : Option ℕ) (n : Option ℤ) → Ranged (pair t (signed_field n))
unfolding signed_field Ranged
pair_ranged (Some t) (Some z) = by_test (signed z) (λ e. rw e e) (λ e. rw e tt)
pair_ranged (Some t) None = tt
pair_ranged None n = tt

steps_ranged : (n : Option ℕ) → Ranged (steps n)
unfolding Ranged
steps_ranged (Some b) = tt
steps_ranged None = tt

late_ranged : (n : Option ℕ) → Ranged (late n)
unfolding Ranged
late_ranged (Some k) = tt
late_ranged None = tt

spaced_ranged : (before after : List ℕ) → Ranged (spaced before after)
unfolding spaced
spaced_ranged before after =
    by_test (same before steps_word) (λ e. rw e (steps_ranged (unsigned_field (number after))))
    (λ e. rw e (by_test (same before late_word) (λ f. rw f (late_ranged (unsigned_field (number after)))) (λ f. rw f (pair_ranged (unsigned_field (number before)) (number after)))))

pub line_ranged : (l : List ℕ) → Ranged (line_of l)
unfolding line_of Ranged
line_ranged l =
    by_test (ltb line_most (length l)) (λ e. rw e tt)
    (λ e. rw e (by_test (eqb (first_space l) (length l)) (λ f. rw f (alone_ranged (number l))) (λ f. rw f (spaced_ranged _ _))))

pub too_long_line : (l : List ℕ) → line_most < length l → line_of l ≡ None
unfolding line_of
too_long_line l h = rw (lt-ltb line_most (length l) h)
