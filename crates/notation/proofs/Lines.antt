-- The loops over a line's bytes go on from what is left of them, and numbers stay within 64 bits.
use Prim.Native.Nat.{ℕ, suc, ◌+◌, ◌*◌, ◌-◌, ◌≤◌, ◌<◌, ◌^◌}
use mathlib.Core.Path.{◌≡◌, refl, ap, sym, ◌∙◌}
use mathlib.Core.Bool.{true, false, false≢true, ◌&&◌}
use mathlib.Core.List.{List, [], ◌∷◌}
use native.Mathlib.Nat.{pow-le-pow_right, pow-succ'}
use native.Mathlib.Numerals.{add-one}
use native.Mathlib.Omega.{arith}
use borrow.Author.Tests.{eq-eqb, eqb-true, leb-true, ltb-false, ltb-true, ne_eqb}
use lib.Dec.{eqb, leb, ltb, lit<}
use lib.IntN.{ℤ, pos, negsuc, nat_abs}
use lib.ListN.{length, get_or, take, drop, drop_of_length-le, length-drop}
use lib.Seq.{drop-cons, take_all}
use mir.Syntax.{w32}
use Rattle.std.proofs.Common.{Some, None, ◌==◌, position, Result, Ok, Err, FitsSigned}
use Rattle.std.specs.Char.{is_ascii_digit}
use Rattle.std.specs.List.{position_or_len}
use Rattle.std.specs.Int.{FitsUnsignedBits}
use Rattle.std.specs.Result.{OkIff, result_ok}
use Rattle.std.proofs.lemmas.Option.{cond_some, none-some}
use Rattle.rule.specs.Room.{signed, unsigned, within}
use Rattle.rule.proofs.Ruling.{and_left, and_right}
use Rattle.rule.proofs.Signed.{fits_signed, fits_unsigned, signed_fits, unsigned_fits}
use Rattle.rule.proofs.Whole.{by_test, whole, down, one_side}
use Rattle.notation.specs.Reading.{digits, digits_after, first_space, is_digit, negated, number, same, signed_field, unsigned_field}
use Rattle.notation.specs.Signs.{minus, nine, nought, space}

-- the part from a place to the end
pub rest : (l : List ℕ) (a : ℕ) → take (length l - a) (drop a l) ≡ drop a l
rest l a = take_all (length l - a) (drop a l) (omega (arith, length-drop a l))

-- ---- digits

pub ascii_digit : (b : ℕ) → is_ascii_digit b ≡ is_digit b
unfolding is_digit
ascii_digit b = refl

module _ (s : List ℕ) (i n : ℕ) where
  pub digits_next : i < length s → is_digit (get_or s i 0) ≡ true
      → digits_after n (drop i s) ≡ digits_after (n * 10 + (get_or s i 0 - nought)) (drop (i + 1) s)
  unfolding digits_after
  digits_next h e = rw (drop-cons s i 0 h, e, add-one)

  pub digits_stop : i < length s → is_digit (get_or s i 0) ≡ false → digits_after n (drop i s) ≡ None
  unfolding digits_after
  digits_stop h e = rw (drop-cons s i 0 h, e)

  pub digits_done : length s ≤ i → digits_after n (drop i s) ≡ Some (pos n)
  unfolding digits_after
  digits_done h = rw (drop_of_length-le s {i = i} h)

pub digits_below : (k i n : ℕ) → i ≤ k → n < 10 ^ i → n < 10 ^ k
digits_below k i n h e = omega (arith, pow-le-pow_right {n = 10} (lit< tt) {i = i} {j = k} h)

pub one_digit_more : (i n d : ℕ) → n < 10 ^ i → d ≤ 9 → n * 10 + d < 10 ^ (i + 1)
one_digit_more i n d h e = rw (add-one i, pow-succ' 10 i) (omega arith)

pub digit_range : (b : ℕ) → is_digit b ≡ true → (nought ≤ b) × (b ≤ nine)
unfolding is_digit
digit_range b h =
    (leb-true nought b (and_left (leb nought b) (leb b nine) h), leb-true b nine (and_right (leb nought b) (leb b nine) h))

after_positive : (n : ℕ) (l : List ℕ) (z : ℤ) → digits_after n l ≡ Some z → down z ≡ 0
unfolding digits_after
after_positive n [] z e = let f : pos n ≡ z = cc in omega (whole, one_side z)
after_positive n (b ∷ l) z e =
    by_test (is_digit b) (λ d. after_positive (n * 10 + (b - nought)) l z (rw d at e))
    (λ d. absurd (none-some _ (rw d at e)))

-- digits stand for no number below 0
pub digits_positive : (l : List ℕ) (z : ℤ) → digits l ≡ Some z → down z ≡ 0
unfolding digits
digits_positive l z e =
    by_test (leb 1 (length l) && leb (length l) 10) (λ d. after_positive 0 l z (rw d at e))
    (λ d. absurd (none-some _ (rw d at e)))

-- ---- the sign

pub number_plain : (s : List ℕ) → (1 ≤ length s → get_or s 0 0 ≡ minus → ⊥) → number s ≡ digits s
unfolding number digits
number_plain [] h = refl
number_plain (b ∷ s) h = rw (ne_eqb b minus (h (omega arith)))

pub number_minus : (s : List ℕ) → get_or s 0 0 ≡ minus → number s ≡ negated (digits (take (length s - 1) (drop 1 s)))
unfolding number
number_minus [] h = absurd (omega arith)
number_minus (b ∷ s) h = rw (rest (b ∷ s) 1, eq-eqb b minus h)

-- ---- the first space

pub space_within : (s : List ℕ) → first_space s ≤ length s
unfolding first_space
space_within [] = omega arith
space_within (b ∷ s) = by_test (eqb b space) (λ e. rw e (omega arith)) (λ e. rw e (omega (arith, space_within s)))

space_place : (l : List ℕ) → position_or_len (λ b. b == space) l ≡ first_space l
unfolding first_space
space_place [] = refl
space_place (b ∷ l) = by_test (eqb b space) (λ e. rw e) (λ e. rw (e, space_place l) (omega arith))

pub space_found : (l : List ℕ) (k : ℕ) → position (λ b. b == space) l ≡ Some k → (first_space l ≡ k) × (k < length l)
space_found l k e =
    let r = cond_some _ _ k e in
    (sym (space_place l) ∙ r.1, omega (arith, ltb-true (position_or_len (λ b. b == space) l) (length l) r.0, r.1))

pub spaceless : (l : List ℕ) → position (λ b. b == space) l ≡ None → first_space l ≡ length l
spaceless l e =
    by_test (ltb (first_space l) (length l)) (λ t. absurd (none-some (first_space l) (sym e ∙ rw (space_place l, t))))
    (λ t. omega (arith, ltb-false (first_space l) (length l) t, space_within l))

-- ---- two words

pub same_word : (x y : List ℕ) → same x y ≡ true → x ≡ y
unfolding same
same_word [] [] e = refl
same_word [] (b ∷ y) e = absurd (false≢true e)
same_word (a ∷ x) [] e = absurd (false≢true e)
same_word (a ∷ x) (b ∷ y) e = rw (eqb-true a b (and_left (eqb a b) (same x y) e), same_word x y (and_right (eqb a b) (same x y) e))

pub other_word : (x y : List ℕ) → (x ≡ y → ⊥) → same x y ≡ false
other_word x y h = by_test (same x y) (λ e. absurd (h (same_word x y e))) (λ e. e)

-- the bytes of l from the place i on are those of w
abbrev pub EachIs : List ℕ → List ℕ → ℕ → Type 0
EachIs [] l i = Unit {0}
EachIs (b ∷ w) l i = (get_or l i 0 ≡ b) × EachIs w l (suc i)

each_behind : (w : List ℕ) (b : ℕ) (l : List ℕ) (i : ℕ) → EachIs w (b ∷ l) (suc i) → EachIs w l i
each_behind [] b l i h = tt
each_behind (c ∷ w) b l i h = (h.0, each_behind w b l (suc i) h.1)

pub each_same : (l w : List ℕ) → length l ≡ length w → EachIs w l 0 → l ≡ w
each_same [] [] n h = refl
each_same [] (c ∷ w) n h = absurd (omega arith)
each_same (b ∷ l) [] n h = absurd (omega arith)
each_same (b ∷ l) (c ∷ w) n h = rw (h.0, each_same l w (omega arith) (each_behind w b l 0 h.1))

-- ---- ranges

-- what a conversion of z to 32 bits answers
module _ {E : Type 0} where
  pub tried_unsigned : (z : ℤ) (r : Result ℕ E) → OkIff r (FitsUnsignedBits 32 z) (nat_abs z) → result_ok r ≡ unsigned_field (Some z)
  unfolding unsigned_field within
  tried_unsigned (pos n) (Ok x) h = rw (h.1, fits_unsigned n h.0)
  tried_unsigned (pos n) (Err e) h = by_test (unsigned (pos n)) (λ t. absurd (h (omega (arith, (unsigned_fits (pos n) t).1)))) (λ t. rw t)
  tried_unsigned (negsuc n) (Ok x) h = absurd h.0
  tried_unsigned (negsuc n) (Err e) h = refl

  pub tried_signed : (z : ℤ) (r : Result ℤ E) → OkIff r (FitsSigned w32 z) z → result_ok r ≡ signed_field (Some z)
  unfolding signed_field
  tried_signed z (Ok x) h = rw (h.1, fits_signed z h.0)
  tried_signed z (Err e) h = by_test (signed z) (λ t. absurd (h (signed_fits z t))) (λ t. rw t)
