-- A number printed and read back is the number, and so is a line of them.
use Prim.Native.Nat.{ℕ, zero, suc, ◌+◌, ◌*◌, ◌-◌, ◌/◌, ◌%◌, ◌≤◌, ◌<◌, ◌^◌}
use mathlib.Core.Path.{◌≡◌, refl, ap, ◌∙◌}
use mathlib.Core.Bool.{true, false}
use mathlib.Core.List.{List, [], ◌∷◌, ◌++◌}
use native.Mathlib.Numerals.{add-one}
use native.Mathlib.Omega.{arith}
use borrow.Author.Tests.{eq-eqb, le-leb, le-ltb, ltb-false, ltb-true, ne_eqb}
use lib.Dec.{eqb, ltb}
use lib.IntN.{ℤ, pos, negsuc, nat_abs}
use lib.ListN.{length, get_or, length-append}
use lib.Seq.{drop-append-add, take-append_seam}
use mir.Syntax.{w32}
use mir.Val.{SFits}
use Rattle.std.proofs.Common.{Some}
use Rattle.std.proofs.lemmas.Option.{none-some}
use Rattle.rule.specs.Numbers.{word}
use Rattle.rule.proofs.Signed.{fits_signed, fits_unsigned, signed_fits}
use Rattle.rule.proofs.Whole.{by_test}
use Rattle.notation.specs.declared.Line.{Line}
use Rattle.notation.specs.Signs.{nine, nought, space}
use Rattle.notation.specs.Back.{Back}
use Rattle.notation.specs.Reading.{digits, digits_after, first_space, is_digit, late_word, line_of, negated, number, same, signed_field, spaced, steps_word, unsigned_field}
use Rattle.notation.specs.Printing.{decimal, digit, whole}
use Rattle.notation.proofs.Lines.{digit_range, number_plain}
use Rattle.notation.proofs.Texts.{last_digit, one_digit, one_digit_more, short, whole_short}

-- ---- digits

digit_is : (d : ℕ) → d < 10 → is_digit (digit d) ≡ true
unfolding is_digit
digit_is d h = rw (le-leb nought (digit d) (omega arith), le-leb (digit d) nine (omega arith))

one_more : (n : ℕ) (l : List ℕ) (m d : ℕ) → d < 10 → digits_after n l ≡ Some (pos m)
    → digits_after n (l ++ (digit d ∷ [])) ≡ Some (pos (m * 10 + d))
unfolding digits_after
one_more n [] m d h e =
    let f : n ≡ m = cc in
    let g : n * 10 + (digit d - nought) ≡ m * 10 + d = omega arith in rw (digit_is d h, g)
one_more n (b ∷ l) m d h e =
    by_test (is_digit b) (λ t. rw t (one_more (n * 10 + (b - nought)) l m d h (rw t at e))) (λ t. absurd (none-some _ (rw t at e)))

in_steps : (k n : ℕ) → n < k → digits_after 0 (decimal n) ≡ Some (pos n)
unfolding digits_after
in_steps zero n h = absurd (omega arith)
in_steps (suc k) n h =
    by_test (ltb n 10)
    (λ e. let g : 0 * 10 + n ≡ n = omega arith in rw (one_digit n (ltb-true n 10 e)) (rw g at (one_more 0 [] 0 n (ltb-true n 10 e) refl)))
    (λ e.
    let g : n / 10 * 10 + n % 10 ≡ n = omega arith in
    rw (last_digit n (ltb-false n 10 e))
    (rw g at (one_more 0 (decimal (n / 10)) (n / 10) (n % 10) (omega arith) (in_steps k (n / 10) (omega (arith, ltb-false n 10 e))))))

some_digit : (n : ℕ) → 1 ≤ length (decimal n)
some_digit n =
    by_test (ltb n 10) (λ e. rw (one_digit n (ltb-true n 10 e)) (omega arith)) (λ e. omega (arith, one_digit_more n (ltb-false n 10 e)))

digits_back : (n : ℕ) → n < 10 ^ 10 → digits (decimal n) ≡ Some (pos n)
unfolding digits
digits_back n h =
    rw (le-leb 1 (length (decimal n)) (some_digit n), le-leb (length (decimal n)) 10 (short 9 n h)) (in_steps (suc n) n (omega arith))

-- ---- numbers

first_digit : (n : ℕ) (l : List ℕ) (z : ℤ) → 1 ≤ length l → digits_after n l ≡ Some z → is_digit (get_or l 0 0) ≡ true
unfolding digits_after
first_digit n [] z h e = absurd (omega arith)
first_digit n (b ∷ l) z h e = by_test (is_digit b) (λ t. t) (λ t. absurd (none-some _ (rw t at e)))

decimal_first : (n : ℕ) → (nought ≤ get_or (decimal n) 0 0) × (get_or (decimal n) 0 0 ≤ nine)
decimal_first n =
    digit_range (get_or (decimal n) 0 0) (first_digit 0 (decimal n) (pos n) (some_digit n) (in_steps (suc n) n (omega arith)))

number_back : (z : ℤ) → nat_abs z < 10 ^ 10 → number (whole z) ≡ Some z
unfolding whole number negated
number_back (pos n) h = number_plain (decimal n) (λ l e. omega (arith, decimal_first n)) ∙ digits_back n h
number_back (negsuc n) h = rw (digits_back (suc n) h)

-- ---- lines

after_spaceless : (n : ℕ) (l : List ℕ) (z : ℤ) → digits_after n l ≡ Some z → first_space l ≡ length l
unfolding digits_after first_space
after_spaceless n [] z e = refl
after_spaceless n (b ∷ l) z e =
    by_test (is_digit b)
    (λ t. rw (ne_eqb b space (λ f. omega (arith, digit_range b t)), after_spaceless (n * 10 + (b - nought)) l z (rw t at e)))
    (λ t. absurd (none-some _ (rw t at e)))

decimal_spaceless : (n : ℕ) → first_space (decimal n) ≡ length (decimal n)
decimal_spaceless n = after_spaceless 0 (decimal n) (pos n) (in_steps (suc n) n (omega arith))

whole_spaceless : (z : ℤ) → first_space (whole z) ≡ length (whole z)
unfolding whole first_space
whole_spaceless (pos n) = decimal_spaceless n
whole_spaceless (negsuc n) = ap suc (decimal_spaceless (suc n))

space_behind : (f l : List ℕ) → first_space f ≡ length f → first_space (f ++ (space ∷ l)) ≡ length f
unfolding first_space
space_behind [] l h = refl
space_behind (b ∷ f) l h =
    by_test (eqb b space) (λ e. let g : 0 ≡ suc (length f) = rw e at h in absurd (omega arith))
    (λ e. let g : suc (first_space f) ≡ suc (length f) = rw e at h in rw (e, space_behind f l (omega arith)))

two_fields : (f l : List ℕ) → first_space f ≡ length f → length f + suc (length l) ≤ 64 → line_of (f ++ (space ∷ l)) ≡ spaced f l
unfolding line_of
two_fields f l h g =
    let m : length (f ++ (space ∷ l)) ≤ 64 = omega (arith, length-append f (space ∷ l)) in
    let a : (length f ≡ length (f ++ (space ∷ l)) → ⊥) = λ e. omega (arith, length-append f (space ∷ l)) in
    rw (le-ltb 64 (length (f ++ (space ∷ l))) m, space_behind f l h, ne_eqb (length f) (length (f ++ (space ∷ l))) a, take-append_seam f (space ∷ l), ← add-one (length f), drop-append-add f (space ∷ l) 1)

same_first : (l w : List ℕ) → 1 ≤ length w → (get_or l 0 0 ≡ get_or w 0 0 → ⊥) → same l w ≡ false
unfolding same
same_first l [] g h = absurd (omega arith)
same_first [] (x ∷ w) g h = refl
same_first (b ∷ l) (x ∷ w) g h = rw (ne_eqb b x h)

unsigned_in : (n : ℕ) → n < word → unsigned_field (Some (pos n)) ≡ Some n
unfolding unsigned_field
unsigned_in n h = rw (fits_unsigned n h)

signed_in : (z : ℤ) → SFits w32 z → signed_field (Some z) ≡ Some z
unfolding signed_field
signed_in z h = rw (fits_signed z h)

size : (z : ℤ) → SFits w32 z → nat_abs z < 10 ^ 10
size (pos n) h = omega arith
size (negsuc n) h = omega arith

decimal_back : (n : ℕ) → n < word → number (decimal n) ≡ Some (pos n)
unfolding whole
decimal_back n h = number_back (pos n) (omega arith)

steps_back : (n : ℕ) → n < word → line_of (steps_word ++ (space ∷ decimal n)) ≡ Some (Line.Steps n)
unfolding first_space spaced same
steps_back n h =
    two_fields steps_word (decimal n) refl (omega (arith, short 9 n (omega arith))) ∙ rw (decimal_back n h, unsigned_in n h)

late_back : (n : ℕ) → n < word → line_of (late_word ++ (space ∷ decimal n)) ≡ Some (Line.Late n)
unfolding first_space spaced same
late_back n h =
    two_fields late_word (decimal n) refl (omega (arith, short 9 n (omega arith))) ∙ rw (decimal_back n h, unsigned_in n h)

alone_back : (z : ℤ) → SFits w32 z → line_of (whole z) ≡ Some (Line.Alone z)
unfolding line_of
alone_back z h =
    rw (le-ltb 64 (length (whole z)) (omega (arith, whole_short z h)), eq-eqb (first_space (whole z)) (length (whole z)) (whole_spaceless z), number_back z (size z h), signed_in z h)

pair_back : (t : ℕ) (z : ℤ) → t < word → SFits w32 z → line_of (decimal t ++ (space ∷ whole z)) ≡ Some (Line.Pair t z)
unfolding spaced
pair_back t z h g =
    two_fields (decimal t) (whole z) (decimal_spaceless t) (omega (arith, short 9 t (omega arith), whole_short z g))
    ∙ rw (no_word steps_word (omega arith) (omega arith), no_word late_word (omega arith) (omega arith), decimal_back t h, number_back z (size z g), unsigned_in t h, signed_in z g)
  where
    no_word : (w : List ℕ) → 1 ≤ length w → nine < get_or w 0 0 → same (decimal t) w ≡ false
    no_word w a b = same_first (decimal t) w a (λ e. omega (arith, decimal_first t))

pub back : Back
back = record {
  numbers = number_back;
  steps = steps_back;
  late = late_back;
  alone = λ z h. alone_back z (signed_fits z h);
  pair = λ t z h k. pair_back t z h (signed_fits z k);
}
