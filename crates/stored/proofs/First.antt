-- The first word of a line that names steps, and of an input that begins with it.
use Prim.Native.Nat.{ℕ, zero, suc, ◌≤◌, ◌<◌}
use mathlib.Core.Path.{◌≡◌, refl, sym, ap, ◌∙◌}
use mathlib.Core.Bool.{Bool, true, false, false≢true}
use mathlib.Core.List.{List, [], ◌∷◌, ◌++◌}
use native.Mathlib.Omega.{arith}
use borrow.Author.Tests.{eqb-true, eqb-false, leb-true, leb-false, ne_eqb}
use lib.Dec.{eqb, leb, ltb}
use lib.ListN.{drop, length, take, take-append-drop}
use lib.Seq.{length-take-le, take_all}
use Rattle.std.proofs.Common.{ℤ, Option, Some, None}
use Rattle.rule.proofs.Whole.{by_test}
use Rattle.notation.specs.declared.Line.{Line}
use Rattle.notation.specs.Reading.{alone, first_space, late, late_word, line_most, line_of, number, pair, same, signed_field, spaced, steps, steps_word, unsigned_field}
use Rattle.notation.specs.Signs.{ascii, line_feed, space}
use Rattle.notation.proofs.Lines.{same_word, space_within}
use Rattle.listing.specs.Listing.{begins, lines}
use Rattle.listing.proofs.Splitting.{Unbroken, lines_behind, prefixed, prefixed_first, prefixed_last}

-- ---- the first word of a header

abbrev pub is_steps : Option Line → Bool
is_steps (Some (Line.Steps b)) = true
is_steps (Some (Line.Late k)) = false
is_steps (Some (Line.Alone v)) = false
is_steps (Some (Line.Pair tick v)) = false
is_steps None = false

alone_no_steps : (v : Option ℤ) → is_steps (alone v) ≡ false
alone_no_steps (Some z) = refl
alone_no_steps None = refl

late_no_steps : (k : Option ℕ) → is_steps (late k) ≡ false
late_no_steps (Some n) = refl
late_no_steps None = refl

pair_no_steps : (t : Option ℕ) (v : Option ℤ) → is_steps (pair t v) ≡ false
pair_no_steps (Some n) (Some z) = refl
pair_no_steps (Some n) None = refl
pair_no_steps None v = refl

spaced_steps : (before behind : List ℕ) → is_steps (spaced before behind) ≡ true → before ≡ steps_word
unfolding spaced
spaced_steps before behind e =
    by_test (same before steps_word) (same_word before steps_word)
    (λ f.
    by_test (same before late_word) (λ g. absurd (false≢true (sym (late_no_steps (unsigned_field (number behind))) ∙ (rw (f, g) at e))))
    (λ g. absurd (false≢true (sym (pair_no_steps (unsigned_field (number before)) (signed_field (number behind))) ∙ (rw (f, g) at e)))))

-- the first space ends the word before it
to_the_space : (l : List ℕ) → first_space l < length l → take (suc (first_space l)) l ≡ take (first_space l) l ++ (space ∷ [])
unfolding first_space
to_the_space [] h = absurd (omega (arith, h))
to_the_space (b ∷ l) h =
    by_test (eqb b space) (λ e. rw e (ap (λ (x : ℕ). x ∷ []) (eqb-true b space e)))
    (λ e. rw e (ap (λ (x : List ℕ). b ∷ x) (to_the_space l (let g : suc (first_space l) < suc (length l) = rw e at h in omega (arith, g)))))

bytes_in_six : (l : List ℕ) → first_space l < length l → take (first_space l) l ≡ steps_word → take 6 l ≡ ascii "steps "
bytes_in_six l h e =
    let five : first_space l ≡ 5 = sym (length-take-le (first_space l) l (omega (arith, h))) ∙ ap length e in
    ap (λ (n : ℕ). take n l) (let six : 6 ≡ suc (first_space l) = omega (arith, five) in six) ∙ to_the_space l h ∙ ap (λ (w : List ℕ). w ++ (space ∷ [])) e

pub steps_first : (line : List ℕ) → is_steps (line_of line) ≡ true → take 6 line ≡ ascii "steps "
unfolding line_of
steps_first line e =
    by_test (ltb line_most (length line)) (λ f. absurd (false≢true (rw f at e)))
    (λ f.
    by_test (eqb (first_space line) (length line)) (λ g. absurd (false≢true (sym (alone_no_steps (signed_field (number line))) ∙ (rw (f, g) at e))))
    (λ g.
    bytes_in_six line (let h = space_within line in let other = eqb-false (first_space line) (length line) g in omega (arith, h, other))
    (spaced_steps (take (first_space line) line) (drop (suc (first_space line)) line) (rw (f, g) at e))))

-- ---- an input begins as its first line does

abbrev first_of : List (List ℕ) → List ℕ
first_of [] = []
first_of (l ∷ ls) = l

begun_alike : (n b : ℕ) (ls : List (List ℕ)) (i line : List ℕ) (others : List (List ℕ)) → ((l : List ℕ) (m : List (List ℕ)) → ls ≡ l ∷ m → n ≤ length l → take n i ≡ take n l)
    → begins b ls ≡ line ∷ others → suc n ≤ length line → take (suc n) (b ∷ i) ≡ take (suc n) line
unfolding begins
begun_alike zero b [] i line others same e h = let q : b ∷ [] ≡ line = ap first_of e in ap (take 1) q
begun_alike (suc n) b [] i line others same e h = let q : b ∷ [] ≡ line = ap first_of e in absurd (omega (arith, h, ap length q))
begun_alike n b (l ∷ m) i line others same e h =
    let q : b ∷ l ≡ line = ap first_of e in ap (λ (x : List ℕ). b ∷ x) (same l m refl (let g = ap length q in omega (arith, h, g))) ∙ ap (take (suc n)) q

first_alike : (n : ℕ) (i line : List ℕ) (others : List (List ℕ)) → lines i ≡ line ∷ others → n ≤ length line → take n i ≡ take n line
unfolding lines
first_alike zero i line others e h = refl
first_alike (suc n) [] line others e h = absurd (let q : [] ≡ line = ap first_of e in omega (arith, h, ap length q))
first_alike (suc n) (b ∷ i) line others e h =
    by_test (eqb b line_feed) (λ f. absurd (let q : [] ≡ line = ap first_of (rw f at e) in omega (arith, h, ap length q)))
    (λ f. begun_alike n b (lines i) i line others (λ l m g k. first_alike n i l m g k) (rw f at e) h)

pub begins_so : (i line : List ℕ) (others : List (List ℕ)) → lines i ≡ line ∷ others → take 6 line ≡ ascii "steps " → take 6 i ≡ ascii "steps "
begins_so i line others e w =
    let six : length (take 6 line) ≡ 6 = ap length w in
    let long : 6 ≤ length line = by_test (leb 6 (length line)) (leb-true 6 (length line)) (λ f. let short = leb-false 6 (length line) f in absurd (omega (arith, short, six, ap length (take_all 6 line (omega (arith, short)))))) in
    first_alike 6 i line others e long ∙ w

-- ---- an input that begins with the word

pub record Headed (i : List ℕ) : Type 0 where
  pub rest : List ℕ
  pub others : List (List ℕ)
  pub split : lines i ≡ (ascii "steps " ++ rest) ∷ others

steps_unbroken : Unbroken (ascii "steps ")
unfolding Unbroken
steps_unbroken = (refl, (refl, (refl, (refl, (refl, (refl, tt))))))

headed_by : (ls : List (List ℕ)) (i : List ℕ) → lines i ≡ prefixed (ascii "steps ") ls → Headed i
headed_by [] i e = record { rest = []; others = []; split = e ∙ prefixed_last _ _ }
headed_by (l ∷ ls) i e = record { rest = l; others = ls; split = e ∙ prefixed_first (ascii "steps ") l ls }

pub headed : (i : List ℕ) → take 6 i ≡ ascii "steps " → Headed i
headed i e =
    let whole : ascii "steps " ++ drop 6 i ≡ i = ap (λ (w : List ℕ). w ++ drop 6 i) (sym e) ∙ take-append-drop 6 i in
    headed_by (lines (drop 6 i)) i (ap lines (sym whole) ∙ lines_behind (ascii "steps ") (drop 6 i) steps_unbroken)

-- its first line names steps, or cannot be read
by_field : (P : Option Line → Type 0) → ((n : ℕ) → P (Some (Line.Steps n))) → P None → (u : Option ℕ) → P (steps u)
by_field P some none (Some n) = some n
by_field P some none None = none

pub word_read : (rest : List ℕ) (P : Option Line → Type 0) → ((n : ℕ) → P (Some (Line.Steps n))) → P None → P (line_of (ascii "steps " ++ rest))
unfolding line_of first_space spaced same
word_read rest P some none =
    by_test (ltb line_most (length (ascii "steps " ++ rest))) (λ f. rw f none)
    (λ f. rw (f, ne_eqb 5 (length (ascii "steps " ++ rest)) (λ e. omega (arith, e))) (by_field P some none (unsigned_field (number rest))))
