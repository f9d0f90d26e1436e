-- The promises of captions hold.
use Prim.Native.Nat.{ℕ, ◌≤◌}
use mathlib.Core.Path.{◌≡◌, refl, ap, ◌∙◌}
use mathlib.Core.Logic.{◌≢◌, ⊎_elim}
use mathlib.Core.Bool.{Bool, true, ◌&&◌, not}
use mathlib.Core.List.Memᴰ
use mathlib.Core.List.{List, [], ◌∷◌, ◌++◌, Memᴰ}
use borrow.Author.Tests.{eqb-false, le-leb, leb-true, ne_eqb, not-true}
use lib.Dec.{eqb, leb}
use lib.ListN.{length}
use Rattle.rule.proofs.Ruling.{and_left, and_right}
use Rattle.notation.specs.Signs.{ascii}
use Rattle.captions.specs.Caption.{all_printable, caption_good, caption_most, escaped, leaving, printable, signs}
use Rattle.captions.specs.Promise.{Captions}
use Rattle.captions.proofs.Escaping.{by_sign, escaped_append, escaped_length, no_bracket, typed_back}

-- ---- a test that each byte of a text meets

abbrev met : (ℕ → Bool) → List ℕ → Bool
met p [] = true
met p (b ∷ l) = p b && met p l

module _ (p : ℕ → Bool) where
  met_append : (a b : List ℕ) → met p a ≡ true → met p b ≡ true → met p (a ++ b) ≡ true
  met_append [] b g h = h
  met_append (x ∷ a) b g h = rw (and_left (p x) (met p a) g) (met_append a b (and_right (p x) (met p a) g) h)

  met_each : (l : List ℕ) → met p l ≡ true → (b : ℕ) → Memᴰ b l → p b ≡ true
  met_each [] h b m = absurd (Memᴰ.not-nil m)
  met_each (x ∷ l) h b m =
      ⊎_elim (λ e. ap p e ∙ and_left (p x) (met p l) h) (λ n. met_each l (and_right (p x) (met p l) h) b n) (Memᴰ.cases_cons m)

  each_met : (l : List ℕ) → ((b : ℕ) → Memᴰ b l → p b ≡ true) → met p l ≡ true
  each_met [] h = refl
  each_met (x ∷ l) h = rw (h x (Memᴰ.head refl)) (each_met l (λ b m. h b (Memᴰ.tail m)))

  -- what leaves of a text meets it, where what leaves of each byte does
  escaped_met : (c : List ℕ) → ((b : ℕ) → Memᴰ b c → met p (leaving signs b) ≡ true) → met p (escaped c) ≡ true
  unfolding escaped
  escaped_met [] h = refl
  escaped_met (x ∷ c) h = met_append (leaving signs x) (escaped c) (h x (Memᴰ.head refl)) (escaped_met c (λ b m. h b (Memᴰ.tail m)))

-- ---- bytes that no caption leaves

abbrev other : ℕ → ℕ → Bool
other n b = not (eqb b n)

never : (n : ℕ) → ((b : ℕ) → met (other n) (leaving signs b) ≡ true) → (c : List ℕ) (b : ℕ) → Memᴰ b (escaped c) → b ≢ n
never n h c b m = eqb-false b n (not-true (eqb b n) (met_each (other n) (escaped c) (escaped_met (other n) c (λ x i. h x)) b m))

-- ---- what is taken

printable_met : (c : List ℕ) → all_printable c ≡ met printable c
unfolding all_printable
printable_met [] = refl
printable_met (b ∷ c) = rw (printable_met c)

between : (b : ℕ) → printable b ≡ true → (0x20 ≤ b) × (b ≤ 0x7E)
unfolding printable
between b h = (leb-true 0x20 b (and_left (leb 0x20 b) (leb b 0x7E) h), leb-true b 0x7E (and_right (leb 0x20 b) (leb b 0x7E) h))

good_met : (c : List ℕ) → caption_good c ≡ true → met printable c ≡ true
unfolding caption_good
good_met c h = rw (printable_met c) at (and_right (leb (length c) caption_most) (all_printable c) h)

good_short : (c : List ℕ) → caption_good c ≡ true → length c ≤ caption_most
unfolding caption_good
good_short c h = leb-true (length c) caption_most (and_left (leb (length c) caption_most) (all_printable c) h)

met_good : (c : List ℕ) → length c ≤ caption_most → met printable c ≡ true → caption_good c ≡ true
unfolding caption_good
met_good c h g = rw (le-leb (length c) caption_most h, printable_met c) g

is_printable : (b : ℕ) → (0x20 ≤ b) × (b ≤ 0x7E) → printable b ≡ true
unfolding printable
is_printable b h = rw (le-leb 0x20 b h.0, le-leb b 0x7E h.1)

leaving_printable : (b : ℕ) → printable b ≡ true → met printable (leaving signs b) ≡ true
unfolding printable
leaving_printable = by_sign (λ b t. printable b ≡ true → met printable t ≡ true) (λ h. refl) (λ h. refl) (λ h. refl) (λ h. refl) (λ h. refl) (λ b p h. rw h)

five : (escaped (0x26 ∷ []) ≡ ascii "&amp;") × (escaped (0x3C ∷ []) ≡ ascii "&lt;") × (escaped (0x3E ∷ []) ≡ ascii "&gt;") × (escaped (0x22 ∷ []) ≡ ascii "&quot;") × (escaped (0x27 ∷ []) ≡ ascii "&#39;")
unfolding escaped leaving
five = (refl, refl, refl, refl, refl)

others : (b : ℕ) → b ≢ 0x26 → b ≢ 0x3C → b ≢ 0x3E → b ≢ 0x22 → b ≢ 0x27 → escaped (b ∷ []) ≡ b ∷ []
unfolding escaped leaving
others b e f g h i = rw (ne_eqb b 0x26 e, ne_eqb b 0x3C f, ne_eqb b 0x3E g, ne_eqb b 0x22 h, ne_eqb b 0x27 i)

pub captions : Captions
captions =
    record {
      five = five;
      others = others;
      each = escaped_append;
      back = typed_back;
      no_bracket = no_bracket;
      no_byte = λ c b m. (
        never 0x3C (by_sign (λ x t. met (other 0x3C) t ≡ true) refl refl refl refl refl (λ x p. rw p.no_opening)) c b m,
        never 0x3E (by_sign (λ x t. met (other 0x3E) t ≡ true) refl refl refl refl refl (λ x p. rw p.no_closing)) c b m,
        never 0x22 (by_sign (λ x t. met (other 0x22) t ≡ true) refl refl refl refl refl (λ x p. rw p.no_quote)) c b m,
        never 0x27 (by_sign (λ x t. met (other 0x27) t ≡ true) refl refl refl refl refl (λ x p. rw p.no_apostrophe)) c b m,
      );
      taken = λ c h. (good_short c h, λ b m. between b (met_each printable c (good_met c h) b m));
      takes = λ c h g. met_good c h (each_met printable c (λ b m. is_printable b (g b m)));
      stays_printable = λ c h b m.
          between b (met_each printable (escaped c) (escaped_met printable c (λ x i. leaving_printable x (met_each printable c (good_met c h) x i))) b m);
      longest = escaped_length;
    }
