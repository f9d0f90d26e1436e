-- How a caption leaves, byte by byte: by the five signs, or as it is.
use Prim.Native.Nat.{ℕ, ◌+◌, ◌*◌, ◌≤◌, ◌<◌}
use mathlib.Core.Path.{◌≡◌, refl, sym, ap, ◌∙◌}
use mathlib.Core.Bool.{true, false, ◌&&◌}
use mathlib.Core.List.{List, [], ◌∷◌, ◌++◌, append_assoc}
use native.Mathlib.Numerals.{add-one}
use native.Mathlib.Omega.{arith}
use borrow.Author.Tests.{eqb-true}
use lib.Dec.{eqb}
use lib.ListN.{length, get_or, drop, drop_of_length-le, length-append}
use lib.Seq.{drop-cons}
use Rattle.rule.proofs.Whole.{by_test}
use Rattle.notation.specs.Signs.{ascii}
use Rattle.captions.specs.Caption.{all_printable, brackets, closing, escaped, leaving, opening, printable, signs, standing, starts_with, unescaped_after, up_to_bracket}

-- ---- the five bytes, and the others

-- a byte that leaves as it is
pub record Plain (b : ℕ) : Type 0 where
  pub no_ampersand : eqb b 0x26 ≡ false
  pub no_opening : eqb b opening ≡ false
  pub no_closing : eqb b closing ≡ false
  pub no_quote : eqb b 0x22 ≡ false
  pub no_apostrophe : eqb b 0x27 ≡ false

pub as_itself : {b : ℕ} → Plain b → leaving signs b ≡ b ∷ []
unfolding leaving
as_itself p = rw (p.no_ampersand, p.no_opening, p.no_closing, p.no_quote, p.no_apostrophe)

pub by_sign : (P : ℕ → List ℕ → Type 0) → P 0x26 (ascii "&amp;") → P opening (ascii "&lt;") → P closing (ascii "&gt;") → P 0x22 (ascii "&quot;") → P 0x27 (ascii "&#39;")
    → ((b : ℕ) → Plain b → P b (b ∷ [])) → (b : ℕ) → P b (leaving signs b)
unfolding leaving
by_sign P amp lt gt quot apos other b =
    by_test (eqb b 0x26) (λ e. rw (eqb-true b 0x26 e) amp) (λ e.
    by_test (eqb b opening) (λ f. rw (eqb-true b opening f) lt) (λ f.
    by_test (eqb b closing) (λ g. rw (eqb-true b closing g) gt) (λ g.
    by_test (eqb b 0x22) (λ h. rw (eqb-true b 0x22 h) quot) (λ h.
    by_test (eqb b 0x27) (λ i. rw (eqb-true b 0x27 i) apos) (λ i.
    let p : Plain b = record { no_ampersand = e; no_opening = f; no_closing = g; no_quote = h; no_apostrophe = i } in rw (as_itself p) (other b p))))))

pub escaped_append : (c d : List ℕ) → escaped (c ++ d) ≡ escaped c ++ escaped d
unfolding escaped
escaped_append [] d = refl
escaped_append (b ∷ c) d = rw (escaped_append c d) (sym (append_assoc (leaving signs b) (escaped c) (escaped d)))

leaving_length : (b : ℕ) → length (leaving signs b) ≤ 6
leaving_length = by_sign (λ b t. length t ≤ 6) (omega arith) (omega arith) (omega arith) (omega arith) (omega arith) (λ b p. omega arith)

pub escaped_length : (c : List ℕ) → length (escaped c) ≤ 6 * length c
unfolding escaped
escaped_length [] = omega arith
escaped_length (b ∷ c) = omega (arith, length-append (leaving signs b) (escaped c), leaving_length b, escaped_length c)

-- ---- brackets

pub brackets_append : (a b : List ℕ) → brackets (a ++ b) ≡ brackets a ++ brackets b
unfolding brackets
brackets_append [] b = refl
brackets_append (x ∷ a) b =
    by_test (eqb x opening) (λ e. rw (e, brackets_append a b))
    (λ e. by_test (eqb x closing) (λ f. rw (e, f, brackets_append a b)) (λ f. rw (e, f, brackets_append a b)))

leaving_bracketless : (b : ℕ) → brackets (leaving signs b) ≡ []
unfolding brackets
leaving_bracketless = by_sign (λ b t. brackets t ≡ []) refl refl refl refl refl (λ b p. rw (p.no_opening, p.no_closing))

pub no_bracket : (c : List ℕ) → brackets (escaped c) ≡ []
unfolding escaped brackets
no_bracket [] = refl
no_bracket (b ∷ c) = rw (brackets_append (leaving signs b) (escaped c), leaving_bracketless b, no_bracket c)

-- a text with no bracket, up to the next bracket
pub up_to : (a r : List ℕ) → brackets a ≡ [] → up_to_bracket (a ++ (opening ∷ r)) ≡ a
unfolding up_to_bracket brackets
up_to [] r h = refl
up_to (x ∷ a) r h =
    by_test (eqb x opening) (λ e. absurd (none (rw e at h)))
    (λ e. by_test (eqb x closing) (λ f. absurd (none (rw (e, f) at h))) (λ f. rw (e, up_to a r (rw (e, f) at h))))
  where
    none : {y : ℕ} {l : List ℕ} → y ∷ l ≡ [] → ⊥
    none e = let z : ◌≡◌ {A = ℕ} 0 1 = cc in omega arith

-- ---- read back

leaving_back : (l : List ℕ) (b : ℕ) → unescaped_after 0 (leaving signs b ++ l) ≡ b ∷ unescaped_after 0 l
unfolding unescaped_after standing starts_with
leaving_back l = by_sign (λ b t. unescaped_after 0 (t ++ l) ≡ b ∷ unescaped_after 0 l) refl refl refl refl refl (λ b p. rw p.no_ampersand)

pub typed_back : (c : List ℕ) → unescaped_after 0 (escaped c) ≡ c
unfolding escaped unescaped_after
typed_back [] = refl
typed_back (b ∷ c) = leaving_back (escaped c) b ∙ ap (λ l. b ∷ l) (typed_back c)

-- ---- from a place on

module _ (c : List ℕ) (i : ℕ) where
  pub escaped_next : i < length c → escaped (drop i c) ≡ leaving signs (get_or c i 0) ++ escaped (drop (i + 1) c)
  unfolding escaped
  escaped_next h = rw (add-one i, drop-cons c i 0 h)

  pub escaped_done : length c ≤ i → escaped (drop i c) ≡ []
  unfolding escaped
  escaped_done h = rw (drop_of_length-le c {i = i} h)
