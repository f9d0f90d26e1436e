-- The caption in the picture: read back it is the one typed, and it brings no bracket.
use Prim.Native.Nat.{ℕ}
use mathlib.Core.Path.{◌≡◌, refl, sym, ap, ◌∙◌}
use mathlib.Core.List.{List, [], ◌∷◌, ◌++◌, append_assoc, append-nil}
use lib.ListN.{length, take, drop, take-append-drop}
use native.Mathlib.Omega.{arith}
use lib.Dec.{eqb}
use Rattle.rule.specs.Table.{Table}
use Rattle.rule.proofs.Whole.{by_test}
use Rattle.notation.specs.Signs.{ascii}
use Rattle.captions.specs.Caption.{brackets, closing, escaped, opening, starts_with, unescaped}
use Rattle.captions.proofs.Escaping.{brackets_append, up_to}
use Rattle.captions.proofs.Keeping.{captions}
use Rattle.drawing.specs.Picture.{behind, behind_text, between_text, caption_of, curve, front, head_text, line_most, picture, scale, view_of}

-- ---- around it

regroup : (h x m y e s r : List ℕ) → (h ++ (x ++ (m ++ (y ++ (e ++ []))))) ++ (s ++ (r ++ [])) ≡ h ++ (x ++ (m ++ (y ++ (e ++ (s ++ r)))))
regroup h x m y e s r = simp (append_assoc, append-nil)

pub around : (t : Table) (c : List ℕ) → picture t c ≡ head_text ++ (escaped (take line_most c) ++ (between_text ++ (escaped (drop line_most c) ++ (behind_text ++ (scale (length t) (view_of t) ++ curve t)))))
unfolding picture front
around t c = regroup head_text (escaped (take line_most c)) between_text (escaped (drop line_most c)) behind_text (scale (length t) (view_of t)) (curve t)

-- ---- read back

-- the beginning of the first element, and of the second, is found where it stands
first_found : (l : List ℕ) → behind (ascii "<tspan x=\"100\">") (head_text ++ l) ≡ l
unfolding behind starts_with
first_found l = refl

second_found : (l : List ℕ) → behind (ascii "<tspan x=\"100\" dy=\"220\">") (between_text ++ l) ≡ l
unfolding behind starts_with
second_found l = refl

none : {y : ℕ} {l : List ℕ} → y ∷ l ≡ [] → ⊥
none e = let z : ◌≡◌ {A = ℕ} 0 1 = cc in omega arith

-- a text without a bracket is passed over
passed : (w a r : List ℕ) → brackets a ≡ [] → behind (opening ∷ w) (a ++ r) ≡ behind (opening ∷ w) r
unfolding behind starts_with brackets
passed w [] r h = refl
passed w (x ∷ a) r h =
    by_test (eqb x opening) (λ e. absurd (none (rw e at h)))
    (λ e. by_test (eqb x closing) (λ f. absurd (none (rw (e, f) at h))) (λ f. rw e (passed w a r (rw (e, f) at h))))

read_back : (x y r : List ℕ) → brackets x ≡ [] → brackets y ≡ [] → caption_of (head_text ++ (x ++ (between_text ++ (y ++ (behind_text ++ r))))) ≡ unescaped x ++ unescaped y
unfolding caption_of
read_back x y r e f =
    let rest = y ++ (behind_text ++ r) in
    rw (
      first_found (x ++ (between_text ++ rest)),
      up_to x (drop 1 between_text ++ rest) e,
      passed (drop 1 (ascii "<tspan x=\"100\" dy=\"220\">")) x (between_text ++ rest) e,
      second_found rest,
      up_to y (drop 1 behind_text ++ r) f,
    )

pub caption_back : (t : Table) (c : List ℕ) → caption_of (picture t c) ≡ c
caption_back t c =
    let first = take line_most c in
    let rest = drop line_most c in
    ap caption_of (around t c)
    ∙ read_back (escaped first) (escaped rest) (scale (length t) (view_of t) ++ curve t) (captions.no_bracket first) (captions.no_bracket rest)
    ∙ rw (captions.back first, captions.back rest) (take-append-drop line_most c)

-- ---- brackets

plain_front : (c r : List ℕ) → brackets (escaped c ++ r) ≡ brackets r
plain_front c r = rw (brackets_append (escaped c) r, captions.no_bracket c)

-- with two texts that bring no bracket, the brackets are those of what stands around them
around_brackets : (h m r c d : List ℕ) → brackets (h ++ (escaped c ++ (m ++ (escaped d ++ r)))) ≡ brackets h ++ (brackets m ++ brackets r)
around_brackets h m r c d =
    brackets_append h _ ∙ ap (λ l. brackets h ++ l) (plain_front c _ ∙ brackets_append m _ ∙ ap (λ l. brackets m ++ l) (plain_front d r))

pub same_brackets : (t : Table) (c : List ℕ) → brackets (picture t c) ≡ brackets (picture t [])
same_brackets t c =
    let after = behind_text ++ (scale (length t) (view_of t) ++ curve t) in
    ap brackets (around t c) ∙ around_brackets head_text between_text after (take line_most c) (drop line_most c)
    ∙ sym (ap brackets (around t []) ∙ around_brackets head_text between_text after (take line_most []) (drop line_most []))
