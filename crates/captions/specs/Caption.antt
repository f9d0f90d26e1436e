-- A caption as bytes: which are taken, how each leaves in a text of XML 1.0, and how what left is read back.
use Rattle.std.specs.Prelude.{ℕ, zero, suc, ◌-◌, Bool, true, false, cond, ◌&&◌, ◌||◌, List, [], ◌∷◌, ◌++◌, eqb, leb, length}
use Prim.Native.Char.{code}
use Rattle.notation.specs.Signs.{ascii}

-- ---- what is taken

-- typed bytes, at most
abbrev pub caption_most : ℕ
caption_most = 200

-- from the space to the tilde
unfoldable pub printable : ℕ → Bool
printable b = leb 0x20 b && leb b 0x7E

unfoldable pub all_printable : List ℕ → Bool
all_printable [] = true
all_printable (b ∷ c) = printable b && all_printable c

unfoldable pub caption_good : List ℕ → Bool
caption_good c = leb (length c) caption_most && all_printable c

-- ---- how it leaves

-- five bytes, and what each leaves as
abbrev pub signs : List (ℕ × List ℕ)
signs =
    (code "&", ascii "&amp;")
    ∷ (code "<", ascii "&lt;")
    ∷ (code ">", ascii "&gt;")
    ∷ (code "\"", ascii "&quot;")
    ∷ (code "'", ascii "&#39;")
    ∷ []

-- by a table of signs; any other byte leaves as it is
unfoldable pub leaving : List (ℕ × List ℕ) → ℕ → List ℕ
leaving [] b = b ∷ []
leaving (s ∷ t) b = cond (eqb b s.0) s.1 (leaving t b)

unfoldable pub escaped : List ℕ → List ℕ
escaped [] = []
escaped (b ∷ c) = leaving signs b ++ escaped c

-- ---- how it is read back

unfoldable pub starts_with : List ℕ → List ℕ → Bool
starts_with [] l = true
starts_with (x ∷ w) [] = false
starts_with (x ∷ w) (y ∷ l) = eqb y x && starts_with w l

-- of a text that is b and then l: the byte that its first sign stands for, and how many bytes of l belong to that sign
unfoldable pub standing : List (ℕ × List ℕ) → ℕ → List ℕ → ℕ × ℕ
standing [] b l = (b, 0)
standing (s ∷ t) b l = cond (starts_with s.1 (b ∷ l)) (s.0, length s.1 - 1) (standing t b l)

-- once from left to right, so many bytes of a sign being passed over first
unfoldable pub unescaped_after : ℕ → List ℕ → List ℕ
unescaped_after k [] = []
unescaped_after zero (b ∷ l) = let s = standing signs b l in s.0 ∷ unescaped_after s.1 l
unescaped_after (suc k) (b ∷ l) = unescaped_after k l

abbrev pub unescaped : List ℕ → List ℕ
unescaped l = unescaped_after 0 l

-- ---- brackets

abbrev pub opening : ℕ
opening = code "<"

abbrev pub closing : ℕ
closing = code ">"

-- the brackets of a text, in their order
unfoldable pub brackets : List ℕ → List ℕ
brackets [] = []
brackets (b ∷ l) = cond (eqb b opening || eqb b closing) (b ∷ brackets l) (brackets l)

-- what stands before the next opening bracket
unfoldable pub up_to_bracket : List ℕ → List ℕ
up_to_bracket [] = []
up_to_bracket (b ∷ l) = cond (eqb b opening) [] (b ∷ up_to_bracket l)
