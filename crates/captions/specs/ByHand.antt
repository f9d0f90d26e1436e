-- Captions worked by hand: the five signs, what looks like one, and what was typed as one.
use Rattle.std.specs.Prelude.{ℕ, ◌≡◌, Bool, true, false, List, [], ◌∷◌, map}
use Prim.Native.String.{String}
use Rattle.notation.specs.Signs.{ascii}
use Rattle.captions.specs.Caption.{caption_good, escaped, unescaped}

unfoldable pub captions : List (String × String)
captions =
    ("", "")
    ∷ ("a<b & \"c\"", "a&lt;b &amp; &quot;c&quot;")
    ∷ ("'>'", "&#39;&gt;&#39;")
    ∷ ("&lt;", "&amp;lt;")
    ∷ ("&amp;lt;", "&amp;amp;lt;")
    ∷ ("[x] {y} ]]>", "[x] {y} ]]&gt;")
    ∷ ("&#39;&#60;&", "&amp;#39;&amp;#60;&amp;")
    ∷ ("%d ~", "%d ~")
    ∷ []

-- texts that no caption leaves as, and what is read from them
unfoldable pub others : List (String × String)
others =
    ("&lt", "&lt")
    ∷ ("&&lt;", "&<")
    ∷ ("&apos;&#39;", "&apos;'")
    ∷ ("&amp;amp;", "&amp;")
    ∷ []

-- bytes that are taken and bytes that are not
unfoldable pub bytes : List (ℕ × Bool)
bytes = (0, false) ∷ (9, false) ∷ (10, false) ∷ (31, false) ∷ (32, true) ∷ (65, true) ∷ (126, true) ∷ (127, false) ∷ (128, false) ∷ (255, false) ∷ []

pub record ByHand : Type 0 where
  pub leave : map (λ e. escaped (ascii e.0)) captions ≡ map (λ e. ascii e.1) captions
  pub typed : map (λ e. unescaped (ascii e.1)) captions ≡ map (λ e. ascii e.0) captions
  pub read : map (λ e. unescaped (ascii e.0)) others ≡ map (λ e. ascii e.1) others
  pub good : map (λ e. caption_good (e.0 ∷ [])) bytes ≡ map (λ e. e.1) bytes
