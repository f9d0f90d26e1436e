-- What is promised of a caption that leaves, of any bytes.
use Rattle.std.specs.Prelude.{ℕ, ◌*◌, ◌≤◌, ◌≡◌, ◌≢◌, true, length}
use mathlib.Core.List.{List, [], ◌∷◌, ◌++◌, Memᴰ}
use Rattle.notation.specs.Signs.{ascii}
use Rattle.captions.specs.Caption.{brackets, caption_good, escaped, unescaped}

pub record Captions : Type 0 where
  -- five bytes leave as XML 1.0 writes them, any other as it is, and each by itself, whatever stands beside it
  pub five : (escaped (0x26 ∷ []) ≡ ascii "&amp;") × (escaped (0x3C ∷ []) ≡ ascii "&lt;") × (escaped (0x3E ∷ []) ≡ ascii "&gt;") × (escaped (0x22 ∷ []) ≡ ascii "&quot;") × (escaped (0x27 ∷ []) ≡ ascii "&#39;")
  pub others : (b : ℕ) → b ≢ 0x26 → b ≢ 0x3C → b ≢ 0x3E → b ≢ 0x22 → b ≢ 0x27 → escaped (b ∷ []) ≡ b ∷ []
  pub each : (c d : List ℕ) → escaped (c ++ d) ≡ escaped c ++ escaped d
  -- read back in one pass, it is what was typed
  pub back : (c : List ℕ) → unescaped (escaped c) ≡ c
  -- none of its bytes is an opening or a closing bracket, nor a quotation mark
  pub no_bracket : (c : List ℕ) → brackets (escaped c) ≡ []
  pub no_byte : (c : List ℕ) (b : ℕ) → Memᴰ b (escaped c) → (b ≢ 0x3C) × (b ≢ 0x3E) × (b ≢ 0x22) × (b ≢ 0x27)
  -- what is taken: at most 200 bytes, each from 0x20 to 0x7E
  pub taken : (c : List ℕ) → caption_good c ≡ true → (length c ≤ 200) × ((b : ℕ) → Memᴰ b c → (0x20 ≤ b) × (b ≤ 0x7E))
  pub takes : (c : List ℕ) → length c ≤ 200 → ((b : ℕ) → Memᴰ b c → (0x20 ≤ b) × (b ≤ 0x7E)) → caption_good c ≡ true
  -- what leaves of bytes from 0x20 to 0x7E is of such bytes too
  pub stays_printable : (c : List ℕ) → caption_good c ≡ true → (b : ℕ) → Memᴰ b (escaped c) → (0x20 ≤ b) × (b ≤ 0x7E)
  -- and at most six times as long
  pub longest : (c : List ℕ) → length (escaped c) ≤ 6 * length c
