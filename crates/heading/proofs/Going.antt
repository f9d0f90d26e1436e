-- The bytes of a piece go to the caption one by one: what is left of them leads where all lead.
use Prim.Native.Nat.{ℕ, ◌+◌, ◌≤◌, ◌<◌}
use mathlib.Core.Path.{◌≡◌, sym, ap, ◌∙◌}
use mathlib.Core.Bool.{true, false}
use mathlib.Core.List.{List, ◌∷◌}
use native.Mathlib.Numerals.{add-one}
use native.Mathlib.Omega.{arith}
use borrow.Author.Tests.{eq-eqb, ne_eqb}
use lib.ListN.{drop, drop_of_length-le, get_or, length}
use lib.Seq.{drop-cons}
use Rattle.notation.specs.Signs.{line_feed}
use Rattle.sketching.specs.declared.Heading.{Heading}
use Rattle.sketching.specs.Heading.{headed_from, kept}

pub record Going (filled : ℕ) (caption₀ bytes caption : List ℕ) (k i : ℕ) : Type 0 where
  pub inside : i ≤ length bytes
  pub goes : headed_from filled 0 caption₀ bytes ≡ headed_from k i caption (drop i bytes)

module _ {filled : ℕ} {caption₀ bytes caption : List ℕ} {k i : ℕ} (x : Going filled caption₀ bytes caption k i) where
  next : i < length bytes → headed_from filled 0 caption₀ bytes ≡ headed_from k i caption (get_or bytes i 0 ∷ drop (i + 1) bytes)
  next h = x.goes ∙ ap (headed_from k i caption) (drop-cons bytes i 0 h ∙ rw (add-one i))

  -- another byte
  pub going_on : {k' : ℕ} {caption' : List ℕ} → i < length bytes → (get_or bytes i 0 ≡ line_feed → ⊥) → ◌≡◌ {A = ℕ × List ℕ} (k', caption') (kept k caption (get_or bytes i 0)) → Going filled caption₀ bytes caption' k' (i + 1)
  unfolding headed_from
  going_on h other e =
      record {
        inside = omega (arith, h);
        goes = next h ∙ rw (ne_eqb (get_or bytes i 0) line_feed other) (ap (λ (o : ℕ × List ℕ). headed_from o.0 (i + 1) o.1 (drop (i + 1) bytes)) (sym e));
      }

  -- the line feed
  pub going_ends : i < length bytes → get_or bytes i 0 ≡ line_feed → ◌≡◌ {A = Heading × List ℕ} (record { filled = k; taken = i + 1; ended = true }, caption) (headed_from filled 0 caption₀ bytes)
  unfolding headed_from
  going_ends h e = sym (next h ∙ rw (eq-eqb (get_or bytes i 0) line_feed e))

  -- the piece's end
  pub going_rests : length bytes ≤ i → ◌≡◌ {A = Heading × List ℕ} (record { filled = k; taken = length bytes; ended = false }, caption) (headed_from filled 0 caption₀ bytes)
  unfolding headed_from
  going_rests h =
      let here : i ≡ length bytes = omega (arith, x.inside) in
      sym (x.goes ∙ rw (drop_of_length-le bytes h) (rw here))
