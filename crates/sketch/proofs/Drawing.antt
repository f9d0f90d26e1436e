-- Of a sound trace with a good caption the call draws the picture, where the output has room for any.
use Prim.Native.Nat.{ℕ, ◌≤◌}
use mathlib.Core.Path.{◌≡◌, sym, ap, ◌∙◌}
use mathlib.Core.Bool.{true}
use mathlib.Core.List.{List, ◌++◌}
use native.Mathlib.Nat.{zero-add}
use native.Mathlib.Omega.{arith}
use borrow.Author.Tests.{le-ltb}
use lib.IntN.{ℤ}
use lib.ListN.{drop, length}
use lib.Seq.{sets-eq}
use Rattle.rule.specs.declared.Refusal.{Refusal}
use Rattle.rule.specs.declared.State.{State}
use Rattle.rule.specs.Calls.{checked, Verdict}
use Rattle.rule.specs.Room.{sound, table_of}
use Rattle.notation.specs.Printing.{Printed}
use Rattle.captions.specs.Caption.{caption_good}
use Rattle.drawing.specs.Call.{drawn_in, picture_outcome, picture_verdict}
use Rattle.drawing.specs.Picture.{picture}
use Rattle.drawing.specs.Promise.{picture_most}
use Rattle.drawing.proofs.Longest.{longest}
use Rattle.std.specs.Prelude.{Ok, Err}

-- 1 and the bytes, or 0
abbrev told : Verdict ℕ → ℕ × ℕ
told (Ok n) = (1, n)
told (Err r) = (0, 0)

module _ (s : State) (l : List ℤ) (c out : List ℕ) (whole : sound s l ≡ true) (good : caption_good c ≡ true) (room : picture_most ≤ length out) where
  abbrev text : List ℕ
  text = picture (table_of s l) c

  fits : length text ≤ length out
  fits = omega (arith, longest s l c whole good, room)

  drawn_whole : picture_outcome s l c out ≡ (Ok (length text), text ++ drop (length text) out)
  unfolding picture_verdict drawn_in checked
  drawn_whole = rw (whole, good, le-ltb (length out) (length text) fits)

  module _ (d : Verdict ℕ) (after : List ℕ) (e : (d, after) ≡ picture_outcome s l c out) where
    pub never_refused : (r : Refusal) → d ≡ Err r → ⊥
    never_refused r is =
        let one : told d ≡ (1, length text) = ap (λ (o : Verdict ℕ × List ℕ). told o.0) (e ∙ drawn_whole) in
        let none : told d ≡ (0, 0) = ap told is in
        let z : ◌≡◌ {A = ℕ} 0 1 = ap (λ (o : ℕ × ℕ). o.0) (sym none ∙ one) in
        omega (arith, z)

    pub drawn_printed : (n : ℕ) → d ≡ Ok n → Printed out 0 text n after
    drawn_printed n is =
        let size : n ≡ length text = ap (λ (o : ℕ × ℕ). o.1) (sym (ap told is) ∙ ap (λ (o : Verdict ℕ × List ℕ). told o.0) (e ∙ drawn_whole)) in
        record {
          next = omega (arith, size);
          bytes = ap (λ (o : Verdict ℕ × List ℕ). o.1) (e ∙ drawn_whole) ∙ sym (rw (zero-add (length text)) at (sets-eq text out 0 (omega (arith, fits))));
          inside = omega (arith, size, fits);
        }
