-- What load answers and leaves by one edition and by the other.
use Prim.Native.Nat.{ℕ}
use mathlib.Core.Path.{◌≡◌, refl, ◌∙◌, ap}
use mathlib.Core.List.{List}
use mathlib.Core.Logic.{◌⊎◌}
use lib.IntN.{ℤ}
use Rattle.rule.specs.declared.Opening.{Opening}
use Rattle.rule.specs.Calls.{Verdict, admitted, checked, file_verdict, kept, load_verdict, loaded, traced}
use Rattle.rule.specs.Room.{roomy}
use Rattle.rule.specs.Table.{Table}
use Rattle.answered.proofs.Answering.{one_of_two}
use Rattle.promises.specs.Demands.{answered_in, in_edition}
use Rattle.std.specs.Prelude.{Ok, Err}

module _ (g : Opening) (e : ℕ) (l : List ℤ) where
  left_in : (v : Verdict Table) → traced (kept (in_edition e g)) l v ≡ (answered_in e (traced (kept g) l v).0, (traced (kept g) l v).1)
  unfolding traced answered_in
  left_in (Err r) = refl
  left_in (Ok t) = refl

  same_verdict : (g.edition ≡ 1) ⊎ (g.edition ≡ 2) → (e ≡ 1) ⊎ (e ≡ 2) → (file : List ℕ) → load_verdict (in_edition e g) file l ≡ load_verdict g file l
  unfolding admitted checked file_verdict roomy
  same_verdict here there file = rw (one_of_two g.edition here, one_of_two e there)

  pub either_loads : (g.edition ≡ 1) ⊎ (g.edition ≡ 2) → (e ≡ 1) ⊎ (e ≡ 2) → (file : List ℕ) → let o = loaded g file l in loaded (in_edition e g) file l ≡ (answered_in e o.0, o.1)
  either_loads here there file = ap (traced (kept (in_edition e g)) l) (same_verdict here there file) ∙ left_in (load_verdict g file l)
