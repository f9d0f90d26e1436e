-- What it means that settings and room are admitted, and that what comes after does not change the first four refusals.
use Prim.Native.Nat.{ℕ, ◌*◌, ◌≤◌}
use mathlib.Core.Path.{◌≡◌, ◌∙◌, ap, sym}
use mathlib.Core.Bool.{true, not}
use mathlib.Core.List.{List, [], ◌∷◌}
use borrow.Author.Tests.{leb-true, le-leb, not-false}
use lib.IntN.{ℤ}
use lib.ListN.{length}
use Rattle.rule.specs.declared.Refusal.{Refusal}
use Rattle.rule.specs.declared.Opening.{Opening}
use Rattle.rule.specs.declared.Settings.{Settings}
use Rattle.rule.specs.Calls.{Verdict, admitted, checked, file_verdict, kept, loaded, opened, traced}
use Rattle.rule.specs.Numbers.{slot_width}
use Rattle.rule.specs.Room.{base_good, edition_good, gaps_good, roomy}
use Rattle.rule.specs.Table.{Table, needed}
use Rattle.rule.proofs.Checks.{Unrefused, past_checks}
use Rattle.rooms.proofs.Bounds.{size_base}
use Rattle.std.specs.Prelude.{Ok, Err}

-- ---- settings and room that are admitted

pub record Granted (s : Settings) (l : List ℤ) : Type 0 where
  pub edition : edition_good s.edition ≡ true
  pub base : base_good s.base ≡ true
  pub gaps : gaps_good s.kind s.gaps ≡ true
  pub long : slot_width * needed s ≤ length l

pub admits : (o : Opening) (l : List ℤ) → Granted (kept o) l → (v : Verdict Table) → admitted o l v ≡ v
unfolding admitted checked roomy
admits o l g v = rw (g.edition, size_base o.size, g.base, g.gaps, le-leb (slot_width * needed (kept o)) (length l) g.long)

-- open, load and replay answer and leave what the settings kept say, by whatever they are named
pub admitted_kept : (o p : Opening) → kept o ≡ kept p → (l : List ℤ) (v : Verdict Table) → admitted o l v ≡ admitted p l v
unfolding admitted
admitted_kept o p e l v =
    rw (size_base o.size, size_base p.size)
    (ap (λ (s : Settings). checked ((not (edition_good s.edition), Refusal.Edition) ∷ (not (base_good s.base), Refusal.Steps) ∷ (not (gaps_good s.kind s.gaps), Refusal.Gaps) ∷ (not (roomy s l), Refusal.Room) ∷ []) v) e)

pub opened_kept : (o p : Opening) → kept o ≡ kept p → (l : List ℤ) → opened o l ≡ opened p l
opened_kept o p e l = ap (λ (s : Settings). traced s l (admitted o l (Ok []))) e ∙ ap (traced (kept p) l) (admitted_kept o p e l (Ok []))

pub loaded_kept : (o p : Opening) → kept o ≡ kept p → (file : List ℕ) (l : List ℤ) → loaded o file l ≡ loaded p file l
loaded_kept o p e file l =
    ap (λ (s : Settings). traced s l (admitted o l (file_verdict s file))) e ∙ ap (traced (kept p) l) (admitted_kept o p e l (file_verdict (kept p) file))

-- what open and load ask, passed
pub past_admission : (o : Opening) (l : List ℤ) (v : Verdict Table) (P : Verdict Table → Type 0) → ((r : Refusal) → P (Err r)) → (Granted (kept o) l → P v) → P (admitted o l v)
unfolding admitted roomy Unrefused
past_admission o l v P refuses passed =
    past_checks P refuses _ v
    (λ p.
    passed (record { edition = not-false _ p.0; base = sym (size_base o.size) ∙ not-false _ p.1.0; gaps = not-false _ p.1.1.0; long = leb-true (slot_width * needed (kept o)) (length l) (not-false _ p.1.1.1.0) }))
