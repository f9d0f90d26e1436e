-- What ndz_picture answers, and what it draws of a trace that exported calls have left.
use Prim.Native.Nat.{ℕ, ◌≤◌, ◌<◌}
use mathlib.Core.Path.{◌≡◌, refl, sym, ap, subst, ◌∙◌}
use mathlib.Core.Logic.{◌≢◌}
use mathlib.Core.Bool.{true}
use mathlib.Core.List.{List, [], ◌∷◌, ◌++◌}
use native.Mathlib.Omega.{arith}
use borrow.Author.Tests.{leb-false, leb-true}
use lib.Dec.{leb}
use lib.IntN.{ℤ}
use lib.ListN.{drop, length, length-append, length-drop, take}
use Rattle.rule.specs.declared.Refusal.{Refusal}
use Rattle.rule.specs.declared.State.{State}
use Rattle.rule.specs.Answers.{number, place}
use Rattle.rule.specs.Room.{all_of, bounded, clauses, edition_good, sound, table_of}
use Rattle.rule.specs.Table.{Table, holders, runs}
use Rattle.rule.proofs.Whole.{by_test}
use Rattle.rooms.proofs.Sounding.{sound_facts}
use Rattle.demands.specs.History.{Reading}
use Rattle.captions.specs.Caption.{caption_good}
use Rattle.captions.proofs.Keeping.{captions}
use Rattle.drawing.specs.Call.{picture_outcome}
use Rattle.drawing.specs.Picture.{caption_of, picture}
use Rattle.drawing.proofs.Answering.{all_drawn, bad_caption, too_long, unsound}
use Rattle.drawing.proofs.Keeping.{pictures}
use Rattle.fields.specs.declared.Fields.{Fields}
use Rattle.fields.specs.declared.Named.{Named}
use Rattle.fields.specs.States.{kind_of, none, state_from}
use Rattle.pictured.specs.declared.Pictured.{Pictured}
use Rattle.pictured.specs.Pictured.{picture_reply, picturing}
use Rattle.answered.specs.Answered.{Answered, Row, picture_rows, said_drawn}
use Rattle.answered.proofs.Answering.{demand1}
use Rattle.exported.specs.Exported.{Called, buckets_of}
use Rattle.exported.proofs.Answering.{due, saying}
use Rattle.exported.proofs.Exporting.{promises}
use Rattle.pictures.specs.Exported.{Draws, ExportedPictures, PicturePromised, Taken, drew_all, wholly}
use Rattle.std.specs.Prelude.{Ok, Err}
use Rattle.rule.specs.Calls.{Verdict}

draws : (d : Verdict ℕ) (rows : List Row) (before after : List ℕ) → Answered (said_drawn d) rows before after → Draws rows before after (picturing d)
unfolding said_drawn picturing
draws (Err r) rows before after a = record { exactly = ap saying a.exactly ∙ sym (due rows); untouched = λ h. (refl, a.untouched (number r, place r) refl) }
draws (Ok n) rows before after a = record { exactly = ap saying a.exactly ∙ sym (due rows); untouched = λ h. absurd (h refl) }

-- ---- case by case

-- what holds where it is refused by 4, by 15 and by 13, and where the picture is written, holds of the answer
module _ (s : State) (l : List ℤ) (c out : List ℕ) (P : Verdict ℕ × List ℕ → Type 0) where
  by_case : P (Err Refusal.Unsound, out) → P (Err Refusal.Caption, out)
      → (sound s l ≡ true → caption_good c ≡ true → length out < length (picture (table_of s l) c) → P (Err Refusal.Short, out))
      → (length (picture (table_of s l) c) ≤ length out → let p = picture (table_of s l) c in P (Ok (length p), p ++ drop (length p) out))
      → P (picture_outcome s l c out)
  by_case four fifteen thirteen drawn =
      by_test (sound s l)
      (λ fit.
      by_test (caption_good c)
      (λ good.
      by_test (leb (length (picture (table_of s l) c)) (length out))
      (λ h. let long = leb-true (length (picture (table_of s l) c)) (length out) h in subst P (sym (all_drawn s l c out fit good long)) (drawn long))
      (λ h. let short = leb-false (length (picture (table_of s l) c)) (length out) h in subst P (sym (too_long s l c out fit good short)) (thirteen fit good short)))
      (λ bad. subst P (sym (bad_caption s l c out fit bad)) fifteen))
      (λ unfit. subst P (sym (unsound s l c out unfit)) four)

take_front : {A : Type 0} (p q : List A) → take (length p) (p ++ q) ≡ p
take_front [] q = refl
take_front (x ∷ p) q = ap (λ (r : List _). x ∷ r) (take_front p q)

as_long : (p out : List ℕ) → length p ≤ length out → length (p ++ drop (length p) out) ≡ length out
as_long p out h = omega (arith, length-append p (drop (length p) out), length-drop (length p) out)

-- ---- a trace that calls have left

module _ {named : Named} {rs : List Reading} {f : Fields} {l : List ℤ} (called : Called named rs f l) where
  fit : sound (state_from f) l ≡ true
  fit = (promises called).keeps.fit

  same : table_of (state_from f) l ≡ buckets_of named rs
  same = (promises called).keeps.buckets

  drawn : (caption out : List ℕ) → Taken caption → length (picture (buckets_of named rs) caption) ≤ length out → picture_reply f l caption out ≡ wholly named rs caption out
  unfolding picturing
  drawn caption out taken long =
      let good = captions.takes caption taken.short taken.bytes in
      ap (λ (o : Verdict ℕ × List ℕ). (picturing o.0, o.1)) (all_drawn (state_from f) l caption out fit good (subst (λ (t : Table). length (picture t caption) ≤ length out) (sym same) long))
      ∙ ap (λ (t : Table). let p = picture t caption in (drew_all (length p), p ++ drop (length p) out)) same

  pub picture_promised : PicturePromised named rs f l
  picture_promised = record {
    drawn = drawn;
    drawn_in_most = λ caption out taken long.
        let most = pictures.longest (state_from f) l caption fit (captions.takes caption taken.short taken.bytes) in
        let fits : length (picture (buckets_of named rs) caption) ≤ length out = subst (λ (t : Table). length (picture t caption) ≤ length out) same (omega (arith, most, long)) in
        drawn caption out taken fits;
    lines = pictures.one_a_run (buckets_of named rs) ∙ ap runs (sym same) ∙ sym (sound_facts (state_from f) l fit).true_runs ∙ (promises called).runs;
    covered = λ tick. ap (holders tick) (pictures.all_buckets (buckets_of named rs) ∙ sym same) ∙ (promises called).keeps.covers tick;
  }

pub exported_pictures : ExportedPictures
unfolding sound clauses edition_good all_of bounded kind_of picturing
exported_pictures = record {
  pictures = λ f l caption out. let s = state_from f in let o = picture_outcome s l caption out in draws o.0 (picture_rows s l caption (length out)) out o.1 (demand1.pictures s l caption out);
  writes = λ f l caption out.
      let p = picture (table_of (state_from f) l) caption in
      by_case (state_from f) l caption out (λ o. (picturing o.0).refusal ≡ 0 → ◌≡◌ {A = Pictured × List ℕ} (picturing o.0, o.1) (drew_all (length p), p ++ drop (length p) out)) (λ e. absurd (omega arith)) (λ e. absurd (omega arith)) (λ _ _ _ e. absurd (omega arith))
      (λ _ _. refl);
  unusable = λ l caption out. ap (λ (o : Verdict ℕ × List ℕ). (picturing o.0).refusal) (unsound (state_from none) l caption out refl);
  as_long = λ f l caption out. by_case (state_from f) l caption out (λ o. length o.1 ≡ length out) refl refl (λ _ _ _. refl) (as_long (picture (table_of (state_from f) l) caption) out);
  never_short = λ f l caption out most.
      by_case (state_from f) l caption out (λ o. (picturing o.0).refusal ≢ 13) (λ e. omega arith) (λ e. omega arith)
      (λ fit good short. absurd (omega (arith, pictures.longest (state_from f) l caption fit good)))
      (λ _ e. omega arith);
  caption_back = λ f l caption out.
      by_case (state_from f) l caption out (λ o. (picturing o.0).refusal ≡ 0 → caption_of (take (picturing o.0).bytes o.1) ≡ caption) (λ e. absurd (omega arith)) (λ e. absurd (omega arith)) (λ _ _ _ e. absurd (omega arith))
      (λ _ _. let p = picture (table_of (state_from f) l) caption in ap caption_of (take_front p (drop (length p) out)) ∙ pictures.caption_back (table_of (state_from f) l) caption);
}
