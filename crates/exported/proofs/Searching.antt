-- What ndz_first_over finds.
use Prim.Native.Nat.{ℕ, ◌≤◌}
use mathlib.Core.Path.{◌≡◌, refl}
use mathlib.Core.Logic.{◌≢◌}
use mathlib.Core.Bool.{false}
use mathlib.Core.List.{List, [], ◌∷◌, Memᴰ}
use native.Mathlib.Omega.{arith}
use lib.Dec.{leb}
use lib.IntN.{ℤ}
use lib.Signed.{le_z}
use Rattle.rule.specs.declared.Bucket.{Bucket}
use Rattle.rule.specs.Calls.{checked, found, found_of, lookup_outcome, Verdict}
use Rattle.rule.specs.Numbers.{ticks}
use Rattle.rule.specs.Room.{sound, table_of}
use Rattle.rule.specs.Table.{Table, holding, holds}
use Rattle.rule.proofs.Whole.{by_test}
use Rattle.rule.proofs.Tables.{held_within}
use Rattle.over.specs.Promise.{First, Over}
use Rattle.over.specs.Search.{search_outcome}
use Rattle.over.proofs.Searching as searching
use Rattle.demands.specs.Curve as curve
use Rattle.fields.specs.declared.Fields.{Fields}
use Rattle.fields.specs.States.{state_from}
use Rattle.plain.specs.Plain.{lookup_reply, pointing, showing}
use Rattle.replay.specs.Answers as replay
use Rattle.exported.specs.Exported.{ExportedSearch}
use Rattle.exported.proofs.Answering.{numbered}
use Rattle.std.specs.Prelude.{Ok, Err, None, Some}
use Rattle.over.specs.Hits.{Searched, hit}

module _ (t : Table) (first last : ℕ) (bar : ℤ) where
  one_or_none : (s : Searched) → (pointing s).found ≢ 1 → (pointing s).found ≡ 0
  unfolding pointing
  one_or_none (Ok (Some at)) h = absurd (h refl)
  one_or_none (Ok None) h = refl
  one_or_none (Err r) h = refl

  hits : (s : Searched) → ((index start : ℕ) → s ≡ hit index start → First first last bar t index start) → (pointing s).found ≡ 1 → First first last bar t (pointing s).index (pointing s).start
  unfolding pointing
  hits (Ok (Some h)) f e = f h.index h.start refl
  hits (Ok None) f e = absurd (omega arith)
  hits (Err r) f e = absurd (omega arith)

  misses : (s : Searched) → (s ≡ (Ok None) → (b : Bucket) → Memᴰ b t → Over first last bar b → ⊥) → (pointing s).refusal ≡ 0 → (pointing s).found ≡ 0 → (b : Bucket) → Memᴰ b t → Over first last bar b → ⊥
  unfolding pointing
  misses (Ok (Some h)) f z e = absurd (omega arith)
  misses (Ok None) f z e = f refl
  misses (Err r) f z e = absurd (omega (arith, numbered r))

  zeros : (s : Searched) → (pointing s).found ≡ 0 → ((pointing s).index ≡ 0) × ((pointing s).start ≡ 0)
  unfolding pointing
  zeros (Ok (Some h)) e = absurd (omega arith)
  zeros (Ok None) e = (refl, refl)
  zeros (Err r) e = (refl, refl)

shown_low : (tick first last : ℕ) (bar : ℤ) (t : Table) → ((b : Bucket) → Memᴰ b t → Over first last bar b → ⊥) → first ≤ tick → tick ≤ last → (showing (found (holding tick t))).refusal ≡ 0 → le_z bar (showing (found (holding tick t))).largest ≡ false
unfolding showing found holding
shown_low tick first last bar [] f low high = λ z. absurd (omega (arith, z))
shown_low tick first last bar (b ∷ t) f low high =
    by_test (holds tick b)
    (λ h. rw h (λ z. by_test (le_z bar b.largest) (λ e. let inside = held_within tick b h in absurd (f b (Memᴰ.head refl) (record { shares = record { tick = tick; from_first = low; to_last = high; from_start = inside.0; before_end = inside.1 }; reaches = e }))) (λ e. e)))
    (λ h. rw h (shown_low tick first last bar t (λ c m. f c (Memᴰ.tail m)) low high))

none_shown : (f : Fields) (l : List ℤ) (first last : ℕ) (bar : ℤ) (tick : ℕ) → ((b : Bucket) → Memᴰ b (table_of (state_from f) l) → Over first last bar b → ⊥) → first ≤ tick → tick ≤ last → (lookup_reply f l tick).refusal ≡ 0 → le_z bar (lookup_reply f l tick).largest ≡ false
unfolding showing lookup_outcome found_of checked
none_shown f l first last bar tick g low high =
    by_test (sound (state_from f) l)
    (λ fit. by_test (leb ticks tick) (λ h. rw (fit, h) (λ z. absurd (omega (arith, z)))) (λ h. rw (fit, h) (shown_low tick first last bar (table_of (state_from f) l) g low high)))
    (λ fit. rw fit (λ z. absurd (omega (arith, z))))

pub exported_search : ExportedSearch
exported_search = record {
  one_or_none = λ f l first last bar. one_or_none (table_of (state_from f) l) first last bar (search_outcome (state_from f) l first last bar);
  hits = λ f l first last bar. let s = state_from f in hits (table_of s l) first last bar (search_outcome s l first last bar) ((searching.searches).hits s l first last bar);
  misses = λ f l first last bar. let s = state_from f in misses (table_of s l) first last bar (search_outcome s l first last bar) ((searching.searches).misses s l first last bar);
  none_shown = λ f l first last bar z e tick low high. none_shown f l first last bar tick (misses (table_of (state_from f) l) first last bar (search_outcome (state_from f) l first last bar) ((searching.searches).misses (state_from f) l first last bar) z e) low high;
  zeros = λ f l first last bar. zeros (table_of (state_from f) l) first last bar (search_outcome (state_from f) l first last bar);
}
