-- The row of a call, place by place: first the buckets, then what was there before.
use Prim.Native.Nat.{ℕ}
use mathlib.Core.Path.{◌≡◌, refl, sym, ap, ◌∙◌}
use mathlib.Core.List.{List}
use native.Mathlib.Omega.{arith}
use lib.IntN.{ℤ}
use lib.ListN.{length, take, drop}
use lib.Seq.{drop_at, take_at}
use Rattle.rule.specs.declared.Refusal.{Refusal}
use Rattle.rule.specs.declared.State.{State}
use Rattle.rule.specs.Calls.{row_outcome, wrote}
use Rattle.rule.specs.Room.{table_of}
use Rattle.rule.specs.Table.{Table}
use Rattle.rooms.proofs.Laying.{length_slots}
use Rattle.row.specs.Answers.{number}
use Rattle.rooms.proofs.Writing.{write_either}
use Rattle.std.specs.Prelude.{Ok, Err}

other : (r : Refusal) (n : ℕ) → Err r ≡ Ok n → ⊥
other r n e = let none : ◌≡◌ {A = ℕ} 0 1 = cc in omega arith

module _ (s : State) (l : List ℤ) (out : Table) where
  -- a refusal leaves every record as it was
  pub row_refused : (r : Refusal) → (row_outcome s l out).0 ≡ Err r → (row_outcome s l out).1 ≡ out
  unfolding wrote
  row_refused r = write_either s l s.used (length out) (λ v. let o = wrote (λ t. t) out v in o.0 ≡ Err r → o.1 ≡ out) (λ q e. refl) (λ e h k. absurd (other r (length (table_of s l)) (sym k)))

  module _ (n : ℕ) (told : (row_outcome s l out).0 ≡ Ok n) where
    -- as many records as buckets in use, the buckets first, and the rest as it was
    pub row_written : (n ≡ s.used) × ((take n (row_outcome s l out).1 ≡ table_of s l) × (drop n (row_outcome s l out).1 ≡ drop n out))
    unfolding wrote number
    row_written =
        write_either s l s.used (length out) (λ v. let o = wrote (λ t. t) out v in o.0 ≡ Ok n → (n ≡ s.used) × ((take n o.1 ≡ table_of s l) × (drop n o.1 ≡ drop n out))) (λ r k. absurd (other r n k))
        (λ e h k. let same : length (table_of s l) ≡ n = ap number k in
        let rest : Table = drop (length (table_of s l)) out in
        (sym same ∙ length_slots l 0 s.used, (take_at (table_of s l) rest n same, drop_at (table_of s l) rest n same ∙ ap (λ (j : ℕ). drop j out) same)))
        told
