-- What an accepted next reading and a save that is not refused say.
use Prim.Native.Nat.{ℕ, ◌*◌}
use mathlib.Core.Path.{◌≡◌, sym, ap, ◌∙◌}
use mathlib.Core.Bool.{false}
use mathlib.Core.List.{List}
use native.Mathlib.Omega.{arith}
use lib.IntN.{ℤ}
use lib.ListN.{drop, length, take}
use lib.Seq.{take_at}
use Rattle.rule.specs.declared.State.{State}
use Rattle.rule.specs.Calls.{late, next_outcome, save_outcome, traced, wrote, Verdict}
use Rattle.rule.specs.Numbers.{record_width}
use Rattle.rule.specs.Bytes.{saved}
use Rattle.storage.proofs.RoundTrip.{length_saved}
use Rattle.rule.specs.Room.{table_of}
use Rattle.rule.specs.Table.{Table}
use Rattle.rooms.proofs.Writing.{write_either}
use Rattle.rooms.proofs.Leaving.{next_either}
use Rattle.rooms.proofs.Outcomes.{not_accepted}
use Rattle.std.specs.Prelude.{Ok, Err}

-- an accepted next reading is one of a trace in order
pub next_in_order : (s : State) (l : List ℤ) (v : ℤ) {t : State} {m : List ℤ} → next_outcome s l v ≡ (Ok t, m) → late s.settings.kind ≡ false
next_in_order s l v {t} {m} =
    next_either s l v (λ w. traced s.settings l w ≡ (Ok t, m) → late s.settings.kind ≡ false) (λ r e. absurd (not_accepted s.settings l r e)) (λ kind _ _ _. kind)

-- ---- save

pub bytes_written : (s : State) (l : List ℤ) (out : List ℕ) (n : ℕ) (written : List ℕ) → save_outcome s l out ≡ (Ok n, written) → take (record_width * n) written ≡ saved (table_of s l)
unfolding wrote
bytes_written s l out n written =
    write_either s l (record_width * s.used) (length out) (λ v. wrote saved out v ≡ (Ok n, written) → take (record_width * n) written ≡ saved (table_of s l))
    (λ r e. absurd (let w : ◌≡◌ {A = Verdict ℕ} (Err r) (Ok n) = ap (λ (o : Verdict ℕ × List ℕ). o.0) e in let z : ◌≡◌ {A = ℕ} 0 1 = cc in omega arith))
    (λ _ _ e.
    let t : Table = table_of s l in
    let w : ◌≡◌ {A = Verdict ℕ} (Ok (length t)) (Ok n) = ap (λ (o : Verdict ℕ × List ℕ). o.0) e in
    let many : length t ≡ n = cc in
    ap (λ (o : Verdict ℕ × List ℕ). take (record_width * n) o.1) (sym e) ∙ take_at (saved t) (drop (length (saved t)) out) (record_width * n) (omega (arith, length_saved t, many)))
