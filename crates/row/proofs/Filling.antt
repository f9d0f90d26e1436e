-- The row as the loop writes it, one place after the other, and what the answer says of the trace.
use Prim.Native.Nat.{ℕ, suc, ◌+◌, ◌*◌, ◌≤◌, ◌<◌}
use mathlib.Core.Path.{◌≡◌, refl, sym, ◌∙◌}
use mathlib.Core.Bool.{true}
use mathlib.Core.List.{List}
use native.Mathlib.Omega.{arith}
use lib.IntN.{ℤ}
use lib.ListN.{length, drop, get_or, set, length-append, length-drop}
use lib.Seq.{append_snoc, drop-cons, set_at}
use Rattle.rule.specs.declared.State.{State}
use Rattle.rule.specs.Numbers.{slot_width}
use Rattle.rule.specs.Calls.{row_outcome, wrote}
use Rattle.rule.specs.Room.{slot, slot_ranged, slots}
use Rattle.rule.specs.Table.{Table}
use Rattle.rooms.proofs.Laying.{length_slots, slots_split}
use Rattle.rooms.proofs.Reading.{filled}
use Rattle.rooms.proofs.Sounding.{sound_facts, sound_filled}
use Rattle.row.specs.Answers.{answer, number, row_answer, up_to}
use Rattle.rooms.proofs.Writing.{write_either}

pub none_yet : (l : List ℤ) (out : Table) → out ≡ up_to l 0 out
unfolding slots
none_yet l out = refl

pub as_long : (l : List ℤ) (i : ℕ) (out : Table) → i ≤ length out → length (up_to l i out) ≡ length out
as_long l i out h = length-append (slots l 0 i) (drop i out) ∙ omega (arith, length_slots l 0 i, length-drop i out)

-- the next place is written
pub one_more : (l : List ℤ) (i : ℕ) (out : Table) → i < length out → set (up_to l i out) i (slot l i) ≡ up_to l (i + 1) out
unfolding slots
one_more l i out h =
    let next : i + 1 ≡ suc i = omega arith in
    rw (drop-cons out i (slot l i) h, set_at (slots l 0 i) (get_or out i (slot l i)) (drop (suc i) out) (slot l i) i (length_slots l 0 i), slots_split l 0 i i 1 (i + 1) (omega arith) refl, next)
    (sym (append_snoc (slots l 0 i) (slot l i) (drop (suc i) out)))

module _ (s : State) (l : List ℤ) where
  pub number_fits : (n : ℕ) → number (row_answer s l n) ≤ n
  unfolding answer number
  number_fits n = write_either s l s.used n (λ v. number (answer v) ≤ n) (λ r. omega arith) (λ e h. omega (arith, length_slots l 0 s.used))

  -- each bucket that is counted can be read
  pub readable : (n i : ℕ) → i < number (row_answer s l n) → (slot_width * suc i ≤ length l) × (slot_ranged l i ≡ true)
  unfolding answer number
  readable n i = write_either s l s.used n (λ v. i < number (answer v) → (slot_width * suc i ≤ length l) × (slot_ranged l i ≡ true)) (λ r k. absurd (omega arith))
      (λ e h k. filled (sound_filled s l (sound_facts s l e)) i (omega (arith, length_slots l 0 s.used)))

  -- all places written are the outcome
  pub all_written : (out : Table) → let a = row_answer s l (length out) in (a, up_to l (number a) out) ≡ row_outcome s l out
  unfolding answer number wrote slots
  all_written out = write_either s l s.used (length out) (λ v. (answer v, up_to l (number (answer v)) out) ≡ wrote (λ t. t) out v) (λ r. refl) (λ e h. rw (length_slots l 0 s.used))
