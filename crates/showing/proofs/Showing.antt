-- The rows of slots printed one behind the other.
use Prim.Native.Nat.{ℕ, zero, suc, ◌*◌, ◌≤◌}
use mathlib.Core.Path.{◌≡◌, refl, ap, ◌∙◌}
use mathlib.Core.List.{List, [], ◌∷◌, ◌++◌, append_assoc, append-nil}
use native.Mathlib.Nat.{zero-add}
use native.Mathlib.Omega.{arith}
use lib.IntN.{ℤ}
use lib.ListN.{length, length-append}
use Rattle.rule.specs.Room.{slot, slots}
use Rattle.rule.specs.Table.{Table}
use Rattle.rooms.specs.Slots.{Filled}
use Rattle.rooms.proofs.Fitting.{fitting_slot}
use Rattle.rooms.proofs.Laying.{slots_split}
use Rattle.rooms.proofs.Reading.{filled}
use Rattle.notation.specs.Printing.{line_room, row, rows}
use Rattle.notation.proofs.Texts.{row_short}

rows_append : (t u : Table) → rows (t ++ u) ≡ rows t ++ rows u
unfolding rows
rows_append [] u = refl
rows_append (b ∷ t) u = rw (rows_append t u, append_assoc (row b) (rows t) (rows u))

pub rows_next : (l : List ℤ) (i : ℕ) → rows (slots l 0 (suc i)) ≡ rows (slots l 0 i) ++ row (slot l i)
unfolding rows slots
rows_next l i =
    ap rows (slots_split l 0 i i 1 (suc i) (zero-add i) (omega arith)) ∙ rows_append (slots l 0 i) (slots l i 1) ∙ ap (λ (x : List ℕ). rows (slots l 0 i) ++ x) (append-nil (row (slot l i)))

-- a line's room for each row
pub rows_short : {l : List ℤ} {n : ℕ} → Filled l n → (i : ℕ) → i ≤ n → length (rows (slots l 0 i)) ≤ line_room * i
unfolding rows slots
rows_short f zero h = omega arith
rows_short {l} f (suc i) h =
    let b = fitting_slot l i (filled f i (omega arith)).1 in
    rw (rows_next l i, length-append) (omega (arith, rows_short f i (omega arith), row_short (slot l i) b.start b.count b.least b.largest))
