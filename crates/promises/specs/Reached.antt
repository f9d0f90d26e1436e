-- What a caller can reach from an open, each call getting the state and the room as the last one left them.
use Rattle.std.specs.Prelude.{ℕ, ◌+◌, ◌*◌, ◌≡◌, true, List, [], ◌∷◌, ℤ, nat_abs, take, Ok, Err}
use Rattle.rule.specs.declared.Refusal.{Refusal}
use Rattle.rule.specs.declared.Opening.{Opening}
use Rattle.rule.specs.declared.Size.{Size}
use Rattle.rule.specs.declared.State.{State}
use Rattle.rule.specs.Calls.{late, late_outcome, loaded, next_outcome, opened, save_outcome}
use Rattle.rule.specs.Room.{signed, table_of}
use Rattle.rule.specs.Table.{next_tick}
use Rattle.demands.specs.History.{Reading}
use Rattle.logger.specs.Replay.{Landed, replay_outcome}
use Rattle.answered.specs.Answered.{base_named}

-- the same settings: the same edition, the same base limit, named by B or by C, and in order any K
pub record SameSettings (h g : Opening) : Type 0 where
  pub kind : h.kind ≡ g.kind
  pub base : base_named h.size ≡ base_named g.size
  pub gaps : late g.kind ≡ true → h.gaps ≡ g.gaps
  pub edition : h.edition ≡ g.edition

-- opened with what g names, the state is s and the room holds l after the accepted readings rs, newest first
pub data Reached (g : Opening) : List Reading → State → List ℤ → Type 0 where
  -- opened empty, in any room
  opens : (l : List ℤ) {m : List ℤ} {s : State} → opened g l ≡ (Ok s, m) → Reached g [] s m
  -- an accepted reading, any signed 32-bit number
  nexts : {rs : List Reading} {s t : State} {l m : List ℤ} (v : ℤ) → signed v ≡ true → Reached g rs s l → next_outcome s l v ≡ (Ok t, m)
      → Reached g (record { tick = next_tick (table_of s l); value = v } ∷ rs) t m
  lates : {rs : List Reading} {s t : State} {l m : List ℤ} (tick : ℕ) (v : ℤ) → signed v ≡ true → Reached g rs s l → late_outcome s l tick v ≡ (Ok t, m)
      → Reached g (record { tick = tick; value = v } ∷ rs) t m
  -- a refused call: the caller goes on with the state that was given and the room that was left
  next_refused : {rs : List Reading} {s : State} {l m : List ℤ} {r : Refusal} (v : ℤ) → Reached g rs s l → next_outcome s l v ≡ (Err r, m) → Reached g rs s m
  late_refused : {rs : List Reading} {s : State} {l m : List ℤ} {r : Refusal} (tick : ℕ) (v : ℤ) → Reached g rs s l → late_outcome s l tick v ≡ (Err r, m) → Reached g rs s m
  open_refused : {rs : List Reading} {s : State} {l m : List ℤ} {r : Refusal} (h : Opening) → Reached g rs s l → opened h l ≡ (Err r, m) → Reached g rs s m
  load_refused : {rs : List Reading} {s : State} {l m : List ℤ} {r : Refusal} (h : Opening) (file : List ℕ) → Reached g rs s l → loaded h file l ≡ (Err r, m) → Reached g rs s m
  replay_refused : {rs : List Reading} {s : State} {l m : List ℤ} {r : Refusal} (size : Size) (gaps edition : ℕ) (recording : List ℕ) → Reached g rs s l → replay_outcome size gaps edition recording l ≡ (Err r, m) → Reached g rs s m
  -- saved by the call into any output, and the bytes that it wrote loaded into any room with the same settings
  loads : {rs : List Reading} {s t : State} {l m : List ℤ} {written : List ℕ} {n : ℕ} (out : List ℕ) (room : List ℤ) (h : Opening) → SameSettings h g → Reached g rs s l
      → save_outcome s l out ≡ (Ok n, written) → loaded h (take (16 * n) written) room ≡ (Ok t, m) → Reached g rs t m

-- the accepted records of a replay, as readings
unfoldable pub readings_of : List Landed → List Reading
readings_of [] = []
readings_of (w ∷ ws) = record { tick = nat_abs w.tick; value = w.value } ∷ readings_of ws

-- readings with the ticks n, n + 1, n + 2 and so on, put before those there were
unfoldable pub in_order_from : ℕ → List ℤ → List Reading → List Reading
in_order_from n [] rs = rs
in_order_from n (v ∷ vs) rs = in_order_from (n + 1) vs (record { tick = n; value = v } ∷ rs)

-- readings each with its own tick, put before those there were
unfoldable pub at_their_ticks : List (ℕ × ℤ) → List Reading → List Reading
at_their_ticks [] rs = rs
at_their_ticks (w ∷ ws) rs = at_their_ticks ws (record { tick = w.0; value = w.1 } ∷ rs)
