-- The demands of ndz_picture: what it answers and leaves, for any numbers and bytes, and what it draws of a trace that exported calls have left.
use Rattle.std.specs.Prelude.{ℕ, ◌≤◌, ◌≡◌, ◌≢◌, cond, ℤ, drop, length, take}
use mathlib.Core.List.{List, ◌++◌, Memᴰ}
use Rattle.rule.specs.Room.{table_of}
use Rattle.rule.specs.Table.{holders}
use Rattle.demands.specs.History as history
use Rattle.demands.specs.History.{Reading, arrived}
use Rattle.drawing.specs.Picture.{caption_of, picture, runs_of}
use Rattle.drawing.specs.Promise.{together}
use Rattle.fields.specs.declared.Fields.{Fields}
use Rattle.fields.specs.declared.Named.{Named}
use Rattle.fields.specs.States.{none, state_from}
use Rattle.pictured.specs.declared.Pictured.{Pictured}
use Rattle.pictured.specs.Pictured.{picture_reply}
use Rattle.answered.specs.Answered.{Row, picture_rows}
use Rattle.exported.specs.Exported.{buckets_of, first_due}

-- refused, no byte is told, and the output is as it was
pub record Draws (rows : List Row) (before after : List ℕ) (d : Pictured) : Type 0 where
  pub exactly : (d.refusal, d.place) ≡ first_due rows
  pub untouched : d.refusal ≢ 0 → (d.bytes ≡ 0) × (after ≡ before)

-- a caption that is taken: at most 200 bytes, each from 0x20 to 0x7E
pub record Taken (caption : List ℕ) : Type 0 where
  pub short : length caption ≤ 200
  pub bytes : (b : ℕ) → Memᴰ b caption → (0x20 ≤ b) × (b ≤ 0x7E)

-- not refused: so many bytes were written
abbrev pub drew_all : ℕ → Pictured
drew_all n = record { refusal = 0; place = 0; bytes = n }

-- the answer where the picture of the rule's buckets was written with the caption: it comes first, and what lies behind it is as it was
abbrev pub wholly : Named → List Reading → List ℕ → List ℕ → Pictured × List ℕ
wholly named rs caption out = let p = picture (buckets_of named rs) caption in (drew_all (length p), p ++ drop (length p) out)

-- of any state, room, caption and output
pub record ExportedPictures : Type 0 where
  -- demand 1
  pub pictures : (f : Fields) (l : List ℤ) (caption out : List ℕ) → let o = picture_reply f l caption out in Draws (picture_rows (state_from f) l caption (length out)) out o.1 o.0
  -- not refused, it has written the picture of the buckets at hand, with the caption: it comes first, and what lies behind it is as it was
  pub writes : (f : Fields) (l : List ℤ) (caption out : List ℕ) → let o = picture_reply f l caption out in o.0.refusal ≡ 0
      → let p = picture (table_of (state_from f) l) caption in o ≡ (drew_all (length p), p ++ drop (length p) out)
  -- the zeros that a refused open, load or replay hands back are refused by 4
  pub unusable : (l : List ℤ) (caption out : List ℕ) → (picture_reply none l caption out).0.refusal ≡ 4
  -- the output stays as long as it is, and 22866 bytes of it are enough for any picture
  pub as_long : (f : Fields) (l : List ℤ) (caption out : List ℕ) → length (picture_reply f l caption out).1 ≡ length out
  pub never_short : (f : Fields) (l : List ℤ) (caption out : List ℕ) → 22866 ≤ length out → (picture_reply f l caption out).0.refusal ≢ 13
  -- the caption read back from the bytes that were written is the one given
  pub caption_back : (f : Fields) (l : List ℤ) (caption out : List ℕ) → let o = picture_reply f l caption out in o.0.refusal ≡ 0 → caption_of (take o.0.bytes o.1) ≡ caption

-- of a trace opened with the settings named, after calls with these accepted readings (`Called` in Exported.antt of crates/exported)
pub record PicturePromised (named : Named) (rs : List Reading) (f : Fields) (l : List ℤ) : Type 0 where
  -- what is drawn are the buckets of the rule, where the caption is taken and the output long enough
  pub drawn : (caption out : List ℕ) → Taken caption → length (picture (buckets_of named rs) caption) ≤ length out → picture_reply f l caption out ≡ wholly named rs caption out
  -- and an output of 22866 bytes is
  pub drawn_in_most : (caption out : List ℕ) → Taken caption → 22866 ≤ length out → picture_reply f l caption out ≡ wholly named rs caption out
  -- one line for each unbroken run of the arrived ticks; each of these lies in one bucket of one line, and no other tick does
  pub lines : length (runs_of (buckets_of named rs)) ≡ history.runs_of rs
  pub covered : (tick : ℕ) → holders tick (together (runs_of (buckets_of named rs))) ≡ cond (arrived tick rs) 1 0
