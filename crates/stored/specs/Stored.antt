-- Pages made while another B was the default: each program still writes them, where a line before the trace says that B.
use Rattle.std.specs.Prelude.{ℕ, suc, ◌≤◌, ◌≡◌, true, cond, take, Ok, Err}
use mathlib.Core.List.{List, ◌∷◌, ◌++◌, Memᴰ}
use Rattle.rule.specs.declared.Refusal.{Refusal}
use Rattle.rule.specs.Answers.{number}
use Rattle.rule.specs.Room.{zeros}
use Rattle.trace.specs.declared.Trace.{Trace}
use Rattle.notation.specs.declared.Line.{Line}
use Rattle.std.specs.Prelude.{Some}
use Rattle.notation.specs.Printing.{refused}
use Rattle.notation.specs.Reading.{line_of, same}
use Rattle.notation.specs.Signs.{ascii, line_feed}
use Rattle.listing.specs.Listing.{Standing, begun, lines, output, read_all, room_size, shown}
use Rattle.captions.specs.Caption.{caption_good}
use Rattle.sketching.specs.Sketching.{drawn_of, sketched}

-- ---- the programs, b being the default

-- after the lines of a trace
abbrev pub after_with : ℕ → List ℕ → Standing
after_with b i = read_all (begun b (zeros room_size)) (lines i)

-- what the listing program writes
unfoldable pub output_with : ℕ → List ℕ → List ℕ
output_with b i = let x = after_with b i in shown x.last x.count x.room

-- what the picture program writes, the caption being c
unfoldable pub drawn_with : ℕ → List ℕ → List ℕ → List ℕ
drawn_with b c i = let x = after_with b i in sketched x.last x.count x.room c

-- ---- a line that says b, before a trace

-- the trace's first line names no steps
abbrev pub Unnamed : List ℕ → Type 0
Unnamed i = (line : List ℕ) (others : List (List ℕ)) (b : ℕ) → lines i ≡ line ∷ others → line_of line ≡ Some (Line.Steps b) → ⊥

abbrev pub under : List ℕ → List ℕ → List ℕ
under line i = line ++ (line_feed ∷ i)

pub record Says (b : ℕ) (line : List ℕ) : Type 0 where
  pub means : line_of line ≡ Some (Line.Steps b)
  pub unbroken : Memᴰ line_feed line → ⊥

-- what tools/rebuild hands to the programs: a trace that begins with `steps` and a space as it is, any other behind a line that says 32
unfoldable pub rebuilt : List ℕ → List ℕ
rebuilt i = cond (same (take 6 i) (ascii "steps ")) i (under (ascii "steps 32") i)

-- a number of steps that can be opened
pub record Openable (d : ℕ) : Type 0 where
  pub least : 1 ≤ d
  pub most : d ≤ 256

pub record Stored : Type 0 where
  -- the default is 64
  pub listed_now : (i : List ℕ) → output_with 64 i ≡ output i
  pub drawn_now : (c i : List ℕ) → caption_good c ≡ true → drawn_with 64 c i ≡ drawn_of (under c i)
  -- where b was the default and a trace that names no steps was listed or drawn: said in a line before it, b gives the same listing and the same picture, byte for byte, whatever the default d is
  pub listed : (d b : ℕ) (line i : List ℕ) (t : Trace) → Openable d → Says b line → Unnamed i → (after_with b i).last ≡ Ok t → output_with d (under line i) ≡ output_with b i
  pub drawn : (d b : ℕ) (line c i : List ℕ) (t : Trace) → Openable d → Says b line → Unnamed i → (after_with b i).last ≡ Ok t → drawn_with d c (under line i) ≡ drawn_with b c i
  -- and where a line was refused, the same line is refused by the same number: it is the next one now
  pub listed_refused : (d b : ℕ) (line i : List ℕ) (r : Refusal) → Openable d → Says b line → Unnamed i → (after_with b i).last ≡ Err r
      → let n = (after_with b i).count in (output_with b i ≡ refused n (number r)) × (output_with d (under line i) ≡ refused (suc n) (number r))
  pub drawn_refused : (d b : ℕ) (line c i : List ℕ) (r : Refusal) → Openable d → Says b line → Unnamed i → caption_good c ≡ true → (after_with b i).last ≡ Err r
      → let n = (after_with b i).count in (drawn_with b c i ≡ refused n (number r)) × (drawn_with d c (under line i) ≡ refused (suc n) (number r))
  -- a trace that names its own is listed and drawn alike, whatever the default
  pub listed_named : (d b n : ℕ) (line i : List ℕ) (others : List (List ℕ)) → Openable d → Openable b → lines i ≡ line ∷ others → line_of line ≡ Some (Line.Steps n) → output_with d i ≡ output_with b i
  pub drawn_named : (d b n : ℕ) (line c i : List ℕ) (others : List (List ℕ)) → Openable d → Openable b → lines i ≡ line ∷ others → line_of line ≡ Some (Line.Steps n) → drawn_with d c i ≡ drawn_with b c i
  -- so every trace that was listed or drawn when the default was 32 is listed and drawn the same, byte for byte, of what tools/rebuild hands over, whatever the default is
  pub says_32 : Says 32 (ascii "steps 32")
  pub unnamed : (i : List ℕ) → (take 6 i ≡ ascii "steps " → ⊥) → Unnamed i
  pub listed_anew : (d : ℕ) (i : List ℕ) (t : Trace) → Openable d → (after_with 32 i).last ≡ Ok t → output_with d (rebuilt i) ≡ output_with 32 i
  pub drawn_anew : (d : ℕ) (c i : List ℕ) (t : Trace) → Openable d → (after_with 32 i).last ≡ Ok t → drawn_with d c (rebuilt i) ≡ drawn_with 32 c i
