-- Read in pieces, what is written is what the definition says of the whole input.
use Prim.Native.Nat.{ℕ, ◌+◌, ◌<◌}
use mathlib.Core.Path.{◌≡◌, refl, sym, ap, ◌∙◌, subst}
use mathlib.Core.Bool.{true, false}
use mathlib.Core.List.{List, [], ◌∷◌, ◌++◌, append_assoc, append-nil, Memᴰ}
use native.Mathlib.Omega.{arith}
use borrow.Author.Tests.{eqb-true, leb-true, leb-false, lt-leb}
use lib.Dec.{eqb, leb}
use lib.IntN.{ℤ}
use lib.ListN.{drop, length, replicate, take, length-replicate}
use lib.Seq.{length-take-le}
use Rattle.rule.proofs.Whole.{by_test}
use Rattle.rule.proofs.Ruling.{and_left, and_right}
use Rattle.notation.specs.Signs.{line_feed}
use Rattle.listing.specs.Listing.{output, shown}
use Rattle.listing.specs.Feeding.{Reader, Showable, fed, output_room}
use Rattle.listing.specs.Lists.{at_end, joined, start}
use Rattle.listing.proofs.Pieces.{fed_append}
use Rattle.listing.proofs.Listed.{listed_whole, whole_showable}
use Rattle.captions.specs.Caption.{all_printable, caption_good, printable}
use Rattle.sketching.specs.declared.Heading.{Heading}
use Rattle.sketching.specs.Sketching.{caption_in, drawn, drawn_of, sketched, trace_in}
use Rattle.sketching.specs.Heading.{Drawable, Sketcher, caption_room, headed, headed_from, nothing, piece_fed, pieces_fed, unheaded, written_by}
use Rattle.sketching.specs.Sketches.{Sketches, after}
use Rattle.sketching.proofs.Caption.{Keeps, broken, ended_broken, ended_caption, ended_trace, going_broken, going_caption, going_trace, headed_to, keeps_none, no_trace, whole_caption}
use Rattle.trace.specs.declared.Trace.{Trace}
use Rattle.std.specs.Prelude.{Ok, Err}
use Rattle.rule.specs.Calls.{Verdict}

-- the bytes that came so far, seen by the reader of the caption and by that of the lines
pub record Stands (h : Heading) (c : List ℕ) (r : Reader) (input : List ℕ) : Type 0 where
  pub keeps : Keeps h.filled c (caption_in input)
  pub ended : h.ended ≡ broken input
  pub reads : r ≡ fed start (trace_in input)

pub stands_start : Stands unheaded (replicate caption_room 0) start []
unfolding caption_in trace_in broken fed
stands_start = record { keeps = keeps_none; ended = refl; reads = refl }

pub stands_headed : (h : Heading) (c : List ℕ) (r : Reader) (input p : List ℕ) → Stands h c r input → let o = headed h c p in Stands o.0 o.1 (fed r (drop o.0.taken p)) (input ++ p)
unfolding headed fed
stands_headed h c r input p x =
    by_test h.ended
    (λ e.
    let b : broken input ≡ true = sym x.ended ∙ e in
    rw e
    (record {
      keeps = rw (ended_caption input p b) x.keeps;
      ended = sym (ended_broken input p b);
      reads = ap (λ (z : Reader). fed z p) x.reads ∙ sym (fed_append start (trace_in input) p) ∙ ap (fed start) (sym (ended_trace input p b));
    }))
    (λ e.
    let b : broken input ≡ false = sym x.ended ∙ e in
    let o : Heading × List ℕ = headed_from h.filled 0 c p in
    let m : ℕ = o.0.taken in
    let all : m ≡ 0 + m = omega arith in
    let y = headed_to p h.filled 0 c input (subst (λ (z : List ℕ). Keeps h.filled c z) (whole_caption input b) x.keeps) in
    rw e
    (record {
      keeps = rw (going_caption input p b) y.keeps;
      ended = y.ended ∙ sym (going_broken input p b);
      reads = ap (λ (z : Reader). fed z (drop m p)) (x.reads ∙ ap (fed start) (no_trace input b)) ∙ ap (fed start) (y.rest m all ∙ sym (going_trace input p b));
    }))

pub stands_pieces : (x : Sketcher) (input : List ℕ) (ps : List (List ℕ)) → Stands x.0.0 x.0.1 x.1 input → let y = pieces_fed x ps in Stands y.0.0 y.0.1 y.1 (input ++ joined ps)
unfolding pieces_fed piece_fed joined
stands_pieces x input [] s = rw (append-nil input) s
stands_pieces x input (p ∷ ps) s =
    rw (append_assoc input p (joined ps)) at (stands_pieces (piece_fed x p) (input ++ p) ps (stands_headed x.0.0 x.0.1 x.1 input p s))

-- ---- what is written

-- a caption that is too long is refused, whatever is kept of it
long_bad : (c : List ℕ) → 200 < length c → caption_good c ≡ false
unfolding caption_good
long_bad c h = rw (lt-leb (length c) 200 h)

kept_alike : {k : ℕ} {c typed : List ℕ} → Keeps k c typed → (a : Verdict Trace) (n : ℕ) (l : List ℤ) → sketched a n l (take k c) ≡ sketched a n l typed
unfolding sketched
kept_alike {k} {c} {typed} x a n l =
    by_test (leb (length typed) caption_room) (λ e. ap (sketched a n l) (x.short (leb-true (length typed) caption_room e)).1)
    (λ e.
    let many : caption_room < length typed = leb-false (length typed) caption_room e in
    let all : k ≡ caption_room = x.long (omega (arith, many)) in
    let room : length (take k c) ≡ k = length-take-le k c (omega (arith, all, x.wide)) in
    rw (long_bad (take k c) (omega (arith, room, all)), long_bad typed (omega (arith, many))))

pub stands_written : {h : Heading} {c : List ℕ} {r : Reader} (input : List ℕ) → Stands h c r input → written_by ((h, c), r) ≡ drawn_of input
unfolding drawn_of
stands_written {h} {c} {r} input x =
    ap (λ (z : Reader). written_by ((h, c), z)) x.reads
    ∙ ap (λ (q : Verdict Trace × (ℕ × List ℤ)). sketched q.0 q.1.0 q.1.1 (take h.filled c)) (listed_whole (trace_in input))
    ∙ kept_alike x.keeps _ _ _

showable_drawable : (a : Verdict Trace) (l : List ℤ) (out : List ℕ) → Showable a l out → Drawable a l
unfolding Showable Drawable
showable_drawable (Err r) l out h = tt
showable_drawable (Ok t) l out h = h.whole

whole_drawable : (input out : List ℕ) → length out ≡ output_room → let e = at_end (fed start input) in Drawable e.0.last e.1
whole_drawable input out h = showable_drawable _ _ out (whole_showable input out h)

pub stands_drawable : {h : Heading} {c : List ℕ} {r : Reader} (input : List ℕ) → Stands h c r input → let e = at_end r in Drawable e.0.last e.1
stands_drawable {h} {c} {r} input x =
    subst (λ (z : Reader). Drawable (at_end z).0.last (at_end z).1) (sym x.reads) (whole_drawable (trace_in input) (replicate output_room 0) (length-replicate {A = ℕ} output_room 0))

-- ---- any caption before some lines

unbroken : (c : List ℕ) → (Memᴰ line_feed c → ⊥) → broken c ≡ false
unfolding broken
unbroken [] h = refl
unbroken (b ∷ c) h =
    by_test (eqb b line_feed) (λ e. absurd (h (Memᴰ.head (sym (eqb-true b line_feed e))))) (λ e. rw e (unbroken c (λ m. h (Memᴰ.tail m))))

first_line : (c i : List ℕ) → broken c ≡ false → caption_in (c ++ (line_feed ∷ i)) ≡ c
unfolding caption_in
first_line c i e = going_caption c (line_feed ∷ i) e ∙ append-nil c

behind_it : (c i : List ℕ) → broken c ≡ false → trace_in (c ++ (line_feed ∷ i)) ≡ i
unfolding trace_in
behind_it c i e = going_trace c (line_feed ∷ i) e

-- ---- a good caption before some lines

printable_byte : (b : ℕ) → printable b ≡ true → eqb b line_feed ≡ false
unfolding printable
printable_byte b h = by_test (eqb b line_feed) (λ e. absurd (omega (arith, eqb-true b line_feed e, leb-true 0x20 b (and_left (leb 0x20 b) (leb b 0x7E) h)))) (λ e. e)

printable_unbroken : (c : List ℕ) → all_printable c ≡ true → broken c ≡ false
unfolding all_printable broken
printable_unbroken [] h = refl
printable_unbroken (b ∷ c) h = rw (printable_byte b (and_left (printable b) (all_printable c) h)) (printable_unbroken c (and_right (printable b) (all_printable c) h))

pub good_caption : (c i : List ℕ) → caption_good c ≡ true → drawn_of (c ++ (line_feed ∷ i)) ≡ (let x = after i in drawn x.last x.count x.room c)
unfolding caption_good drawn_of sketched
good_caption c i h =
    let e = printable_unbroken c (and_right (leb (length c) 200) (all_printable c) h) in
    rw (first_line c i e, behind_it c i e, h)

pub sketches : Sketches
unfolding nothing drawn drawn_of sketched output shown joined
sketches = record {
  draws = λ c i t h e. good_caption c i h ∙ rw e;
  refuses_alike = λ c i r h e. good_caption c i h ∙ rw e;
  no_caption = λ c i h none. rw (first_line c i (unbroken c none), h);
  alone = λ c none. let e = unbroken c none in rw (whole_caption c e, no_trace c e, first_line c [] e, behind_it c [] e);
  written = λ pieces. stands_written (joined pieces) (stands_pieces nothing [] pieces stands_start);
  drawable = λ pieces. stands_drawable (joined pieces) (stands_pieces nothing [] pieces stands_start);
}
