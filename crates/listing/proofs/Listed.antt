-- Read byte by byte or in pieces, what is shown is the listing of the whole input.
use Prim.Native.Nat.{ℕ, suc, ◌+◌, ◌*◌, ◌%◌, ◌^◌, ◌≤◌, ◌<◌}
use mathlib.Core.Path.{◌≡◌, refl, sym, ap, ◌∙◌, subst}
use mathlib.Core.Bool.{true, false}
use mathlib.Core.List.{List, [], ◌∷◌, ◌++◌, append_assoc}
use native.Mathlib.Numerals.{add-one}
use native.Mathlib.Omega.{arith}
use borrow.Author.Tests.{eqb-true, eqb-false, le-leb, ltb-true, ltb-false}
use lib.Dec.{eqb, ltb}
use lib.IntN.{ℤ, pos}
use lib.ListN.{length, replicate, set, take, length-append, length-replicate, length-set, length-take}
use lib.Seq.{length-take-le, take-suc-set}
use Rattle.rule.specs.declared.Refusal.{Refusal}
use Rattle.rule.specs.declared.State.{State}
use Rattle.rule.specs.declared.Kind.TheVariants.{Late}
use Rattle.rule.specs.declared.Size.TheVariants.{Steps}
use Rattle.rule.specs.Calls.{Verdict, base_of, kept, opened, state_of, traced}
use Rattle.rule.specs.Numbers.{ticks}
use Rattle.rule.specs.Room.{zeros}
use Rattle.rule.specs.Table.{Table, limit_over}
use Rattle.rule.proofs.Whole.{by_test}
use Rattle.rooms.proofs.Bounds.{needed_small}
use Rattle.rooms.proofs.Granting.{opened_kept}
use Rattle.rooms.proofs.Leaving.{open_either}
use Rattle.trace.specs.Answers.{answered}
use Rattle.rooms.proofs.Sounding.{sound_facts, used_needed}
use Rattle.trace.specs.declared.Trace.{Trace}
use Rattle.notation.specs.Signs.{line_feed}
use Rattle.notation.specs.declared.Line.{Line}
use Rattle.std.proofs.Common.{Option, Some, None}
use Rattle.notation.specs.Reading.{line_most, line_of}
use Rattle.notation.proofs.Ranges.{line_ranged, too_long_line}
use Rattle.listing.specs.declared.Feeding.{Feeding}
use Rattle.listing.specs.declared.Stage.{Stage}
use Rattle.listing.specs.Listing.{Standing, begun, default_steps, in_order, late_with, lines, obeyed, output, read, read_all, room_size, shown, stage_after}
use Rattle.listing.specs.Feeding.{Reader, Showable, byte_fed, fed, fresh, lengthened, line_ended, line_fed, output_room, rest_fed, too_long}
use Rattle.listing.specs.Lists.{Lists, at_end, fed_all, joined, start, written}
use Rattle.listing.proofs.Pieces.{fed_append}
use Rattle.listing.proofs.Splitting.{Unbroken, lines_ended, lines_longer, lines_rest, unbroken_append}
use Rattle.listing.proofs.Standings.{Stood, Upright, few_lines, obeyed_upright, opened_upright}
use Rattle.std.specs.Prelude.{Ok, Err}

-- the reader, and what stands after the lines that it read
abbrev pub reader : Verdict Trace → Stage → ℕ → ℕ → Feeding
reader a g n k = record { last = a; stage = g; lines = n; filled = k }

abbrev standing : Verdict Trace → List ℤ → Stage → ℕ → Standing
standing a l g n = record { last = a; room = l; stage = g; count = n }

-- what of each is shown: the last answer, the lines, the room
abbrev Seen : Type 0
Seen = Verdict Trace × (ℕ × List ℤ)

abbrev seen : Feeding × List ℤ → Seen
seen e = (e.0.last, (e.0.lines, e.1))

abbrev told : Standing → Seen
told x = (x.last, (x.count, x.room))

-- ---- behind a refused line

pub fed_refused : (r : Refusal) (g : Stage) (n k : ℕ) (l : List ℤ) (line bs : List ℕ) → fed (reader (Err r) g n k, (l, line)) bs ≡ (reader (Err r) g n k, (l, line))
unfolding fed byte_fed
fed_refused r g n k l line [] = refl
fed_refused r g n k l line (b ∷ bs) = fed_refused r g n k l line bs

read_refused : (r : Refusal) (l : List ℤ) (g : Stage) (n : ℕ) (ls : List (List ℕ)) → read_all (standing (Err r) l g n) ls ≡ standing (Err r) l g n
unfolding read_all read
read_refused r l g n [] = refl
read_refused r l g n (line ∷ ls) = read_refused r l g n ls

-- whatever is read behind it, the refused line is told
both_refused : (r : Refusal) (g g' : Stage) (n k : ℕ) (l : List ℤ) (line bs : List ℕ) (ls : List (List ℕ)) → seen (at_end (fed (reader (Err r) g n k, (l, line)) bs)) ≡ told (read_all (standing (Err r) l g' n) ls)
unfolding rest_fed
both_refused r g g' n k l line bs ls = rw (fed_refused r g n k l line bs, read_refused r l g' n ls)

-- ---- a line begun

-- the first k bytes of the line's room are of the line begun
record Begun (k : ℕ) (line : List ℕ) : Type 0 where
  wide : length line ≡ line_most
  inside : k ≤ line_most
  unbroken : Unbroken (take k line)

-- what the machine shows of the bytes bs, whatever came before
abbrev Shows : List ℕ → Type 0
Shows bs =
    (t : Trace) (g : Stage) (n k : ℕ) (l : List ℤ) (line : List ℕ) → Stood t.state l g n → Begun k line
    → seen (at_end (fed (reader (Ok t) g n k, (l, line)) bs)) ≡ told (read_all (standing (Ok t) l g n) (lines (take k line ++ bs)))

fresh_line : (line : List ℕ) → length line ≡ line_most → Begun 0 line
unfolding Unbroken
fresh_line line h = record { wide = h; inside = omega arith; unbroken = tt }

-- a line was answered, and the bytes bs follow
answered_shows : (bs : List ℕ) → Shows bs → (a : Verdict Trace) (g : Stage) (n : ℕ) (l : List ℤ) (line : List ℕ) → Upright a l g n → length line ≡ line_most
    → seen (at_end (fed (reader a g n 0, (l, line)) bs)) ≡ told (read_all (standing a l g n) (lines bs))
unfolding Upright
answered_shows bs shows (Err r) g n l line up wide = both_refused r g g n 0 l line bs (lines bs)
answered_shows bs shows (Ok t) g n l line up wide = shows t g n 0 l line up (fresh_line line wide)

-- the count of lines does not wrap
pub counts_on : {n : ℕ} → n ≤ ticks + 2 → (n + 1) % 2 ^ 64 ≡ suc n
counts_on h = omega arith

-- the line that the first k bytes are
line_shows : (bs : List ℕ) → Shows bs → (t : Trace) (g : Stage) (n k : ℕ) (l : List ℤ) (line : List ℕ) → Stood t.state l g n → Begun k line
    → let o = line_ended (reader (Ok t) g n k) t.state l line in seen (at_end (fed (o.0, (o.1, line)) bs)) ≡ told (read_all (standing (Ok t) l g n) (take k line ∷ lines bs))
unfolding line_ended line_fed read_all read
line_shows bs shows t g n k l line x b =
    rw (le-leb k (length line) (omega (arith, b.wide, b.inside)), counts_on (few_lines x))
    (answered_shows bs shows _ _ _ _ line (obeyed_upright g t.state l n (line_of (take k line)) (line_ranged (take k line)) x) b.wide)

-- ---- any bytes

longer_line : (k b : ℕ) (line : List ℕ) → k < length line → eqb b line_feed ≡ false → Begun k line → Begun (k + 1) (set line k b)
longer_line k b line h e x =
    record {
      wide = length-set line k b ∙ x.wide;
      inside = omega (arith, x.wide);
      unbroken = rw (add-one k, take-suc-set line k b h) (unbroken_append (take k line) b x.unbroken e);
    }

not_zero : (k : ℕ) → (k ≡ 0 → ⊥) → 1 ≤ k
not_zero k h = omega (arith, h)

-- the input's end
rest_shows : Shows []
unfolding fed rest_fed line_ended line_fed read_all read lines
rest_shows t g n k l line x b =
    by_test (eqb k 0) (λ e. rw (eqb-true k 0 e))
    (λ e.
    let some : 1 ≤ k = not_zero k (eqb-false k 0 e) in
    rw (e, le-leb k (length line) (omega (arith, b.wide, b.inside)), counts_on (few_lines x), lines_rest (take k line) b.unbroken (omega (arith, length-take-le k line (omega (arith, b.wide, b.inside))))))

unread : (t : Trace) (l : List ℤ) (g : Stage) (n : ℕ) (line : List ℕ) → line_of line ≡ None → read (standing (Ok t) l g n) (Ok t) line ≡ standing (Err Refusal.Line) l Stage.Readings (suc n)
unfolding read obeyed
unread t l g n line e = ap {B = Standing} (λ (m : Option Line). let o = obeyed g t.state l m in standing o.0 o.1 (stage_after m) (suc n)) e

-- the byte behind the last place refuses the line, and what follows does not matter
long_shows : (b : ℕ) (bs : List ℕ) (t : Trace) (g : Stage) (n k : ℕ) (l : List ℤ) (line : List ℕ) → Stood t.state l g n → Begun k line → eqb b line_feed ≡ false → length line ≤ k
    → seen (at_end (fed (too_long (reader (Ok t) g n k), (l, line)) bs)) ≡ told (read_all (standing (Ok t) l g n) (lines (take k line ++ (b ∷ bs))))
unfolding read_all
long_shows b bs t g n k l line x y e h =
    let longer = lines_longer (take k line) b bs y.unbroken e in
    let all : List ℕ = take k line ++ (b ∷ longer.more) in
    let long : line_most < length all = omega (arith, y.wide, length-append (take k line) (b ∷ longer.more), length-take k line) in
    rw (counts_on (few_lines x))
    (both_refused Refusal.Line Stage.Readings Stage.Readings (suc n) 0 l line bs longer.others
    ∙ sym (ap (λ (z : Standing). told (read_all z longer.others)) (unread t l g n all (too_long_line all long)))
    ∙ sym (ap (λ (ls : List (List ℕ)). told (read_all (standing (Ok t) l g n) ls)) longer.split))

-- one byte more of the line begun
more_shows : (b : ℕ) (bs : List ℕ) → Shows bs → (t : Trace) (g : Stage) (n k : ℕ) (l : List ℤ) (line : List ℕ) → Stood t.state l g n → Begun k line → eqb b line_feed ≡ false → k < length line
    → seen (at_end (fed (reader (Ok t) g n (k + 1), (l, set line k b)) bs)) ≡ told (read_all (standing (Ok t) l g n) (lines (take k line ++ (b ∷ bs))))
more_shows b bs shows t g n k l line x y e h =
    let same : take (k + 1) (set line k b) ++ bs ≡ take k line ++ (b ∷ bs) = rw (add-one k, take-suc-set line k b h) (append_assoc (take k line) (b ∷ []) bs) in
    shows t g n (k + 1) l (set line k b) x (longer_line k b line h e y) ∙ ap (λ (i : List ℕ). told (read_all (standing (Ok t) l g n) (lines i))) same

module _ (t : Trace) (f : Feeding) (l : List ℤ) (line : List ℕ) (b : ℕ) where
  pub byte_ends : eqb b line_feed ≡ true → let o = line_ended f t.state l line in byte_fed (Ok t) f l line b ≡ (o.0, (o.1, line))
  unfolding byte_fed
  byte_ends e = rw e

  pub byte_lengthens : eqb b line_feed ≡ false → ltb f.filled (length line) ≡ true → byte_fed (Ok t) f l line b ≡ (lengthened f, (l, set line f.filled b))
  unfolding byte_fed
  byte_lengthens e h = rw (e, h)

  pub byte_overflows : eqb b line_feed ≡ false → ltb f.filled (length line) ≡ false → byte_fed (Ok t) f l line b ≡ (too_long f, (l, line))
  unfolding byte_fed
  byte_overflows e h = rw (e, h)

after_byte : (t : Trace) (g : Stage) (n k : ℕ) (l : List ℤ) (line : List ℕ) (b : ℕ) (bs : List ℕ) {z : Reader} → byte_fed (Ok t) (reader (Ok t) g n k) l line b ≡ z
    → seen (at_end (fed (reader (Ok t) g n k, (l, line)) (b ∷ bs))) ≡ seen (at_end (fed z bs))
unfolding fed
after_byte t g n k l line b bs e = ap (λ (z : Reader). seen (at_end (fed z bs))) e

byte_shows : (b : ℕ) (bs : List ℕ) → Shows bs → Shows (b ∷ bs)
byte_shows b bs shows t g n k l line x y =
    let f : Feeding = reader (Ok t) g n k in
    by_test (eqb b line_feed) (λ e. after_byte t g n k l line b bs (byte_ends t f l line b e) ∙ line_shows bs shows t g n k l line x y ∙ sym (ap (λ (ls : List (List ℕ)). told (read_all (standing (Ok t) l g n) ls)) (lines_ended (take k line) b bs y.unbroken e)))
    (λ e.
    by_test (ltb k (length line)) (λ h. after_byte t g n k l line b bs (byte_lengthens t f l line b e h) ∙ more_shows b bs shows t g n k l line x y e (ltb-true k (length line) h))
    (λ h. after_byte t g n k l line b bs (byte_overflows t f l line b e h) ∙ long_shows b bs t g n k l line x y e (ltb-false k (length line) h)))

shows : (bs : List ℕ) → Shows bs
shows [] = rest_shows
shows (b ∷ bs) = byte_shows b bs (shows bs)

-- ---- the whole input

pub listed_whole : (input : List ℕ) → seen (at_end (fed start input)) ≡ told (read_all (begun default_steps (zeros room_size)) (lines input))
unfolding start begun
listed_whole input =
    answered_shows input (shows input) _ Stage.Nothing 0 _ _ (opened_upright (in_order default_steps) (zeros room_size) Stage.Nothing 0 (omega arith)) (length-replicate {A = ℕ} line_most 0)

-- pieces read one behind the other are the input read whole
pub fed_joined : (x : Reader) (pieces : List (List ℕ)) → fed_all x pieces ≡ fed x (joined pieces)
unfolding fed_all joined fed
fed_joined x [] = refl
fed_joined x (p ∷ ps) = fed_joined (fed x p) ps ∙ sym (fed_append x p (joined ps))

one_upright : (x : Standing) (a : Verdict Trace) (line : List ℕ) → Upright a x.room x.stage x.count → x.last ≡ a → let y = read x a line in Upright y.last y.room y.stage y.count
unfolding read Upright
one_upright x (Err r) line up e = rw e tt
one_upright x (Ok t) line up e = obeyed_upright x.stage t.state x.room x.count (line_of line) (line_ranged line) up

read_upright : (x : Standing) (ls : List (List ℕ)) → Upright x.last x.room x.stage x.count → let y = read_all x ls in Upright y.last y.room y.stage y.count
unfolding read_all
read_upright x [] up = up
read_upright x (line ∷ ls) up = read_upright (read x x.last line) ls (one_upright x x.last line up refl)

-- ---- what is shown fits

-- the sizes of what the program lends
pub room_for_output : output_room ≡ 49216
unfolding limit_over
room_for_output = refl

pub size_of_room : room_size ≡ 3076
unfolding limit_over
size_of_room = refl

upright_showable : (a : Verdict Trace) (l : List ℤ) (g : Stage) (n : ℕ) (out : List ℕ) → Upright a l g n → length out ≡ output_room → Showable a l out
unfolding Upright Showable
upright_showable (Err r) l g n out up e = omega (arith, e, room_for_output)
upright_showable (Ok t) l g n out up e =
    let s : State = t.state in
    let f = sound_facts s l up.whole in
    record { whole = up.whole; room = omega (arith, e, room_for_output, used_needed s l f, needed_small s.settings f.good_base f.good_gaps) }

pub whole_showable : (input out : List ℕ) → length out ≡ output_room → let e = at_end (fed start input) in Showable e.0.last e.1 out
unfolding begun
whole_showable input out e =
    let x : Standing = begun default_steps (zeros room_size) in
    let y : Standing = read_all x (lines input) in
    let up : Upright y.last y.room y.stage y.count = read_upright x (lines input) (opened_upright (in_order default_steps) (zeros room_size) Stage.Nothing 0 (omega arith)) in
    subst (λ (q : Seen). Showable q.0 q.1.1 out) (sym (listed_whole input)) (upright_showable y.last y.room y.stage y.count out up e)

-- the base limit of a trace opened with B is 2B
base_opened : (b : ℕ) (l m : List ℤ) (s : State) → opened (in_order b) l ≡ (Ok s, m) → s.settings.base ≡ 2 * b
unfolding traced base_of
base_opened b l m s =
    open_either (in_order b) l (λ (v : Verdict Table). traced (kept (in_order b)) l v ≡ (Ok s, m) → s.settings.base ≡ 2 * b)
    (λ r e. absurd (let f : ◌≡◌ {A = Verdict State} (Err r) (Ok s) = ap (λ (o : Verdict State × List ℤ). o.0) e in let z : ◌≡◌ {A = ℕ} 0 1 = cc in omega arith))
    (λ _ e.
    let f : ◌≡◌ {A = Verdict State} (Ok (state_of (kept (in_order b)) [])) (Ok s) = ap (λ (o : Verdict State × List ℤ). o.0) e in
    let q : state_of (kept (in_order b)) [] ≡ s = cc in
    sym (ap (λ (x : State). x.settings.base) q))

late_again : (b k : ℕ) (l : List ℤ) → opened (late_with (2 * b) k) l ≡ opened (record { kind = Late; size = Steps b; gaps = k; edition = 1 }) l
unfolding base_of
late_again b k l = opened_kept (late_with (2 * b) k) (record { kind = Late; size = Steps b; gaps = k; edition = 1 }) refl l

pub lists : Lists
unfolding output begun obeyed
lists = record {
  default = λ i. refl;
  opens_first = λ b l. refl;
  by_steps = λ s l b. refl;
  late_by_steps = λ g b k l m s e may. rw may (ap (λ (c : ℕ). answered (opened (late_with c k) m)) (base_opened b l m s e) ∙ ap answered (late_again b k m));
  longest = refl;
  listed = λ pieces. ap written (fed_joined start pieces) ∙ ap (λ (q : Seen). shown q.0 q.1.0 q.1.1) (listed_whole (joined pieces));
  showable = λ pieces out e. rw (fed_joined start pieces) (whole_showable (joined pieces) out e);
}

-- ---- the reader of a program

-- some input was read so far
pub record Reached (f : Feeding) (l : List ℤ) (line : List ℕ) : Type 0 where
  pub input : List ℕ
  pub so_far : ◌≡◌ {A = Reader} (f, (l, line)) (fed start input)

pub reached_start : {f : Feeding} {l : List ℤ} → (f, l) ≡ fresh (replicate 3076 (pos 0)) → Reached f l (replicate 64 0)
unfolding start zeros limit_over fed
reached_start e = record { input = []; so_far = ap {B = Reader} (λ (o : Feeding × List ℤ). (o.0, (o.1, replicate 64 0))) e }

pub reached_piece : {f f' : Feeding} {l l' : List ℤ} {line line' : List ℕ} (bytes : List ℕ) → Reached f l line → ◌≡◌ {A = Reader} (f', (l', line')) (fed (f, (l, line)) bytes) → Reached f' l' line'
reached_piece bytes x e = record { input = x.input ++ bytes; so_far = e ∙ ap (λ (z : Reader). fed z bytes) x.so_far ∙ sym (fed_append start x.input bytes) }

pub reached_showable : {f f' : Feeding} {l l' : List ℤ} {line : List ℕ} (out : List ℕ) → Reached f l line → (f', l') ≡ rest_fed f.last f l line → length out ≡ 49216 → Showable f'.last l' out
reached_showable out x e h =
    let q = e ∙ ap (λ (z : Reader). at_end z) x.so_far in
    subst (λ (o : Feeding × List ℤ). Showable o.0.last o.1 out) (sym q) (whole_showable x.input out (h ∙ sym room_for_output))
