-- A line that says b, read first, leaves what the default b does, one line further.
use Prim.Native.Nat.{ℕ, zero, suc, ◌*◌, ◌-◌, ◌≤◌}
use mathlib.Core.Path.{◌≡◌, refl, sym, ap, ◌∙◌}
use mathlib.Core.Bool.{false, true≢false}
use mathlib.Core.List.{List, [], ◌∷◌, ◌++◌, Memᴰ}
use native.Mathlib.Omega.{arith}
use borrow.Author.Tests.{eqb-true, le-leb}
use lib.Dec.{eqb}
use lib.IntN.{ℤ, pos}
use lib.ListN.{drop, length, length-replicate, take}
use Rattle.rule.specs.declared.Opening.{Opening}
use Rattle.rule.specs.declared.State.{State}
use Rattle.rule.specs.declared.Refusal.{Refusal}
use Rattle.rule.specs.Calls.{Verdict, base_of, gaps_kept, kept, opened, state_of, traced}
use Rattle.rule.specs.Numbers.{slot_width}
use Rattle.rule.specs.Room.{bounded, edition_good, flat, gaps_good, laid, within, zeros}
use Rattle.rule.specs.Table.{limit_over, needed}
use Rattle.rule.proofs.Whole.{by_test}
use Rattle.rooms.proofs.Granting.{Granted, admits}
use Rattle.trace.specs.declared.Trace.{Trace}
use Rattle.trace.specs.Answers.{answer, answered}
use Rattle.notation.specs.declared.Line.{Line}
use Rattle.std.proofs.Common.{Option, Some, None, Ok, Err}
use Rattle.notation.specs.Reading.{digits, digits_after, first_space, is_digit, line_of, number, same, spaced, unsigned_field}
use Rattle.notation.specs.Signs.{ascii, line_feed}
use Rattle.listing.specs.declared.Stage.{Stage}
use Rattle.listing.specs.Listing.{Standing, begun, in_order, lines, obeyed, output, read, read_all, room_size, shown, stage_after}
use Rattle.listing.specs.Feeding.{has_ended}
use Rattle.listing.proofs.Splitting.{Unbroken, lines_ended}
use Rattle.sketching.specs.Sketching.{drawn, sketched}
use Rattle.sketching.proofs.Sketched.{good_caption}
use Rattle.stored.specs.Stored.{Openable, Says, Stored, Unnamed, after_with, drawn_with, output_with, rebuilt, under}
use Rattle.stored.proofs.First.{begins_so, headed, is_steps, steps_first, word_read}
use Rattle.notation.proofs.Lines.{same_word}

abbrev standing : Verdict Trace → List ℤ → Stage → ℕ → Standing
standing a l g n = record { last = a; room = l; stage = g; count = n }

-- the same, one line further
abbrev further : Standing → Standing
further x = standing x.last x.room x.stage (suc x.count)

read_further : (a : Verdict Trace) (l : List ℤ) (g : Stage) (n : ℕ) (ls : List (List ℕ)) → read_all (standing a l g (suc n)) ls ≡ further (read_all (standing a l g n) ls)
unfolding read_all read
read_further a l g n [] = refl
read_further (Err r) l g n (line ∷ ls) = read_further (Err r) l g n ls
read_further (Ok t) l g n (line ∷ ls) = let o = obeyed g t.state l (line_of line) in read_further o.0 o.1 (stage_after (line_of line)) (suc n) ls

-- behind `steps B` a line that names no steps does what it does at first
obeyed_alike : (s : State) (l : List ℤ) (m : Option Line) → ((b : ℕ) → m ≡ Some (Line.Steps b) → ⊥) → obeyed Stage.Steps s l m ≡ obeyed Stage.Nothing s l m
unfolding obeyed
obeyed_alike s l (Some (Line.Steps b)) none = absurd (none b refl)
obeyed_alike s l (Some (Line.Late k)) none = refl
obeyed_alike s l (Some (Line.Alone v)) none = refl
obeyed_alike s l (Some (Line.Pair tick v)) none = refl
obeyed_alike s l None none = refl

-- what a standing shows: the last answer, the room, the lines
abbrev Seen : Type 0
Seen = Verdict Trace × (List ℤ × ℕ)

abbrev seen : Standing → Seen
seen x = (x.last, (x.room, x.count))

refused_stays : (r : Refusal) (l : List ℤ) (g : Stage) (n : ℕ) (ls : List (List ℕ)) → read_all (standing (Err r) l g n) ls ≡ standing (Err r) l g n
unfolding read_all read
refused_stays r l g n [] = refl
refused_stays r l g n (line ∷ ls) = refused_stays r l g n ls

behind : (a : Verdict Trace) (l : List ℤ) (ls : List (List ℕ)) → ((line : List ℕ) (others : List (List ℕ)) (b : ℕ) → ls ≡ line ∷ others → line_of line ≡ Some (Line.Steps b) → ⊥)
    → seen (read_all (standing a l Stage.Steps 1) ls) ≡ seen (further (read_all (standing a l Stage.Nothing 0) ls))
unfolding read_all read
behind a l [] none = refl
behind (Err r) l (line ∷ ls) none = rw (refused_stays r l Stage.Steps 1 (line ∷ ls), refused_stays r l Stage.Nothing 0 (line ∷ ls))
behind (Ok t) l (line ∷ ls) none =
    let m : Option Line = line_of line in
    let o = obeyed Stage.Nothing t.state l m in
    ap (λ (q : Verdict Trace × List ℤ). seen (read_all (standing q.0 q.1 (stage_after m) 2) ls)) (obeyed_alike t.state l m (λ b e. none line ls b refl e))
    ∙ ap seen (read_further o.0 o.1 (stage_after m) 1 ls)

-- ---- a header of steps that is read first

zeros_again : (a m : ℕ) → a ≤ m → zeros a ++ drop a (zeros m) ≡ zeros m
unfolding zeros
zeros_again zero m h = refl
zeros_again (suc a) zero h = absurd (omega (arith, h))
zeros_again (suc a) (suc m) h = ap (λ (l : List ℤ). pos 0 ∷ l) (zeros_again a m (omega (arith, h)))

abbrev beside : Verdict State → List ℤ → Verdict State × List ℤ
beside v l = (v, l)

-- opened by default, a room of zeros stays one
open_by_default : (d : ℕ) → Openable d → opened (in_order d) (zeros room_size) ≡ (Ok (state_of (kept (in_order d)) []), zeros room_size)
unfolding base_of bounded edition_good gaps_good gaps_kept laid flat limit_over traced zeros
open_by_default d good =
    let o : Opening = in_order d in
    let state = Ok (state_of (kept o) []) in
    let n : ℕ = slot_width * needed (kept o) in
    let all : slot_width * (needed (kept o) - 0) ≡ n = omega arith in
    let long : n ≤ room_size = omega (arith, good.most) in
    let room : length (zeros room_size) ≡ room_size = length-replicate room_size (pos 0) in
    let granted : Granted (kept o) (zeros room_size) = record { edition = refl; base = rw (le-leb 1 (2 * d) (omega (arith, good.least)), le-leb (2 * d) 512 (omega (arith, good.most))); gaps = refl; long = omega (arith, long, room) } in
    rw (admits o (zeros room_size) granted (Ok []))
    (ap (λ (a : ℕ). beside state (zeros a ++ drop n (zeros room_size))) all ∙ ap (beside state) (zeros_again n room_size long))

said_first : (d b : ℕ) (line : List ℕ) (ls : List (List ℕ)) → Openable d → line_of line ≡ Some (Line.Steps b)
    → read_all (begun d (zeros room_size)) (line ∷ ls) ≡ (let o = answered (opened (in_order b) (zeros room_size)) in read_all (standing o.0 o.1 Stage.Steps 1) ls)
unfolding begun read_all read obeyed answer
said_first d b line ls good e = rw (open_by_default d good, e)

unbroken : (line : List ℕ) → (Memᴰ line_feed line → ⊥) → Unbroken line
unfolding Unbroken
unbroken [] h = tt
unbroken (b ∷ l) h = (by_test (eqb b line_feed) (λ e. absurd (h (Memᴰ.head (sym (eqb-true b line_feed e))))) (λ e. e), unbroken l (λ m. h (Memᴰ.tail m)))

said : (d b : ℕ) (line i : List ℕ) → Openable d → Says b line → Unnamed i → seen (after_with d (under line i)) ≡ seen (further (after_with b i))
unfolding begun
said d b line i good says none =
    let o = answered (opened (in_order b) (zeros room_size)) in
    ap (λ (ls : List (List ℕ)). seen (read_all (begun d (zeros room_size)) ls)) (lines_ended line line_feed i (unbroken line says.unbroken) refl)
    ∙ ap seen (said_first d b line (lines i) good says.means)
    ∙ behind o.0 o.1 (lines i) none

-- the default plays no part
named : (d b n : ℕ) (line i : List ℕ) (others : List (List ℕ)) → Openable d → Openable b → lines i ≡ line ∷ others → line_of line ≡ Some (Line.Steps n) → after_with d i ≡ after_with b i
named d b n line i others good good' e m = rw e (said_first d n line others good m ∙ sym (said_first b n line others good' m))

abbrev listed_by : Seen → List ℕ
listed_by q = shown q.0 q.1.1 q.1.0

abbrev drawn_by : List ℕ → Seen → List ℕ
drawn_by c q = sketched q.0 q.1.1 q.1.0 c

no_line_feed : (line : List ℕ) → Unbroken line → Memᴰ line_feed line → ⊥
unfolding Unbroken
no_line_feed [] u m = elim m [ ]
no_line_feed (b ∷ l) u (Memᴰ.head e) = true≢false (rw (sym e) at u.0)
no_line_feed (b ∷ l) u (Memᴰ.tail m) = no_line_feed l u.1 m

says_32 : Says 32 (ascii "steps 32")
unfolding line_of first_space spaced same unsigned_field number digits digits_after is_digit within Unbroken
says_32 = record { means = refl; unbroken = no_line_feed (ascii "steps 32") (refl, (refl, (refl, (refl, (refl, (refl, (refl, (refl, tt)))))))) }

-- ---- a trace that begins with the word

-- whatever the default: a line that cannot be read ends the run
unread_first : (b : ℕ) (line : List ℕ) (ls : List (List ℕ)) → Openable b → line_of line ≡ None → read_all (begun b (zeros room_size)) (line ∷ ls) ≡ standing (Err Refusal.Line) (zeros room_size) Stage.Readings 1
unfolding begun read_all read obeyed answer
unread_first b line ls good e = rw (open_by_default b good, e) (refused_stays Refusal.Line (zeros room_size) Stage.Readings 1 ls)

named_anyway : (d b : ℕ) (i : List ℕ) (t : Trace) → Openable d → Openable b → take 6 i ≡ ascii "steps " → (after_with b i).last ≡ Ok t → after_with d i ≡ after_with b i
named_anyway d b i t good good' w e =
    let h = headed i w in
    let line : List ℕ = ascii "steps " ++ h.rest in
    word_read h.rest (λ (x : Option Line). line_of line ≡ x → after_with d i ≡ after_with b i) (λ n m. named d b n line i h.others good good' h.split m)
    (λ m. absurd (true≢false (ap (λ (x : Standing). has_ended x.last) (sym (unread_first b line h.others good' m)) ∙ ap has_ended (rw h.split at e))))
    refl

-- ---- what the job hands over

said_32 : (i : List ℕ) → same (take 6 i) (ascii "steps ") ≡ false → Unnamed i
unfolding same
said_32 i f line others b e m = let w = begins_so i line others e (steps_first line (ap is_steps m)) in true≢false (rw w at f)

anew : (d : ℕ) (i : List ℕ) (t : Trace) (shows : Seen → List ℕ) → Openable d → (after_with 32 i).last ≡ Ok t
    → (shows (seen (further (after_with 32 i))) ≡ shows (seen (after_with 32 i))) → shows (seen (after_with d (rebuilt i))) ≡ shows (seen (after_with 32 i))
unfolding rebuilt
anew d i t shows good e alike =
    by_test (same (take 6 i) (ascii "steps "))
    (λ f. rw f (ap (λ (x : Standing). shows (seen x)) (named_anyway d 32 i t good (record { least = omega arith; most = omega arith }) (same_word (take 6 i) (ascii "steps ") f) e)))
    (λ f. rw f (ap shows (said d 32 (ascii "steps 32") i good says_32 (said_32 i f)) ∙ alike))

pub stored : Stored
unfolding output output_with drawn_with begun sketched shown drawn
stored = record {
  listed_now = λ i. refl;
  drawn_now = λ c i h. sym (good_caption c i h ∙ rw h);
  listed = λ d b line i t good says none e. ap listed_by (said d b line i good says none) ∙ rw e;
  drawn = λ d b line c i t good says none e. ap (drawn_by c) (said d b line i good says none) ∙ rw e;
  listed_refused = λ d b line i r good says none e. (rw e, ap listed_by (said d b line i good says none) ∙ rw e);
  drawn_refused = λ d b line c i r good says none h e. (rw (h, e), ap (drawn_by c) (said d b line i good says none) ∙ rw (h, e));
  listed_named = λ d b n line i others good good' e m. ap (λ (x : Standing). listed_by (seen x)) (named d b n line i others good good' e m);
  drawn_named = λ d b n line c i others good good' e m. ap (λ (x : Standing). drawn_by c (seen x)) (named d b n line i others good good' e m);
  says_32 = says_32;
  unnamed = λ i none line others b e m. none (begins_so i line others e (steps_first line (ap is_steps m)));
  listed_anew = λ d i t good e. anew d i t listed_by good e (rw e);
  drawn_anew = λ d c i t good e. anew d i t (drawn_by c) good e (rw e);
}
