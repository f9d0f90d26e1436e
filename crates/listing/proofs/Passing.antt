-- A reader that has not ended gets on with every byte, and not without end: a program that reads until the input's end or a refused line ends.
use Prim.Native.Nat.{ℕ, suc, ◌+◌, ◌*◌, ◌≤◌, ◌<◌}
use mathlib.Core.Path.{◌≡◌, sym, ◌∙◌, subst}
use mathlib.Core.Bool.{true, false, true≢false, false≢true}
use mathlib.Core.List.{List, [], ◌∷◌}
use native.Mathlib.Omega.{arith}
use borrow.Author.Tests.{le-leb, ltb-true}
use lib.Dec.{eqb, ltb}
use lib.IntN.{ℤ}
use lib.ListN.{length, length-replicate, length-set, set, take}
use Rattle.rule.specs.Numbers.{ticks}
use Rattle.rule.specs.Room.{zeros}
use Rattle.rule.proofs.Whole.{by_test}
use Rattle.trace.specs.declared.Trace.{Trace}
use Rattle.notation.specs.Signs.{line_feed}
use Rattle.notation.specs.Reading.{line_most, line_of}
use Rattle.notation.proofs.Ranges.{line_ranged}
use Rattle.listing.specs.declared.Feeding.{Feeding}
use Rattle.listing.specs.declared.Stage.{Stage}
use Rattle.listing.specs.Listing.{default_steps, in_order, room_size}
use Rattle.listing.specs.Feeding.{Reader, byte_fed, fed, has_ended, lengthened, line_ended, line_fed, too_long}
use Rattle.listing.specs.Lists.{start}
use Rattle.listing.proofs.Standings.{Stood, Upright, few_lines, obeyed_upright, opened_upright}
use Rattle.listing.proofs.Listed.{Reached, byte_ends, byte_lengthens, byte_overflows, counts_on, reader}
use Rattle.std.specs.Prelude.{Ok, Err}
use Rattle.rule.specs.Calls.{Verdict}

-- what holds of every reader that a program has
record Going (x : Reader) : Type 0 where
  upright : Upright x.0.last x.1.0 x.0.stage x.0.lines
  wide : length x.1.1 ≡ line_most
  inside : x.0.filled ≤ line_most

-- how far it has got: a whole line counts more than the bytes of one
abbrev pub passed : Feeding → ℕ
passed f = suc line_most * f.lines + f.filled

abbrev pub most_passed : ℕ
most_passed = suc line_most * (ticks + 3)

-- one byte more
record Gets (f : Feeding) (y : Reader) : Type 0 where
  goes : Going y
  on : has_ended y.0.last ≡ false → passed f < passed y.0

module _ (t : Trace) (g : Stage) (n k : ℕ) (l : List ℤ) (line : List ℕ) (b : ℕ) (x : Stood t.state l g n) (wide : length line ≡ line_most) (inside : k ≤ line_most) where
  abbrev now : Feeding
  now = reader (Ok t) g n k

  line_gets : let o = line_ended now t.state l line in Gets now (o.0, (o.1, line))
  unfolding line_ended line_fed
  line_gets =
      rw (le-leb k (length line) (omega (arith, wide, inside)), counts_on (few_lines x))
      (record {
        goes = record { upright = obeyed_upright g t.state l n (line_of (take k line)) (line_ranged (take k line)) x; wide = wide; inside = omega arith };
        on = λ _. omega (arith, inside);
      })

  longer_gets : k < length line → Gets now (lengthened now, (l, set line k b))
  unfolding Upright
  longer_gets h = record { goes = record { upright = x; wide = rw (length-set line k b) wide; inside = omega (arith, wide) }; on = λ _. omega arith }

  long_gets : Gets now (too_long now, (l, line))
  unfolding Upright
  long_gets = record { goes = record { upright = tt; wide = wide; inside = omega arith }; on = λ e. absurd (true≢false e) }

  byte_gets : Gets now (byte_fed (Ok t) now l line b)
  byte_gets =
      by_test (eqb b line_feed) (λ e. subst (Gets now) (sym (byte_ends t now l line b e)) line_gets)
      (λ e.
      by_test (ltb k (length line)) (λ h. subst (Gets now) (sym (byte_lengthens t now l line b e h)) (longer_gets (ltb-true k (length line) h)))
      (λ h. subst (Gets now) (sym (byte_overflows t now l line b e h)) long_gets))

any_gets : (a : Verdict Trace) (g : Stage) (n k : ℕ) (l : List ℤ) (line : List ℕ) (b : ℕ) → Going (reader a g n k, (l, line)) → Gets (reader a g n k) (byte_fed a (reader a g n k) l line b)
unfolding Upright byte_fed
any_gets (Err r) g n k l line b x = record { goes = x; on = λ e. absurd (true≢false e) }
any_gets (Ok t) g n k l line b x = byte_gets t g n k l line b x.upright x.wide x.inside

-- an end stays one
ended_stays : (bs : List ℕ) (a : Verdict Trace) (g : Stage) (n k : ℕ) (l : List ℤ) (line : List ℕ) → has_ended a ≡ true → has_ended (fed (reader a g n k, (l, line)) bs).0.last ≡ true
unfolding fed byte_fed
ended_stays [] a g n k l line e = e
ended_stays (b ∷ bs) (Err r) g n k l line e = ended_stays bs (Err r) g n k l line e
ended_stays (b ∷ bs) (Ok t) g n k l line e = absurd (false≢true e)

-- any bytes more
record Came (x : Reader) (many : ℕ) (y : Reader) : Type 0 where
  goes : Going y
  on : has_ended y.0.last ≡ false → passed x.0 + many ≤ passed y.0

came : (bs : List ℕ) (x : Reader) → Going x → Came x (length bs) (fed x bs)
unfolding fed
came [] x h = record { goes = h; on = λ _. omega arith }
came (b ∷ bs) x h =
    let f : Feeding = x.0 in
    let one = any_gets f.last f.stage f.lines f.filled x.1.0 x.1.1 b h in
    let y : Reader = byte_fed f.last f x.1.0 x.1.1 b in
    let rest = came bs y one.goes in
    record {
      goes = rest.goes;
      on = λ e.
          by_test (has_ended y.0.last)
          (λ d. absurd (true≢false (sym (ended_stays bs y.0.last y.0.stage y.0.lines y.0.filled y.1.0 y.1.1 d) ∙ e)))
          (λ d. omega (arith, one.on d, rest.on e));
    }

start_goes : Going start
unfolding start
start_goes = record { upright = opened_upright (in_order default_steps) (zeros room_size) Stage.Nothing 0 (omega arith); wide = length-replicate {A = ℕ} line_most 0; inside = omega arith }

few : (a : Verdict Trace) (l : List ℤ) (g : Stage) (n : ℕ) → Upright a l g n → has_ended a ≡ false → n ≤ ticks + 2
unfolding Upright
few (Err r) l g n up e = absurd (true≢false e)
few (Ok t) l g n up e = few_lines up

-- a piece with a byte in it that ends nothing
pub reached_passes : {f f' : Feeding} {l l' : List ℤ} {line line' : List ℕ} (bytes : List ℕ) → Reached f l line → ◌≡◌ {A = Reader} (f', (l', line')) (fed (f, (l, line)) bytes) → 1 ≤ length bytes → has_ended f'.last ≡ false
    → (passed f < passed f') × (passed f' ≤ most_passed)
reached_passes {f} {f'} {l} {l'} {line} {line'} bytes x e some going =
    let before : Going (f, (l, line)) = subst Going (sym x.so_far) (came x.input start start_goes).goes in
    let after : Came (f, (l, line)) (length bytes) (f', (l', line')) = subst (Came (f, (l, line)) (length bytes)) (sym e) (came bytes (f, (l, line)) before) in
    let lines : f'.lines ≤ ticks + 2 = few f'.last l' f'.stage f'.lines after.goes.upright going in
    (omega (arith, after.on going), omega (arith, lines, after.goes.inside))
