-- `numbers::digits` meets its contract. What is left stands for the whole's number when it goes on from the number so far, which i digits keep below 10 ^ i.
use Prim.Native.Nat.{ℕ, ◌-◌, ◌≤◌, ◌<◌, ◌^◌}
use mathlib.Core.Path.{◌≡◌, sym, ◌∙◌}
use mathlib.Core.Bool.{true, false, ◌&&◌}
use mathlib.Core.List.{List}
use native.Mathlib.Omega.{arith}
use lib.Dec.{leb}
use lib.IntN.{ℤ}
use lib.ListN.{get_or, length}
use mir.Syntax.{w64}
use mir.Facts.{to_z_pos}
use Rattle.std.proofs.Common.{Option, rules}
use Rattle.notation.specs.Reading.{digits, digits_after, is_digit}
use Rattle.notation.proofs.Lines.{ascii_digit, digit_range, digits_below, digits_done, digits_next, digits_stop, one_digit_more}
use Rattle.numbers.proofs.digits.Goals as goal

in_length : (s : List ℕ) (n : Option ℤ) → leb 1 (length s) && leb (length s) 10 ≡ true → n ≡ digits_after 0 s → n ≡ digits s
unfolding digits
in_length s n h e = rw h e

pub returns-then-not-contains : goal.returns-then-not-contains
unfolding digits
returns-then-not-contains c =
    let s = c.args.s.now in
    let e : false ≡ leb 1 (length s) && leb (length s) 10 = search rules in
    rw (sym e)

pub returns-then-not-is_ascii_digit : goal.returns-then-not-is_ascii_digit
returns-then-not-is_ascii_digit c =
    let s = c.args.s.now in
    let loop = c.loop-b in
    let e : true ≡ leb 1 (length s) && leb (length s) 10 = search rules in
    let wrong : is_digit (get_or s loop.b-index 0) ≡ false = cc (ascii_digit (get_or s loop.b-index 0)) in
    in_length s _ (sym e) (sym (digits_stop s loop.b-index loop.n (omega arith) wrong) ∙ loop.invariant.1)

pub loop-b-preserved : goal.loop-b-preserved
loop-b-preserved c =
    let s = c.args.s.now in
    let loop = c.loop-b in
    let right : is_digit (get_or s loop.b-index 0) ≡ true = cc (ascii_digit (get_or s loop.b-index 0)) in
    rw c.from.ensures
    (one_digit_more loop.b-index loop.n (get_or s loop.b-index 0 - 48) loop.invariant.0 (omega (arith, digit_range _ right)), sym (digits_next s loop.b-index loop.n (omega arith) right) ∙ loop.invariant.1)

pub returns : goal.returns
returns c =
    let s = c.args.s.now in
    let loop = c.loop-b in
    let e : true ≡ leb 1 (length s) && leb (length s) 10 = search rules in
    let most : length s ≤ 10 = search rules in
    let fits : loop.n < 2 ^ 63 = omega (arith, digits_below 10 loop.b-index loop.n (omega arith) loop.invariant.0) in
    rw (to_z_pos w64 fits)
    (in_length s _ (sym e) (sym (digits_done s loop.b-index loop.n c.loop-b-test.false) ∙ loop.invariant.1))
