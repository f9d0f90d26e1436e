-- A text printed piece by piece: what is printed, and what is left to print.
use Prim.Native.Nat.{ℕ, ◌+◌, ◌≤◌, ◌<◌, ◌^◌}
use mathlib.Core.Path.{◌≡◌, refl, ◌∙◌}
use mathlib.Core.List.{List, [], ◌∷◌, ◌++◌, append_assoc}
use native.Mathlib.Nat.{zero-add}
use native.Mathlib.Omega.{arith}
use lib.ListN.{length, drop, length-append}
use lib.Seq.{sets, sets-eq}
use Rattle.rule.proofs.Stores.{sets_append}
use Rattle.output.specs.Output.{Put, joined}

-- of a text that begins at `at`, all but these pieces is printed; they come at n
pub record Left (before : List ℕ) (at : ℕ) (text : List ℕ) (n : ℕ) (now : List ℕ) (rest : List (List ℕ)) : Type 0 where
  pub next : n + length (joined rest) ≡ at + length text
  pub bytes : sets now n (joined rest) ≡ sets before at text

pub left_all : (o : List ℕ) (at : ℕ) (t : List ℕ) (r : List (List ℕ)) → t ≡ joined r → Left o at t at o r
left_all o at t r e = rw e (record { next = refl; bytes = refl })

module _ {o p : List ℕ} {at n : ℕ} {t : List ℕ} where
  -- a piece more is printed
  pub left_then : {q : List ℕ} {m : ℕ} {a : List ℕ} {r : List (List ℕ)} → Left o at t n p (a ∷ r) → Put p n a m q → Left o at t m q r
  left_then {q} {m} {a} {r} x y =
      record { next = omega (arith, length-append a (joined r), x.next, y.next); bytes = rw (y.bytes, y.next) (sets_append p n a (joined r) ∙ x.bytes) }

  -- the next piece fits where the whole does
  pub left_room : {a : List ℕ} {r : List (List ℕ)} → Left o at t n p (a ∷ r) → at + length t < 2 ^ 64 → n + length a < 2 ^ 64
  left_room {a} {r} x h = omega (arith, length-append a (joined r), x.next)

  pub left_none : Left o at t n p [] → Put o at t n p
  left_none x = record { next = omega (arith, x.next); bytes = x.bytes }

  -- the next piece is two, or none
  pub left_split : (a b : List ℕ) {x : List ℕ} {r : List (List ℕ)} → Left o at t n p (x ∷ r) → x ≡ a ++ b → Left o at t n p (a ∷ b ∷ r)
  left_split a b {x} {r} l e =
      let f : x ++ joined r ≡ a ++ (b ++ joined r) = rw e (append_assoc a b (joined r)) in
      record { next = rw (← f) l.next; bytes = rw (← f) l.bytes }

  pub left_empty : {x : List ℕ} {r : List (List ℕ)} → Left o at t n p (x ∷ r) → x ≡ [] → Left o at t n p r
  left_empty {x} {r} l e =
      let f : x ++ joined r ≡ joined r = rw e in record { next = rw (← f) l.next; bytes = rw (← f) l.bytes }

-- two texts, one behind the other
pub then : {o p q a b : List ℕ} {at m r : ℕ} → Put o at a m p → Put p m b r q → Put o at (a ++ b) r q
then {o} {a = a} {b} {at} x y =
    record { next = omega (arith, length-append a b, x.next, y.next); bytes = rw (y.bytes, x.bytes, x.next) (sets_append o at a b) }

-- a text printed from the start of an output that has room for it: the bytes behind it stay
pub from_start : {o q : List ℕ} {r : ℕ} (t : List ℕ) → length t ≤ length o → Put o 0 t r q → q ≡ t ++ drop (length t) o
from_start {o} t h x = x.bytes ∙ sets-eq t o 0 (omega arith) ∙ rw (zero-add (length t))
