-- What the search may read, since it must stop at its first hit.
use Rattle.std.specs.Prelude.{ℕ, suc, ◌*◌, ◌≤◌, ◌<◌, ◌≡◌, true, false, List, ℤ, length}
use Rattle.over.specs.Search.{over}
use Rattle.rule.specs.Numbers.{slot_width}
use Rattle.rule.specs.Room.{slot, slot_ranged}

-- a slot is known to be there, with numbers that fit a bucket's fields, only where no slot before it is over: nothing behind a hit can be read as a bucket
pub record Readable (first last : ℕ) (bar : ℤ) (l : List ℤ) (n : ℕ) : Type 0 where
  pub slots : (i : ℕ) → i < n → ((j : ℕ) → j < i → over first last bar (slot l j) ≡ false) → (slot_width * suc i ≤ length l) × (slot_ranged l i ≡ true)

-- what is known says nothing of what stands behind a hit: it is as well known of any numbers that are the same up to the hit
pub record Blind : Type 0 where
  pub behind : (first last : ℕ) (bar : ℤ) (l m : List ℤ) (n i : ℕ) → over first last bar (slot l i) ≡ true → slot_width * suc i ≤ length m
      → ((j : ℕ) → j ≤ i → (slot m j ≡ slot l j) × (slot_ranged m j ≡ slot_ranged l j)) → Readable first last bar l n → Readable first last bar m n
