-- A table lies in the lent numbers: slots read off what was laid are the buckets, and numbers laid from what was read are the numbers. All counting by the width of a slot is here.
use Prim.Native.Nat.{ℕ, zero, suc, ◌+◌, ◌*◌, ◌-◌, ◌≤◌, ◌<◌}
use mathlib.Core.Path.{◌≡◌, refl, sym, ap, ◌∙◌}
use mathlib.Core.Bool.{true}
use mathlib.Core.List.{List, [], ◌∷◌, ◌++◌, append_assoc}
use native.Mathlib.Omega.{arith}
use native.Mathlib.Nat.{add-zero, zero-add}
use native.Mathlib.Numerals.{add-one, add-two, add-three}
use lib.IntN.{ℤ, pos}
use lib.ListN.{length, take, drop, length-append, length-drop, length-replicate, length-take, replicate-append-replicate, take-append-drop}
use lib.Seq.{drop_at, drop-cons, drop-drop, get_or-append-add, take_at}
use lib.Signed.{le_z}
use Rattle.rule.specs.declared.Bucket.{Bucket}
use Rattle.rule.specs.Numbers.{slot_width}
use Rattle.rule.specs.Room.{all_zero, field, flat, laid, numbers, ranged, slot, slot_ranged, slots, zeros}
use Rattle.rule.specs.Rules.{equal}
use Rattle.rule.proofs.Ruling.{and_left, and_right}
use Rattle.rule.specs.Table.{Table}
use Rattle.rule.proofs.Whole.{whole}
use Rattle.rooms.specs.Slots.{Filled, put, put_at}
use Rattle.rooms.proofs.Reading.{ranges, unsigned_pos}
use Rattle.rooms.proofs.Shifting.{drop_both, drop_past}

-- a slot more in front: every slot stands one place later
module _ (front l : List ℤ) (wide : length front ≡ slot_width) where
  field_behind : (i j : ℕ) → field (front ++ l) (suc i) j ≡ field l i j
  field_behind i j =
      let past : slot_width * suc i + j ≡ length front + (slot_width * i + j) = omega arith in
      rw past (get_or-append-add front l (slot_width * i + j) (pos 0))

  slot_behind : (i : ℕ) → slot (front ++ l) (suc i) ≡ slot l i
  unfolding slot
  slot_behind i = simp (field_behind i)

  pub slots_behind : (i n : ℕ) → slots (front ++ l) (suc i) n ≡ slots l i n
  unfolding slots
  slots_behind i zero = refl
  slots_behind i (suc n) = rw (slot_behind i, slots_behind (suc i) n)

  pub ranged_behind : (i n : ℕ) → ranged (front ++ l) (suc i) n ≡ ranged l i n
  unfolding ranged slot_ranged
  ranged_behind i zero = refl
  ranged_behind i (suc n) = simp (field_behind i, ranged_behind (suc i) n)

pub length_slots : (l : List ℤ) (i n : ℕ) → length (slots l i n) ≡ n
unfolding slots
length_slots l i zero = refl
length_slots l i (suc n) = ap suc (length_slots l (suc i) n)

pub length_flat : (t : Table) → length (flat t) ≡ slot_width * length t
unfolding flat
length_flat [] = refl
length_flat (b ∷ t) = omega (arith, length_flat t)

pub flat_append : (t u : Table) → flat (t ++ u) ≡ flat t ++ flat u
unfolding flat
flat_append [] u = refl
flat_append (b ∷ t) u = ap (λ (l : List ℤ). numbers b ++ l) (flat_append t u)

-- what lies there is read back
pub slots_flat : (t : Table) (r : List ℤ) → slots (flat t ++ r) 0 (length t) ≡ t
unfolding flat slots slot
slots_flat [] r = refl
slots_flat (b ∷ t) r = ap (λ (u : Table). b ∷ u) (slots_behind (numbers b) (flat t ++ r) refl 0 (length t) ∙ slots_flat t r)

-- numbers in range are laid as they were read
numbers_slot : (l : List ℤ) (i : ℕ) → slot_width * suc i ≤ length l → slot_ranged l i ≡ true → numbers (slot l i) ++ drop (slot_width * suc i) l ≡ drop (slot_width * i) l
unfolding slot
numbers_slot l i h e =
    let k = slot_width * i in
    let r = ranges l i e in
    let next : slot_width * suc i ≡ suc (suc (suc (suc k))) = omega arith in
    let h0 : k < length l = omega arith in
    let h1 : suc k < length l = omega arith in
    let h2 : suc (suc k) < length l = omega arith in
    let h3 : suc (suc (suc k)) < length l = omega arith in
    rw (
      next,
      drop-cons l k (pos 0) h0,
      drop-cons l (suc k) (pos 0) h1,
      drop-cons l (suc (suc k)) (pos 0) h2,
      drop-cons l (suc (suc (suc k))) (pos 0) h3,
      unsigned_pos _ r.count,
      add-one,
      add-two,
      add-three,
      add-zero,
      unsigned_pos _ r.start,
    )

slots_numbers : (n i : ℕ) (l : List ℤ) → slot_width * (i + n) ≤ length l → ranged l i n ≡ true → flat (slots l i n) ++ drop (slot_width * (i + n)) l ≡ drop (slot_width * i) l
unfolding flat slots ranged
slots_numbers zero i l h e = rw add-zero
slots_numbers (suc n) i l h e =
    let next : i + suc n ≡ suc i + n = omega arith in
    let first = and_left (slot_ranged l i) (ranged l (suc i) n) e in
    let rest = and_right (slot_ranged l i) (ranged l (suc i) n) e in
    rw (next, slots_numbers n (suc i) l (omega arith) rest) (numbers_slot l i (omega arith) first)

pub flat_slots : (n : ℕ) (l : List ℤ) → slot_width * n ≤ length l → ranged l 0 n ≡ true → flat (slots l 0 n) ++ drop (slot_width * n) l ≡ l
flat_slots n l h e = rw zero-add at (slots_numbers n 0 l (omega arith) e)

-- ---- slots one after the other

pub slots_split : (l : List ℤ) (i j m n k : ℕ) → i + m ≡ j → m + n ≡ k → slots l i k ≡ slots l i m ++ slots l j n
unfolding slots
slots_split l i j zero n k e f =
    let here : i ≡ j = omega arith in
    let all : k ≡ n = omega arith in
    rw (here, all)
slots_split l i j (suc m) n zero e f = absurd (omega arith)
slots_split l i j (suc m) n (suc k) e f = ap (λ (t : Table). slot l i ∷ t) (slots_split l (suc i) j m n k (omega arith) (omega arith))

pub slots_last : (l : List ℤ) (h i : ℕ) → suc h ≡ i → slots l 0 i ≡ slots l 0 h ++ (slot l h ∷ [])
unfolding slots
slots_last l h i e = slots_split l 0 h h 1 i (omega arith) (omega arith)

-- the buckets of n slots with a bucket put at a place
pub slots_with : (l : List ℤ) (n at : ℕ) (b : Bucket) → at ≤ n → put_at at b (slots l 0 n) ≡ slots l 0 at ++ (b ∷ slots l at (n - at))
slots_with l n at b h =
    let long = length_slots l 0 at in
    ap (put_at at b) (slots_split l 0 at at (n - at) n (omega arith) (omega arith)) ∙ rw (take_at (slots l 0 at) (slots l at (n - at)) at long, drop_at (slots l 0 at) (slots l at (n - at)) at long)

pub slots_end : (l : List ℤ) (n : ℕ) (b : Bucket) → put_at n b (slots l 0 n) ≡ slots l 0 n ++ (b ∷ [])
unfolding slots
slots_end l n b = let none : n - n ≡ 0 = omega arith in slots_with l n n b (omega arith) ∙ rw none

-- slots that hold a table in two parts
pub filled_parts : (l : List ℤ) (n : ℕ) (x y : Table) → Filled l n → slots l 0 n ≡ x ++ y → l ≡ flat x ++ (flat y ++ drop (slot_width * n) l)
filled_parts l n x y f e =
    sym (flat_slots n l f.there f.ranges) ∙ ap (λ (t : Table). flat t ++ drop (slot_width * n) l) e ∙ rw (flat_append x y) (append_assoc (flat x) (flat y) (drop (slot_width * n) l))

-- ---- one slot written

pub put_flat : (x : Table) (a b : Bucket) (r : List ℤ) (i : ℕ) → length x ≡ i → put (flat x ++ (numbers a ++ r)) i b ≡ flat x ++ (numbers b ++ r)
unfolding put
put_flat x a b r i e =
    let here : length (flat x) ≡ slot_width * i = length_flat x ∙ omega arith in
    rw (take_at (flat x) (numbers a ++ r) (slot_width * i) here, drop_both (flat x) (numbers a) r (slot_width * suc i) (omega arith))

-- ---- what is laid

module _ (n : ℕ) (t : Table) (l : List ℤ) where
  pub slots_laid : slots (laid n t l) 0 (length t) ≡ t
  unfolding laid
  slots_laid = slots_flat t (zeros (slot_width * (n - length t)) ++ drop (slot_width * n) l)

  pub laid_over : length t ≡ n → laid n t l ≡ flat t ++ drop (slot_width * n) l
  unfolding laid zeros
  laid_over e = let none : slot_width * (n - length t) ≡ 0 = omega arith in rw none

module _ (n : ℕ) (t : Table) (l : List ℤ) (h : length t ≤ n) where
  laid_front : List ℤ
  laid_front = flat t ++ zeros (slot_width * (n - length t))

  laid_split : laid n t l ≡ laid_front ++ drop (slot_width * n) l
  unfolding laid laid_front
  laid_split = sym (append_assoc (flat t) (zeros (slot_width * (n - length t))) (drop (slot_width * n) l))

  length_front : length laid_front ≡ slot_width * n
  unfolding laid_front zeros
  length_front = simp (length-append, length-replicate, length_flat) (omega arith)

  pub drop_laid : (m : ℕ) → n ≤ m → drop (slot_width * m) (laid n t l) ≡ drop (slot_width * m) l
  drop_laid m k = rw laid_split (drop_past laid_front l (slot_width * n) (slot_width * m) length_front (omega arith))

  pub length_laid : slot_width * n ≤ length l → length (laid n t l) ≡ length l
  length_laid k = rw laid_split (simp (length-append, length-drop, length_front) (omega arith))

  -- what was laid before, no further, is not seen
  pub laid_laid : (m : ℕ) (u : Table) → n ≤ m → laid m u (laid n t l) ≡ laid m u l
  unfolding laid
  laid_laid m u k = ap (λ (r : List ℤ). flat u ++ (zeros (slot_width * (m - length u)) ++ r)) (drop_laid m k)

-- ---- zeros behind a table

pub zeros_all : (l : List ℤ) → all_zero l ≡ true → l ≡ zeros (length l)
unfolding all_zero zeros equal
zeros_all [] e = refl
zeros_all (z ∷ l) e =
    let both = and_left (equal z (pos 0)) (all_zero l) e in
    let low : le_z z (pos 0) ≡ true = and_left (le_z z (pos 0)) (le_z (pos 0) z) both in
    let high : le_z (pos 0) z ≡ true = and_right (le_z z (pos 0)) (le_z (pos 0) z) both in
    let none : z ≡ pos 0 = omega whole in
    ap (λ (y : ℤ). y ∷ l) none ∙ ap (λ (m : List ℤ). pos 0 ∷ m) (zeros_all l (and_right (equal z (pos 0)) (all_zero l) e))

-- laid up to m where zeros follow up to n is laid up to n
laid_joined : (m n : ℕ) (t : Table) (k l : List ℤ) → length t ≤ m → m ≤ n → drop (slot_width * m) k ≡ zeros (slot_width * (n - m)) ++ drop (slot_width * n) l → laid m t k ≡ laid n t l
unfolding laid zeros
laid_joined m n t k l h g rest =
    let sum : slot_width * (m - length t) + slot_width * (n - m) ≡ slot_width * (n - length t) = omega arith in
    rw (rest, ← append_assoc (zeros (slot_width * (m - length t))) (zeros (slot_width * (n - m))) (drop (slot_width * n) l), replicate-append-replicate (slot_width * (m - length t)) (slot_width * (n - m)) (pos 0), sum)

pub laid_more : (m n : ℕ) (t : Table) (l : List ℤ) → length t ≤ m → m ≤ n → slot_width * n ≤ length l → all_zero (take (slot_width * (n - m)) (drop (slot_width * m) l)) ≡ true → laid m t l ≡ laid n t l
laid_more m n t l h k g e =
    let long : length (take (slot_width * (n - m)) (drop (slot_width * m) l)) ≡ slot_width * (n - m) = simp (length-take, length-drop) (omega arith) in
    let there : slot_width * m + slot_width * (n - m) ≡ slot_width * n = omega arith in
    laid_joined m n t l l h k
    (sym (take-append-drop (slot_width * (n - m)) (drop (slot_width * m) l)) ∙ rw (zeros_all (take (slot_width * (n - m)) (drop (slot_width * m) l)) e, long, drop-drop (slot_width * (n - m)) (slot_width * m) l, there))

-- fewer buckets laid over a table that was laid
pub laid_within : (m n : ℕ) (t u : Table) (l : List ℤ) → length t ≤ m → length u ≡ m → m ≤ n → laid m t (laid n u l) ≡ laid n t l
unfolding laid
laid_within m n t u l h e k =
    laid_joined m n t (laid n u l) l h k (rw (← e) (drop_at (flat u) (zeros (slot_width * (n - length u)) ++ drop (slot_width * n) l) (slot_width * length u) (length_flat u)))
