-- What the movers leave of the part that they are lent, and what that makes of the table in the room: a bucket inserted, two merged, and both at once.
use Prim.Native.Nat.{ℕ, zero, suc, ◌+◌, ◌*◌, ◌-◌, ◌≤◌, ◌<◌}
use mathlib.Core.Path.{◌≡◌, refl, sym, ap, ◌∙◌}
use mathlib.Core.List.{List, [], ◌∷◌, ◌++◌, append_assoc}
use native.Mathlib.Omega.{arith}
use borrow.Rule.Slice.PartMut.{mid_of, put_mid}
use lib.IntN.{ℤ}
use lib.ListN.{length, take, drop, length-append, length-drop, length-take, take-append-drop}
use lib.Seq.{drop-drop, drop-length, length-take-le}
use Rattle.rule.specs.declared.Bucket.{Bucket}
use Rattle.rule.specs.Bucket.{union}
use Rattle.rule.specs.Numbers.{slot_width}
use Rattle.rule.specs.Room.{flat, laid, numbers, slot, slots, zeros}
use Rattle.rule.specs.Table.{Table, merge_at, readings}
use Rattle.rule.proofs.Merging.{merged_at}
use Rattle.rooms.specs.Slots.{Filled, put, put_at}
use Rattle.rooms.proofs.Shifting.{Copied, Raised, lowered_end, lowered_part, raised_end, raised_part}
use Rattle.rooms.proofs.Laying.{filled_parts, flat_append, laid_over, length_flat, length_slots, put_flat, slots_end, slots_last, slots_split, slots_with}
use Rattle.rooms.proofs.Scoring.{slots_next}

-- ---- the part, when the bucket is written too

put_last : (m : List ℤ) (b : Bucket) → length m ≡ slot_width → put m 0 b ≡ numbers b
unfolding put
put_last m b e = ap (λ (l : List ℤ). numbers b ++ l) (ap (λ (n : ℕ). drop n m) (sym e) ∙ drop-length m)

pub all_lowered : {d r : List ℤ} {i : ℕ} (b : Bucket) → slot_width ≤ length d → Copied d 0 (length d - slot_width) (drop slot_width d) r i → length d - slot_width ≤ i
    → put_mid (length d - slot_width) (length r - (length d - slot_width)) r (put (mid_of (length d - slot_width) (length r - (length d - slot_width)) r) 0 b) ≡ drop slot_width d ++ numbers b
all_lowered {d} {r} {i} b h q g =
    let from : ℕ = length d - slot_width in
    let n : ℕ = length r - from in
    let long : length (mid_of from n r) ≡ slot_width = simp (length-take, length-drop) (omega (arith, q.same)) in
    let all : from + n ≡ length r = omega (arith, q.same) in
    let rest : drop n (drop from r) ≡ [] = drop-drop n from r ∙ ap (λ (m : ℕ). drop m r) all ∙ drop-length r in
    rw (put_last (mid_of from n r) b long, rest, lowered_end d slot_width h q g)

pub all_raised : {d r : List ℤ} {i : ℕ} (b : Bucket) → slot_width ≤ length d → Raised d slot_width r i → i ≤ 0 → put r 0 b ≡ numbers b ++ take (length d - slot_width) d
unfolding put
all_raised b h q g = ap (λ (l : List ℤ). numbers b ++ l) (raised_end q h g)

-- ---- slots side by side

-- slots h and i, the next, among n slots from j on
pub pair_stands : (l : List ℤ) (j h i m k n : ℕ) → j + m ≡ h → suc h ≡ i → m + suc (suc k) ≡ n
    → slots l j n ≡ slots l j m ++ (slot l h ∷ slot l i ∷ slots l (suc i) k)
unfolding slots
pair_stands l j h i m k n e f g = slots_split l j h m (suc (suc k)) n e g ∙ ap (λ (x : ℕ). slots l j m ++ (slot l h ∷ slot l x ∷ slots l (suc x) k)) f

pub one_stands : (l : List ℤ) (i k n : ℕ) → i + suc k ≡ n → slots l 0 n ≡ slots l 0 i ++ (slot l i ∷ slots l (suc i) k)
unfolding slots
one_stands l i k n e = slots_split l 0 i i (suc k) n (omega arith) e

readings_one : (x y : Table) (a : Bucket) → a.count ≤ readings (x ++ (a ∷ y))
unfolding readings
readings_one [] y a = omega arith
readings_one (c ∷ x) y a = omega (arith, readings_one x y a)

pub readings_pair : (x y : Table) (a b : Bucket) → a.count + b.count ≤ readings (x ++ (a ∷ b ∷ y))
unfolding readings
readings_pair [] y a b = omega arith
readings_pair (c ∷ x) y a b = omega (arith, readings_pair x y a b)

pub one_counts : (l : List ℤ) (i n : ℕ) → i < n → (slot l i).count ≤ readings (slots l 0 n)
one_counts l i n h = rw (one_stands l i (n - suc i) n (omega arith)) (readings_one (slots l 0 i) (slots l (suc i) (n - suc i)) (slot l i))

pub pair_counts : (l : List ℤ) (h i n : ℕ) → suc h ≡ i → i < n → (slot l h).count + (slot l i).count ≤ readings (slots l 0 n)
pair_counts l h i n e g =
    rw (pair_stands l 0 h i h (n - suc i) n (omega arith) e (omega arith)) (readings_pair (slots l 0 h) (slots l (suc i) (n - suc i)) (slot l h) (slot l i))

-- ---- what is to be laid

-- a table of n + 1 buckets with two merged, in the first n slots
laid_merged : (l : List ℤ) (x y : Table) (a b : Bucket) (i n : ℕ) → length x ≡ i → i + suc (length y) ≡ n
    → laid n (merge_at i (x ++ (a ∷ b ∷ y))) l ≡ flat x ++ (numbers (union a b) ++ (flat y ++ drop (slot_width * n) l))
unfolding flat
laid_merged l x y a b i n e f =
    let u = union a b in
    let table : merge_at i (x ++ (a ∷ b ∷ y)) ≡ x ++ (u ∷ y) = rw (← e) (merged_at x a b y) in
    let long : length (x ++ (u ∷ y)) ≡ n = length-append x (u ∷ y) ∙ omega arith in
    rw (table, laid_over n (x ++ (u ∷ y)) l long, flat_append x (u ∷ y)) (append_assoc (flat x) (numbers u ++ flat y) (drop (slot_width * n) l))

-- ---- a slot opened

pub inserted : (l : List ℤ) (used at k : ℕ) (b : Bucket) → Filled l used → at ≤ used → slot_width * suc used ≤ length l → k ≡ slot_width * used + slot_width - slot_width * at
    → put_mid (slot_width * at) k l (numbers b ++ take (length (mid_of (slot_width * at) k l) - slot_width) (mid_of (slot_width * at) k l)) ≡ laid (suc used) (put_at at b (slots l 0 used)) l
unfolding flat
inserted l used at k b f h g e =
    let t = slots l 0 used in
    let x = take at t in
    let y = drop at t in
    let r = drop (slot_width * used) l in
    let s = take slot_width r in
    let r' = drop slot_width r in
    let before : length x ≡ at = length-take-le at t (omega (arith, length_slots l 0 used)) in
    let behind : length y ≡ used - at = length-drop at t ∙ omega (arith, length_slots l 0 used) in
    let stands : l ≡ flat x ++ ((flat y ++ s) ++ r') =
    filled_parts l used x y f (sym (take-append-drop at t)) ∙ ap (λ (m : List ℤ). flat x ++ (flat y ++ m)) (sym (take-append-drop slot_width r)) ∙ simp append_assoc in
    let spare : length s ≡ slot_width = length-take-le slot_width r (omega (arith, length-drop (slot_width * used) l)) in
    let next : slot_width * used + slot_width ≡ slot_width * suc used = omega arith in
    let past : r' ≡ drop (slot_width * suc used) l = drop-drop slot_width (slot_width * used) l ∙ ap (λ (n : ℕ). drop n l) next in
    let more : length (x ++ (b ∷ y)) ≡ suc used = length-append x (b ∷ y) ∙ omega arith in
    ap (λ (m : List ℤ). put_mid (slot_width * at) k m (numbers b ++ take (length (mid_of (slot_width * at) k m) - slot_width) (mid_of (slot_width * at) k m))) stands
    ∙ raised_part (flat x) (flat y) s r' (numbers b) slot_width (slot_width * at) k (length_flat x ∙ omega arith) spare (omega (arith, length_flat y))
    ∙ rw (past, laid_over (suc used) (x ++ (b ∷ y)) l more, flat_append x (b ∷ y)) (sym (append_assoc (flat x) (numbers b ++ flat y) (drop (slot_width * suc used) l)))

-- ---- a slot closed

-- two buckets become one: v comes behind those that move down
closed : (x y : Table) (a b u : Bucket) (v r : List ℤ) (i k : ℕ) → length x ≡ i → k ≡ slot_width * suc (length y)
    → (l : List ℤ) → l ≡ flat x ++ (numbers a ++ (numbers b ++ (flat y ++ r)))
    → put (put_mid (slot_width * i + slot_width) k l (drop slot_width (mid_of (slot_width * i + slot_width) k l) ++ v)) i u ≡ flat x ++ (numbers u ++ (flat y ++ (v ++ r)))
closed x y a b u v r i k e f l stands =
    let from : ℕ = slot_width * i + slot_width in
    let front : length (flat x ++ numbers a) ≡ from = length-append (flat x) (numbers a) ∙ omega (arith, length_flat x) in
    let split : l ≡ (flat x ++ numbers a) ++ ((numbers b ++ flat y) ++ r) = stands ∙ sym (append_assoc (flat x) (numbers a) ((numbers b ++ flat y) ++ r)) in
    let moved : put_mid from k l (drop slot_width (mid_of from k l) ++ v) ≡ flat x ++ (numbers a ++ (flat y ++ (v ++ r))) =
    ap (λ (m : List ℤ). put_mid from k m (drop slot_width (mid_of from k m) ++ v)) split
    ∙ lowered_part (flat x ++ numbers a) (numbers b) (flat y) r v slot_width from k front refl (omega (arith, length_flat y))
    ∙ simp append_assoc in
    rw moved (put_flat x a u (flat y ++ (v ++ r)) i e)

-- ---- a bucket inserted and two merged, by where the two stand

-- two slots before the new bucket's place
pub merged_before : (l : List ℤ) (used at i k : ℕ) (b : Bucket) → Filled l used → at ≤ used → i + 1 < at → k ≡ slot_width * at - (slot_width * i + slot_width)
    → put (put_mid (slot_width * i + slot_width) k l (drop slot_width (mid_of (slot_width * i + slot_width) k l) ++ numbers b)) i (union (slot l i) (slot l (i + 1))) ≡ laid used (merge_at i (put_at at b (slots l 0 used))) l
unfolding flat
merged_before l used at i k b f g h e =
    let x = slots l 0 i in
    let y = slots l (suc (i + 1)) (at - (i + 2)) in
    let z = slots l at (used - at) in
    let a = slot l i in
    let c = slot l (i + 1) in
    let u = union a c in
    let r = drop (slot_width * used) l in
    let front : slots l 0 at ≡ x ++ (a ∷ c ∷ y) = pair_stands l 0 i (i + 1) i (at - (i + 2)) at (omega arith) (omega arith) (omega arith) in
    let table : slots l 0 used ≡ slots l 0 at ++ z = slots_split l 0 at at (used - at) used (omega arith) (omega arith) in
    let stands : l ≡ flat x ++ (numbers a ++ (numbers c ++ (flat y ++ (flat z ++ r)))) =
    filled_parts l used (slots l 0 at) z f table ∙ rw (front, flat_append x (a ∷ c ∷ y)) (append_assoc (flat x) (numbers a ++ (numbers c ++ flat y)) (flat z ++ r)) in
    let with : put_at at b (slots l 0 used) ≡ x ++ (a ∷ c ∷ (y ++ (b ∷ z))) = slots_with l used at b g ∙ rw front (append_assoc x (a ∷ c ∷ y) (b ∷ z)) in
    let rest : flat (y ++ (b ∷ z)) ++ r ≡ flat y ++ (numbers b ++ (flat z ++ r)) = rw (flat_append y (b ∷ z)) (append_assoc (flat y) (numbers b ++ flat z) r) in
    let many : length (y ++ (b ∷ z)) ≡ used - (i + 1) = length-append y (b ∷ z) ∙ omega (arith, length_slots l (suc (i + 1)) (at - (i + 2)), length_slots l at (used - at)) in
    closed x y a c u (numbers b) (flat z ++ r) i k (length_slots l 0 i) (omega (arith, length_slots l (suc (i + 1)) (at - (i + 2)))) l stands
    ∙ sym (rw with (laid_merged l x (y ++ (b ∷ z)) a c i used (length_slots l 0 i) (omega arith) ∙ ap (λ (m : List ℤ). flat x ++ (numbers u ++ m)) rest))

-- two slots alone: an empty bucket behind all slots is a cleared slot
merge_front : (i : ℕ) (t u : Table) → i + 1 < length t → merge_at i (t ++ u) ≡ merge_at i t ++ u
unfolding merge_at
merge_front i [] u h = absurd (omega arith)
merge_front i (a ∷ []) u h = absurd (omega arith)
merge_front zero (a ∷ b ∷ t) u h = refl
merge_front (suc i) (a ∷ b ∷ t) u h = ap (λ (w : Table). a ∷ w) (merge_front i (b ∷ t) u (omega arith))

merge_shorter : (i : ℕ) (t : Table) → i + 1 < length t → suc (length (merge_at i t)) ≡ length t
unfolding merge_at
merge_shorter i [] h = absurd (omega arith)
merge_shorter i (a ∷ []) h = absurd (omega arith)
merge_shorter zero (a ∷ b ∷ t) h = refl
merge_shorter (suc i) (a ∷ b ∷ t) h = ap suc (merge_shorter i (b ∷ t) (omega arith))

pub merged_alone : (l : List ℤ) (used at : ℕ) (e : Bucket) → numbers e ≡ zeros slot_width → at + 1 < used → laid used (merge_at at (put_at used e (slots l 0 used))) l ≡ laid used (merge_at at (slots l 0 used)) l
unfolding flat laid
merged_alone l used at e q h =
    let t = merge_at at (slots l 0 used) in
    let long : suc (length t) ≡ used = merge_shorter at (slots l 0 used) (omega (arith, length_slots l 0 used)) ∙ length_slots l 0 used in
    let one : slot_width * (used - length t) ≡ slot_width = omega arith in
    ap (λ (w : Table). laid used w l) (ap (merge_at at) (slots_end l used e) ∙ merge_front at (slots l 0 used) (e ∷ []) (omega (arith, length_slots l 0 used)))
    ∙ laid_over used (t ++ (e ∷ [])) l (length-append t (e ∷ []) ∙ omega arith)
    ∙ rw (flat_append t (e ∷ []), one) (append_assoc (flat t) (numbers e) (drop (slot_width * used) l) ∙ ap (λ (m : List ℤ). flat t ++ (m ++ drop (slot_width * used) l)) q)

-- the new bucket and a slot beside it: that slot is written
module _ (l : List ℤ) (used i : ℕ) (f : Filled l used) (h : i < used) where
  over : (u : Bucket) → put l i u ≡ flat (slots l 0 i) ++ (numbers u ++ (flat (slots l (suc i) (used - suc i)) ++ drop (slot_width * used) l))
  unfolding flat
  over u =
      let x = slots l 0 i in
      let y = slots l (suc i) (used - suc i) in
      ap (λ (m : List ℤ). put m i u) (filled_parts l used x (slot l i ∷ y) f (one_stands l i (used - suc i) used (omega arith)))
      ∙ put_flat x (slot l i) u (flat y ++ drop (slot_width * used) l) i (length_slots l 0 i)

  pub merged_left : (b : Bucket) → put l i (union (slot l i) b) ≡ laid used (merge_at i (put_at (suc i) b (slots l 0 used))) l
  merged_left b =
      let x = slots l 0 i in
      let a = slot l i in
      let y = slots l (suc i) (used - suc i) in
      let with : put_at (suc i) b (slots l 0 used) ≡ x ++ (a ∷ b ∷ y) = slots_with l used (suc i) b h ∙ rw (slots_last l i (suc i) refl) (append_assoc x (a ∷ []) (b ∷ y)) in
      over (union a b) ∙ sym (rw with (laid_merged l x y a b i used (length_slots l 0 i) (omega (arith, length_slots l (suc i) (used - suc i)))))

  pub merged_right : (b : Bucket) → put l i (union b (slot l i)) ≡ laid used (merge_at i (put_at i b (slots l 0 used))) l
  merged_right b =
      let x = slots l 0 i in
      let c = slot l i in
      let y = slots l (suc i) (used - suc i) in
      let with : put_at i b (slots l 0 used) ≡ x ++ (b ∷ c ∷ y) = slots_with l used i b (omega arith) ∙ rw (slots_next l used i h) in
      over (union b c) ∙ sym (rw with (laid_merged l x y b c i used (length_slots l 0 i) (omega (arith, length_slots l (suc i) (used - suc i)))))

-- two slots behind the new bucket
pub merged_after : (l : List ℤ) (used at h i k : ℕ) (b : Bucket) → Filled l used → at ≤ h → suc h ≡ i → i < used → k ≡ slot_width * i - slot_width * at
    → put (put_mid (slot_width * at) k l (numbers b ++ take (length (mid_of (slot_width * at) k l) - slot_width) (mid_of (slot_width * at) k l))) i (union (slot l h) (slot l i)) ≡ laid used (merge_at i (put_at at b (slots l 0 used))) l
unfolding flat
merged_after l used at h i k b f g e j s =
    let x = slots l 0 at in
    let y = slots l at (h - at) in
    let z = slots l (suc i) (used - suc i) in
    let a = slot l h in
    let c = slot l i in
    let u = union a c in
    let r = drop (slot_width * used) l in
    let from : ℕ = slot_width * at in
    let behind : slots l at (used - at) ≡ y ++ (a ∷ c ∷ z) = pair_stands l at h i (h - at) (used - suc i) (used - at) (omega arith) e (omega arith) in
    let table : slots l 0 used ≡ x ++ (y ++ (a ∷ c ∷ z)) = slots_split l 0 at at (used - at) used (omega arith) (omega arith) ∙ ap (λ (t : Table). x ++ t) behind in
    let stands : l ≡ flat x ++ ((flat y ++ numbers a) ++ (numbers c ++ (flat z ++ r))) =
    filled_parts l used x (y ++ (a ∷ c ∷ z)) f table ∙ rw (flat_append y (a ∷ c ∷ z)) (simp append_assoc) in
    let moved : put_mid from k l (numbers b ++ take (length (mid_of from k l) - slot_width) (mid_of from k l)) ≡ flat (x ++ (b ∷ y)) ++ (numbers c ++ (flat z ++ r)) =
    ap (λ (m : List ℤ). put_mid from k m (numbers b ++ take (length (mid_of from k m) - slot_width) (mid_of from k m))) stands
    ∙ raised_part (flat x) (flat y) (numbers a) (numbers c ++ (flat z ++ r)) (numbers b) slot_width from k (length_flat x ∙ omega (arith, length_slots l 0 at)) refl (omega (arith, length_flat y, length_slots l at (h - at)))
    ∙ rw (flat_append x (b ∷ y)) (sym (append_assoc (flat x) (numbers b ++ flat y) (numbers c ++ (flat z ++ r)))) in
    let long : length (x ++ (b ∷ y)) ≡ i = length-append x (b ∷ y) ∙ omega (arith, length_slots l 0 at, length_slots l at (h - at)) in
    let with : put_at at b (slots l 0 used) ≡ (x ++ (b ∷ y)) ++ (a ∷ c ∷ z) = slots_with l used at b (omega arith) ∙ rw behind (sym (append_assoc x (b ∷ y) (a ∷ c ∷ z))) in
    ap (λ (m : List ℤ). put m i u) moved ∙ put_flat (x ++ (b ∷ y)) c u (flat z ++ r) i long
    ∙ sym (rw with (laid_merged l (x ++ (b ∷ y)) z a c i used long (omega (arith, length_slots l (suc i) (used - suc i)))))
