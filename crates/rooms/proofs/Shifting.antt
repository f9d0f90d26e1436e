-- The loops that clear numbers and move them by one slot: what the list is at the start, after a turn and at the end.
use Prim.Native.Nat.{ℕ, suc, ◌+◌, ◌-◌, ◌≤◌, ◌<◌}
use mathlib.Core.Path.{◌≡◌, refl, sym, ap, ◌∙◌}
use mathlib.Core.List.{List, ◌∷◌, ◌++◌, append_assoc, append-nil}
use native.Mathlib.Omega.{arith}
use lib.IntN.{ℤ, pos}
use lib.ListN.{length, get_or, take, drop, set, get_or-replicate, length-append, length-drop, length-replicate, length-set, length-take, get_or-append}
use lib.Seq.{append_snoc, drop_at, drop-append-add, drop-cons, drop-drop, get_or-append-add, get_or-drop, get_or-take, length_paste_head, length-take-le, paste, paste-suc, paste-zero, set_at, take_at, take-length, take-suc}
use borrow.Rule.Slice.PartMut.{mid_of, put_mid}
use Rattle.rule.specs.Room.{zeros}

-- a front put before what lies behind it changes nothing further on
pub drop_past : (p l : List ℤ) (n m : ℕ) → length p ≡ n → n ≤ m → drop m (p ++ drop n l) ≡ drop m l
drop_past p l n m e h =
    let far : m ≡ length p + (m - n) = omega arith in
    let near : n + (m - n) ≡ m = omega arith in
    ap (λ (k : ℕ). drop k (p ++ drop n l)) far ∙ drop-append-add p (drop n l) (m - n) ∙ drop-drop (m - n) n l ∙ ap (λ (k : ℕ). drop k l) near

-- ---- upward: the numbers of d from `at` up to i have become those of s, which ends at `to`

pub record Copied (d : List ℤ) (at to : ℕ) (s r : List ℤ) (i : ℕ) : Type 0 where
  pub done : ℕ
  pub reached : at + done ≡ i
  pub until : at + length s ≡ to
  pub within : i ≤ to
  pub inside : to ≤ length d
  pub same : length r ≡ length d
  pub stands : r ≡ paste d at s done

pub copied_start : (d s : List ℤ) (at to : ℕ) → at + length s ≡ to → to ≤ length d → Copied d at to s d at
copied_start d s at to e h = record { done = 0; reached = omega arith; until = e; within = omega arith; inside = h; same = refl; stands = paste-zero d at s }

module _ {d s r : List ℤ} {at to i : ℕ} (q : Copied d at to s r i) where
  pub copied_step : (v : ℤ) → i < to → v ≡ get_or s q.done (pos 0) → Copied d at to s (set r i v) (i + 1)
  copied_step v h e =
      let more : at + q.done < length d = omega arith in
      let left : q.done < length s = omega arith in
      record {
        done = suc q.done;
        reached = omega arith;
        until = q.until;
        within = omega arith;
        inside = q.inside;
        same = length-set r i v ∙ q.same;
        stands = rw (q.stands, ← q.reached, e) (paste-suc d at s q.done (pos 0) more left);
      }

  done_head : length (take at d ++ take q.done s) ≡ i
  done_head = length_paste_head d at s q.done (omega arith) (omega arith) ∙ q.reached

  -- what is not reached yet is as it was
  pub copied_ahead : (k : ℕ) → get_or r (i + k) (pos 0) ≡ get_or d (i + k) (pos 0)
  copied_ahead k =
      rw (q.stands, q.reached) (ap (λ (n : ℕ). get_or ((take at d ++ take q.done s) ++ drop i d) (n + k) (pos 0)) (sym done_head) ∙ get_or-append-add (take at d ++ take q.done s) (drop i d) k (pos 0) ∙ get_or-drop i d k (pos 0))

  pub copied_end : to ≤ i → r ≡ take at d ++ (s ++ drop to d)
  copied_end h =
      let all : q.done ≡ length s = omega arith in
      q.stands ∙ rw (all, take-length s, q.until) (append_assoc (take at d) s (drop to d))

-- ---- zeros

pub cleared_start : (d : List ℤ) (from to : ℕ) → from ≤ to → to ≤ length d → Copied d from to (zeros (to - from)) d from
unfolding zeros
cleared_start d from to h k = copied_start d (zeros (to - from)) from to (simp length-replicate (omega arith)) k

pub cleared_step : {d r : List ℤ} {from to i : ℕ} → Copied d from to (zeros (to - from)) r i → i < to → Copied d from to (zeros (to - from)) (set r i (pos 0)) (i + 1)
unfolding zeros
cleared_step {from = from} {to = to} q h = copied_step q (pos 0) h (sym (get_or-replicate (to - from) q.done (pos 0) (pos 0) (omega arith)))

-- ---- the numbers behind the first w moved down by w places

module _ (d : List ℤ) (w : ℕ) (h : w ≤ length d) where
  pub lowered_start : Copied d 0 (length d - w) (drop w d) d 0
  lowered_start = copied_start d (drop w d) 0 (length d - w) (simp length-drop (omega arith)) (omega arith)

  pub lowered_step : {r : List ℤ} {i : ℕ} → Copied d 0 (length d - w) (drop w d) r i → i < length d - w → Copied d 0 (length d - w) (drop w d) (set r i (get_or r (i + w) (pos 0))) (i + 1)
  lowered_step {r} {i} q g =
      let there : i + w ≡ w + q.done = omega arith in
      copied_step q (get_or r (i + w) (pos 0)) g (copied_ahead q w ∙ ap (λ (n : ℕ). get_or d n (pos 0)) there ∙ sym (get_or-drop w d q.done (pos 0)))

  -- what stands in front of the last w
  pub lowered_end : {r : List ℤ} {i : ℕ} → Copied d 0 (length d - w) (drop w d) r i → length d - w ≤ i → take (length d - w) r ≡ drop w d
  lowered_end {r} {i} q g = rw (copied_end q g) (take_at (drop w d) (drop (length d - w) d) (length d - w) (length-drop w d))

-- ---- the numbers before the last w moved up by w places, the last first

-- those from i on are moved
pub record Raised (d : List ℤ) (w : ℕ) (r : List ℤ) (i : ℕ) : Type 0 where
  pub done : ℕ
  pub reached : i + w + done ≡ length d
  pub same : length r ≡ length d
  pub stands : r ≡ take (i + w) d ++ take done (drop i d)

pub raised_start : (d : List ℤ) (w : ℕ) → w ≤ length d → Raised d w d (length d - w)
raised_start d w h =
    let all : length d - w + w ≡ length d = omega arith in
    record { done = 0; reached = omega arith; same = refl; stands = rw all (sym (append-nil (take (length d) d) ∙ take-length d)) }

module _ {d r : List ℤ} {w i : ℕ} (q : Raised d w r i) where
  pub raised_step : (j : ℕ) → suc j ≡ i → Raised d w (set r (j + w) (get_or r j (pos 0))) j
  raised_step j e =
      let below : j + w < length d = omega arith in
      let here : j < length d = omega arith in
      let next : i + w ≡ suc (j + w) = omega arith in
      let rest : List ℤ = take q.done (drop (suc j) d) in
      let before : r ≡ take (suc (j + w)) d ++ rest = q.stands ∙ rw (next, e) in
      let stands : r ≡ take (j + w) d ++ get_or d (j + w) (pos 0) ∷ rest = before ∙ rw (take-suc d (j + w) (pos 0) below) (append_snoc (take (j + w) d) (get_or d (j + w) (pos 0)) rest) in
      let value : get_or r j (pos 0) ≡ get_or d j (pos 0) =
      rw before (get_or-append (take (suc (j + w)) d) rest (pos 0) j (simp length-take (omega arith)) ∙ get_or-take (suc (j + w)) d j (pos 0) (omega arith)) in
      record {
        done = suc q.done;
        reached = omega arith;
        same = length-set r (j + w) (get_or r j (pos 0)) ∙ q.same;
        stands = ap (λ (v : ℤ). set r (j + w) v) value ∙ ap (λ (l : List ℤ). set l (j + w) (get_or d j (pos 0))) stands ∙ set_at (take (j + w) d) (get_or d (j + w) (pos 0)) rest (get_or d j (pos 0)) (j + w) (length-take-le (j + w) d (omega arith)) ∙ rw (drop-cons d j (pos 0) here);
      }

  -- what stands behind the first w
  pub raised_end : w ≤ length d → i ≤ 0 → drop w r ≡ take (length d - w) d
  raised_end h g =
      let first : i ≡ 0 = omega arith in
      let all : q.done ≡ length d - w = omega arith in
      let front : 0 + w ≡ w = omega arith in
      rw (q.stands, all, first, front) (drop_at (take w d) (take (length d - w) d) w (length-take-le w d h))

-- ---- a list of which the parts are known

pub drop_both : (p q r : List ℤ) (n : ℕ) → length p + length q ≡ n → drop n (p ++ (q ++ r)) ≡ r
drop_both p q r n e = rw (← append_assoc p q r) (drop_at (p ++ q) r n (length-append p q ∙ e))

-- the k numbers from the one at `from` on are lent, and come back as v
pub lent_part : (p q r : List ℤ) (from k : ℕ) → length p ≡ from → length q ≡ k → mid_of from k (p ++ (q ++ r)) ≡ q
lent_part p q r from k e f = rw (drop_at p (q ++ r) from e) (take_at q r k f)

pub put_back : (p q r v : List ℤ) (from k : ℕ) → length p ≡ from → length q ≡ k → put_mid from k (p ++ (q ++ r)) v ≡ p ++ (v ++ r)
put_back p q r v from k e f = rw (take_at p (q ++ r) from e, drop_at p (q ++ r) from e, drop_at q r k f)

-- the first w of the part gone, v behind the others
pub lowered_part : (p s q r v : List ℤ) (w from k : ℕ) → length p ≡ from → length s ≡ w → w + length q ≡ k
    → put_mid from k (p ++ ((s ++ q) ++ r)) (drop w (mid_of from k (p ++ ((s ++ q) ++ r))) ++ v) ≡ p ++ ((q ++ v) ++ r)
lowered_part p s q r v w from k e f g =
    let long : length (s ++ q) ≡ k = length-append s q ∙ omega arith in
    rw (lent_part p (s ++ q) r from k e long, drop_at s q w f) (put_back p (s ++ q) r (q ++ v) from k e long)

-- the last w of the part gone, v before the others
pub raised_part : (p q s r v : List ℤ) (w from k : ℕ) → length p ≡ from → length s ≡ w → length q + w ≡ k
    → put_mid from k (p ++ ((q ++ s) ++ r)) (v ++ take (length (mid_of from k (p ++ ((q ++ s) ++ r))) - w) (mid_of from k (p ++ ((q ++ s) ++ r)))) ≡ p ++ ((v ++ q) ++ r)
raised_part p q s r v w from k e f g =
    let long : length (q ++ s) ≡ k = length-append q s ∙ omega arith in
    let left : length q ≡ length (q ++ s) - w = omega (arith, length-append q s) in
    rw (lent_part p (q ++ s) r from k e long, take_at q s (length (q ++ s) - w) left) (put_back p (q ++ s) r (v ++ q) from k e long)
