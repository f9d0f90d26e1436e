-- The caption apart from the lines behind it, and what is kept of it.
use Prim.Native.Nat.{ℕ, zero, suc, ◌+◌, ◌≤◌, ◌<◌}
use mathlib.Core.Path.{◌≡◌, refl, sym, ap, ◌∙◌, subst}
use mathlib.Core.Bool.{Bool, true, false, cond, true≢false, false≢true}
use mathlib.Core.List.{List, [], ◌∷◌, ◌++◌, append_assoc, append-nil}
use native.Mathlib.Numerals.{add-one}
use native.Mathlib.Omega.{arith}
use borrow.Author.Tests.{leb-true, leb-false, ltb-true, ltb-false}
use lib.Dec.{eqb, leb, ltb}
use lib.ListN.{drop, length, replicate, set, take, length-append, length-replicate, length-set}
use lib.Seq.{drop-nil, take-suc-set}
use Rattle.rule.proofs.Whole.{by_test}
use Rattle.notation.specs.Signs.{line_feed}
use Rattle.sketching.specs.declared.Heading.{Heading}
use Rattle.sketching.specs.Sketching.{caption_in, trace_in}
use Rattle.sketching.specs.Heading.{caption_room, headed_from, kept}

-- whether a line feed came
unfoldable pub broken : List ℕ → Bool
broken [] = false
broken (b ∷ l) = cond (eqb b line_feed) true (broken l)

-- ---- an input that goes on behind its caption

pub ended_caption : (i p : List ℕ) → broken i ≡ true → caption_in (i ++ p) ≡ caption_in i
unfolding broken caption_in
ended_caption [] p e = absurd (false≢true e)
ended_caption (b ∷ i) p e = by_test (eqb b line_feed) (λ f. rw f) (λ f. rw f (ap (λ (l : List ℕ). b ∷ l) (ended_caption i p (rw f at e))))

pub ended_trace : (i p : List ℕ) → broken i ≡ true → trace_in (i ++ p) ≡ trace_in i ++ p
unfolding broken trace_in
ended_trace [] p e = absurd (false≢true e)
ended_trace (b ∷ i) p e = by_test (eqb b line_feed) (λ f. rw f) (λ f. rw f (ended_trace i p (rw f at e)))

pub ended_broken : (i p : List ℕ) → broken i ≡ true → broken (i ++ p) ≡ true
unfolding broken
ended_broken [] p e = absurd (false≢true e)
ended_broken (b ∷ i) p e = by_test (eqb b line_feed) (λ f. rw f) (λ f. rw f (ended_broken i p (rw f at e)))

-- ---- an input that goes on with its caption

pub going_caption : (i p : List ℕ) → broken i ≡ false → caption_in (i ++ p) ≡ i ++ caption_in p
unfolding broken caption_in
going_caption [] p e = refl
going_caption (b ∷ i) p e = by_test (eqb b line_feed) (λ f. absurd (true≢false (rw f at e))) (λ f. rw f (ap (λ (l : List ℕ). b ∷ l) (going_caption i p (rw f at e))))

pub going_trace : (i p : List ℕ) → broken i ≡ false → trace_in (i ++ p) ≡ trace_in p
unfolding broken trace_in
going_trace [] p e = refl
going_trace (b ∷ i) p e = by_test (eqb b line_feed) (λ f. absurd (true≢false (rw f at e))) (λ f. rw f (going_trace i p (rw f at e)))

pub going_broken : (i p : List ℕ) → broken i ≡ false → broken (i ++ p) ≡ broken p
unfolding broken
going_broken [] p e = refl
going_broken (b ∷ i) p e = by_test (eqb b line_feed) (λ f. absurd (true≢false (rw f at e))) (λ f. rw f (going_broken i p (rw f at e)))

-- all of it is caption
pub whole_caption : (i : List ℕ) → broken i ≡ false → caption_in i ≡ i
unfolding caption_in
whole_caption i e = ap caption_in (sym (append-nil i)) ∙ going_caption i [] e ∙ append-nil i

pub no_trace : (i : List ℕ) → broken i ≡ false → trace_in i ≡ []
unfolding trace_in
no_trace i e = ap trace_in (sym (append-nil i)) ∙ going_trace i [] e

-- ---- what is kept

-- the first k places hold the bytes typed, unless these are too many
pub record Keeps (k : ℕ) (c typed : List ℕ) : Type 0 where
  pub wide : length c ≡ caption_room
  pub inside : k ≤ caption_room
  pub short : length typed ≤ caption_room → (k ≡ length typed) × (take k c ≡ typed)
  pub long : caption_room ≤ length typed → k ≡ caption_room

pub keeps_none : Keeps 0 (replicate caption_room 0) []
keeps_none = record { wide = length-replicate {A = ℕ} caption_room 0; inside = omega arith; short = λ _. (refl, refl); long = λ h. absurd (omega (arith, h)) }

module _ (k : ℕ) (c typed : List ℕ) (b : ℕ) (x : Keeps k c typed) where
  few : k < length c → length typed ≤ caption_room
  few h =
      by_test (leb (length typed) caption_room) (leb-true (length typed) caption_room)
      (λ e. let many : caption_room < length typed = leb-false (length typed) caption_room e in absurd (omega (arith, x.long (omega (arith, many)), x.wide, h)))

  many : length c ≤ k → caption_room ≤ length typed
  many h =
      by_test (leb caption_room (length typed)) (leb-true caption_room (length typed))
      (λ e. let less : length typed < caption_room = leb-false caption_room (length typed) e in absurd (omega (arith, (x.short (omega (arith, less))).0, x.wide, h, less)))

  stored : k < length c → Keeps (k + 1) (set c k b) (typed ++ (b ∷ []))
  stored h =
      let s = x.short (few h) in
      let more : length (typed ++ (b ∷ [])) ≡ length typed + 1 = length-append typed (b ∷ []) in
      record {
        wide = length-set c k b ∙ x.wide;
        inside = omega (arith, h, x.wide);
        short = λ _. (omega (arith, s.0, more), rw (add-one k, take-suc-set c k b h, s.1));
        long = λ g. omega (arith, s.0, more, g, h, x.wide);
      }

  full : length c ≤ k → Keeps k c (typed ++ (b ∷ []))
  full h =
      let more : length (typed ++ (b ∷ [])) ≡ length typed + 1 = length-append typed (b ∷ []) in
      record { wide = x.wide; inside = x.inside; short = λ g. absurd (omega (arith, many h, more, g)); long = λ _. x.long (many h) }

  keeps_byte : let y = kept k c b in Keeps y.0 y.1 (typed ++ (b ∷ []))
  unfolding kept
  keeps_byte = by_test (ltb k (length c)) (λ h. rw h (stored (ltb-true k (length c) h))) (λ h. rw h (full (ltb-false k (length c) h)))

-- behind a piece: what is kept, whether the line feed came, and what of the piece lies behind it
pub record Headed (n : ℕ) (typed p : List ℕ) (o : Heading × List ℕ) : Type 0 where
  pub keeps : Keeps o.0.filled o.1 (typed ++ caption_in p)
  pub ended : o.0.ended ≡ broken p
  pub least : n ≤ o.0.taken
  pub most : o.0.taken ≤ n + length p
  pub rest : (m : ℕ) → o.0.taken ≡ n + m → drop m p ≡ trace_in p

headed_on : (m n : ℕ) (b : ℕ) (p typed : List ℕ) (o : Heading × List ℕ) → Headed (n + 1) typed p o → o.0.taken ≡ n + m → drop m (b ∷ p) ≡ trace_in p
headed_on zero n b p typed o y e = absurd (omega (arith, y.least, e))
headed_on (suc m) n b p typed o y e = y.rest m (omega (arith, e))

pub headed_to : (p : List ℕ) (k n : ℕ) (c typed : List ℕ) → Keeps k c typed → Headed n typed p (headed_from k n c p)
unfolding headed_from caption_in trace_in broken
headed_to [] k n c typed x =
    record { keeps = subst (λ (z : List ℕ). Keeps k c z) (sym (append-nil typed)) x; ended = refl; least = omega arith; most = omega arith; rest = λ m _. drop-nil m }
headed_to (b ∷ p) k n c typed x =
    by_test (eqb b line_feed)
    (λ e.
    rw e
    (record {
      keeps = rw (e, append-nil typed) x;
      ended = rw e;
      least = omega arith;
      most = omega arith;
      rest = λ m h. rw e (ap (λ (j : ℕ). drop j (b ∷ p)) (let one : m ≡ 1 = omega (arith, h) in one));
    }))
    (λ e.
    rw e
    (let o : Heading × List ℕ = headed_from (kept k c b).0 (n + 1) (kept k c b).1 p in
    let y = headed_to p (kept k c b).0 (n + 1) (kept k c b).1 (typed ++ (b ∷ [])) (keeps_byte k c typed b x) in
    record {
      keeps = rw e (subst (λ (z : List ℕ). Keeps o.0.filled o.1 z) (append_assoc typed (b ∷ []) (caption_in p)) y.keeps);
      ended = rw e y.ended;
      least = omega (arith, y.least);
      most = omega (arith, y.most);
      rest = λ m h. rw e (headed_on m n b p (typed ++ (b ∷ [])) o y h);
    }))
