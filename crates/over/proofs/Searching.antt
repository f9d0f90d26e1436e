-- The search answers as promised: by induction on the table, the bucket where it stops is the first that is over.
use Prim.Native.Nat.{ℕ, suc, ◌+◌, ◌≤◌, ◌<◌, max, min}
use mathlib.Core.Path.{◌≡◌, refl, sym, ap, subst, ◌∙◌}
use mathlib.Core.Logic.{⊎_elim}
use mathlib.Core.Bool.{true, false, false≢true, not}
use mathlib.Core.List.Memᴰ
use mathlib.Core.List.{List, [], ◌∷◌, ◌++◌, append_assoc, Memᴰ}
use mathlib.Core.Option.{Option, some, none}
use native.Mathlib.Omega.{arith}
use borrow.Author.Tests.{leb-false, le-leb, le-ltb, lt-leb, lt-ltb, ltb-true}
use lib.Dec.{leb}
use lib.IntN.{ℤ}
use lib.ListN.{drop, length, length-append, take, take-append-drop}
use lib.Seq.{take_at}
use lib.Signed.{le_z}
use Rattle.rule.specs.declared.Bucket.{Bucket}
use Rattle.rule.specs.declared.Refusal.{Refusal}
use Rattle.rule.specs.declared.State.{State}
use Rattle.rule.specs.Bucket.{end}
use Rattle.rule.specs.Calls.{checked, Verdict}
use Rattle.rule.specs.Numbers.{ticks}
use Rattle.rule.specs.Room.{sound, table_of}
use Rattle.rule.specs.Table.{Table}
use Rattle.rule.proofs.Ruling.{and_both, and_left, and_right}
use Rattle.rule.proofs.Whole.{by_test}
use Rattle.over.specs.Search.{first_over, over, search_outcome, sought, sought_of, touches}
use Rattle.over.specs.Promise.{First, Hit, Over, Searches, Shares, all_over, answer_of}
use Rattle.std.specs.Prelude.{Ok, Err, None}
use Rattle.over.specs.declared.Sought.{Sought}
use Rattle.over.specs.Hits.{Searched, hit}

-- ---- one bucket

touched : (first last : ℕ) (b : Bucket) → touches first last b ≡ true → Shares first last b
unfolding touches
touched first last b e =
    let h : max first b.start < min (suc last) (end b) = ltb-true _ _ e in
    record { tick = max first b.start; from_first = omega arith; to_last = omega arith; from_start = omega arith; before_end = omega arith }

touching : (first last : ℕ) (b : Bucket) → Shares first last b → touches first last b ≡ true
unfolding touches
touching first last b m = lt-ltb (max first b.start) (min (suc last) (end b)) (omega arith)

is_over : (first last : ℕ) (bar : ℤ) (b : Bucket) → over first last bar b ≡ true → Over first last bar b
unfolding over
is_over first last bar b e = record { shares = touched first last b (and_left _ _ e); reaches = and_right (touches first last b) (le_z bar b.largest) e }

over_is : (first last : ℕ) (bar : ℤ) (b : Bucket) → Over first last bar b → over first last bar b ≡ true
unfolding over
over_is first last bar b o = and_both (touching first last b o.shares) o.reaches

not_over : (first last : ℕ) (bar : ℤ) (b : Bucket) → over first last bar b ≡ false → Over first last bar b → ⊥
not_over first last bar b e o = false≢true (sym e ∙ over_is first last bar b o)

-- ---- a table, its first bucket at index i

module _ (first last : ℕ) (bar : ℤ) where
  record Stop (i : ℕ) (t : Table) (index start : ℕ) : Type 0 where
    front : Table
    bucket : Bucket
    back : Table
    stands : t ≡ front ++ (bucket ∷ back)
    counted : index ≡ i + length front
    begins : start ≡ bucket.start
    over : over first last bar bucket ≡ true

  record Stops (i : ℕ) (t : Table) (index start : ℕ) : Type 0 where
    stop : Stop i t index start
    passed : (b : Bucket) → Memᴰ b stop.front → over first last bar b ≡ false

  here : (i : ℕ) (b : Bucket) (t : Table) (index start : ℕ) → over first last bar b ≡ true → ◌≡◌ {A = ℕ × ℕ} (index, start) (i, b.start) → Stop i (b ∷ t) index start
  here i b t index start h e =
      record { front = []; bucket = b; back = t; stands = refl; counted = omega (arith, ap (λ (p : ℕ × ℕ). p.0) e); begins = ap (λ (p : ℕ × ℕ). p.1) e; over = h }

  further : (i : ℕ) (b : Bucket) (t : Table) (index start : ℕ) → Stop (suc i) t index start → Stop i (b ∷ t) index start
  further i b t index start w =
      record { front = b ∷ w.front; bucket = w.bucket; back = w.back; stands = ap (λ (u : Table). b ∷ u) w.stands; counted = omega (arith, w.counted); begins = w.begins; over = w.over }

  stops : (i : ℕ) (t : Table) (index start : ℕ) → first_over first last bar i t ≡ some (index, start) → Stops i t index start
  unfolding first_over here further
  stops i [] index start e = absurd (let z : ◌≡◌ {A = ℕ} 0 1 = cc in omega arith)
  stops i (b ∷ t) index start e =
      by_test (over first last bar b)
      (λ h. record { stop = here i b t index start h (cc (rw h at e)); passed = λ a m. absurd (Memᴰ.not-nil m) })
      (λ h.
      let w = stops (suc i) t index start (rw h at e) in
      record { stop = further i b t index start w.stop; passed = λ a m. ⊎_elim (λ p. ap (over first last bar) p ∙ h) (w.passed a) (Memᴰ.cases_cons m) })

  -- behind buckets that are not over, a bucket that is over is where it stops, whatever follows
  stopped : (i : ℕ) (front : Table) (b : Bucket) (back : Table) → ((a : Bucket) → Memᴰ a front → over first last bar a ≡ false) → over first last bar b ≡ true
      → first_over first last bar i (front ++ (b ∷ back)) ≡ some (i + length front, b.start)
  unfolding first_over
  stopped i [] b back p h = let e : i ≡ i + 0 = omega arith in rw h (ap (λ (n : ℕ). some (n, b.start)) e)
  stopped i (a ∷ front) b back p h =
      let e : suc i + length front ≡ i + suc (length front) = omega arith in
      rw (p a (Memᴰ.head refl))
      (stopped (suc i) front b back (λ c m. p c (Memᴰ.tail m)) h ∙ ap (λ (n : ℕ). some (n, b.start)) e)

  missed : (i : ℕ) (t : Table) → first_over first last bar i t ≡ none → (b : Bucket) → Memᴰ b t → over first last bar b ≡ false
  unfolding first_over
  missed i [] e b m = absurd (Memᴰ.not-nil m)
  missed i (a ∷ t) e b m =
      by_test (over first last bar a)
      (λ h. absurd (let f = rw h at e in let z : ◌≡◌ {A = ℕ} 0 1 = cc in omega arith))
      (λ h. ⊎_elim (λ p. ap (over first last bar) p ∙ h) (missed (suc i) t (rw h at e) b) (Memᴰ.cases_cons m))

  none_over : (i : ℕ) (t : Table) → ((b : Bucket) → over first last bar b ≡ false) → first_over first last bar i t ≡ none
  unfolding first_over
  none_over i [] f = refl
  none_over i (b ∷ t) f = rw (f b) (none_over (suc i) t f)

  -- ---- reading all

  first_of_all : (i : ℕ) (t : Table) → sought (first_over first last bar i t) ≡ answer_of (all_over first last bar i t)
  unfolding first_over all_over sought answer_of
  first_of_all i [] = refl
  first_of_all i (b ∷ t) = by_test (over first last bar b) (λ h. rw h) (λ h. rw h (first_of_all (suc i) t))

  every : (i : ℕ) (front : Table) (b : Bucket) (back : Table) → over first last bar b ≡ true → Memᴰ (i + length front, b.start) (all_over first last bar i (front ++ (b ∷ back)))
  unfolding all_over
  every i [] b back h = let e : i + 0 ≡ i = omega arith in rw h (Memᴰ.head (ap (λ (n : ℕ). (n, b.start)) e))
  every i (a ∷ front) b back h =
      let e : suc i + length front ≡ i + suc (length front) = omega arith in
      let more = subst (λ (n : ℕ). Memᴰ (n, b.start) (all_over first last bar (suc i) (front ++ (b ∷ back)))) e (every (suc i) front b back h) in
      by_test (over first last bar a) (λ k. rw k (Memᴰ.tail more)) (λ k. rw k more)

  only : (i : ℕ) (t : Table) (index start : ℕ) → Memᴰ (index, start) (all_over first last bar i t) → Stop i t index start
  unfolding all_over
  only i [] index start m = absurd (Memᴰ.not-nil m)
  only i (b ∷ t) index start m =
      by_test (over first last bar b)
      (λ h. ⊎_elim (here i b t index start h) (λ n. further i b t index start (only (suc i) t index start n)) (Memᴰ.cases_cons (rw h at m)))
      (λ h. further i b t index start (only (suc i) t index start (rw h at m)))

  in_turn : (i : ℕ) (t : Table) (front : List (ℕ × ℕ)) (h : ℕ × ℕ) (back : List (ℕ × ℕ)) → all_over first last bar i t ≡ front ++ (h ∷ back) → (k : ℕ × ℕ) → Memᴰ k back → h.0 < k.0
  unfolding all_over
  in_turn i [] [] h back e k m = absurd (let z : ◌≡◌ {A = ℕ} 0 1 = cc in omega arith)
  in_turn i [] (f ∷ front) h back e k m = absurd (let z : ◌≡◌ {A = ℕ} 0 1 = cc in omega arith)
  in_turn i (b ∷ t) [] h back e k m =
      by_test (over first last bar b)
      (λ o.
      let g = rw o at e in
      let same : (i, b.start) ≡ h = cc in
      let rest : all_over first last bar (suc i) t ≡ back = cc in
      let w = only (suc i) t k.0 k.1 (rw (sym rest) at m) in
      omega (arith, ap (λ (p : ℕ × ℕ). p.0) same, w.counted))
      (λ o. in_turn (suc i) t [] h back (rw o at e) k m)
  in_turn i (b ∷ t) (f ∷ front) h back e k m =
      by_test (over first last bar b)
      (λ o.
      let g = rw o at e in
      let rest : all_over first last bar (suc i) t ≡ front ++ (h ∷ back) = cc in
      in_turn (suc i) t front h back rest k m)
      (λ o. in_turn (suc i) t (f ∷ front) h back (rw o at e) k m)

  -- ---- in the promise's words

  hit_of : (t : Table) (index start : ℕ) → Stop 0 t index start → Hit first last bar t index start
  hit_of t index start w =
      record { front = w.front; bucket = w.bucket; back = w.back; stands = w.stands; counted = omega (arith, w.counted); begins = w.begins; over = is_over first last bar w.bucket w.over }

  hit_told : (t : Table) (index start : ℕ) → Hit first last bar t index start → Memᴰ (index, start) (all_over first last bar 0 t)
  hit_told t index start w =
      let m = every 0 w.front w.bucket w.back (over_is first last bar w.bucket w.over) in
      let n : 0 + length w.front ≡ index = omega (arith, w.counted) in
      subst (λ (u : Table). Memᴰ (index, start) (all_over first last bar 0 u)) (sym w.stands)
      (subst (λ (p : ℕ × ℕ). Memᴰ p (all_over first last bar 0 (w.front ++ (w.bucket ∷ w.back)))) (λ i. (n i, sym w.begins i)) m)

  first_hit : (t : Table) (index start : ℕ) → Stops 0 t index start → First first last bar t index start
  unfolding hit_of
  first_hit t index start w =
      record { hit = hit_of t index start w.stop; none_before = λ b m. not_over first last bar b (w.passed b m) }

  -- ---- the call

  module _ (s : State) (l : List ℤ) where
    -- refused, or past both tests what is found in the table
    cases {ℓ} : (P : Searched → Type ℓ) → ((r : Refusal) → P (Err r))
        → (sound s l ≡ true → leb ticks first ≡ false → leb ticks last ≡ false → P (sought (first_over first last bar 0 (table_of s l)))) → P (search_outcome s l first last bar)
    unfolding search_outcome sought_of checked
    cases P f g =
        by_test (sound s l)
        (λ fit. by_test (leb ticks first)
        (λ h. rw (fit, h) (f Refusal.Tick))
        (λ h. by_test (leb ticks last) (λ k. rw (fit, h, k) (f Refusal.Tick)) (λ k. rw (fit, h, k) (g fit h k))))
        (λ fit. rw fit (f Refusal.Unsound))

    answers : sound s l ≡ true → leb ticks first ≡ false → leb ticks last ≡ false → search_outcome s l first last bar ≡ sought (first_over first last bar 0 (table_of s l))
    unfolding search_outcome sought_of checked
    answers fit h k = rw (fit, h, k)

  found : (o : Option (ℕ × ℕ)) (index start : ℕ) → sought o ≡ hit index start → o ≡ some (index, start)
  unfolding sought
  found none index start e = absurd (let z : ◌≡◌ {A = ℕ} 0 1 = cc in omega arith)
  found (some h) index start e =
      let same : ◌≡◌ {A = Sought} (record { index = h.0; start = h.1 }) (record { index = index; start = start }) = cc in
      ap (λ (x : Sought). some (x.index, x.start)) same

  not_found : (o : Option (ℕ × ℕ)) → sought o ≡ Ok None → o ≡ none
  unfolding sought
  not_found none e = refl
  not_found (some h) e = absurd (let z : ◌≡◌ {A = ℕ} 0 1 = cc in omega arith)

  record Accepted (s : State) (l : List ℤ) (o : Option (ℕ × ℕ)) : Type 0 where
    fit : sound s l ≡ true
    first_in : leb ticks first ≡ false
    last_in : leb ticks last ≡ false
    is : first_over first last bar 0 (table_of s l) ≡ o

  at_accepted : (s : State) (l : List ℤ) (index start : ℕ) → search_outcome s l first last bar ≡ hit index start → Accepted s l (some (index, start))
  at_accepted s l index start =
      cases s l (λ a. a ≡ hit index start → Accepted s l (some (index, start)))
      (λ r e. absurd (let z : ◌≡◌ {A = ℕ} 0 1 = cc in omega arith))
      (λ fit h k e. record { fit = fit; first_in = h; last_in = k; is = found _ index start e })

  nowhere_accepted : (s : State) (l : List ℤ) → search_outcome s l first last bar ≡ Ok None → Accepted s l none
  nowhere_accepted s l =
      cases s l (λ a. a ≡ Ok None → Accepted s l none)
      (λ r e. absurd (let z : ◌≡◌ {A = ℕ} 0 1 = cc in omega arith))
      (λ fit h k e. record { fit = fit; first_in = h; last_in = k; is = not_found _ e })

  -- tables that are the same up to the hit
  same_hit : (t u : Table) (index start : ℕ) → first_over first last bar 0 t ≡ some (index, start) → take (suc index) u ≡ take (suc index) t → first_over first last bar 0 u ≡ some (index, start)
  same_hit t u index start e same =
      let w = stops 0 t index start e in
      let p = w.stop in
      let upto = p.front ++ (p.bucket ∷ []) in
      let long : length upto ≡ suc index = rw (length-append p.front (p.bucket ∷ [])) (omega (arith, p.counted)) in
      let split : t ≡ upto ++ p.back = p.stands ∙ sym (append_assoc p.front (p.bucket ∷ []) p.back) in
      let begin : take (suc index) u ≡ upto = same ∙ ap (take (suc index)) split ∙ take_at upto p.back (suc index) long in
      let all : u ≡ p.front ++ (p.bucket ∷ drop (suc index) u) =
      sym (take-append-drop (suc index) u) ∙ ap (λ (v : Table). v ++ drop (suc index) u) begin ∙ append_assoc p.front (p.bucket ∷ []) (drop (suc index) u) in
      ap (first_over first last bar 0) all ∙ stopped 0 p.front p.bucket (drop (suc index) u) w.passed p.over ∙ (λ i. some (sym p.counted i, sym p.begins i))

empty_over : (first last : ℕ) (bar : ℤ) (b : Bucket) → last < first → over first last bar b ≡ false
unfolding over touches
empty_over first last bar b h = rw (le-ltb (max first b.start) (min (suc last) (end b)) (omega arith))

below : (n : ℕ) → n ≤ 16777215 → leb ticks n ≡ false
below n h = lt-leb ticks n (omega arith)

above : (s : State) (l : List ℤ) (first last : ℕ) (bar : ℤ) → sound s l ≡ true → 16777215 < max first last → search_outcome s l first last bar ≡ Err Refusal.Tick
unfolding search_outcome sought_of checked
above s l first last bar fit h =
    by_test (leb ticks first) (λ k. rw (fit, k))
    (λ k. let far : leb ticks last ≡ true = le-leb ticks last (omega (arith, leb-false ticks first k)) in rw (fit, k, far))

unsound : (s : State) (l : List ℤ) (first last : ℕ) (bar : ℤ) → sound s l ≡ false → search_outcome s l first last bar ≡ Err Refusal.Unsound
unfolding search_outcome sought_of checked
unsound s l first last bar fit = rw fit

not_refused : (o : Option (ℕ × ℕ)) (r : Refusal) → sought o ≡ Err r → ⊥
unfolding sought
not_refused none r e = absurd (let z : ◌≡◌ {A = ℕ} 0 1 = cc in omega arith)
not_refused (some h) r e = absurd (let z : ◌≡◌ {A = ℕ} 0 1 = cc in omega arith)

pub searches : Searches
unfolding sought
searches =
    record {
      unsound = unsound;
      above = above;
      answered = λ s l first last bar r fit h k e. not_refused (first_over first last bar 0 (table_of s l)) r (sym (answers first last bar s l fit (below first h) (below last k)) ∙ e);
      touched = touched;
      touching = touching;
      over_told = is_over;
      over_telling = over_is;
      hits = λ s l first last bar index start e. first_hit first last bar (table_of s l) index start (stops first last bar 0 (table_of s l) index start (at_accepted first last bar s l index start e).is);
      misses = λ s l first last bar e b m. not_over first last bar b (missed first last bar 0 (table_of s l) (nowhere_accepted first last bar s l e).is b m);
      as_all = λ s l first last bar fit h k. answers first last bar s l fit (below first h) (below last k) ∙ first_of_all first last bar 0 (table_of s l);
      every = λ t first last bar index start w. hit_told first last bar t index start w;
      only = λ t first last bar index start m. hit_of first last bar t index start (only first last bar 0 t index start m);
      in_turn = λ t first last bar front h back e k m. in_turn first last bar 0 t front h back e k m;
      behind = λ s z l m first last bar index start e fit same.
          let a = at_accepted first last bar s l index start e in
          answers first last bar z m fit a.first_in a.last_in ∙ ap sought (same_hit first last bar (table_of s l) (table_of z m) index start a.is same);
      empty = λ s l first last bar fit h k.
          answers first last bar s l fit (below first h) (below last (omega arith)) ∙ ap sought (none_over first last bar 0 (table_of s l) (λ b. empty_over first last bar b k));
    }
