-- ndz_next_many and ndz_late_many keep the demands.
use Prim.Native.Nat.{ℕ, ◌+◌, ◌-◌, min}
use mathlib.Core.Path.{◌≡◌, refl, sym, ap, ◌∙◌, subst}
use mathlib.Core.Logic.{◌≢◌}
use mathlib.Core.Bool.{Bool, true, false, cond}
use mathlib.Core.List.Memᴰ
use mathlib.Core.List.{List, [], ◌∷◌, ◌++◌}
use mathlib.Core.Option.{Option, some, none}
use native.Mathlib.Omega.{arith}
use native.Mathlib.Numerals.{add-one}
use borrow.Author.Tests.{eqb-false, eqb-true, ne_eqb}
use lib.Dec.{eqb, leb}
use lib.IntN.{ℤ}
use lib.ListN.{length, length-append, take}
use Rattle.rule.specs.declared.Refusal.{Refusal}
use Rattle.rule.specs.declared.State.{State}
use Rattle.rule.specs.Answers.{number, place}
use Rattle.rule.specs.Calls.{Verdict, late, late_outcome, late_verdict, next_outcome, next_verdict}
use Rattle.rule.specs.Room.{signed}
use Rattle.rule.proofs.Whole.{by_test}
use Rattle.rooms.proofs.Outcomes.{traced_refused}
use Rattle.demands.specs.History.{Reading}
use Rattle.trace.specs.Answers.{answer}
use Rattle.trace.specs.Answers as trace
use Rattle.series.specs.Promise.{AllSigned, AllTimed, InTurn}
use Rattle.series.specs.Series.{Call, fed_from, late_call, late_many, next_call, next_many, or_end, timed}
use Rattle.series.specs.Series as series
use Rattle.series.proofs.Promising.{follows}
use Rattle.series.proofs.Taking.{fed_ind}
use Rattle.many.specs.Answers.{answered, ending}
use Rattle.fields.specs.declared.Fields.{Fields}
use Rattle.fields.specs.declared.Named.{Named}
use Rattle.fields.specs.States.{fields_of, kind_of, state_from}
use Rattle.fields.proofs.SameState.{same_state}
use Rattle.plain.specs.declared.Reply.{Reply}
use Rattle.plain.specs.Plain.{next_reply, replied, replying}
use Rattle.feeding.specs.declared.Fed.{Fed}
use Rattle.feeding.specs.Feeding.{ended, fed, next_many_reply, state_after}
use Rattle.promises.specs.Reached.{at_their_ticks, in_order_from}
use Rattle.promises.proofs.Keeping.{keeps}
use Rattle.exported.specs.Exported.{Called}
use Rattle.exported.specs.Many.{ExportedMany, ManyAsOne, late_each, late_one}
use Rattle.exported.proofs.Answering.{exported_demand1, numbered}
use Rattle.exported.proofs.Reaching.{reaches}
use Rattle.std.specs.Prelude.{Ok, Err}

-- ---- the answer, field by field

abbrev refusal_of : Option Refusal → ℕ
refusal_of none = 0
refusal_of (some r) = number r

abbrev place_of : Option Refusal → ℕ
place_of none = 0
place_of (some r) = place r

zero_none : (o : Option Refusal) → refusal_of o ≡ 0 → o ≡ none
zero_none none z = refl
zero_none (some r) z = absurd (omega (arith, numbered r))

other_some : (o : Option Refusal) → refusal_of o ≢ 0 → (r : Refusal) × (o ≡ some r)
other_some none z = absurd (z refl)
other_some (some r) z = (r, refl)

by_refusal : (X : Type 0) (o : Option Refusal) → (o ≡ none → X) → ((r : Refusal) → o ≡ some r → X) → X
by_refusal X none f g = f refl
by_refusal X (some r) f g = g r refl

-- the state handed back
abbrev back : Fields → series.Fed → Fields
back f g = cond (eqb g.accepted 0) f (fields_of g.state)

abbrev told : Fields → series.Fed → Fed × List ℤ
told f g = (record { refusal = refusal_of g.refusal; place = place_of g.refusal; state = back f g; accepted = g.accepted }, g.room)

ended_is : (o : Option Refusal) (f : Fields) (n : ℕ) → record { refusal = refusal_of o; place = place_of o; state = f; accepted = n } ≡ ended (ending o) f n
unfolding ended ending
ended_is none f n = refl
ended_is (some r) f n = refl

told_is : (f : Fields) (g : series.Fed) → told f g ≡ fed f (answered g)
unfolding state_after
told_is f g = ap (λ (x : Fed). (x, g.room)) (ended_is g.refusal (back f g) g.accepted)

-- the answer of one reading
one_told : (f : Fields) (s : State) (o : Verdict State × List ℤ) → let r = replied f (trace.answered o) in
    told f (or_end 0 s o.0 o.1 (λ t m. record { state = t; room = m; accepted = 1; refusal = none }))
    ≡ (record { refusal = r.0.refusal; place = r.0.place; state = r.0.state; accepted = cond (eqb r.0.refusal 0) 1 0 }, r.1)
unfolding or_end replying answer
one_told f s (Err r, m) = ap (λ (b : Bool). (record { refusal = number r; place = place r; state = f; accepted = cond b 1 0 }, m)) (sym (ne_eqb (number r) 0 (λ e. omega (arith, numbered r))))
one_told f s (Ok t, m) = refl

-- the same length in front: the same reading
same_reading : {A : Type 0} (xs ys : List A) (v w : A) (a b : List A) → xs ++ (v ∷ a) ≡ ys ++ (w ∷ b) → length xs ≡ length ys → v ≡ w
same_reading [] [] v w a b e h = cc
same_reading [] (y ∷ ys) v w a b e h = absurd (omega arith)
same_reading (x ∷ xs) [] v w a b e h = absurd (omega arith)
same_reading (x ∷ xs) (y ∷ ys) v w a b e h = same_reading xs ys v w a b (cc) (omega arith)

module _ {A : Type 0} (call : Call A) (turn : InTurn (fed_from call 0) call) (quiet : (s : State) (l : List ℤ) (v : A) (r : Refusal) (m : List ℤ) → call s l v ≡ (Err r, m) → m ≡ l) where
  abbrev many : Fields → List ℤ → List A → Fed × List ℤ
  many f l vs = told f (fed_from call 0 (state_from f) l vs)

  abbrev one : Fields → List ℤ → A → Reply × List ℤ
  one f l v = replied f (trace.answered (call (state_from f) l v))

  -- none is accepted
  none_left : (s : State) (l : List ℤ) (vs : List A) → let g = fed_from call 0 s l vs in g.accepted ≡ 0 → (g.state ≡ s) × (g.room ≡ l)
  none_left s l vs e =
      let g : series.Fed = fed_from call 0 s l vs in
      let same = sym (turn.untouched s l vs) ∙ ap (λ (n : ℕ). fed_from call 0 s l (take n vs)) e ∙ turn.no_reading s l in
      (ap (λ (x : series.Fed). x.state) same, ap (λ (x : series.Fed). x.room) same)

  -- the state handed back is the state to go on with
  state_back : (f : Fields) (l : List ℤ) (vs : List A) → let g = fed_from call 0 (state_from f) l vs in state_from (back f g) ≡ g.state
  state_back f l vs =
      let g : series.Fed = fed_from call 0 (state_from f) l vs in
      by_test (eqb g.accepted 0)
      (λ e. rw e (sym (none_left (state_from f) l vs (eqb-true g.accepted 0 e)).0))
      (λ e. rw e (same_state g.state))

  -- handed back by two calls or by one
  back_twice : (f : Fields) (n : ℕ) (s : State) (l : List ℤ) (ws : List A) → let h = fed_from call 0 s l ws in
      cond (eqb (n + h.accepted) 0) f (fields_of h.state) ≡ back (cond (eqb n 0) f (fields_of s)) h
  back_twice f n s l ws =
      let h : series.Fed = fed_from call 0 s l ws in
      by_test (eqb h.accepted 0)
      (λ e.
      let z : h.accepted ≡ 0 = eqb-true h.accepted 0 e in
      let sum : n + h.accepted ≡ n = omega arith in
      rw (e, sum, (none_left s l ws z).0))
      (λ e. rw (e, ne_eqb (n + h.accepted) 0 (λ z. eqb-false h.accepted 0 e (omega arith))))

  first_refuses : (s : State) (l : List ℤ) (front : List A) (v : A) (rest : List A) → let g = fed_from call 0 s l (front ++ (v ∷ rest)) in g.accepted ≡ length front
      → (r : Refusal) → g.refusal ≡ some r → call g.state g.room v ≡ (Err r, g.room)
  first_refuses s l front v rest e r q =
      let g : series.Fed = fed_from call 0 s l (front ++ (v ∷ rest)) in
      let w = turn.first_refused s l (front ++ (v ∷ rest)) r q in
      let same : v ≡ w.reading = same_reading front w.front v w.reading rest w.back w.stands (sym e ∙ w.counted) in
      let room : g.room ≡ w.left = quiet g.state w.left w.reading r g.room w.refuses in
      ap (λ (x : List ℤ). call g.state x v) room ∙ ap (call g.state w.left) same ∙ w.refuses

  module _ (f : Fields) (l : List ℤ) (front : List A) (v : A) (rest : List A) where
    abbrev all : List A
    all = front ++ (v ∷ rest)

    abbrev course : series.Fed
    course = fed_from call 0 (state_from f) l all

    abbrev Refused : Option Refusal → Type 0
    Refused o = one (back f course) course.room v ≡ (record { refusal = refusal_of o; place = place_of o; state = back f course }, course.room)

    one_refused : course.accepted ≡ length front → Refused course.refusal
    unfolding replying answer
    one_refused e =
        by_refusal (Refused course.refusal) course.refusal
        (λ q. absurd (omega (arith, turn.all_accepted (state_from f) l all q, length-append front (v ∷ rest))))
        (λ r q.
        subst Refused (sym q)
        (ap (λ (x : State). replied (back f course) (trace.answered (call x course.room v))) (state_back f l all)
        ∙ ap (λ (o : Verdict State × List ℤ). replied (back f course) (trace.answered o)) (first_refuses (state_from f) l front v rest e r q)))

  many_as_one : ManyAsOne many one
  unfolding fed_from
  many_as_one =
      record {
        no_reading = λ f l. refl;
        one_reading = λ f l v. one_told f (state_from f) (call (state_from f) l v);
        parts = λ f l vs ws z.
            let s : State = state_from f in
            let g : series.Fed = fed_from call 0 s l vs in
            let h : series.Fed = fed_from call 0 g.state g.room ws in
            ap (told f) (turn.parts s l vs ws (zero_none g.refusal z))
            ∙ ap (λ (x : Fields). (record { refusal = refusal_of h.refusal; place = place_of h.refusal; state = x; accepted = g.accepted + h.accepted }, h.room)) (back_twice f g.accepted g.state g.room ws)
            ∙ ap (λ (x : State). let p = told (back f g) (fed_from call 0 x g.room ws) in (record { refusal = p.0.refusal; place = p.0.place; state = p.0.state; accepted = g.accepted + p.0.accepted }, p.1)) (sym (state_back f l vs));
        stopped = λ f l vs ws z. let s : State = state_from f in let q = other_some (fed_from call 0 s l vs).refusal z in ap (told f) (turn.stopped s l vs ws q.0 q.1);
        all_accepted = λ f l vs z. let s : State = state_from f in let q = zero_none (fed_from call 0 s l vs).refusal z in (ap place_of q, turn.all_accepted s l vs q);
        fewer = λ f l vs z. let s : State = state_from f in let q = other_some (fed_from call 0 s l vs).refusal z in turn.fewer s l vs q.0 q.1;
        one_refused = one_refused;
        none_accepted = λ f l vs z. let s : State = state_from f in (rw z refl, (none_left s l vs z).1);
        untouched = λ f l vs. ap (told f) (turn.untouched (state_from f) l vs);
      }

  pub as_one : ManyAsOne (λ f l vs. fed f (answered (fed_from call 0 (state_from f) l vs))) one
  as_one = subst (λ (x : Fields → List ℤ → List A → Fed × List ℤ). ManyAsOne x one) (λ i f l vs. told_is f (fed_from call 0 (state_from f) l vs) i) many_as_one

  -- where the fields are a state's own
  plain_back : (f : Fields) (l : List ℤ) (vs : List A) → fields_of (state_from f) ≡ f → let g = fed_from call 0 (state_from f) l vs in fields_of g.state ≡ back f g
  plain_back f l vs plain =
      let g : series.Fed = fed_from call 0 (state_from f) l vs in
      by_test (eqb g.accepted 0)
      (λ e. rw e (ap fields_of (none_left (state_from f) l vs (eqb-true g.accepted 0 e)).0 ∙ plain))
      (λ e. rw e refl)

  -- what is called by the state is called by the fields handed back
  called_back : (named : Named) (added : ℕ → List Reading) (f : Fields) (l : List ℤ) (vs : List A) → fields_of (state_from f) ≡ f → let g = fed_from call 0 (state_from f) l vs in
      Called named (added g.accepted) (fields_of g.state) g.room → let o = fed f (answered g) in Called named (added o.0.accepted) o.0.state o.1
  called_back named added f l vs plain c =
      let g : series.Fed = fed_from call 0 (state_from f) l vs in
      subst (λ (o : Fed × List ℤ). Called named (added o.0.accepted) o.0.state o.1) (told_is f g)
      (subst (λ (x : Fields). Called named (added g.accepted) x g.room) (plain_back f l vs plain) c)

-- ---- the two calls

next_quiet : (s : State) (l : List ℤ) (v : ℤ) (r : Refusal) (m : List ℤ) → next_call s l v ≡ (Err r, m) → m ≡ l
next_quiet s l v r m e = traced_refused s.settings l (next_verdict s l v) r m e

late_quiet : (s : State) (l : List ℤ) (w : ℕ × ℤ) (r : Refusal) (m : List ℤ) → late_call s l w ≡ (Err r, m) → m ≡ l
late_quiet s l w r m e = traced_refused s.settings l (late_verdict s l w.0 w.1) r m e

as_next : ManyAsOne next_many_reply next_reply
as_next = as_one next_call follows.nexts next_quiet

as_late : ManyAsOne late_each late_one
as_late = as_one late_call follows.lates late_quiet

-- ---- what they leave is called

-- the reply to one reading with a state's own fields
reply_of : (one : State → Verdict State × List ℤ) (s : State) {o : Verdict State × List ℤ} → one s ≡ o → replied (fields_of s) (trace.answered (one (state_from (fields_of s)))) ≡ replied (fields_of s) (trace.answered o)
reply_of one s e = ap (λ (x : State). replied (fields_of s) (trace.answered (one x))) (same_state s) ∙ ap (λ (o : Verdict State × List ℤ). replied (fields_of s) (trace.answered o)) e

not_zero : (r : Refusal) → number r ≢ 0
not_zero r z = omega (arith, numbered r)

module _ (named : Named) where
  abbrev NextCalled : State → List ℤ → List ℤ → series.Fed → Type 0
  NextCalled s l vs g = AllSigned vs → (rs : List Reading) → Called named rs (fields_of s) l → Called named (in_order_from (length rs) (take g.accepted vs) rs) (fields_of g.state) g.room

  next_called : (s : State) (l vs : List ℤ) → NextCalled s l vs (next_many s l vs)
  unfolding in_order_from replying answer
  next_called =
      fed_ind next_call NextCalled
      (λ s l q rs c. c)
      (λ s l v vs r m e q rs c. Called.next_refused v c (reply_of (λ x. next_outcome x l v) s e) (not_zero r))
      (λ s l v vs t m e ih q rs c.
      let g = next_many t m vs in
      let first : Reading = record { tick = length rs; value = v } in
      subst (λ (n : ℕ). Called named (in_order_from n (take g.accepted vs) (first ∷ rs)) (fields_of g.state) g.room) (sym (add-one (length rs)))
      (ih (λ w i. q w (Memᴰ.tail i)) (first ∷ rs) (Called.nexts v (q v (Memᴰ.head refl)) c (reply_of (λ x. next_outcome x l v) s e) refl)))

  abbrev LateCalled : State → List ℤ → List (ℕ × ℤ) → series.Fed → Type 0
  LateCalled s l ws g = AllTimed ws → (rs : List Reading) → Called named rs (fields_of s) l → Called named (at_their_ticks (take g.accepted ws) rs) (fields_of g.state) g.room

  late_called : (s : State) (l : List ℤ) (ws : List (ℕ × ℤ)) → LateCalled s l ws (late_many s l ws)
  unfolding at_their_ticks replying answer
  late_called =
      fed_ind late_call LateCalled
      (λ s l q rs c. c)
      (λ s l w ws r m e q rs c. Called.late_refused w.0 w.1 c (reply_of (λ x. late_outcome x l w.0 w.1) s e) (not_zero r))
      (λ s l w ws t m e ih q rs c.
      ih (λ x i. q x (Memᴰ.tail i)) (record { tick = w.0; value = w.1 } ∷ rs)
      (Called.lates w.0 w.1 (q w (Memᴰ.head refl)) c (reply_of (λ x. late_outcome x l w.0 w.1) s e) refl))

-- each is signed where its value is
timed_signed : (ts : List ℕ) (vs : List ℤ) → AllSigned vs → AllTimed (timed ts vs)
unfolding timed
timed_signed [] vs q w i = absurd (Memᴰ.not-nil i)
timed_signed (t ∷ ts) [] q w i = absurd (Memᴰ.not-nil i)
timed_signed (t ∷ ts) (v ∷ vs) q w (Memᴰ.head e) = ap (λ (x : ℕ × ℤ). signed x.1) e ∙ q v (Memᴰ.head refl)
timed_signed (t ∷ ts) (v ∷ vs) q w (Memᴰ.tail i) = timed_signed ts vs (λ x j. q x (Memᴰ.tail j)) w i

none_late : late (kind_of 0) ≡ false
unfolding late kind_of
none_late = refl

by_ticks : (b : Bool) → refusal_of (cond b none (some Refusal.Tick)) ≡ cond b 0 6
by_ticks true = refl
by_ticks false = refl

module _ {named : Named} {rs : List Reading} {f : Fields} {l : List ℤ} (c : Called named rs f l) where
  plain : fields_of (state_from f) ≡ f
  plain = (reaches c).1

  own : Called named rs (fields_of (state_from f)) l
  own = subst (λ (x : Fields). Called named rs x l) (sym plain) c

  in_order : named.kind ≡ 0 → (vs : List ℤ) → AllSigned vs → let o = next_many_reply f l vs in
      (o.0.accepted ≡ min (length vs) (16777216 - length rs)) × (o.0.refusal ≡ cond (leb (length rs + length vs) 16777216) 0 6)
  in_order z vs q =
      let k = keeps (reaches c).0 in
      let kind : late (kind_of f.kind) ≡ false = ap late k.kind_named ∙ ap (λ (n : ℕ). late (kind_of n)) z ∙ none_late in
      let w = follows.in_order (state_from f) l vs k.fit kind q in
      subst (λ (o : Fed × List ℤ). (o.0.accepted ≡ min (length vs) (16777216 - length rs)) × (o.0.refusal ≡ cond (leb (length rs + length vs) 16777216) 0 6)) (told_is f (next_many (state_from f) l vs)) (
        w.0 ∙ ap (λ (n : ℕ). min (length vs) (16777216 - n)) k.readings,
        ap refusal_of w.1 ∙ ap (λ (n : ℕ). refusal_of (cond (leb (n + length vs) 16777216) none (some Refusal.Tick))) k.readings ∙ by_ticks (leb (length rs + length vs) 16777216),
      )

pub exported_many : ExportedMany
exported_many =
    record {
      nexts = as_next;
      lates = as_late;
      side_by_side = λ f l ts vs. refl;
      next_exactly = λ f l front v rest e.
          let o = next_many_reply f l (front ++ (v ∷ rest)) in
          sym (ap (λ (x : Reply × List ℤ). (x.0.refusal, x.0.place)) (as_next.one_refused f l front v rest e)) ∙ (exported_demand1.nexts o.0.state o.1 v).exactly;
      late_exactly = λ f l front tick v rest e.
          let o = late_each f l (front ++ ((tick, v) ∷ rest)) in
          sym (ap (λ (x : Reply × List ℤ). (x.0.refusal, x.0.place)) (as_late.one_refused f l front (tick, v) rest e)) ∙ (exported_demand1.lates o.0.state o.1 tick v).exactly;
      next_called = λ {named} {rs} {f} {l} c vs q.
          called_back next_call follows.nexts next_quiet named (λ n. in_order_from (length rs) (take n vs) rs) f l vs (plain c) (next_called named (state_from f) l vs q rs (own c));
      late_called = λ {named} {rs} {f} {l} c ts vs q.
          called_back late_call follows.lates late_quiet named (λ n. at_their_ticks (take n (timed ts vs)) rs) f l (timed ts vs) (plain c) (late_called named (state_from f) l (timed ts vs) (timed_signed ts vs q) rs (own c));
      in_order = in_order;
    }
