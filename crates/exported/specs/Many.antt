-- The demands of ndz_next_many and ndz_late_many: what they answer and leave, beside the calls of one reading, and what is promised of the trace that they leave.
use Rattle.std.specs.Prelude.{ℕ, ◌+◌, ◌-◌, ◌<◌, min, ◌≡◌, ◌≢◌, cond, List, [], ◌∷◌, ◌++◌, eqb, leb, ℤ, length, take}
use Rattle.demands.specs.History.{Reading}
use Rattle.series.specs.Promise.{AllSigned}
use Rattle.series.specs.Series.{late_many, timed}
use Rattle.many.specs.Answers.{answered}
use Rattle.fields.specs.declared.Fields.{Fields}
use Rattle.fields.specs.declared.Named.{Named}
use Rattle.fields.specs.States.{state_from}
use Rattle.plain.specs.declared.Reply.{Reply}
use Rattle.plain.specs.Plain.{late_reply, next_reply}
use Rattle.feeding.specs.declared.Fed.{Fed}
use Rattle.feeding.specs.Feeding.{fed, late_many_reply, next_many_reply}
use Rattle.answered.specs.Answered.{late_rows, next_rows}
use Rattle.promises.specs.Reached.{at_their_ticks, in_order_from}
use Rattle.exported.specs.Exported.{Called, first_due}

-- many readings by one call, for any fields, numbers and values, beside the call of one
pub record ManyAsOne {A : Type 0} (many : Fields → List ℤ → List A → Fed × List ℤ) (one : Fields → List ℤ → A → Reply × List ℤ) : Type 0 where
  -- none: nothing is asked, so nothing is refused; the state that was given, exactly, and the room as it was
  pub no_reading : (f : Fields) (l : List ℤ) → many f l [] ≡ (record { refusal = 0; place = 0; state = f; accepted = 0 }, l)
  -- one: what the call of one replies and leaves
  pub one_reading : (f : Fields) (l : List ℤ) (v : A) → let o = one f l v in
      many f l (v ∷ []) ≡ (record { refusal = o.0.refusal; place = o.0.place; state = o.0.state; accepted = cond (eqb o.0.refusal 0) 1 0 }, o.1)
  -- two calls, the second with the state and the room as the first left them, are one call over both
  pub parts : (f : Fields) (l : List ℤ) (vs ws : List A) → let o = many f l vs in o.0.refusal ≡ 0 → let p = many o.0.state o.1 ws in
      many f l (vs ++ ws) ≡ (record { refusal = p.0.refusal; place = p.0.place; state = p.0.state; accepted = o.0.accepted + p.0.accepted }, p.1)
  -- and behind a refusal nothing is looked at
  pub stopped : (f : Fields) (l : List ℤ) (vs ws : List A) → let o = many f l vs in o.0.refusal ≢ 0 → many f l (vs ++ ws) ≡ o
  -- refusal and place are 0 exactly where all are accepted
  pub all_accepted : (f : Fields) (l : List ℤ) (vs : List A) → let o = many f l vs in o.0.refusal ≡ 0 → (o.0.place ≡ 0) × (o.0.accepted ≡ length vs)
  pub fewer : (f : Fields) (l : List ℤ) (vs : List A) → let o = many f l vs in o.0.refusal ≢ 0 → o.0.accepted < length vs
  -- else they are what the call of one replies to the reading behind the accepted ones, with the state handed back and the room as it was left; and it changes neither
  pub one_refused : (f : Fields) (l : List ℤ) (front : List A) (v : A) (back : List A) → let o = many f l (front ++ (v ∷ back)) in o.0.accepted ≡ length front
      → one o.0.state o.1 v ≡ (record { refusal = o.0.refusal; place = o.0.place; state = o.0.state }, o.1)
  -- where none is accepted: the state that was given, exactly, and the room as it was
  pub none_accepted : (f : Fields) (l : List ℤ) (vs : List A) → let o = many f l vs in o.0.accepted ≡ 0 → (o.0.state ≡ f) × (o.1 ≡ l)
  -- the accepted ones alone leave the same
  pub untouched : (f : Fields) (l : List ℤ) (vs : List A) → let o = many f l vs in
      many f l (take o.0.accepted vs) ≡ (record { refusal = 0; place = 0; state = o.0.state; accepted = o.0.accepted }, o.1)

-- each reading with its tick
abbrev pub late_one : Fields → List ℤ → ℕ × ℤ → Reply × List ℤ
late_one state room w = late_reply state room w.0 w.1

abbrev pub late_each : Fields → List ℤ → List (ℕ × ℤ) → Fed × List ℤ
late_each state room ws = fed state (answered (late_many (state_from state) room ws))

pub record ExportedMany : Type 0 where
  pub nexts : ManyAsOne next_many_reply next_reply
  pub lates : ManyAsOne late_each late_one
  -- ndz_late_many takes ticks and values side by side, as many as there are of both
  pub side_by_side : (f : Fields) (l : List ℤ) (ts : List ℕ) (vs : List ℤ) → late_many_reply f l ts vs ≡ late_each f l (timed ts vs)
  -- demand 1: refused, by the first row that is due for the reading behind the accepted ones
  pub next_exactly : (f : Fields) (l front : List ℤ) (v : ℤ) (back : List ℤ) → let o = next_many_reply f l (front ++ (v ∷ back)) in o.0.accepted ≡ length front
      → (o.0.refusal, o.0.place) ≡ first_due (next_rows (state_from o.0.state) o.1)
  pub late_exactly : (f : Fields) (l : List ℤ) (front : List (ℕ × ℤ)) (tick : ℕ) (v : ℤ) (back : List (ℕ × ℤ)) → let o = late_each f l (front ++ ((tick, v) ∷ back)) in o.0.accepted ≡ length front
      → (o.0.refusal, o.0.place) ≡ first_due (late_rows (state_from o.0.state) o.1 tick v)
  -- demands 2 and 3: what they leave, refused or not, is among what calls from ndz_open on leave, with the accepted readings added, so that all of `Promised` is said of it
  pub next_called : {named : Named} {rs : List Reading} {f : Fields} {l : List ℤ} → Called named rs f l → (vs : List ℤ) → AllSigned vs → let o = next_many_reply f l vs in
      Called named (in_order_from (length rs) (take o.0.accepted vs) rs) o.0.state o.1
  pub late_called : {named : Named} {rs : List Reading} {f : Fields} {l : List ℤ} → Called named rs f l → (ts : List ℕ) (vs : List ℤ) → AllSigned vs → let o = late_many_reply f l ts vs in
      Called named (at_their_ticks (take o.0.accepted (timed ts vs)) rs) o.0.state o.1
  -- of a trace opened in order and its calls: as many are accepted as ticks are left of 16777216, and one more is refused by 6, and by nothing else
  pub in_order : {named : Named} {rs : List Reading} {f : Fields} {l : List ℤ} → Called named rs f l → named.kind ≡ 0 → (vs : List ℤ) → AllSigned vs → let o = next_many_reply f l vs in
      (o.0.accepted ≡ min (length vs) (16777216 - length rs)) × (o.0.refusal ≡ cond (leb (length rs + length vs) 16777216) 0 6)
