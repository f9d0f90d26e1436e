-- What the exported functions reach is what the calls reach.
use Prim.Native.Nat.{ℕ, ◌*◌}
use mathlib.Core.Path.{◌≡◌, sym, ap, ◌∙◌, subst}
use mathlib.Core.Logic.{◌≢◌}
use mathlib.Core.Bool.{false}
use mathlib.Core.List.{List, ◌∷◌}
use native.Mathlib.Omega.{arith}
use lib.IntN.{ℤ}
use lib.ListN.{take}
use Rattle.rule.specs.declared.Refusal.{Refusal}
use Rattle.rule.specs.declared.Settings.{Settings}
use Rattle.rule.specs.declared.State.{State}
use Rattle.rule.specs.Calls.{Verdict, late, late_outcome, loaded, next_outcome, opened, save_outcome}
use Rattle.rule.specs.Numbers.{record_width}
use Rattle.trace.specs.Answers.{answer, answered}
use Rattle.over.proofs.Searching as searching
use Rattle.demands.specs.Curve as curve
use Rattle.demands.specs.History.{Reading}
use Rattle.plain.specs.declared.Counted.{Counted}
use Rattle.fields.specs.declared.Fields.{Fields}
use Rattle.fields.specs.declared.Named.{Named}
use Rattle.plain.specs.declared.Reply.{Reply}
use Rattle.fields.specs.States.{fields_of, kind_of, none, opening_of, state_from}
use Rattle.plain.specs.declared.Recount.{Recount}
use Rattle.plain.specs.Plain.{recounting, replied, replying, telling, told}
use Rattle.logger.specs.Replay.{Course, replay_outcome}
use Rattle.replay.specs.Answers as replay
use Rattle.fields.proofs.SameState.{same_state}
use Rattle.promises.specs.Reached.{Reached}
use Rattle.exported.specs.Exported.{Called}
use Rattle.promises.proofs.Keeping.{keeps}
use Rattle.answered.proofs.Outcomes.{next_in_order}
use Rattle.exported.proofs.Answering.{numbered}
use Rattle.std.specs.Prelude.{Ok, Err}

-- ---- a reply, taken apart by its refusal

module _ (back : Fields) where
  -- refusal 0: the call was accepted, and the reply's state is the call's
  pub record Accepts (o : Verdict State × List ℤ) (r : Reply) (m : List ℤ) : Type 0 where
    pub outcome : o ≡ (Ok (state_from r.state), m)
    pub plain : fields_of (state_from r.state) ≡ r.state

  pub accepts : (o : Verdict State × List ℤ) {r : Reply} {m : List ℤ} → replied back (answered o) ≡ (r, m) → r.refusal ≡ 0 → Accepts o r m
  unfolding replying answer
  accepts (Err q, l) e z = absurd (omega (arith, numbered q, ap (λ (x : Reply × List ℤ). x.0.refusal) e))
  accepts (Ok s, l) e z = record {
    outcome = ap (λ (x : State). (Ok x, l)) (sym (same_state s)) ∙ ap (λ (x : Reply × List ℤ). (Ok (state_from x.0.state), x.1)) e;
    plain = subst (λ (x : Reply × List ℤ). fields_of (state_from x.0.state) ≡ x.0.state) e (ap fields_of (same_state s));
  }

  -- another: it was refused, and the state is the one handed back
  record Refuses (o : Verdict State × List ℤ) (r : Reply) (m : List ℤ) : Type 0 where
    why : Refusal
    outcome : o ≡ (Err why, m)
    state : r.state ≡ back

  refuses : (o : Verdict State × List ℤ) {r : Reply} {m : List ℤ} → replied back (answered o) ≡ (r, m) → r.refusal ≢ 0 → Refuses o r m
  unfolding replying answer
  refuses (Err q, l) e n = record { why = q; outcome = ap (λ (x : Reply × List ℤ). (Err q, x.1)) e; state = sym (ap (λ (x : Reply × List ℤ). x.0.state) e) }
  refuses (Ok s, l) e n = absurd (n (sym (ap (λ (x : Reply × List ℤ). x.0.refusal) e)))

-- the same of a reply that counts what was written
writes : (o : Verdict ℕ × List ℕ) {c : Counted} {written : List ℕ} → told o ≡ (c, written) → c.refusal ≡ 0 → o ≡ (Ok c.buckets, written)
unfolding telling
writes (Err q, l) e z = absurd (omega (arith, numbered q, ap (λ (x : Counted × List ℕ). x.0.refusal) e))
writes (Ok n, l) e z = ap (λ (x : Counted × List ℕ). (Ok x.0.buckets, x.1)) e

-- and of one that counts records
recount_refuses : (o : Verdict Course × List ℤ) {r : Recount} {m : List ℤ} → ◌≡◌ {A = Recount × List ℤ} (recounting (replay.answer o.0), o.1) (r, m) → r.refusal ≢ 0 → (why : Refusal) × (o ≡ (Err why, m))
unfolding recounting replay.answer
recount_refuses (Err q, l) e n = (q, ap (λ (x : Recount × List ℤ). (Err q, x.1)) e)
recount_refuses (Ok c, l) e n = absurd (n (sym (ap (λ (x : Recount × List ℤ). x.0.refusal) e)))

-- ---- what the exported functions reach

module _ {named : Named} where
  -- with the state that the caller has, which is one of the fields' own
  pub reaches : {rs : List Reading} {f : Fields} {l : List ℤ} → Called named rs f l → Reached (opening_of named) rs (state_from f) l × (fields_of (state_from f) ≡ f)
  reaches (Called.opens l e z) =
      let a = accepts none (opened (opening_of named) l) e z in
      (Reached.opens l a.outcome, a.plain)
  reaches (Called.nexts {rs = rs} {f = f} {l = l} {m = m} {r = r} v range c e z) =
      let s : State = state_from f in
      let a = accepts f (next_outcome s l v) e z in
      let k = keeps (reaches c).0 in
      let in_order : late (kind_of named.kind) ≡ false = sym (ap (λ (x : Settings). late x.kind) k.named) ∙ next_in_order s l v a.outcome in
      (subst (λ (tick : ℕ). Reached (opening_of named) (record { tick = tick; value = v } ∷ rs) (state_from r.state) m) (k.next in_order) (Reached.nexts v range (reaches c).0 a.outcome), a.plain)
  reaches (Called.lates {f = f} {l = l} tick v range c e z) =
      let a = accepts f (late_outcome (state_from f) l tick v) e z in
      (Reached.lates tick v range (reaches c).0 a.outcome, a.plain)
  reaches (Called.next_refused {rs = rs} {f = f} {l = l} {m = m} v c e n) =
      let a = refuses f (next_outcome (state_from f) l v) e n in
      subst (λ (x : Fields). Reached (opening_of named) rs (state_from x) m × (fields_of (state_from x) ≡ x)) (sym a.state) (Reached.next_refused v (reaches c).0 a.outcome, (reaches c).1)
  reaches (Called.late_refused {rs = rs} {f = f} {l = l} {m = m} tick v c e n) =
      let a = refuses f (late_outcome (state_from f) l tick v) e n in
      subst (λ (x : Fields). Reached (opening_of named) rs (state_from x) m × (fields_of (state_from x) ≡ x)) (sym a.state) (Reached.late_refused tick v (reaches c).0 a.outcome, (reaches c).1)
  reaches (Called.open_refused {l = l} other c e n) =
      (Reached.open_refused (opening_of other) (reaches c).0 (refuses none (opened (opening_of other) l) e n).outcome, (reaches c).1)
  reaches (Called.load_refused {l = l} other file c e n) =
      (Reached.load_refused (opening_of other) file (reaches c).0 (refuses none (loaded (opening_of other) file l) e n).outcome, (reaches c).1)
  reaches (Called.replay_refused {l = l} other recording c e n) =
      (Reached.replay_refused (opening_of other).size other.gaps other.edition recording (reaches c).0 (recount_refuses (replay_outcome (opening_of other).size other.gaps other.edition recording l) e n).1, (reaches c).1)
  reaches (Called.loads {f = f} {l = l} {c = q} {written = written} out room other same c saves z e y) =
      let a = accepts none (loaded (opening_of other) (take (record_width * q.buckets) written) room) e y in
      (Reached.loads out room (opening_of other) same (reaches c).0 (writes (save_outcome (state_from f) l out) saves z) a.outcome, a.plain)
