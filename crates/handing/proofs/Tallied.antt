-- A tallied reading as a reply: of a trace whose state is that of the fields, the reading's answer in plain fields, the room as the reading left it, and the tally with that reading counted.
use mathlib.Core.Path.{◌≡◌, sym, ap, ◌∙◌}
use Prim.Native.Nat.{ℕ}
use mathlib.Core.List.{List}
use lib.IntN.{ℤ}
use Rattle.rule.specs.declared.State.{State}
use Rattle.rule.specs.declared.Tally.{Tally}
use Rattle.rule.specs.Calls.{Verdict, counted, late_outcome, next_outcome}
use Rattle.trace.specs.Answers.{answered, verdict}
use Rattle.trace.proofs.Verdicts.{outcome_of}
use Rattle.fields.specs.declared.Fields.{Fields}
use Rattle.fields.specs.States.{state_from}
use Rattle.plain.specs.declared.Reply.{Reply}
use Rattle.plain.specs.Plain.{late_reply, late_tally, next_reply, next_tally, replied, replying}
use Rattle.trace.specs.declared.Trace.{Trace}

module _ (f : Fields) (s : State) (of : s ≡ state_from f) (l m : List ℤ) (a : Verdict Trace) (t u : Tally) (r : Reply) (told : r ≡ replying f a) where
  -- whichever the reading
  handed : (outcome : State → Verdict State × List ℤ) → ((a, m) ≡ answered (outcome s)) × (u ≡ counted t s.used (verdict a))
      → ((r, m) ≡ replied f (answered (outcome (state_from f)))) × (u ≡ counted t f.used (outcome (state_from f)).0)
  handed outcome w =
      let e = outcome_of (outcome s) w.0 in
      let same : outcome (state_from f) ≡ (verdict a, m) = ap outcome (sym of) ∙ e in (
        ap (λ x. (x, m)) told ∙ (ap (replied f) w.0 ∙ ap (λ (x : State). replied f (answered (outcome x))) of),
        w.1 ∙ (ap (λ (x : State). counted t x.used (verdict a)) of ∙ ap (λ (o : Verdict State × List ℤ). counted t f.used o.0) (sym same)),
      )

  pub next_handed : (v : ℤ) → ((a, m) ≡ answered (next_outcome s l v)) × (u ≡ counted t s.used (verdict a)) → ((r, m) ≡ next_reply f l v) × (u ≡ next_tally f l v t)
  next_handed v = handed (λ x. next_outcome x l v)

  pub late_handed : (tick : ℕ) (v : ℤ) → ((a, m) ≡ answered (late_outcome s l tick v)) × (u ≡ counted t s.used (verdict a)) → ((r, m) ≡ late_reply f l tick v) × (u ≡ late_tally f l tick v t)
  late_handed tick v = handed (λ x. late_outcome x l tick v)
