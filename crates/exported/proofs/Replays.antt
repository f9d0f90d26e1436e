-- ndz_replay keeps the demands.
use Prim.Native.Nat.{◌+◌, ◌*◌}
use mathlib.Core.Path.{◌≡◌, refl, sym, ap, ◌∙◌}
use mathlib.Core.Bool.{true}
use mathlib.Core.List.{List, [], ◌∷◌, ◌++◌}
use native.Mathlib.Omega.{arith}
use lib.IntN.{ℤ, nat_abs}
use Rattle.demands.specs.History.{Reading}
use lib.ListN.{length}
use Rattle.rule.specs.declared.State.{State}
use Rattle.rule.specs.Answers.{number, place}
use Rattle.rule.specs.Calls.{Verdict, late_outcome, opened}
use Rattle.rule.specs.Room.{signed}
use Rattle.trace.specs.Answers.{answer, answered}
use Rattle.logger.specs.Replay.{Course, Landed, late_opening, replay_outcome}
use Rattle.logger.proofs.Along.{replay_keeps}
use Rattle.logger.proofs.Replaying as replaying
use Rattle.replay.specs.Answers as replay
use Rattle.fields.specs.declared.Named.{Named}
use Rattle.fields.specs.States.{fields_of, kind_of, none, opening_of, size_of, state_from}
use Rattle.fields.proofs.SameState.{same_state}
use Rattle.plain.specs.declared.Recount.{Recount}
use Rattle.plain.specs.Plain.{recounting, replied, replying}
use Rattle.answered.specs.Answered.{Answered, Row, open_rows, recording_rows, said}
use Rattle.answered.proofs.Answering.{demand1}
use Rattle.promises.specs.Reached.{readings_of}
use Rattle.exported.specs.Exported.{Called}
use Rattle.exported.specs.Replay.{ExportedReplay, Recounts, late_named, readings_in}
use Rattle.exported.proofs.Answering.{due, numbered, saying}
use Rattle.exported.proofs.Reaching.{accepts}
use Rattle.std.specs.Prelude.{Ok, Err}

-- ---- by the verdict

recounts : (v : Verdict Course) (rows : List Row) (before after : List ℤ) → Answered (said v) rows before after → Recounts rows before after (recounting (replay.answer v))
unfolding said recounting replay.answer
recounts (Err r) rows before after a = record { exactly = ap saying a.exactly ∙ sym (due rows); untouched = λ h. (refl, refl, refl, a.untouched (number r, place r) refl) }
recounts (Ok c) rows before after a = record { exactly = ap saying a.exactly ∙ sym (due rows); untouched = λ h. absurd (h refl) }

length_readings : (ws : List Landed) → length (readings_of ws) ≡ length ws
unfolding readings_of
length_readings [] = refl
length_readings (w ∷ ws) = omega (arith, length_readings ws)

as_many : (v : Verdict Course) → length (readings_in v) ≡ (recounting (replay.answer v)).accepted
unfolding readings_in recounting replay.answer
as_many (Err r) = refl
as_many (Ok c) = length_readings c.landed

-- refusal 0: the call was accepted, and its course is the reply's
done : (P : Recount → List Reading → Type 0) (v : Verdict Course) → (recounting (replay.answer v)).refusal ≡ 0
    → ((c : Course) → v ≡ Ok c → P (record { refusal = 0; place = 0; state = fields_of c.state; accepted = length c.landed; refused = c.refused }) (readings_of c.landed))
    → P (recounting (replay.answer v)) (readings_in v)
unfolding recounting replay.answer readings_in
done P (Err r) z f = absurd (omega (arith, numbered r, z))
done P (Ok c) z f = f c refl

-- ---- what it leaves is called

module _ (named : Named) (l : List ℤ) where
  abbrev Leaves : State → List ℤ → List Landed → Type 0
  Leaves s n ws = Called (late_named named) (readings_of ws) (fields_of s) n

  opens : (s : State) (n : List ℤ) → opened (late_opening (opening_of named).size named.gaps named.edition) l ≡ (Ok s, n) → Leaves s n []
  unfolding kind_of readings_of replying answer
  opens s n e = Called.opens l (ap (λ (o : Verdict State × List ℤ). replied none (answered o)) e) refl

  takes : (s t : State) (m n : List ℤ) (ws : List Landed) (w : Landed) → signed w.value ≡ true → late_outcome s m (nat_abs w.tick) w.value ≡ (Ok t, n) → Leaves s m ws → Leaves t n (w ∷ ws)
  unfolding readings_of replying answer
  takes s t m n ws w range e c =
      Called.lates (nat_abs w.tick) w.value range c
      (ap (λ (x : State). replied (fields_of s) (answered (late_outcome x m (nat_abs w.tick) w.value))) (same_state s) ∙ ap (λ (o : Verdict State × List ℤ). replied (fields_of s) (answered o)) e) refl

pub exported_replay : ExportedReplay
unfolding kind_of size_of recounting replay.answer
exported_replay = record {
  replays = λ named recording l.
      let size = (opening_of named).size in
      let o = replay_outcome size named.gaps named.edition recording l in
      recounts o.0 (open_rows (late_opening size named.gaps named.edition) l ++ recording_rows recording) l o.1 (demand1.replays size named.gaps named.edition recording l);
  any_kind = λ named recording l. refl;
  same_replay = λ kind b gaps edition n recording l. ap (λ (o : Verdict Course × List ℤ). (recounting (replay.answer o.0), o.1)) (demand1.same_replay b gaps edition recording l);
  counted = λ named recording l z.
      let size = (opening_of named).size in
      let o = replay_outcome size named.gaps named.edition recording l in
      done (λ r rs. 6 * (r.accepted + r.refused) ≡ length recording) o.0 z (λ c e. omega (arith, (replaying.replays).counted size named.gaps named.edition recording l o.1 c (ap (λ (v : Verdict Course). (v, o.1)) e)));
  called = λ named recording l z.
      let size = (opening_of named).size in
      let o = replay_outcome size named.gaps named.edition recording l in
      done (λ r rs. Called (late_named named) rs r.state o.1) o.0 z
      (λ c e. replay_keeps (Leaves named l) (takes named l) size named.gaps named.edition recording l (opens named l) (ap (λ (v : Verdict Course). (v, o.1)) e));
  as_many = λ named recording l. as_many (replay_outcome (opening_of named).size named.gaps named.edition recording l).0;
  as_true = λ named recording l k es even same z near.
      let size = (opening_of named).size in
      let o = opened (late_opening size named.gaps named.edition) l in
      let a = accepts none o {r = replying none (answer o.0)} {m = o.1} refl z in
      ap (λ (x : Verdict Course × List ℤ). (recounting (replay.answer x.0), x.1)) ((replaying.replays).as_true size named.gaps named.edition recording l k es (state_from (replying none (answer o.0)).state) o.1 even same a.outcome near).0;
}
