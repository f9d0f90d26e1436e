-- The next reading of a sound trace in order is ready to be taken: it goes to the end, and there is one run.
use Prim.Native.Nat.{ℕ, zero, suc, ◌+◌, ◌-◌, ◌<◌, ◌≤◌}
use mathlib.Core.Path.{◌≡◌, refl, sym, ap, ◌∙◌, subst}
use mathlib.Core.Bool.{true, false, true≢false}
use mathlib.Core.List.{List, [], ◌∷◌, ◌++◌}
use native.Mathlib.Omega.{arith}
use native.Mathlib.Nat.{add-zero, zero-add}
use lib.IntN.{ℤ}
use lib.ListN.{length, drop_of_length-le}
use lib.Seq.{take_all}
use Rattle.rule.specs.declared.Bucket.{Bucket}
use Rattle.rule.specs.declared.Kind.{Kind}
use Rattle.rule.specs.declared.Kind.TheVariants.{InOrder, Late}
use Rattle.rule.specs.declared.State.{State}
use Rattle.rule.specs.Bucket.{end}
use Rattle.rule.specs.Calls.{late}
use Rattle.rule.specs.Numbers.{ticks}
use Rattle.rule.specs.Room.{runs_allowed, slot, slots, sound, table_of}
use Rattle.rule.specs.Rules.{ruled}
use Rattle.rule.specs.Table.{Table, insert, last_end, next_tick, runs, runs_after, single}
use Rattle.rule.proofs.Ruling.{Ruled, facts_ruled, in_order_runs, insert_last, next_ruled}
use Rattle.rooms.proofs.Laying.{length_slots}
use Rattle.rooms.proofs.Sounding.{sound_facts, sound_ordered}
use Rattle.rooms.specs.Steps.{Ready}

-- the last of n + 1 slots ends where the table ends
end_last : (l : List ℤ) (e i n : ℕ) → last_end e (slots l i (suc n)) ≡ end (slot l (i + n))
unfolding slots last_end
end_last l e i zero = ap (λ (k : ℕ). end (slot l k)) (sym (add-zero i))
end_last l e i (suc n) = end_last l (end (slot l i)) (suc i) n ∙ ap (λ (k : ℕ). end (slot l k)) (omega arith)

pub last_slot : (l : List ℤ) (n : ℕ) → (n ≡ 0 → ⊥) → last_end 0 (slots l 0 n) ≡ end (slot l (n - 1))
last_slot l n h =
    let more : n ≡ suc (n - 1) = omega arith in
    ap (λ (k : ℕ). last_end 0 (slots l 0 k)) more ∙ end_last l 0 0 (n - 1) ∙ ap (λ (k : ℕ). end (slot l k)) (zero-add (n - 1))

in_order_one : (t : Table) (b : Bucket) → Ruled InOrder 0 (t ++ (b ∷ [])) → runs (t ++ (b ∷ [])) ≡ 1
unfolding runs runs_after Ruled
in_order_one [] b r = refl
in_order_one (a ∷ t) b r = ap suc (in_order_runs (end a) (t ++ (b ∷ [])) r.1)

-- what holds of the kind in order
record Follows (k : Kind) (gaps : ℕ) (t u : Table) : Type 0 where
  rules : Ruled k 0 u
  one : runs u ≡ 1
  allowed : runs_allowed k gaps 1 ≡ true

followed : (k : Kind) (gaps : ℕ) (t : Table) (v : ℤ) → late k ≡ false → next_tick t < ticks → Ruled k 0 t → Follows k gaps t (t ++ (single (next_tick t) v ∷ []))
unfolding late runs_allowed
followed Late gaps t v e h r = absurd (true≢false e)
followed InOrder gaps t v e h r =
    let n = next_ruled 0 v t r h in
    record { rules = n; one = in_order_one t (single (next_tick t) v) n; allowed = refl }

pub next_ready : (s : State) (l : List ℤ) (v : ℤ) → sound s l ≡ true → late s.settings.kind ≡ false → next_tick (table_of s l) < ticks
    → Ready s l s.used 1 (next_tick (table_of s l)) v
unfolding ruled
next_ready s l v e k h =
    let f = sound_facts s l e in
    let t : Table = table_of s l in
    let b : Bucket = single (next_tick t) v in
    let short : length t ≤ s.used = omega (arith, length_slots l 0 s.used) in
    let last : insert b t ≡ t ++ (b ∷ []) = insert_last 0 b t (sound_ordered s l f) (omega arith) in
    let w = followed s.settings.kind s.settings.gaps t v k h f.rules in
    record {
      fit = e;
      inside = omega arith;
      place = rw (take_all s.used t (omega arith), drop_of_length-le t short) last;
      truth = sym (ap runs last ∙ w.one);
      rules = facts_ruled s.settings.kind 0 0 (insert b t) (subst (Ruled s.settings.kind 0) (sym last) w.rules);
      allowed = w.allowed;
    }
