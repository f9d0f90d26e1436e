-- `text::spaced` meets its contract: the bytes told one by one are the word's.
use Prim.Native.Nat.{ℕ}
use mathlib.Core.Path.{◌≡◌, ap}
use mathlib.Core.List.{List}
use lib.ListN.{length}
use Rattle.std.proofs.Common.{rules}
use Rattle.notation.specs.Reading.{late_word, number, pair, same, signed_field, spaced, steps_word, unsigned_field}
use Rattle.notation.proofs.Lines.{EachIs, each_same, other_word}
use Rattle.text.proofs.spaced.Goals.{In_default}
use Rattle.text.proofs.spaced.Goals as goal

neither : (l after : List ℕ) → (l ≡ steps_word → ⊥) → (l ≡ late_word → ⊥) → spaced l after ≡ pair (unsigned_field (number l)) (signed_field (number after))
unfolding spaced
neither l after s t = rw (other_word l steps_word s, other_word l late_word t)

module _ (c : In_default) where
  no_steps : c.args.before.now ≡ steps_word → ⊥
  no_steps e =
      let n : length c.args.before.now ≡ 5 = ap length e in
      let each : EachIs steps_word c.args.before.now 0 = rw e (search rules) in search rules

  no_late : c.args.before.now ≡ late_word → ⊥
  no_late e =
      let n : length c.args.before.now ≡ 4 = ap length e in
      let each : EachIs late_word c.args.before.now 0 = rw e (search rules) in search rules

  other : spaced c.args.before.now c.args.after.now ≡ pair (unsigned_field (number c.args.before.now)) (signed_field (number c.args.after.now))
  other = neither c.args.before.now c.args.after.now no_steps no_late

pub returns-in-steps : goal.returns-in-steps
unfolding same spaced
returns-in-steps c =
    let l = c.args.before.now in
    let e : l ≡ steps_word = each_same l steps_word (search rules) (search rules) in
    rw e (search rules)

pub returns-in-late : goal.returns-in-late
unfolding same spaced
returns-in-late c =
    let l = c.args.before.now in
    let e : l ≡ late_word = each_same l late_word (search rules) (search rules) in
    rw e (search rules)

pub returns-in_err-unsigned_field-in_default : goal.returns-in_err-unsigned_field-in_default
returns-in_err-unsigned_field-in_default c = rw (other (goal.at.returns-in_err-unsigned_field-in_default c).In_default) (search rules)

pub returns-in_err-signed_field-in_default : goal.returns-in_err-signed_field-in_default
returns-in_err-signed_field-in_default c = rw (other (goal.at.returns-in_err-signed_field-in_default c).In_default) (search rules)

pub returns-in_ok-signed_field-in_default : goal.returns-in_ok-signed_field-in_default
returns-in_ok-signed_field-in_default c = rw (other (goal.at.returns-in_ok-signed_field-in_default c).In_default) (search rules)
