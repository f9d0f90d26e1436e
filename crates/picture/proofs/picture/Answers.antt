-- `picture::picture` meets its contract: each return is its case of the outcome.
use Prim.Native.Nat.{◌+◌, ◌≤◌, ◌<◌, ◌^◌}
use mathlib.Core.Path.{◌≡◌, sym, ap, ◌∙◌}
use mathlib.Core.Bool.{true}
use mathlib.Core.List.{◌++◌}
use native.Mathlib.Nat.{zero-add}
use native.Mathlib.Omega.{arith}
use borrow.Author.Rules.{rules}
use lib.ListN.{length, drop}
use Rattle.rule.specs.Room.{slots, sound}
use Rattle.rule.proofs.Ruling.{flipped, ruled_end}
use Rattle.rooms.proofs.Sounding.{sound_facts, sound_filled, sound_ordered}
use Rattle.output.proofs.Left.{from_start}
use Rattle.captions.specs.Caption.{caption_good}
use Rattle.drawing.specs.Picture.{picture}
use Rattle.drawing.proofs.Answering.{all_drawn, bad_caption, too_long, unsound}
use Rattle.drawing.proofs.Longest.{longest}
use Rattle.sheet.specs.Drawable.{Drawable}
use Rattle.picture.proofs.picture.Goals.{Else-not-caption_good, Else-not-sound}
use Rattle.picture.proofs.picture.Goals as goal
use Rattle.std.specs.Prelude.{Ok}

fit : (c : Else-not-sound) → sound c.args.trace.state c.args.room.now ≡ true
fit c = flipped c.sound.ensures c.if-not-sound.false-raw

fit_else_not_caption_good : (c : Else-not-caption_good) → sound c.args.trace.state c.args.room.now ≡ true
fit_else_not_caption_good c = flipped c.sound.ensures c.if-not-sound.false-raw

good : (c : Else-not-caption_good) → caption_good c.args.caption.now ≡ true
good c = flipped c.caption_good.ensures c.if-not-caption_good.false-raw

ready : (c : Else-not-caption_good) → let a = c.args in let s = a.trace.state in
    Drawable a.room.now s.used × (0 + length (picture (slots a.room.now 0 s.used) a.caption.now) < 2 ^ 64)
ready c =
    let a = c.args in
    let s = a.trace.state in
    let l = a.room.now in
    let f = sound_facts s l (fit_else_not_caption_good c) in
    (record { filled = sound_filled s l f; ordered = sound_ordered s l f; ticks = ruled_end s.settings.kind 0 (slots l 0 s.used) (omega arith) f.rules }, omega (arith, longest s l a.caption.now (fit_else_not_caption_good c) (good c)))

pub returns-then-out-length : goal.returns-then-out-length
returns-then-out-length c =
    let a = c.args in
    sym (too_long a.trace.state a.room.now a.caption.now a.out.now (fit (goal.at.returns-then-out-length c).Else-not-sound) (good (goal.at.returns-then-out-length c).Else-not-caption_good) (omega (arith, c.if-out-length.true, c.put_picture-length.ensures.next)))

pub returns : goal.returns
returns c =
    let a = c.args in
    let told = c.put_picture-length.ensures.next ∙ zero-add _ in
    let room : length (picture (slots a.room.now 0 a.trace.state.used) a.caption.now) ≤ length a.out.now = omega (arith, c.if-out-length.false, told) in
    let text = picture (slots a.room.now 0 a.trace.state.used) a.caption.now in
    rw (from_start text room c.put_picture.ensures)
    (ap (λ n. (Ok n, text ++ drop (length text) a.out.now)) told
    ∙ sym (all_drawn a.trace.state a.room.now a.caption.now a.out.now (fit (goal.at.returns c).Else-not-sound) (good (goal.at.returns c).Else-not-caption_good) room))

pub returns-then-not-sound : goal.returns-then-not-sound
returns-then-not-sound c = sym (unsound c.args.trace.state c.args.room.now c.args.caption.now c.args.out.now (flipped c.sound.ensures c.if-not-sound.true-raw))

pub returns-then-not-caption_good : goal.returns-then-not-caption_good
returns-then-not-caption_good c = sym (bad_caption c.args.trace.state c.args.room.now c.args.caption.now c.args.out.now (fit (goal.at.returns-then-not-caption_good c).Else-not-sound) (flipped c.caption_good.ensures c.if-not-caption_good.true-raw))

pub put_picture-length-requires : goal.put_picture-length-requires
put_picture-length-requires c = ready (goal.at.put_picture-length-requires c).Else-not-caption_good

pub put_picture-requires : goal.put_picture-requires
put_picture-requires c = ready (goal.at.put_picture-requires c).Else-not-caption_good
