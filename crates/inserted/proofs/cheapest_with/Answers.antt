-- `inserted::cheapest_with` meets its contract, by whether the bucket stands behind all slots.
use mathlib.Core.Path.{refl}
use native.Mathlib.Omega.{arith}
use Rattle.rule.specs.Room.{slots}
use Rattle.rooms.specs.Slots.{put_at}
use Rattle.rooms.proofs.Laying.{slots_end}
use Rattle.rooms.proofs.Reading.{filled_front}
use Rattle.scan.specs.Best.{unmet}
use Rattle.scan.proofs.Keeping.{light_cheapest, light_choice}
use Rattle.scan.proofs.Scanning.{fitted_with, place_among, its_place}
use Rattle.inserted.proofs.cheapest_with.Goals as goal

pub returns-then-at-used : goal.returns-then-at-used
returns-then-at-used c =
    let a = c.args in
    let all = its_place a.edition (put_at a.used a.b (slots a.room.now 0 a.used)) (fitted_with a.room.now a.used a.used a.b c.requires.0 c.requires.1.1) in
    rw (c.ending-up_to_it.ensures, c.if-at-used.true, ← slots_end a.room.now a.used a.b) all

pub pass-requires : goal.pass-requires
pass-requires c =
    (c.requires.0, (c.requires.1.0, (omega arith, rw (c.better-with_next.ensures, c.ending-up_to_it.ensures) (light_choice _ _ _ _ _ (light_cheapest _ unmet _ _ (λ _. refl))))))

pub returns : goal.returns
returns c =
    let a = c.args in
    rw (c.pass.ensures, c.better-with_next.ensures, c.read.ensures, c.ending-up_to_it.ensures)
    (place_among a.edition a.room.now a.used a.at a.b c.requires.0 c.requires.1.1 (omega (arith, c.requires.1.0)))

pub ending-up_to_it-requires : goal.ending-up_to_it-requires
ending-up_to_it-requires c = filled_front c.requires.0 c.requires.1.0
